-- The names that closed channels stand for, and the variables that binds on them bind.
use Rattle.std.proofs.Common.{◌≡◌, ◌≤◌, List, [], ◌∷◌, ◌++◌, length, map, reverse, refl, ap, All, arith, length-append}
use Rattle.std.proofs.lemmas.List.{length-reverse}
use Rattle.std.proofs.lemmas.List.Elements.{All-cons, All-nil, All-head, All-tail}
use Rattle.calculus.specs.declared.plain.Kind.{Kind}
use Rattle.calculus.specs.Tree.{par, row, receive, bundle, Tree, node, none, also, trees}
use Rattle.calculus.specs.Shape.{two, many, only}
use Rattle.calculus.specs.Form.{term, a_bind, all, Scope, Fits, Hold, IsClosed}
use Rattle.calculus.specs.Variables.{Sense, bound, bound_all}
use Rattle.calculus.specs.Unfolding.{opened}
use Rattle.calculus.proofs.Binding.{no_bound}
use Rattle.calculus.proofs.FromFits.{formed, fine}
use Rattle.calculus.proofs.Splitting.{kids-short, first-short}
use Rattle.calculus.proofs.Tails.{IsFine}
use Rattle.rho_term.specs.declared.term.TermBind.{TermBind}
use Rattle.rho_term.specs.Parts.{bind_tree}
use Rattle.value_ops.specs.Answers.{IsOperand}
use Rattle.offered_rows.specs.Binds.{bind_on, binds_on, HasScope}
use Rattle.offered_rows.proofs.Sorting.{total}

-- what stands in the bundles of a closed channel is closed
opened-operand : (t : Tree) → IsOperand t → IsOperand (opened t).name
opened-operand (node par none) h = h
opened-operand (node par (also (node (bundle r) none) us)) h = h
opened-operand (node par (also (node (bundle r) (also t none)) none)) h =
    let one = first-short (node (bundle r) (also t none)) none (kids-short par (also (node (bundle r) (also t none)) none) h.short) in
    opened-operand t (record { closed = h.closed.1.0.1.0; short = first-short t none (kids-short (bundle r) (also t none) one) })
opened-operand (node par (also (node (bundle r) (also t none)) (also u us))) h = h
opened-operand (node par (also (node (bundle r) (also t (also u us))) vs)) h = h
opened-operand (node par (also (node _ ts) us)) h = h
opened-operand (node _ ts) h = h

pub names-operands : (ts : List Tree) → All IsOperand ts → All IsOperand (map (λ c. c.name) (map opened ts))
names-operands [] h = All-nil IsOperand
names-operands (t ∷ ts) h =
    All-cons IsOperand (opened t).name (map (λ c. c.name) (map opened ts)) (opened-operand t (All-head IsOperand t ts h)) (names-operands ts (All-tail IsOperand t ts h))

-- a process binds no variable outside itself
pub no-variables : (v : Scope) (t : Tree) → Fits term v t → bound t ≡ []
no-variables v t h = no_bound IsFine term t tt (formed IsFine fine term v t h)

-- a bind on another channel binds as many
same-count : (b : TermBind) (n : Tree) → bound b.channel ≡ [] → bound n ≡ [] → length (bound (bind_on n (bind_tree b))) ≡ length (bound (bind_tree b))
same-count b n e k = rw (e, k) refl

-- binds on other channels bind as many
counts-of : (o : List Sense) (ns : List Tree) (bs : List TermBind) → All IsOperand ns → length ns ≡ length bs → Hold (all a_bind) [] o (trees (map bind_tree bs))
    → total (binds_on ns (map bind_tree bs)) ≡ length (bound_all (trees (map bind_tree bs)))
counts-of o [] [] h e k = refl
counts-of o [] (b ∷ bs) h e k = absurd (omega arith)
counts-of o (n ∷ ns) [] h e k = absurd (omega arith)
counts-of o (n ∷ ns) (b ∷ bs) h e k =
    omega (arith, same-count b n (no-variables [] b.channel k.0.1.0) (no-variables [] n (All-head IsOperand n ns h).closed), counts-of o ns bs (All-tail IsOperand n ns h) (omega arith) k.1, length-append (bound (bind_tree b)) (bound_all (trees (map bind_tree bs))))

-- the body of a closed receive stands in a scope of as many variables as its binds bind
pub scope-of : (kind : Kind) (ns : List Tree) (bs : List TermBind) (body : Tree) → All IsOperand ns → length ns ≡ length bs → IsClosed (only (two (receive kind) (many row (map bind_tree bs)) body))
    → HasScope (total (binds_on ns (map bind_tree bs))) body
scope-of kind ns bs body h e c =
    let fits = c.1.0 in
    let all_bound = bound_all (trees (many row (map bind_tree bs) ∷ body ∷ [])) in
    let few : length (reverse all_bound ++ []) ≤ total (binds_on ns (map bind_tree bs)) =
    omega (arith, length-append (reverse all_bound) [], length-reverse all_bound, length-append (bound_all (trees (map bind_tree bs))) (bound body ++ []), length-append (bound body) [], ap (λ (vs : List Sense). length vs) (no-variables (reverse all_bound ++ []) body fits.1.1.0), counts-of _ ns bs h e fits.1.0.1) in
    (reverse all_bound ++ [], few, fits.1.1.0)
