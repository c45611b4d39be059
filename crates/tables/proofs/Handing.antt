-- What stands in a closed short receive or `match` is as a match wants it, and a closed receive's body under closed values is closed.
use Rattle.std.proofs.Common.{◌≡◌, ◌<◌, List, ◌∷◌, [], length, get_or, map as each, sym, subst, arith, All}
use Rattle.std.proofs.lemmas.List.Elements.{All-head, All-tail}
use Rattle.std.specs.declared.alloc.Global.{Global}
use Rattle.std.specs.declared.vec.Vec.{Vec}
use Rattle.calculus.proofs.Members.{Every}
use Rattle.calculus.specs.declared.plain.Kind.{Kind}
use Rattle.calculus.specs.Tree.{Tree, trees, row, receive, match, case, none, also}
use Rattle.calculus.specs.Shape.{only, many}
use Rattle.calculus.specs.Form.{a_bind, a_case, pat, term, IsClosed}
use Rattle.calculus.specs.Substitution.{put}
use Rattle.calculus.proofs.Formed.{length-code}
use Rattle.process_laws.proofs.Closing.{put-closed}
use Rattle.rho_term.specs.Parts.{part_tree, bind_tree, case_tree}
use Rattle.rho_term.specs.declared.term.Part.{Part}
use Rattle.rho_term.specs.declared.term.Part.TheVariants as part
use Rattle.rho_term.specs.declared.term.TermBind.{TermBind}
use Rattle.rho_term.specs.declared.term.TermCase.{TermCase}
use Rattle.match_targets.specs.Targets.{AllReady, Ready}
use Rattle.match_targets.proofs.Readying.{all-ready, bytes-cons, inside, ready-of}

pub binds-ready : (k : Kind) (bs : Vec TermBind Global) (b : Tree) → Ready term (only (part_tree (part.Receive k bs b))) → AllReady a_bind (each bind_tree bs.items)
binds-ready k bs b h =
    let ts = each bind_tree bs.items in
    all-ready a_bind [] ts h.closed.1.0.1.0.1
    (omega (arith, inside (receive k) (many row ts ∷ b ∷ []) h.short, bytes-cons (many row ts) (b ∷ []), length-code row (trees ts)))

pub target-ready : (t : Tree) (cs : Vec TermCase Global) → Ready term (only (part_tree (part.Match t cs))) → Ready term t
target-ready t cs h =
    let ts = each case_tree cs.items in
    record { closed = h.closed.1.0.1.0; short = omega (arith, inside match (t ∷ many row ts ∷ []) h.short, bytes-cons t (many row ts ∷ [])) }

pub cases-ready : (t : Tree) (cs : Vec TermCase Global) → Ready term (only (part_tree (part.Match t cs))) → AllReady a_case (each case_tree cs.items)
cases-ready t cs h =
    let ts = each case_tree cs.items in
    all-ready a_case [] ts h.closed.1.0.1.1.0.1
    (omega (arith, inside match (t ∷ many row ts ∷ []) h.short, bytes-cons t (many row ts ∷ []), bytes-cons (many row ts) [], length-code row (trees ts)))

pub pattern-ready : (c : TermCase) → Ready a_case (case_tree c) → Ready pat c.pat
pattern-ready c h =
    record { closed = h.closed.1.0; short = omega (arith, h.short, length-code case (also c.pat (also c.body none)), bytes-cons c.pat (c.body ∷ [])) }

pub ready_as : (p q : Part) → p ≡ q → Ready term (only (part_tree p)) → Ready term (only (part_tree q))
ready_as p q e h = subst (λ (r : Part). Ready term (only (part_tree r))) e h

pub first-bind : (bs : List TermBind) (b : TermBind) → 0 < length bs → b ≡ get_or bs 0 b → AllReady a_bind (each bind_tree bs) → Ready a_bind (bind_tree b)
first-bind bs b l e h = subst (λ (x : TermBind). Ready a_bind (bind_tree x)) (sym e) (ready-of bind_tree a_bind bs 0 b l h)

pub first-case : (cs : List TermCase) (k : TermCase) → 0 < length cs → k ≡ get_or cs 0 k → AllReady a_case (each case_tree cs) → Ready a_case (case_tree k)
first-case cs k l e h = subst (λ (x : TermCase). Ready a_case (case_tree x)) (sym e) (ready-of case_tree a_case cs 0 k l h)

each-closed : (vs : List Tree) → All IsClosed vs → Every IsClosed vs
each-closed [] h = tt
each-closed (v ∷ vs) h = (All-head IsClosed v vs h, each-closed vs (All-tail IsClosed v vs h))

pub body-closed : (p : Part) (k : Kind) (bs : Vec TermBind Global) (b : Tree) (vs : List Tree) → p ≡ part.Receive k bs b → IsClosed (only (part_tree p)) → All IsClosed vs → IsClosed (put vs b)
body-closed p k bs b vs e h a =
    let f : IsClosed (only (part_tree (part.Receive k bs b))) = subst (λ (q : Part). IsClosed (only (part_tree q))) e h in
    put-closed _ b vs f.1.0.1.1.0 (each-closed vs a)
