-- What one turn makes of what is left.
use Rattle.std.proofs.Common.{◌≡◌, ℕ, List, [], ◌∷◌, ◌++◌, length, map as each, reverse, refl, sym, ap, ◌∙◌, subst, arith, All}
use Rattle.std.proofs.lemmas.List.Elements.{All-head, All-tail}
use Rattle.std.proofs.lemmas.List.{reverse-append}
use Rattle.std.specs.Prelude.{Bool, Vec}
use Rattle.std.specs.declared.alloc.Global.{Global}
use Rattle.calculus.specs.declared.plain.Kind.{Kind}
use Rattle.calculus.specs.declared.plain.Ground.TheVariants as ground
use Rattle.calculus.specs.Tree.{row, send, receive, Tree}
use Rattle.calculus.specs.Shape.{two, many, held, at}
use Rattle.calculus.specs.Form.{IsClosed}
use Rattle.calculus.specs.Outcome.{Prices, Outcome, after, in_order}
use Rattle.calculus.specs.Rows.{Row}
use Rattle.calculus.specs.Seeds.{digest_of, Body}
use Rattle.calculus.specs.Values.{value}
use Rattle.calculus.specs.Unfolding.{Product, a_row, unfold_part, opened, send_offered, receive_offered}
use Rattle.calculus.proofs.Placing.{listed-trees}
use Rattle.price_table.specs.Outcomes.{Came}
use Rattle.rho_eval.proofs.Forms.{values-each}
use Rattle.rho_term.specs.declared.op.Op.{Op}
use Rattle.rho_term.specs.declared.term.Part.{Part}
use Rattle.rho_term.specs.declared.term.Part.TheVariants as parts
use Rattle.rho_term.specs.declared.term.TermBind.{TermBind}
use Rattle.rho_term.specs.Normal.{IsNormal}
use Rattle.rho_term.specs.Parts.{part_tree}
use Rattle.rho_term.specs.Rows.{row_of_op}
use Rattle.unfold.specs.declared.turns.Todo.{Todo}
use Rattle.unfold.specs.Offers.{send_work, receive_work}
use Rattle.unfold.specs.Inner.{inner_process}
use Rattle.unfold.specs.Progress.{Pending, pending, IsReady, LeadsTo, Advances, with_part, pending_of, in_turn}
use Rattle.unfold.proofs.Insides.{inside-part}
use Rattle.unfold.proofs.Leading.{IsInside, IsOffered, inner-leads, offer-leads}

-- a send and a receive
pub send-offered : (p : Prices) (n : ℕ) (rows : List Row) (rest : List Pending) (s : List ℕ) (t : Tree) (q : Bool) (c : Tree) (xs : List Tree) → t ≡ two (send q) c (many row xs) → IsOffered p n rows (record { part = t; seed = s }) rest (send_work p s q c xs)
send-offered p n rows rest s t q c xs e again = ap (unfold_part p again s) e ∙ ap (λ os. after (value p c) (λ v. after (in_order os) (λ vs. send_offered p s q (opened v) vs))) (values-each p xs)

pub receive-offered : (p : Prices) (n : ℕ) (rows : List Row) (rest : List Pending) (s : List ℕ) (t : Tree) (k : Kind) (bs : List Tree) (body : Tree) → t ≡ two (receive k) (many row bs) body → IsOffered p n rows (record { part = t; seed = s }) rest (receive_work p s k bs body)
receive-offered p n rows rest s t k bs body e again = ap (unfold_part p again s) e ∙ ap (λ ys. after (in_order (each (λ b. value p (at 0 (held b))) ys)) (λ vs. receive_offered p s k (each opened vs) ys body)) (listed-trees bs)

-- another part
pub inside : (p : Prices) (n : ℕ) (rows : List Row) (rest : List Pending) (s : List ℕ) (q : Part) → ((c : Tree) (xs : Vec Tree Global) (b : Bool) → q ≡ parts.Send c xs b → ⊥) → ((k : Kind) (bs : Vec TermBind Global) (b : Tree) → q ≡ parts.Receive k bs b → ⊥)
    → IsInside p n rows (record { part = part_tree q; seed = s }) rest (inner_process p s (part_tree q))
inside p n rows rest s (parts.Ground (ground.Bool x)) a b again e = inside-part p again s (part_tree (parts.Ground (ground.Bool x))) e tt
inside p n rows rest s (parts.Ground (ground.Int x)) a b again e = inside-part p again s (part_tree (parts.Ground (ground.Int x))) e tt
inside p n rows rest s (parts.Ground (ground.Str x)) a b again e = inside-part p again s (part_tree (parts.Ground (ground.Str x))) e tt
inside p n rows rest s (parts.Ground (ground.Uri x)) a b again e = inside-part p again s (part_tree (parts.Ground (ground.Uri x))) e tt
inside p n rows rest s (parts.Ground (ground.Bytes x)) a b again e = inside-part p again s (part_tree (parts.Ground (ground.Bytes x))) e tt
inside p n rows rest s (parts.Fresh x) a b again e = inside-part p again s (part_tree (parts.Fresh x)) e tt
inside p n rows rest s (parts.Var i) a b again e = inside-part p again s (part_tree (parts.Var i)) e tt
inside p n rows rest s (parts.NameVar i) a b again e = inside-part p again s (part_tree (parts.NameVar i)) e tt
inside p n rows rest s (parts.List ts) a b again e = inside-part p again s (part_tree (parts.List ts)) e tt
inside p n rows rest s (parts.Tuple ts) a b again e = inside-part p again s (part_tree (parts.Tuple ts)) e tt
inside p n rows rest s (parts.Set ts) a b again e = inside-part p again s (part_tree (parts.Set ts)) e tt
inside p n rows rest s (parts.Map ps) a b again e = inside-part p again s (part_tree (parts.Map ps)) e tt
inside p n rows rest s (parts.Send c xs w) a b again e = absurd (a c xs w refl)
inside p n rows rest s (parts.Receive k bs t) a b again e = absurd (b k bs t refl)
inside p n rows rest s (parts.New os t) a b again e = inside-part p again s (part_tree (parts.New os t)) e tt
inside p n rows rest s (parts.Match t cs) a b again e = inside-part p again s (part_tree (parts.Match t cs)) e tt
inside p n rows rest s (parts.Bundle r t) a b again e = inside-part p again s (part_tree (parts.Bundle r t)) e tt
inside p n rows rest s (parts.Unary o t) a b again e = inside-part p again s (part_tree (parts.Unary o t)) e tt
inside p n rows rest s (parts.Binary o t u) a b again e = inside-part p again s (part_tree (parts.Binary o t u)) e tt
inside p n rows rest s (parts.Method m t ts) a b again e = inside-part p again s (part_tree (parts.Method m t ts)) e tt

each-append : {A B : Type 0} (f : A → B) (xs ys : List A) → each f (xs ++ ys) ≡ each f xs ++ each f ys
each-append f [] ys = refl
each-append f (x ∷ xs) ys = ap (λ zs. f x ∷ zs) (each-append f xs ys)

pub offer-advances : (p : Prices) (cap n m : ℕ) (xs ys : List Op) (x : Op) (w : Pending) (rest : List Pending) (o : Outcome (List Product)) → IsOffered p n (each row_of_op xs) w rest o → Came cap n m (a_row (row_of_op x) ∷ []) o → ys ≡ xs ++ x ∷ [] → All IsReady rest
    → Advances p cap (with_part w (record { price = n; rows = each row_of_op xs; left = rest })) (record { price = m; rows = each row_of_op ys; left = rest })
offer-advances p cap n m xs ys x w rest o i a e r =
    let q : each row_of_op ys ≡ each row_of_op xs ++ row_of_op x ∷ [] = ap (each row_of_op) e ∙ each-append row_of_op xs (x ∷ []) in
    subst (λ rs. Advances p cap (with_part w (record { price = n; rows = each row_of_op xs; left = rest })) (record { price = m; rows = rs; left = rest })) (sym q)
    (record { leads = offer-leads p n (each row_of_op xs) w rest o (row_of_op x) m i a.answer a.price; fits = a.fits; ready = r })

pub inner-advances : (p : Prices) (cap n m : ℕ) (rows : List Row) (w : Pending) (rest more : List Pending) (o : Outcome Tree) (u : Tree) → IsInside p n rows w rest o → Came cap n m u o → IsClosed u → IsNormal u → more ≡ pending u (digest_of (Body w.seed)) ++ rest → All IsReady more
    → Advances p cap (with_part w (record { price = n; rows = rows; left = rest })) (record { price = m; rows = rows; left = more })
inner-advances p cap n m rows w rest more o u i a c k e r =
    record {
      leads = subst (λ ws. LeadsTo p (with_part w (record { price = n; rows = rows; left = rest })) (record { price = m; rows = rows; left = ws })) (sym e) (inner-leads p n rows w rest o u m i a.answer a.price c k);
      fits = a.fits;
      ready = r;
    }

-- one more part on top
pub turn-more : (ds : List Todo) (d : Todo) → in_turn (ds ++ d ∷ []) ≡ pending_of d ∷ in_turn ds
turn-more ds d = ap reverse (each-append pending_of ds (d ∷ [])) ∙ reverse-append (each pending_of ds) (pending_of d ∷ [])

pub nothing-in-turn : (ds : List Todo) → length ds ≡ 0 → in_turn ds ≡ []
nothing-in-turn [] h = refl
nothing-in-turn (d ∷ ds) h = absurd (omega (arith, h))

-- the next part is taken off
pub part-taken : (n : ℕ) (rows : List Row) (ds es : List Todo) (d : Todo) → ds ≡ es ++ d ∷ [] → record { price = n; rows = rows; left = in_turn ds } ≡ with_part (pending_of d) (record { price = n; rows = rows; left = in_turn es })
part-taken n rows ds es d e = ap (λ ws. record { price = n; rows = rows; left = ws }) (ap in_turn e ∙ turn-more es d)

pub next-ready : (ds es : List Todo) (d : Todo) → ds ≡ es ++ d ∷ [] → All IsReady (in_turn ds) → IsReady (pending_of d) × All IsReady (in_turn es)
next-ready ds es d e h =
    let k = subst (λ ws. All IsReady ws) (ap in_turn e ∙ turn-more es d) h in
    (All-head IsReady (pending_of d) (in_turn es) k, All-tail IsReady (pending_of d) (in_turn es) k)
