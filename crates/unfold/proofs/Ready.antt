-- Parts of a closed process, one by one on the list of what is left.
use Rattle.std.proofs.Common.{◌≡◌, ℕ, suc, ◌%◌, ◌^◌, List, [], ◌∷◌, ◌++◌, length, map, sym, ap, ◌∙◌, subst, arith, All, length-append}
use Rattle.std.proofs.lemmas.List.Elements.{All-cons}
use Rattle.calculus.specs.Tree.{Tree, trees}
use Rattle.calculus.specs.Shape.{held}
use Rattle.calculus.specs.Variables.{Sense}
use Rattle.calculus.specs.Form.{part, all, Fits, Hold, IsClosed}
use Rattle.calculus.specs.Seeds.{digest_of, Split}
use Rattle.calculus.proofs.Placing.{listed-trees}
use Rattle.rho_eval.proofs.Parts.{ordered-part}
use Rattle.rho_term.specs.declared.term.Part.{Part}
use Rattle.rho_term.specs.Normal.{IsNormal, AreNormal, IsOrdered}
use Rattle.rho_term.specs.Parts.{part_tree, term_tree}
use Rattle.unfold.specs.declared.turns.Todo.{Todo}
use Rattle.unfold.specs.Progress.{Pending, pending_from, pending, IsReady, pending_of, in_turn}
use Rattle.unfold.proofs.Names.{same-part}
use Rattle.unfold.proofs.Turning.{turn-more}

middle-fits : (o : List Sense) (ys : List Part) (x : Part) (zs : List Part) → Hold (all part) [] o (trees (map part_tree (ys ++ x ∷ zs))) → Fits part [] (part_tree x)
middle-fits o [] x zs h = h.0
middle-fits o (y ∷ ys) x zs h = middle-fits o ys x zs h.1

middle-ordered : (ys : List Part) (x : Part) (zs : List Part) → AreNormal (trees (map part_tree (ys ++ x ∷ zs))) → IsOrdered (part_tree x)
middle-ordered [] x zs h = ordered-part (part_tree x) h.0
middle-ordered (y ∷ ys) x zs h = middle-ordered ys x zs h.1

-- each part of a closed process in normal order
pub part-ready : (t : Tree) (ps ys : List Part) (x : Part) (zs : List Part) (s : List ℕ) → t ≡ term_tree ps → ps ≡ ys ++ x ∷ zs → IsClosed t → IsNormal t → IsReady (record { part = part_tree x; seed = s })
part-ready t ps ys x zs s e q c n =
    let k : IsClosed (term_tree (ys ++ x ∷ zs)) = subst IsClosed (e ∙ ap term_tree q) c in
    let m : IsNormal (term_tree (ys ++ x ∷ zs)) = subst IsNormal (e ∙ ap term_tree q) n in
    record { closed = (tt, (middle-fits [] ys x zs k.1, tt)); ordered = middle-ordered ys x zs m.1 }

-- a part before those that are there
pub part-pushed : (s : List ℕ) (ds es : List Todo) (d : Todo) (base : List Pending) (ys : List Part) (x : Part) (done : List Part) (n : ℕ) → in_turn ds ≡ pending_from s (length (ys ++ x ∷ [])) (map part_tree done) ++ base → es ≡ ds ++ d ∷ []
    → d.part ≡ x → digest_of (Split d.under d.number) ≡ digest_of (Split s n) → n ≡ length ys % 2 ^ 32 → in_turn es ≡ pending_from s (length ys) (map part_tree (x ∷ done)) ++ base
part-pushed s ds es d base ys x done n h e p q w =
    let one : length (ys ++ x ∷ []) ≡ suc (length ys) = omega (arith, length-append ys (x ∷ [])) in
    let seed : digest_of (Split d.under d.number) ≡ digest_of (Split s (length ys)) = q ∙ (ap (λ k. digest_of (Split s k)) w ∙ same-part s (length ys)) in
    let same : pending_of d ≡ record { part = part_tree x; seed = digest_of (Split s (length ys)) } = ap (λ y. record { part = part_tree y; seed = digest_of (Split d.under d.number) }) p ∙ ap (λ k. record { part = part_tree x; seed = k }) seed in
    ap in_turn e ∙ (turn-more ds d ∙ (ap (λ ws. pending_of d ∷ ws) (h ∙ ap (λ k. pending_from s k (map part_tree done) ++ base) one)
    ∙ ap (λ (y : Pending). y ∷ (pending_from s (suc (length ys)) (map part_tree done) ++ base)) same))

pub ready-pushed : (ds es : List Todo) (d : Todo) → es ≡ ds ++ d ∷ [] → IsReady (pending_of d) → All IsReady (in_turn ds) → All IsReady (in_turn es)
ready-pushed ds es d e r h = subst (λ ws. All IsReady ws) (sym (ap in_turn e ∙ turn-more ds d)) (All-cons IsReady (pending_of d) (in_turn ds) r h)

-- all parts are there
pub all-pushed : (s : List ℕ) (t : Tree) (ps rest done : List Part) (now base : List Pending) → t ≡ term_tree ps → ps ≡ rest ++ done → length rest ≡ 0 → now ≡ pending_from s (length rest) (map part_tree done) ++ base → now ≡ pending t s ++ base
all-pushed s t ps [] done now base e q l h = h ∙ ap (λ ts. pending_from s 0 ts ++ base) (sym (ap held e ∙ (listed-trees (map part_tree ps) ∙ ap (map part_tree) q)))
all-pushed s t ps (x ∷ rest) done now base e q l h = absurd (omega (arith, l))
