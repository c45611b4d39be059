-- What is made of forms one after another, where memory was never wanting.
use Rattle.std.proofs.Common.{Result, Ok, Err, ◌≡◌, ℕ, ◌+◌, ◌<◌, ◌≤◌, ◌^◌, false, true, Bool, List, [], ◌∷◌, ◌++◌, length, get_or, drop, map, All, refl, ap, sym, ◌∙◌, subst, append_assoc, append-nil, arith}
use Rattle.std.specs.Prelude.{IfOk}
use Rattle.std.proofs.lemmas.List.{drop_more, drop_all, map-append}
use Rattle.calculus.specs.Tree.{Label, Tree}
use Rattle.calculus.specs.Shape.{many}
use Rattle.calculus.specs.Congruence.{is_bag}
use Rattle.calculus.specs.Normal.{ascending}
use Rattle.calculus.specs.Substitution.{Change}
use Rattle.rho_term.specs.Normal.{IsOrdered}
use Rattle.rho_term.specs.Parts.{part_tree, pat_part_tree}
use Rattle.rho_term.specs.declared.term.Part.{Part}
use Rattle.rho_term.specs.declared.term.PatPart.{PatPart}
use Rattle.rho_term.specs.declared.term.PatPart.TheVariants as pat
use Rattle.code_order.proofs.Made.{push-ordered}
use Rattle.term_bounds.specs.Filled.{filled, all_filled, IsForm}
use Rattle.term_bounds.proofs.Filling.{IsFlat}
use Rattle.substitution.specs.Becoming.{Becomes, AllBecome, BecomeWith, Adds, Grows, Joins}
use Rattle.substitution.proofs.Becoming.{bag, becomes-ordered}

-- what was made where memory was never wanting is as is known of it
pub made-known : {T E : Type 0} (P : T → Type 0) (b o : Bool) (x : T) (r : Result T E) → IfOk r (λ v. (b ≡ false) × (v ≡ x)) → (b ≡ false → (o ≡ false) × P x) → IfOk r P
made-known P b o x (Ok v) p q = subst P (sym p.1) (q p.0).1
made-known P b o x (Err e) p q = tt

-- what follows from what is known of a value that was made
pub made-so : {T E : Type 0} (P Q : T → Type 0) (r : Result T E) → ((v : T) → P v → Q v) → IfOk r P → IfOk r Q
made-so P Q (Ok v) h p = h v p
made-so P Q (Err e) h p = tt

-- what a loop over things has before it, and that it has nothing before it
pub next-one : {A : Type 0} (xs ys : List A) (i : ℕ) (x : A) → ys ≡ xs → i < length ys → x ≡ get_or ys i x → drop i xs ≡ x ∷ drop (i + 1) xs
next-one xs ys i x e h g = subst (λ zs. drop i zs ≡ x ∷ drop (i + 1) zs) e (drop_more ys i x h ∙ ap (λ z. z ∷ drop (i + 1) ys) (sym g))

pub no-more : {A : Type 0} (xs ys : List A) (i : ℕ) → ys ≡ xs → length ys ≤ i → drop i xs ≡ []
no-more xs ys i e h = subst (λ zs. drop i zs ≡ []) e (drop_all i ys h)

module _ (F : Change) (n : ℕ) where
  -- what a tree becomes was added
  pub adds-tree : (t u : Tree) (o w : List Tree) → Becomes F n t u → w ≡ o ++ u ∷ [] → Adds F n t o w
  adds-tree t u o w b e = λ d i. e ∙ ap (λ z. o ++ z) (sym (b d i))

  pub adds : {B : Type 0} (k : B → Tree) (t : Tree) (y : B) (o w : List B) → Becomes F n t (k y) → w ≡ o ++ y ∷ [] → Adds F n t (map k o) (map k w)
  adds k t y o w b e = λ d i. ap (map k) e ∙ map-append k o (y ∷ []) ∙ ap (λ z. map k o ++ z) (sym (b d i))

  -- a turn of a loop over trees, and of one over things that stand for trees
  pub turn : (o w xs rest more : List Tree) (t : Tree) → rest ≡ t ∷ more → Adds F n t o w → BecomeWith F n xs o rest → BecomeWith F n xs w more
  turn o w xs rest more t m a h =
      λ d e. ap (λ z. z ++ all_filled F d more) (a d e) ∙ append_assoc o (filled F d t) (all_filled F d more) ∙ ap (λ z. o ++ all_filled F d z) (sym m) ∙ h d e

  pub turn-tree : (o w xs : List Tree) (i : ℕ) (t u : Tree) → drop i xs ≡ t ∷ drop (i + 1) xs → w ≡ o ++ u ∷ [] → Becomes F n t u
      → BecomeWith F n xs o (drop i xs) → BecomeWith F n xs w (drop (i + 1) xs)
  turn-tree o w xs i t u m e b h = turn o w xs (drop i xs) (drop (i + 1) xs) t m (adds-tree t u o w b e) h

  module _ {A : Type 0} (k : A → Tree) where
    pub turn-map : (o w xs : List A) (i : ℕ) (x : A) → drop i xs ≡ x ∷ drop (i + 1) xs → Adds F n (k x) (map k o) (map k w)
        → BecomeWith F n (map k xs) (map k o) (map k (drop i xs)) → BecomeWith F n (map k xs) (map k w) (map k (drop (i + 1) xs))
    turn-map o w xs i x m a h = turn (map k o) (map k w) (map k xs) (map k (drop i xs)) (map k (drop (i + 1) xs)) (k x) (ap (map k) m) a h

    pub turn-thing : (o w xs : List A) (i : ℕ) (x y : A) → drop i xs ≡ x ∷ drop (i + 1) xs → w ≡ o ++ y ∷ [] → Becomes F n (k x) (k y)
        → BecomeWith F n (map k xs) (map k o) (map k (drop i xs)) → BecomeWith F n (map k xs) (map k w) (map k (drop (i + 1) xs))
    turn-thing o w xs i x y m e b h = turn-map o w xs i x m (adds k (k x) y o w b e) h

  -- the end of one
  pub all-become : (xs o rest : List Tree) → rest ≡ [] → BecomeWith F n xs o rest → AllBecome F n xs o
  all-become xs o rest z h = λ d e. sym (h d e) ∙ ap (λ r. o ++ all_filled F d r) z ∙ append-nil o

  -- a form that was added to things in order
  pub grows : {B : Type 0} (k : B → Tree) (t : Tree) (y : B) (o w : List B) → IsForm t → n < 2 ^ 64 → Becomes F n t (k y) → w ≡ o ++ y ∷ [] → Grows k F n t o w
  grows k t y o w h l b e = (adds k t y o w b e, λ a. push-ordered k o w y e a (becomes-ordered F n t (k y) h l b))

  -- what a closed form becomes was added to the parts of a pattern
  pub grows-closed : (t : Tree) (zs parts : List Part) (o w : List PatPart) → zs ≡ [] → Grows part_tree F n t zs parts
      → (All (λ p. IsOrdered (part_tree p)) parts → Joins pat_part_tree (map part_tree parts) o w) → Grows pat_part_tree F n t o w
  grows-closed t zs parts o w z g j =
      let a : All (λ p. IsOrdered (part_tree p)) zs = subst (All (λ p. IsOrdered (part_tree p))) (sym z) (λ k d l. absurd (omega arith)) in
      let c = j (g.1 a) in
      (λ d e. c.0 ∙ ap (λ ts. map pat_part_tree o ++ ts) (g.0 d e ∙ ap (λ ts. map part_tree ts ++ filled F d t) z), c.1)

  -- a set or a map
  pub bag-made : (l : Label) → IsFlat l → is_bag l ≡ true → (ts us : List Tree) (v : Tree) → AllBecome F n ts us → v ≡ many l (ascending us) → Becomes F n (many l ts) v
  bag-made l h b ts us v a e = subst (Becomes F n (many l ts)) (sym e) (bag F n l h b ts us (ascending us) a refl)

-- a thing that was added to things in order
pub joins : {A : Type 0} (k : A → Tree) (t : Tree) (y : A) (o w : List A) → w ≡ o ++ y ∷ [] → k y ≡ t → IsOrdered (k y) → Joins k (t ∷ []) o w
joins k t y o w e f h = (ap (map k) e ∙ map-append k o (y ∷ []) ∙ ap (λ z. map k o ++ z ∷ []) f, λ a. push-ordered k o w y e a h)

-- a turn of a loop that adds parts as closed forms
pub joins-closed : (ys : List Part) (p : Part) (o v w : List PatPart) → w ≡ v ++ pat.Closed p ∷ [] → Joins pat_part_tree (map part_tree ys) o v → IsOrdered (part_tree p)
    → Joins pat_part_tree (map part_tree (ys ++ p ∷ [])) o w
joins-closed ys p o v w e j h = (
  ap (map pat_part_tree) e ∙ map-append pat_part_tree v (pat.Closed p ∷ []) ∙ ap (λ z. z ++ part_tree p ∷ []) j.0
      ∙ append_assoc (map pat_part_tree o) (map part_tree ys) (part_tree p ∷ []) ∙ ap (λ z. map pat_part_tree o ++ z) (sym (map-append part_tree ys (p ∷ []))),
  λ a. push-ordered pat_part_tree v w (pat.Closed p) e (j.1 a) h,
)

-- a turn of a loop that adds copies, and its end
module _ {A : Type 0} (k : A → Tree) (xs : List A) where
  pub copies-more : (all : List Tree) (o w : List A) (i : ℕ) (x y : A) → drop i xs ≡ x ∷ drop (i + 1) xs → w ≡ o ++ y ∷ [] → k y ≡ k x
      → map k o ++ map k (drop i xs) ≡ all → map k w ++ map k (drop (i + 1) xs) ≡ all
  copies-more all o w i x y m e f h =
      ap (λ z. map k z ++ map k (drop (i + 1) xs)) e ∙ ap (λ z. z ++ map k (drop (i + 1) xs)) (map-append k o (y ∷ []))
      ∙ append_assoc (map k o) (k y ∷ []) (map k (drop (i + 1) xs)) ∙ ap (λ z. map k o ++ z ∷ map k (drop (i + 1) xs)) f
      ∙ ap (λ z. map k o ++ map k z) (sym m) ∙ h

  pub copies-end : (ts us : List Tree) (w : List A) (i : ℕ) → drop i xs ≡ [] → us ≡ map k xs → map k w ++ map k (drop i xs) ≡ ts ++ map k xs → map k w ≡ ts ++ us
  copies-end ts us w i z e h = sym (append-nil (map k w)) ∙ ap (λ r. map k w ++ map k r) (sym z) ∙ h ∙ ap (λ r. ts ++ r) (sym e)
