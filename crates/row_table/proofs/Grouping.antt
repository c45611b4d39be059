-- What becomes of groups of ids.
use Rattle.std.proofs.Common.{◌≡◌, ◌≢◌, ℕ, Bool, true, false, List, [], refl, sym, ◌∙◌, ap, subst}
use Rattle.std.specs.Prelude.{Some, Result, Ok, Err, OnOk, OnErr}
use Rattle.std.specs.Bool.{Decides}
use Rattle.std.specs.Map.{lookup}
use Rattle.std.specs.declared.alloc.Global.{Global}
use Rattle.std.specs.declared.vec.Vec.{Vec}
use Rattle.std.proofs.lemmas.Map.Text.{is_eq-slice_cmp}
use Rattle.std.proofs.lemmas.Slice.Eq.{bytes_eq-Decides}
use Rattle.calculus.specs.Steps.{is_one_of}
use Rattle.row_table.specs.Groups.{is_key, ids_in, group, Index, HasId}

pub is_key-Decides : (k q : List ℕ) → Decides (is_key k q) (k ≡ q)
is_key-Decides k q = rw is_eq-slice_cmp (bytes_eq-Decides k q)

-- a test of a key that is this one or not
pub by_key : (P : Type 0) (k q : List ℕ) → (k ≡ q → P) → (is_key k q ≡ false → P) → P
by_key P k q f g = go (is_key k q) refl
  where
    go : (b : Bool) → is_key k q ≡ b → P
    go true e = f ((is_key-Decides k q).0 e)
    go false e = g e

module _ (old new : Index) (k : List ℕ) where
  -- a group that has an id
  pub is-there : (t : List (List ℕ)) (x : List ℕ) → lookup (λ (z : Vec ℕ Global). is_key k z.items) new ≡ Some t → is_one_of x t ≡ true → HasId new k x
  is-there t x e h = ap (λ o. is_one_of x (ids_in o)) e ∙ h

  -- a group that keeps its ids, where the others stay
  pub group-kept : (s t : List (List ℕ)) → s ≡ group old k → lookup (λ (z : Vec ℕ Global). is_key k z.items) new ≡ Some t
      → ((y : List ℕ) → is_one_of y s ≡ true → is_one_of y t ≡ true)
      → ((q : Vec ℕ Global) → is_key k q.items ≡ false → group new q.items ≡ group old q.items)
      → (q : Vec ℕ Global) (y : List ℕ) → HasId old q.items y → HasId new q.items y
  group-kept s t e f g others q y h =
      by_key (HasId new q.items y) k q.items (λ i. subst (λ z. HasId new z y) i (is-there t y f (g y (ap (is_one_of y) e ∙ subst (λ z. HasId old z y) (sym i) h))))
      (λ i. ap (is_one_of y) (others q i) ∙ h)

  -- a group that loses an id, where the others stay
  pub drops-kept : (s t : List (List ℕ)) (x : List ℕ) → s ≡ group old k → lookup (λ (z : Vec ℕ Global). is_key k z.items) new ≡ Some t
      → ((y : List ℕ) → y ≢ x → is_one_of y s ≡ true → is_one_of y t ≡ true)
      → ((q : Vec ℕ Global) → is_key k q.items ≡ false → group new q.items ≡ group old q.items)
      → (q : Vec ℕ Global) (y : List ℕ) → y ≢ x → HasId old q.items y → HasId new q.items y
  drops-kept s t x e f g others q y n h =
      by_key (HasId new q.items y) k q.items (λ i. subst (λ z. HasId new z y) i (is-there t y f (g y n (ap (is_one_of y) e ∙ subst (λ z. HasId old z y) (sym i) h))))
      (λ i. ap (is_one_of y) (others q i) ∙ h)

  -- a group without ids is taken out
  pub removes-kept : group old k ≡ [] → ((q : Vec ℕ Global) → is_key k q.items ≡ false → lookup (λ (z : Vec ℕ Global). is_key q.items z.items) new ≡ lookup (λ (z : Vec ℕ Global). is_key q.items z.items) old) → (q : Vec ℕ Global) (y : List ℕ) → HasId old q.items y → HasId new q.items y
  removes-kept e others q y h =
      by_key (HasId new q.items y) k q.items (λ i. absurd (no (sym (ap (is_one_of y) e) ∙ subst (λ z. HasId old z y) (sym i) h)))
      (λ i. ap (λ o. is_one_of y (ids_in o)) (others q i) ∙ h)
    where
      no : false ≡ true → ⊥
      no z = cc z

-- what follows from both ends of a call
pub either-way : {A B : Type 0} (r : Result A B) {P Q R : Type 0} → OnOk r P → OnErr r Q → (P → R) → (Q → R) → R
either-way (Ok x) p q f g = f p
either-way (Err x) p q f g = g q
