-- Lists whose members are related one by one, also where both are put in order of the same codes.
use Rattle.std.proofs.Common.{◌≡◌, ℕ, Bool, true, false, cond, List, [], ◌∷◌, ◌++◌, map as each, subst, sym}
use Rattle.std.specs.Prelude.{zip, flat_map}
use Rattle.calculus.specs.Order.{up_to}
use Rattle.calculus.specs.Normal.{placed_by, by_code, arranged_by}
use Rattle.calculus.specs.Tree.{Tree, Trees, none, also}

-- the members of these are related one by one
pub data Both {A B : Type 0} (R : A → B → Type 0) : List A → List B → Type 0 where
  both_none : Both R [] []
  both_also : {a : A} {b : B} {xs : List A} {ys : List B} → R a b → Both R xs ys → Both R (a ∷ xs) (b ∷ ys)

-- a list of one member that is related to this
pub data Single {A B : Type 0} (R : A → B → Type 0) : List A → B → Type 0 where
  single : {a : A} {b : B} → R a b → Single R (a ∷ []) b

-- the members of these are related one by one, with a tree beside each
pub data Beside {A B : Type 0} (R : Tree → A → B → Type 0) : Trees → List A → List B → Type 0 where
  beside_none : Beside R none [] []
  beside_also : {t : Tree} {ts : Trees} {a : A} {b : B} {xs : List A} {ys : List B} → R t a b → Beside R ts xs ys → Beside R (also t ts) (a ∷ xs) (b ∷ ys)

-- those of these kinds in turn are related, with a tree beside each
pub data InTurn {S A B : Type 0} (R : S → Tree → A → B → Type 0) : List S → Trees → List A → List B → Type 0 where
  turned_none : InTurn R [] none [] []
  turned_also : {s : S} {ss : List S} {t : Tree} {ts : Trees} {a : A} {b : B} {xs : List A} {ys : List B} → R s t a b → InTurn R ss ts xs ys → InTurn R (s ∷ ss) (also t ts) (a ∷ xs) (b ∷ ys)

module _ {A B : Type 0} (R : A → B → Type 0) where
  -- related things beside one code
  pub data Coded : List (List ℕ × A) → List (List ℕ × B) → Type 0 where
    coded_none : Coded [] []
    coded_also : {c : List ℕ} {a : A} {b : B} {xs : List (List ℕ × A)} {ys : List (List ℕ × B)} → R a b → Coded xs ys → Coded ((c, a) ∷ xs) ((c, b) ∷ ys)

  coded_cond : (b : Bool) {xs zs : List (List ℕ × A)} {ys ws : List (List ℕ × B)} → Coded xs ys → Coded zs ws → Coded (cond b xs zs) (cond b ys ws)
  coded_cond true h k = h
  coded_cond false h k = k

  coded_placed : (c : List ℕ) (a : A) (b : B) {xs : List (List ℕ × A)} {ys : List (List ℕ × B)} → R a b → Coded xs ys → Coded (placed_by (c, a) xs) (placed_by (c, b) ys)
  unfolding placed_by
  coded_placed c a b r coded_none = coded_also r coded_none
  coded_placed c a b r (coded_also {c = e} s h) = coded_cond (up_to c e) (coded_also r (coded_also s h)) (coded_also s (coded_placed c a b r h))

  coded_sorted : {xs : List (List ℕ × A)} {ys : List (List ℕ × B)} → Coded xs ys → Coded (by_code xs) (by_code ys)
  unfolding by_code
  coded_sorted coded_none = coded_none
  coded_sorted (coded_also {c} {a} {b} r h) = coded_placed c a b r (coded_sorted h)

  coded_zip : (cs : List (List ℕ)) {xs : List A} {ys : List B} → Both R xs ys → Coded (zip cs xs) (zip cs ys)
  coded_zip [] h = coded_none
  coded_zip (c ∷ cs) both_none = coded_none
  coded_zip (c ∷ cs) (both_also r h) = coded_also r (coded_zip cs h)

  uncoded : {xs : List (List ℕ × A)} {ys : List (List ℕ × B)} → Coded xs ys → Both R (each (λ p. p.1) xs) (each (λ p. p.1) ys)
  uncoded coded_none = both_none
  uncoded (coded_also r h) = both_also r (uncoded h)

  pub both_arranged : (cs : List (List ℕ)) {xs : List A} {ys : List B} → Both R xs ys → Both R (arranged_by (zip cs xs)) (arranged_by (zip cs ys))
  both_arranged cs h = uncoded (coded_sorted (coded_zip cs h))

  pub both_append : {xs zs : List A} {ys ws : List B} → Both R xs ys → Both R zs ws → Both R (xs ++ zs) (ys ++ ws)
  both_append both_none k = k
  both_append (both_also r h) k = both_also r (both_append h k)

  pub both_joined : {xs : List (List A)} {ys : List (List B)} → Both (Both R) xs ys → Both R (flat_map (λ x. x) xs) (flat_map (λ y. y) ys)
  both_joined both_none = both_none
  both_joined (both_also r h) = both_append r (both_joined h)

  -- lists of one member each
  pub both_flat : {xs : List (List A)} {ys : List B} → Both (Single R) xs ys → Both R (flat_map (λ x. x) xs) ys
  both_flat both_none = both_none
  both_flat (both_also (single r) h) = both_also r (both_flat h)

  -- the first members of lists of one member each
  pub both_first : (f : List A → A) → ((a : A) → f (a ∷ []) ≡ a) → {xs : List (List A)} {ys : List B} → Both (Single R) xs ys → Both R (each f xs) ys
  both_first f e both_none = both_none
  both_first f e (both_also (single {a} {b} r) h) = both_also (subst (λ x. R x b) (sym (e a)) r) (both_first f e h)

-- without the trees
pub without_trees : {A B : Type 0} {R : Tree → A → B → Type 0} {S : A → B → Type 0} → ((t : Tree) (a : A) (b : B) → R t a b → S a b) → {ts : Trees} {xs : List A} {ys : List B} → Beside R ts xs ys → Both S xs ys
without_trees f beside_none = both_none
without_trees f (beside_also {t} {a} {b} r h) = both_also (f t a b r) (without_trees f h)
