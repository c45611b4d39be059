-- Where a step is allowed, one is the least.
use Rattle.std.proofs.Common.{◌≡◌, ℕ, Bool, true, false, cond, List, [], ◌∷◌, refl, sym, ◌∙◌, subst, inl, inr}
use Rattle.std.specs.Prelude.{◌⊎◌, Option, Some, None, IsSome}
use Rattle.std.specs.Str.{bytes_eq}
use Rattle.calculus.proofs.Members.{Member}
use Rattle.calculus.specs.Order.{up_to}
use Rattle.calculus.specs.Log.{Step}
use Rattle.calculus.specs.Steps.{Bag, Meeting, meeting}
use Rattle.calculus.specs.Candidates.{ids_up_to, IsLeastAllowed, candidates}
use Rattle.calculus.proofs.Ordered.{up_to_total, up_to_both, up_to_trans}
use Rattle.calculus.proofs.Candidates.{allowed-among}
use Rattle.replays.proofs.Answering.{same, equal, is-none}

-- equal ones first
by-equal : (x y : List ℕ) (b c : Bool) → x ≡ y → b ≡ true → cond (bytes_eq x y) b c ≡ true
by-equal x y b c e h = rw (equal x y e) h

by-less : (x y : List ℕ) (b : Bool) → bytes_eq x y ≡ false → up_to x y ≡ true → cond (bytes_eq x y) b (up_to x y) ≡ true
by-less x y b e h = rw e h

ids-self : (xs : List (List ℕ)) → ids_up_to xs xs ≡ true
ids-self [] = refl
ids-self (x ∷ xs) = by-equal x x (ids_up_to xs xs) (up_to x x) refl (ids-self xs)

unequal : (x y : List ℕ) → bytes_eq x y ≡ false → bytes_eq y x ≡ false
unequal x y e = go (bytes_eq y x) refl
  where
    go : (b : Bool) → bytes_eq y x ≡ b → bytes_eq y x ≡ false
    go true d = cc (e, equal x y (sym (same y x d)))
    go false d = d

ids-total : (xs ys : List (List ℕ)) → ids_up_to xs ys ≡ false → ids_up_to ys xs ≡ true
ids-total [] ys e = cc
ids-total (x ∷ xs) [] e = refl
ids-total (x ∷ xs) (y ∷ ys) e = go (bytes_eq x y) refl e (ids-total xs ys)
  where
    go : (b : Bool) → bytes_eq x y ≡ b → cond b (ids_up_to xs ys) (up_to x y) ≡ false → (ids_up_to xs ys ≡ false → ids_up_to ys xs ≡ true) → ids_up_to (y ∷ ys) (x ∷ xs) ≡ true
    go true d e next = by-equal y x (ids_up_to ys xs) (up_to y x) (sym (same x y d)) (next e)
    go false d e next = by-less y x (ids_up_to ys xs) (unequal x y d) (up_to_total x y e)

ids-trans : (xs ys zs : List (List ℕ)) → ids_up_to xs ys ≡ true → ids_up_to ys zs ≡ true → ids_up_to xs zs ≡ true
ids-trans [] ys zs e f = refl
ids-trans (x ∷ xs) [] zs e f = cc
ids-trans (x ∷ xs) (y ∷ ys) [] e f = cc
ids-trans (x ∷ xs) (y ∷ ys) (z ∷ zs) e f = go (bytes_eq x y) refl (bytes_eq y z) refl e f (ids-trans xs ys zs)
  where
    -- x below y and y below z
    strict : up_to x y ≡ true → up_to y z ≡ true → bytes_eq x y ≡ false → (b : Bool) → bytes_eq x z ≡ b → ids_up_to (x ∷ xs) (z ∷ zs) ≡ true
    strict p q d true k = cc (d, equal x y (up_to_both x y p (subst (λ w. up_to y w ≡ true) (sym (same x z k)) q)))
    strict p q d false k = by-less x z (ids_up_to xs zs) k (up_to_trans x y z p q)

    go : (b : Bool) → bytes_eq x y ≡ b → (c : Bool) → bytes_eq y z ≡ c → cond b (ids_up_to xs ys) (up_to x y) ≡ true → cond c (ids_up_to ys zs) (up_to y z) ≡ true
        → (ids_up_to xs ys ≡ true → ids_up_to ys zs ≡ true → ids_up_to xs zs ≡ true) → ids_up_to (x ∷ xs) (z ∷ zs) ≡ true
    go true d true k e f next = by-equal x z (ids_up_to xs zs) (up_to x z) (same x y d ∙ same y z k) (next e f)
    go true d false k e f next = subst (λ w. ids_up_to (w ∷ xs) (z ∷ zs) ≡ true) (sym (same x y d)) (by-less y z (ids_up_to xs zs) k f)
    go false d true k e f next = subst (λ w. ids_up_to (x ∷ xs) (w ∷ zs) ≡ true) (same y z k) (by-less x y (ids_up_to xs zs) d e)
    go false d false k e f next = strict e f d (bytes_eq x z) refl

module _ (b : Bag) (made : List Step) where
  -- a step that is allowed
  abbrev IsAllowed : Step → Type 0
  IsAllowed s = IsSome (meeting b made s)

  -- the ids that a step names, the receiver first
  abbrev ids : Step → List (List ℕ)
  ids s = s.receiver ∷ s.data_ids

  -- of these steps none is allowed, or one is the least
  abbrev HasLeast : List Step → Type 0
  HasLeast ss = ((u : Step) → Member u ss → IsAllowed u → ⊥) ⊎ ((s : Step) × IsAllowed s × ((u : Step) → Member u ss → IsAllowed u → ids_up_to (ids s) (ids u) ≡ true))

  least-of : (ss : List Step) → HasLeast ss
  least-of [] = inl (λ u m i. m)
  least-of (c ∷ cs) = go (meeting b made c) refl (least-of cs)
    where
      nowhere : meeting b made c ≡ None → ((u : Step) → Member u cs → IsAllowed u → ⊥) → (u : Step) → Member u (c ∷ cs) → IsAllowed u → ⊥
      nowhere e n u (inl d) i = is-none (meeting b made c) (subst IsAllowed d i) e
      nowhere e n u (inr m) i = n u m i

      others : meeting b made c ≡ None → (s : Step) → ((u : Step) → Member u cs → IsAllowed u → ids_up_to (ids s) (ids u) ≡ true) → (u : Step) → Member u (c ∷ cs) → IsAllowed u → ids_up_to (ids s) (ids u) ≡ true
      others e s n u (inl d) i = absurd (is-none (meeting b made c) (subst IsAllowed d i) e)
      others e s n u (inr m) i = n u m i

      alone : ((u : Step) → Member u cs → IsAllowed u → ⊥) → (u : Step) → Member u (c ∷ cs) → IsAllowed u → ids_up_to (ids c) (ids u) ≡ true
      alone n u (inl d) i = subst (λ w. ids_up_to (ids c) (ids w) ≡ true) (sym d) (ids-self (ids c))
      alone n u (inr m) i = absurd (n u m i)

      first : (s : Step) → ids_up_to (ids c) (ids s) ≡ true → ((u : Step) → Member u cs → IsAllowed u → ids_up_to (ids s) (ids u) ≡ true) → (u : Step) → Member u (c ∷ cs) → IsAllowed u → ids_up_to (ids c) (ids u) ≡ true
      first s e n u (inl d) i = subst (λ w. ids_up_to (ids c) (ids w) ≡ true) (sym d) (ids-self (ids c))
      first s e n u (inr m) i = ids-trans (ids c) (ids s) (ids u) e (n u m i)

      later : (s : Step) → ids_up_to (ids s) (ids c) ≡ true → ((u : Step) → Member u cs → IsAllowed u → ids_up_to (ids s) (ids u) ≡ true) → (u : Step) → Member u (c ∷ cs) → IsAllowed u → ids_up_to (ids s) (ids u) ≡ true
      later s e n u (inl d) i = subst (λ w. ids_up_to (ids s) (ids w) ≡ true) (sym d) e
      later s e n u (inr m) i = n u m i

      chosen : IsAllowed c → (s : Step) → IsAllowed s → ((u : Step) → Member u cs → IsAllowed u → ids_up_to (ids s) (ids u) ≡ true) → (x : Bool) → ids_up_to (ids c) (ids s) ≡ x → HasLeast (c ∷ cs)
      chosen i s j n true e = inr (c, i, first s e n)
      chosen i s j n false e = inr (s, j, later s (ids-total (ids c) (ids s) e) n)

      go : (o : Option Meeting) → meeting b made c ≡ o → HasLeast cs → HasLeast (c ∷ cs)
      go None e (inl n) = inl (nowhere e n)
      go None e (inr k) = inr (k.0, k.1, others e k.0 k.2)
      go (Some m) e (inl n) = inr (c, subst (λ o. IsSome o) (sym e) refl, alone n)
      go (Some m) e (inr k) = chosen (subst (λ o. IsSome o) (sym e) refl) k.0 k.1 k.2 (ids_up_to (ids c) (ids k.0)) refl

  among : (u : Step) → IsAllowed u → (o : Option Meeting) → meeting b made u ≡ o → Member u (candidates b made)
  among u i None e = absurd (is-none (meeting b made u) i e)
  among u i (Some m) e = allowed-among b made u m e

  -- no step is allowed, or one is the least that is
  pub none-or-least : ((s : Step) → meeting b made s ≡ None) ⊎ ((s : Step) × IsLeastAllowed b made s)
  none-or-least = go (least-of (candidates b made))
    where
      is-none : (s : Step) → (IsAllowed s → ⊥) → (o : Option Meeting) → meeting b made s ≡ o → meeting b made s ≡ None
      is-none s n None e = e
      is-none s n (Some m) e = absurd (n (subst (λ o. IsSome o) (sym e) refl))

      go : HasLeast (candidates b made) → ((s : Step) → meeting b made s ≡ None) ⊎ ((s : Step) × IsLeastAllowed b made s)
      go (inl n) = inl (λ s. is-none s (λ i. n s (among s i (meeting b made s) refl) i) (meeting b made s) refl)
      go (inr k) = inr (k.0, record { allowed = k.1; least = λ u i. k.2 u (among u i (meeting b made u) refl) i })
