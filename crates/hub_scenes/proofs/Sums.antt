-- What seats drew, added up: for any scene, where their lists have each number of the entries once.
use Rattle.std.proofs.Common.{◌≡◌, ◌≤◌, ◌<◌, ℕ, zero, suc, ◌+◌, ◌*◌, true, List, [], ◌∷◌, ◌++◌, length, refl, sym, ap, ◌∙◌, arith, eqb, eq-eqb, ne_eqb, nat_lt, Some}
use Rattle.std.specs.Prelude.{slice_get}
use Rattle.std.specs.List.{All}
use Rattle.std.proofs.lemmas.Bool.Decides.{nat_tests}
use Rattle.std.proofs.lemmas.List.Elements.{All-head, All-tail}
use Rattle.hub_rule.specs.Counts.{one_if, count, once_below, total, all_of, Each}
use Rattle.hub_rule.specs.Rule.{cost}
use Rattle.hub_rule.proofs.Sums.{total_both, each_more}

-- f of each, as often as the number of its place is counted; the first place has the number b
abbrev weighted : {E : Type 0} → (E → ℕ) → ℕ → List E → (ℕ → ℕ) → ℕ
weighted f b [] c = 0
weighted f b (x ∷ xs) c = f x * c b + weighted f (suc b) xs c

times-sum : (a b c : ℕ) → a * (b + c) ≡ a * b + a * c
times-sum a b c = grind arith

times-one : (a b : ℕ) → b ≡ 1 → a * b ≡ a
times-one a b e = ap (λ n. a * n) e ∙ omega arith

times-none : (a b : ℕ) → b ≡ 0 → a * b ≡ 0
times-none a b e = ap (λ n. a * n) e ∙ omega arith

module _ {E : Type 0} (f : E → ℕ) where
  -- where each is counted once, that is f of each
  all-once : (b : ℕ) (xs : List E) (c : ℕ → ℕ) → ((n : ℕ) → b ≤ n → n < b + length xs → c n ≡ 1) → weighted f b xs c ≡ total f xs
  all-once b [] c h = refl
  all-once b (x ∷ xs) c h = omega (arith, times-one (f x) (c b) (h b (omega arith) (omega arith)), all-once (suc b) xs c (λ n l m. h n (omega (arith, l)) (omega (arith, m))))

  none : (b : ℕ) (xs : List E) → weighted f b xs (λ n. 0) ≡ 0
  none b [] = refl
  none b (x ∷ xs) = omega (arith, times-none (f x) 0 refl, none (suc b) xs)

  both : (b : ℕ) (xs : List E) (c d : ℕ → ℕ) → weighted f b xs (λ n. c n + d n) ≡ weighted f b xs c + weighted f b xs d
  both b [] c d = omega arith
  both b (x ∷ xs) c d = omega (arith, times-sum (f x) (c b) (d b), both (suc b) xs c d)

  -- a number below all places is that of none
  passed : (b k : ℕ) (xs : List E) → k < b → weighted f b xs (λ n. one_if (eqb k n)) ≡ 0
  passed b k [] lt = refl
  passed b k (x ∷ xs) lt = omega (arith, times-none (f x) (one_if (eqb k b)) (ap one_if (ne_eqb k b (λ e. omega (arith, e, lt)))), passed (suc b) k xs (omega (arith, lt)))

  -- a number is that of one place
  one : (b k j : ℕ) (xs : List E) (e : E) → j ≡ b + k → slice_get xs k ≡ Some e → weighted f b xs (λ n. one_if (eqb j n)) ≡ f e
  one b k j [] e s g = cc g
  one b zero j (x ∷ xs) e s g =
      let q : x ≡ e = cc g in
      omega (arith, times-one (f x) (one_if (eqb j b)) (ap one_if (eq-eqb j b (omega (arith, s)))), passed (suc b) j xs (omega (arith, s)), ap f q)
  one b (suc k) j (x ∷ xs) e s g = omega (arith, times-none (f x) (one_if (eqb j b)) (ap one_if (ne_eqb j b (λ d. omega (arith, d, s)))), one (suc b) k j xs e (omega (arith, s)) g)

  -- numbered things, each at its number
  numbered-sum : (out : List E) (ps : List (ℕ × E)) → Each (λ n e. slice_get out n ≡ Some e) ps → weighted f 0 out (λ n. count n ps) ≡ cost f ps
  numbered-sum out [] h = none 0 out
  numbered-sum out (p ∷ ps) h = omega (
    arith,
    both 0 out (λ n. one_if (eqb p.0 n)) (λ n. count n ps),
    one 0 p.0 p.0 out p.1 (omega arith) h.0,
    numbered-sum out ps h.1,
  )

  -- each number once: that is f of each thing
  pub numbered-once : (out : List E) (ps : List (ℕ × E)) → ((n : ℕ) → count n ps ≡ once_below n (length out)) → Each (λ n e. slice_get out n ≡ Some e) ps → cost f ps ≡ total f out
  numbered-once out ps h e = sym (numbered-sum out ps e) ∙ all-once 0 out (λ n. count n ps) (λ n l m. h n ∙ ap one_if (let b : nat_lt n (length out) ≡ true = grind (arith, nat_tests) in b))

  module _ {S : Type 0} (drawn charged due : S → List (ℕ × E)) (out : List E) where
    all-at : (ss : List S) → All (λ s. Each (λ n e. slice_get out n ≡ Some e) (drawn s)) ss → Each (λ n e. slice_get out n ≡ Some e) (all_of drawn ss)
    all-at [] h = tt
    all-at (s ∷ ss) h =
        each_more (λ n e. slice_get out n ≡ Some e) (drawn s) (all_of drawn ss) (All-head (λ s. Each (λ n e. slice_get out n ≡ Some e) (drawn s)) s ss h)
        (all-at ss (All-tail (λ s. Each (λ n e. slice_get out n ≡ Some e) (drawn s)) s ss h))

    parts : (ss : List S) → All (λ s. drawn s ≡ charged s ++ due s) ss → cost f (all_of drawn ss) ≡ total (λ s. cost f (charged s)) ss + total (λ s. cost f (due s)) ss
    parts [] h = refl
    parts (s ∷ ss) h = omega (
      arith,
      total_both (λ (p : ℕ × E). f p.1) (drawn s) (all_of drawn ss),
      ap (cost f) (All-head (λ s. drawn s ≡ charged s ++ due s) s ss h),
      total_both (λ (p : ℕ × E). f p.1) (charged s) (due s),
      parts ss (All-tail (λ s. drawn s ≡ charged s ++ due s) s ss h),
    )

    -- what seats charged, with what they have not charged yet, is f of each entry
    pub seats-sum : (ss : List S) → ((n : ℕ) → count n (all_of drawn ss) ≡ once_below n (length out)) → All (λ s. Each (λ n e. slice_get out n ≡ Some e) (drawn s)) ss → All (λ s. drawn s ≡ charged s ++ due s) ss
        → total (λ s. cost f (charged s)) ss + total (λ s. cost f (due s)) ss ≡ total f out
    seats-sum ss once each split = sym (parts ss split) ∙ numbered-once out (all_of drawn ss) once (all-at ss each)
