-- A seat may draw the works of the scene of numbers.
use Rattle.std.proofs.Common.{◌≡◌, ◌≢◌, ℕ, zero, suc, ◌+◌, ◌-◌, ◌*◌, ◌%◌, ◌^◌, ◌<◌, ◌≤◌, ◌==◌, true, false, cond, nat_lt, length, Bool, List, [], ◌∷◌, ◌++◌, refl, sym, ap, subst, ◌∙◌, arith, Option, Some, None, eqb, eq-eqb, ne_eqb, inl, inr, get_or, replicate}
use Rattle.std.proofs.lemmas.Nat.{one_shl}
use Rattle.std.proofs.lemmas.Nat.Bits.{bit_at-pow_same, bit_at-pow_other}
use Rattle.std.specs.Int.{bit_at}
use mathlib.Core.Logic.{dite}
use native.Mathlib.Decide.{ℕ_discrete}
use Rattle.hub_rule.specs.Counts.{one_if, count, Each}
use Rattle.hub_rule.specs.Meaning.{Follows, AllFollow, Passes}
use Rattle.hub_rule.specs.Rule.{Carries}
use Rattle.hub_runs.specs.Numbers.{Has, HasSpace, numbers, offer}
use Rattle.std.proofs.lemmas.Bool.Decides.{nat_tests}
use Rattle.hub_rule.proofs.Sums.{each_to}

pub follow_self : (held : List (ℕ × ℕ)) → AllFollow numbers [] held held
follow_self [] = tt
follow_self (p ∷ ps) = (refl, refl, follow_self ps)

inner : (a b : ℕ) → Some a ≡ Some b → a ≡ b
inner a b e = cc

has : (held : List (ℕ × ℕ)) (f : ℕ → Option ℕ) (n x : ℕ) → f n ≡ Some x → 0 < count n held → Each (λ k a. (y : ℕ) × (f k ≡ Some y) × Follows numbers [] k a y) held → Has held n x
has [] f n x is c h = absurd (omega arith)
has (p ∷ ps) f n x is c h = dite (ℕ_discrete p.0 n)
    (λ e. let q : h.0.0 ≡ x = inner h.0.0 x (sym h.0.1 ∙ (ap f e ∙ is)) in inl (e, sym h.0.2 ∙ q))
    (λ ne. let z : one_if (eqb p.0 n) ≡ 0 = ap one_if (ne_eqb p.0 n ne) in inr (has ps f n x is (omega arith) h.1))

pub has_space : (held : List (ℕ × ℕ)) (f : ℕ → Option ℕ) (w x : ℕ) → f (w % 64) ≡ Some x → x + 1 < 2 ^ 64 → Carries numbers [] held f → HasSpace held w
has_space held f w x is low c = (
  x,
  has held f (w % 64) x is
      (dite (ℕ_discrete (count (w % 64) held) 0) (λ z. absurd (let q : None ≡ Some x = sym (c.1 (w % 64) z) ∙ is in cc)) (λ nz. omega arith)) c.0,
  low,
)

pub carries_on : (held : List (ℕ × ℕ)) (f f' : ℕ → Option ℕ) (w x : ℕ) → f (w % 64) ≡ Some x → f' (w % 64) ≡ Some (x + 1) → ((k : ℕ) → k ≢ w % 64 → f' k ≡ f k) → Carries numbers [] held f
    → Carries numbers ([] ++ w ∷ []) held f'
carries_on held f f' w x is here others c =
    let n : ℕ = w % 64 in
    let Old : ℕ → ℕ → Type 0 = λ k a. (y : ℕ) × (f k ≡ Some y) × Follows numbers [] k a y in
    let New : List ℕ → ℕ → ℕ → Type 0 = λ es k a. (y : ℕ) × (f' k ≡ Some y) × Follows numbers es k a y in
    let step : (k a : ℕ) → Old k a → New (w ∷ []) k a = λ k a h. dite (ℕ_discrete k n)
    (λ e. let q : h.0 ≡ x = inner h.0 x (sym h.1 ∙ (ap f e ∙ is)) in let r : h.0 ≡ a = h.2 in
    let P : Bool → Type 0 = λ b. Passes numbers b w k a (x + 1) in
    (x + 1, ap f' e ∙ here, (x + 1, subst P (sym (eq-eqb n k (sym e))) (omega arith), refl)))
    (λ ne. let P : Bool → Type 0 = λ b. Passes numbers b w k a h.0 in
    (h.0, others k ne ∙ h.1, (h.0, subst P (sym (ne_eqb n k (λ e. ne (sym e)))) h.2, refl))) in (
      each_to Old (New (w ∷ [])) step held c.0,
      (λ k z. dite (ℕ_discrete k n)
          (λ e. absurd (let P : ℕ → Type 0 = λ i. count i held ≡ 0 in let q : None ≡ Some x = sym (c.1 n (subst P e z)) ∙ is in cc))
          (λ ne. others k ne ∙ c.1 k z)),
    )

pub nones : (n k : ℕ) → get_or {A = Option ℕ} (replicate n None) k None ≡ None
nones zero k = refl
nones (suc n) zero = refl
nones (suc n) (suc k) = nones n k

power_bits : (n k : ℕ) → bit_at (2 ^ n) k ≡ one_if (n == k)
power_bits n k = dite (ℕ_discrete k n)
    (λ e. let P : ℕ → Type 0 = λ i. bit_at (2 ^ n) i ≡ one_if (n == i) in subst P (sym e) (bit_at-pow_same n ∙ sym (ap one_if (eq-eqb n n refl))))
    (λ ne. bit_at-pow_other n k ne ∙ sym (ap one_if (ne_eqb n k (λ e. ne (sym e)))))

-- the bits of the shard that a work touches
pub bits : (n k : ℕ) → n < 64 → bit_at (1 * 2 ^ n % 2 ^ 64) k ≡ one_if (n == k)
bits n k lt = ap (λ b. bit_at b k) (one_shl n 64 lt) ∙ power_bits n k

pub offer_none : (w : ℕ) → w < 64 → offer w ≡ []
offer_none w lt = let b : nat_lt w 64 ≡ true = grind (arith, nat_tests) in ap {A = Bool} (λ t. cond t [] ((w - 64) ∷ [])) b

pub offer_one : (w : ℕ) → 64 ≤ w → offer w ≡ (w - 64) ∷ []
offer_one w le = let b : nat_lt w 64 ≡ false = grind (arith, nat_tests) in ap {A = Bool} (λ t. cond t [] ((w - 64) ∷ [])) b

short : (b : Bool) (w : ℕ) → length {A = ℕ} (cond b [] ((w - 64) ∷ [])) ≤ 1
short true w = omega arith
short false w = omega arith

pub offer_short : (w : ℕ) → length (offer w) ≤ 1
offer_short w = short (nat_lt w 64) w
