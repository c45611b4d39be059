-- Int values, and answers by cases.
use Rattle.std.proofs.Common.{◌≡◌, ℕ, zero, suc, ◌-◌, ◌/◌, ◌%◌, ◌<◌, ◌≤◌, ◌^◌, Bool, true, false, cond, ◌&&◌, ℤ, pos, negsuc, neg_ℤ, ◌≤ℤ◌, ◌<ℤ◌, int_lt, int_le, int_div, int_rem, nat_abs, refl, arith, div-le_self, mul-le-mul}
use Rattle.std.proofs.Common.{inl, inr}
use Rattle.std.proofs.lemmas.Bool.{and_parts, and_cases, eqb-false, true≢false}
use Rattle.std.proofs.lemmas.Nat.{div-add-mod'}
use Rattle.std.proofs.lemmas.Int.{ints}
use Rattle.calculus.specs.Tree.{Tree}
use Rattle.calculus.specs.Form.{IsClosed}
use Rattle.calculus.specs.Congruence.{same_int}
use Rattle.calculus.specs.declared.fault.FaultKind.TheVariants as fault
use Rattle.calculus.specs.Outcome.{Answer, gives, fails}
use Rattle.calculus.specs.Operators.{of_bool, of_int, least_int, an_answer, divided}
use Rattle.process_laws.specs.ClosedValueLaws.{GivesClosed}

-- an answer by a test
pub chosen : (b : Bool) (x y : Answer Tree) → (b ≡ true → GivesClosed x) → (b ≡ false → GivesClosed y) → GivesClosed (cond b x y)
chosen true x y f g = f refl
chosen false x y f g = g refl

abbrev pub InRange : ℤ → Type 0
InRange z = (neg_ℤ (pos (2 ^ 63)) ≤ℤ z) × (z <ℤ pos (2 ^ 63))

pub int-closed : (z : ℤ) → InRange z → IsClosed (of_int z)
int-closed z h = (tt, ((h, tt), tt))

pub count-closed : (n : ℕ) → n < 2 ^ 32 → IsClosed (of_int (pos n))
count-closed n h = int-closed (pos n) (omega (arith, ints), omega (arith, ints))

pub bool-closed : (b : Bool) → IsClosed (of_bool b)
bool-closed b = (tt, ((tt, tt), tt))

tested : (z : ℤ) → (int_le least_int z && int_lt z (pos (2 ^ 63))) ≡ true → InRange z
tested z e =
    let h = and_parts (int_le least_int z) (int_lt z (pos (2 ^ 63))) e in
    (omega (arith, ints, h.0), omega (arith, ints, h.1))

pub answer-closed : (z : ℤ) → GivesClosed (an_answer z)
answer-closed z = chosen (int_le least_int z && int_lt z (pos (2 ^ 63))) (gives (of_int z)) (fails fault.Overflow) (λ e. int-closed z (tested z e)) (λ e. tt)

not-negative : (n : ℕ) → n < 2 ^ 63 → InRange (pos n)
not-negative n h = (omega (arith, ints), omega (arith, ints))

negated : (n : ℕ) → n ≤ 2 ^ 63 → InRange (neg_ℤ (pos n))
negated zero h = (omega (arith, ints), omega (arith, ints))
negated (suc n) h = (omega (arith, ints), omega (arith, ints))

the_same : (n : ℕ) → n ≤ n
the_same n = omega arith

at_least : (b : ℕ) → 2 ≤ suc (suc b)
at_least b = omega arith

halved : (a b : ℕ) → suc a / suc (suc b) ≤ a
halved a b =
    omega (arith, div-add-mod' (suc a) (suc (suc b)), mul-le-mul (the_same (suc a / suc (suc b))) (at_least b))

least-by-one : (a : ℕ) → suc a ≤ 2 ^ 63 → (same_int (negsuc a) least_int && same_int (negsuc 0) (negsuc 0)) ≡ false → a < 2 ^ 63 - 1
least-by-one a h f = elim (and_cases (same_int (negsuc a) least_int) true f) [ inl e ↦ omega (arith, h, eqb-false a (2 ^ 63 - 1) e) | inr e ↦ absurd (true≢false e) ]

quotient : (x y : ℤ) → InRange x → (same_int x least_int && same_int y (negsuc 0)) ≡ false → InRange (int_div x y)
quotient (pos a) (pos b) h f = not-negative (a / b) (omega (arith, ints, h.1, div-le_self a b))
quotient (pos a) (negsuc b) h f = negated (a / suc b) (omega (arith, ints, h.1, div-le_self a (suc b)))
quotient (negsuc a) (pos b) h f = negated (suc a / b) (omega (arith, ints, h.0, div-le_self (suc a) b))
quotient (negsuc a) (negsuc zero) h f = not-negative (suc a / 1) (omega (arith, ints, div-le_self (suc a) 1, least-by-one a (omega (arith, ints, h.0)) f))
quotient (negsuc a) (negsuc (suc b)) h f = not-negative (suc a / suc (suc b)) (omega (arith, ints, h.0, halved a b))

mod-le : (a n : ℕ) → a % n ≤ a
mod-le a n = omega (arith, div-add-mod' a n)

remainder : (x y : ℤ) → InRange x → InRange (int_rem x y)
remainder (pos a) y h = not-negative (a % nat_abs y) (omega (arith, ints, h.1, mod-le a (nat_abs y)))
remainder (negsuc a) y h = negated (suc a % nat_abs y) (omega (arith, ints, h.0, mod-le (suc a) (nat_abs y)))

divided-closed : (x y z : ℤ) → (same_int y (pos 0) ≡ false → (same_int x least_int && same_int y (negsuc 0)) ≡ false → InRange z) → GivesClosed (divided x y z)
divided-closed x y z f =
    chosen (same_int y (pos 0)) (fails fault.DivZero) (cond (same_int x least_int && same_int y (negsuc 0)) (fails fault.Overflow) (gives (of_int z)))
    (λ e. tt)
    (λ e. chosen (same_int x least_int && same_int y (negsuc 0)) (fails fault.Overflow) (gives (of_int z)) (λ d. tt) (λ d. int-closed z (f e d)))

pub quotient-closed : (x y : ℤ) → InRange x → GivesClosed (divided x y (int_div x y))
quotient-closed x y h = divided-closed x y (int_div x y) (λ e d. quotient x y h d)

pub remainder-closed : (x y : ℤ) → InRange x → GivesClosed (divided x y (int_rem x y))
remainder-closed x y h = divided-closed x y (int_rem x y) (λ e d. remainder x y h)
