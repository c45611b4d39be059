-- What a method promises of a height and of the tokens that are left, at each way out of it.
use Rattle.std.proofs.Common.{◌≡◌, ℕ, ◌+◌, ◌-◌, ◌^◌, ◌<◌, ◌≤◌, Result, Ok, Err, subst, sym, arith}
use Rattle.std.specs.Prelude.{IfOk, MatchResult}
use Rattle.std.specs.Result.{IsErrAnd}
use Rattle.grammar.specs.declared.fault.Fault.{Fault}
use Rattle.form_steps.proofs.Handed.{if_read}
use Rattle.form_parts.specs.declared.part.Part.{Part}

-- no part is there at the exit of a `?`
pub none_left : {T : Type 0} (n : ℕ) (res : Result (Part T) Fault) (e : Fault) → IsErrAnd res (λ y. y ≡ e) → IfOk res (λ p. p.height ≤ n)
none_left n (Ok p) e g = absurd g
none_left n (Err d) e g = tt

pub none_left_below : {T : Type 0} (n : ℕ) (res : Result (Part T) Fault) (e : Fault) → IsErrAnd res (λ y. y ≡ e) → IfOk res (λ p. p.height < n)
none_left_below n (Ok p) e g = absurd g
none_left_below n (Err d) e g = tt

-- nor where a value is let go with a fault
pub none_given : {T : Type 0} (n : ℕ) (res : Result (Part T) Fault) (e : Fault) → res ≡ Err e → IfOk res (λ p. p.height ≤ n)
none_given {T} n res e g = subst (λ (x : Result (Part T) Fault). IfOk x (λ (p : Part T). p.height ≤ n)) (sym g) tt

-- fewer tokens are left after a value, and no more after a fault
pub less_left : {T : Type 0} {a b : ℕ} (res : Result T Fault) (e : Fault) → IsErrAnd res (λ y. y ≡ e) → a ≤ b → MatchResult res (λ _. a < b) (λ _. a ≤ b)
less_left (Ok p) e g l = absurd g
less_left (Err d) e g l = l

pub less_both : {T : Type 0} {a b : ℕ} (res : Result T Fault) → a < b → MatchResult res (λ _. a < b) (λ _. a ≤ b)
less_both (Ok p) l = l
less_both (Err d) l = omega (arith, l)

-- a height under that of a form
pub under_free : {T : Type 0} {n : ℕ} (res : Result (Part T) Fault) → IfOk res (λ p. p.height ≤ n - 1) → 0 < n → IfOk res (λ p. p.height < n)
under_free (Ok p) e l = omega (arith, e, l)
under_free (Err d) e l = e

-- a part that is handed on has its height
pub if_same : {T : Type 0} (n : ℕ) (given res : Result (Part T) Fault) → IfOk res (λ x. given ≡ Ok x) → IfOk given (λ p. p.height ≤ n) → IfOk res (λ x. x.height ≤ n)
if_same {T} n given (Ok q) e l = if_read (λ (x : Part T). x.height ≤ n) q e l
if_same n given (Err d) e l = e

-- no more tokens are left, whatever comes out
pub no_longer : {T : Type 0} {a b : ℕ} (res : Result T Fault) → MatchResult res (λ _. a < b) (λ _. a ≤ b) → a ≤ b
no_longer (Ok p) l = omega (arith, l)
no_longer (Err d) l = l

-- the form that is opened has a height of 32 bits
pub grows : {T : Type 0} {n : ℕ} (res : Result (Part T) Fault) → IfOk res (λ p. p.height ≤ n - 1) → n < 2 ^ 32 → IfOk res (λ p. p.height + 1 < 2 ^ 32)
grows (Ok p) e l = omega (arith, e, l)
grows (Err d) e l = e

-- and with each of two parts
pub both_grow : {S T : Type 0} {n : ℕ} (res : Result (Part S × Part T) Fault) → IfOk res (λ p. (p.0.height < n) × (p.1.height < n)) → n < 2 ^ 32 → IfOk res (λ p. (p.0.height + 1 < 2 ^ 32) × (p.1.height + 1 < 2 ^ 32))
both_grow (Ok p) e l = (omega (arith, e.0, l), omega (arith, e.1, l))
both_grow (Err d) e l = e
