-- What a seat found in the stop word, as it stops the hub.
use Rattle.std.proofs.Common.{◌≡◌, ℕ, zero, suc, ◌+◌, ◌≤◌, ◌∙◌, inl, inr, cond, eqb, ne_eqb, ap, arith}
use Rattle.hub_rule.specs.declared.view.Tally.{Tally}
use Rattle.hub_rule.specs.declared.terms.StopCause.{StopCause}
use Rattle.hub_rule.specs.declared.terms.StopCause.TheVariants.{Fault, NoMemory}
use Rattle.hub_rule.specs.Counts.{one_if}
use Rattle.hub_rule.specs.Rule.{saw_stopped}
use Rattle.hub_rule.specs.Stops.{code_of}
use Rattle.group_locks.specs.declared.state.SeatState.{SeatState}
use Rattle.group_locks.specs.Seats.{tally_of, StopsFor}

-- what the stop word then says
abbrev pub word_then : ℕ → StopCause → ℕ
word_then found cause = cond (eqb found 0) (code_of cause) found

-- that the hub stops was found once more
pub stops_more : (a b found : ℕ) (cause : StopCause) → found ≤ 2 → (a + one_if (eqb (word_then found cause) 1)) + (b + one_if (eqb (word_then found cause) 2)) ≡ (a + b) + 1
stops_more a b zero NoMemory low = omega arith
stops_more a b zero Fault low = omega arith
stops_more a b (suc zero) cause low = omega arith
stops_more a b (suc (suc zero)) cause low = omega arith
stops_more a b (suc (suc (suc n))) cause low = absurd (omega arith)

with_none : (n k : ℕ) → k ≡ 0 → n + k ≡ n
with_none n k none = omega arith

-- this cause stands where the stop word was unset
pub stops_for : {E X W : Type 0} (old new : SeatState E X W) (found : ℕ) (cause : StopCause) → tally_of new ≡ saw_stopped (tally_of old) found (word_then found cause) → StopsFor cause old new
stops_for {E} old new zero NoMemory e = inl (ap {A = Tally E} (λ u. u.unset) e, ap {A = Tally E} (λ u. u.no_memory) e)
stops_for {E} old new zero Fault e = inl (ap {A = Tally E} (λ u. u.unset) e, ap {A = Tally E} (λ u. u.fault) e)
stops_for {E} old new (suc n) cause e =
    let none : one_if (eqb (suc n) 0) ≡ 0 = ap one_if (ne_eqb (suc n) 0 (λ h. omega arith)) in inr (ap {A = Tally E} (λ u. u.unset) e ∙ with_none (tally_of old).unset _ none)
