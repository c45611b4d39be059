-- Why the hub of a play has ended.
use Rattle.std.proofs.Common.{◌≡◌, ◌≤◌, ◌<◌, List, [], ◌∷◌, length, refl, arith, inl, inr}
use Rattle.std.specs.Prelude.{◌⊎◌, Option, Some, None, IsSome}
use Rattle.std.specs.List.{All}
use Rattle.std.proofs.lemmas.List.Elements.{All-head}
use Rattle.group_locks.specs.declared.state.SeatState.{SeatState}
use Rattle.hub_rule.specs.declared.terms.StopCause.{StopCause}
use Rattle.hub_rule.specs.declared.terms.StopCause.TheVariants.{Fault, NoMemory}
use Rattle.group_locks.specs.Seats.{empty_of, over_of, stops_of}
use Rattle.play_draws.specs.Turns.{HasCause}

-- where each seat found an end, and a stop that was set was for a fault: nothing is left, more is charged than the limit, or there is a fault
module _ {A E X W : Type 0} (f : A → SeatState E X W) (Nothing IsOver HasFault : Type 0) (stop : Option StopCause) (other : stop ≡ Some NoMemory → ⊥) (fault : stop ≡ Some Fault → HasFault) where
  stopped : (x : Option StopCause) → stop ≡ x → IsSome x → HasFault
  stopped None e h = cc h
  stopped (Some Fault) e h = fault e
  stopped (Some NoMemory) e h = absurd (other e)

  pub caused : (ss : List A) → 1 ≤ length ss → All (λ s. HasCause (f s)) ss → All (λ s. 0 < empty_of (f s) → Nothing) ss → All (λ s. 0 < over_of (f s) → IsOver) ss → All (λ s. 0 < stops_of (f s) → IsSome stop) ss
      → Nothing ⊎ (IsOver ⊎ HasFault)
  caused [] some found empty over stops = absurd (omega (arith, some))
  caused (s ∷ ss) some found empty over stops = go (All-head (λ s. HasCause (f s)) s ss found)
    where
      go : HasCause (f s) → Nothing ⊎ (IsOver ⊎ HasFault)
      go (inl h) = inl (All-head (λ s. 0 < empty_of (f s) → Nothing) s ss empty h)
      go (inr (inl h)) = inr (inl (All-head (λ s. 0 < over_of (f s) → IsOver) s ss over h))
      go (inr (inr h)) = inr (inr (stopped stop refl (All-head (λ s. 0 < stops_of (f s) → IsSome stop) s ss stops h)))
