-- Where each seat found an end and the hub was not stopped, nothing is left and nothing in hand.
use Rattle.std.proofs.Common.{◌≡◌, ◌<◌, ℕ, List, [], ◌∷◌, length, refl, arith, inl, inr}
use Rattle.std.specs.Prelude.{Option, Some, None, IsSome, Result, Ok, Err, IfOk}
use Rattle.std.specs.List.{All}
use Rattle.std.proofs.lemmas.List.Elements.{All-head}
use Rattle.hub_rule.specs.Counts.{total}
use Rattle.hub_rule.specs.Rule.{cost}
use Rattle.group_locks.specs.declared.state.SeatState.{SeatState}
use Rattle.group_locks.specs.Seats.{charged_by, empty_of, over_of, stops_of}
use Rattle.replay_hub.specs.Ends.{FoundAnEnd}

-- what costs nothing costs nothing together
free-entries : {E : Type 0} (price : E → ℕ) → ((e : E) → price e ≡ 0) → (es : List (ℕ × E)) → cost price es ≡ 0
free-entries price free [] = refl
free-entries price free (p ∷ ps) = omega (arith, free p.1, free-entries price free ps)

pub free : {A E X W : Type 0} (f : A → SeatState E X W) (price : E → ℕ) → ((e : E) → price e ≡ 0) → (ss : List A) → total (λ s. cost price (charged_by (f s))) ss ≡ 0
free f price z [] = refl
free f price z (s ∷ ss) = omega (arith, free-entries price z (charged_by (f s)), free f price z ss)

module _ {A E X W : Type 0} (f : A → SeatState E X W) (P : Type 0) (charged limit : ℕ) {C : Type 0} (stop : Option C) where
  pub ended : (ss : List A) → 0 < length ss → charged ≡ 0 → stop ≡ None → All (λ s. FoundAnEnd (f s)) ss
      → All (λ s. 0 < empty_of (f s) → P) ss → All (λ s. 0 < over_of (f s) → limit < charged) ss → All (λ s. 0 < stops_of (f s) → IsSome stop) ss → P
  ended [] some z n found empty over stops = absurd (omega (arith, some))
  ended (s ∷ ss) some z n found empty over stops = go (All-head (λ s. FoundAnEnd (f s)) s ss found)
    where
      none : (x : Option C) → x ≡ None → IsSome x → ⊥
      none None e h = cc h
      none (Some y) e h = cc e

      go : FoundAnEnd (f s) → P
      go (inl h) = All-head (λ s. 0 < empty_of (f s) → P) s ss empty h
      go (inr (inl h)) = let o = All-head (λ s. 0 < over_of (f s) → limit < charged) s ss over h in absurd (omega (arith, o, z))
      go (inr (inr h)) = absurd (none stop n (All-head (λ s. 0 < stops_of (f s) → IsSome stop) s ss stops h))

-- what follows from four facts of a result
pub from-four : {X E : Type 0} (r : Result X E) (P Q R S T : X → Type 0) → ((x : X) → P x → Q x → R x → S x → T x) → IfOk r P → IfOk r Q → IfOk r R → IfOk r S → IfOk r T
from-four (Ok x) P Q R S T f a b c d = f x a b c d
from-four (Err e) P Q R S T f a b c d = tt
