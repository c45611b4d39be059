-- Sums over the entries that seats drew. The law stands in the contract of a public function that does nothing.
use Rattle.std.specs.Prelude.{◌≡◌, ℕ, List, Some, length, slice_get}
use Rattle.hub_rule.specs.Counts.{count, once_below, total, Each}
use Rattle.hub_rule.specs.Rule.{cost}

-- where entries with their numbers have each number once, and each is the one at its place, they cost what all entries cost
abbrev pub NumberedEntriesAddUp : Type 0 → Type 0
NumberedEntriesAddUp E = (price : E → ℕ) (entries : List E) (drawn : List (ℕ × E)) → ((n : ℕ) → count n drawn ≡ once_below n (length entries))
    → Each (λ n e. slice_get entries n ≡ Some e) drawn → cost price drawn ≡ total price entries
