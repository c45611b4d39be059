-- What the receives of a shard show.
use Rattle.std.specs.Prelude.{ℕ, Bool, ◌&&◌, List}
use Rattle.std.specs.List.{list_any}
use Rattle.calculus.specs.Rows.{Row}
use Rattle.events.specs.Shards.{stands_in}
use Rattle.events.specs.Hands.{hears}

-- whether a receive among these rows that hears an operation stands in the shard k
abbrev pub shown_by : List Row → Row → ℕ → Bool
shown_by rows o k = list_any (λ r. hears r o && stands_in k r) rows
