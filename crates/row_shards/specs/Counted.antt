-- The shards that a row is counted for under each of its channels.
use Rattle.std.specs.Prelude.{◌≡◌, ◌⊎◌, ℕ, true, is_some}
use Rattle.calculus.specs.Rows.{Row}
use Rattle.calculus.specs.Steps.{as_receiver}
use Rattle.shard_counts.specs.Bits.{AreBits}
use Rattle.events.specs.Shards.{stands_in}

-- a row stands in at most one shard
abbrev pub StandsInOne : Row → Type 0
StandsInOne r = (j k : ℕ) → stands_in j r ≡ true → stands_in k r ≡ true → j ≡ k

-- No bit is set, and the row stands in at most one shard; or it is a receive, and of the low 64 bits those of its shards are set. In each case these bits and that of the shard of one of its channels
-- are those of all its shards.
abbrev pub AreCounted : Row → ℕ → Type 0
AreCounted r n = ((n ≡ 0) × StandsInOne r) ⊎ ((is_some (as_receiver r.part) ≡ true) × AreBits (λ k. stands_in k r) n)
