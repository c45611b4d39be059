-- Which turns a seat holds.
use Rattle.std.proofs.Common.{◌≡◌, ◌<◌, ◌^◌, ◌∙◌, ℕ, List, true, sym, arith}
use Rattle.std.specs.Int.{bit_at}
use Rattle.std.proofs.lemmas.Nat.Bits.{bit_at_above}
use mathlib.Core.Logic.{dite}
use native.Mathlib.Decide.{dec_le}
use Rattle.hub_rule.specs.Counts.{count}
use Rattle.hub_rule.specs.Rule.{below}
use Rattle.hub_steps.proofs.Groups.{below_none, below_on}

-- the turns held are those whose bits are set, past the last shard too
pub all_bits : {X : Type 0} (held : List (ℕ × X)) (shards : ℕ) → shards < 2 ^ 64 → below 64 held ≡ true → ((k : ℕ) → k < 64 → count k held ≡ bit_at shards k) → (k : ℕ) → count k held ≡ bit_at shards k
all_bits held shards fits low bits k =
    dite (dec_le 64 k)
    (λ le. below_none k held (below_on 64 k held le low) ∙ sym (bit_at_above shards 64 k fits le))
    (λ nle. bits k (omega arith))
