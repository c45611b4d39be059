use Rattle.std.proofs.Common.{◌≡◌, ◌<◌, ◌≤◌, ℕ, false, eqb, not, get_or}
use Rattle.std.specs.Int.{bit_at}
use Rattle.shard_counts.proofs.counts.Counts.bits.Given as goal

abbrev pub invariant-loop-number : goal.invariant-loop-number
invariant-loop-number l = record {
  done : (s : ℕ) → s < l.number → eqb (bit_at l.bits s) 1 ≡ not (eqb (get_or l.self-inside.counts.items s 0) 0);
  left : (s : ℕ) → l.number ≤ s → eqb (bit_at l.bits s) 1 ≡ false;
}
