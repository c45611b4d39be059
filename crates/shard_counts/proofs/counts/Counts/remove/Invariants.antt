use Rattle.std.proofs.Common.{◌≡◌, ◌-◌, ◌<◌, ◌≤◌, ℕ, length, get_or}
use Rattle.std.specs.Int.{bit_at}
use Rattle.shard_counts.proofs.counts.Counts.remove.Given as goal

abbrev pub invariant-loop-number : goal.invariant-loop-number
invariant-loop-number l = record {
  length : length l.self-inside.counts.items ≡ 64;
  done : (s : ℕ) → s < l.number → get_or l.self-inside.counts.items s 0 ≡ get_or l.initial.self-inside.counts.items s 0 - bit_at l.bits s;
  left : (s : ℕ) → l.number ≤ s → get_or l.self-inside.counts.items s 0 ≡ get_or l.initial.self-inside.counts.items s 0;
}
