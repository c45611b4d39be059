use Rattle.std.proofs.Common.{◌≡◌, ◌≤◌, ◌<◌, ℕ, get_or, length, map}
use Rattle.std.specs.Prelude.{None, option_map}
use Rattle.events.specs.Found.{without}
use Rattle.rspace_table.proofs.places.lose_all.Given as goal

abbrev pub invariant-loop-k : goal.invariant-loop-k
invariant-loop-k l = record {
  length : length l.shards.items ≡ length l.initial.shards.items;
  lost : (j : ℕ) → j < l.k → get_or l.shards.items j None ≡ option_map (without (map (λ d. d.0) l.gone)) (get_or l.initial.shards.items j None);
  left : (j : ℕ) → l.k ≤ j → get_or l.shards.items j None ≡ get_or l.initial.shards.items j None;
}
