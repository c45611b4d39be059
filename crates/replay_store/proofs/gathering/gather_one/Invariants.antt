use Rattle.std.proofs.Common.{◌≡◌, ◌++◌, eqb, filter}
use Rattle.row_shards.specs.Homes.{home}
use Rattle.replay_store.proofs.gathering.gather_one.Given as goal

abbrev pub invariant-loop-row : goal.invariant-loop-row
invariant-loop-row l = l.rows.items ≡ l.initial.rows.items ++ filter (λ r. eqb (home r) l.number) l.yielded
