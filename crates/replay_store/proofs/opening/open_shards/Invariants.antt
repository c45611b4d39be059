use Rattle.std.proofs.Common.{take, All}
use Rattle.calculus.specs.Storing.{IsStorable}
use Rattle.replay_store.specs.Stores.{AreOpened}
use Rattle.replay_store.proofs.opening.open_shards.Given as goal

abbrev pub invariant-loop-row : goal.invariant-loop-row
invariant-loop-row l = record { opened : AreOpened (take l.row-index l.rows) l.held; storable : All IsStorable (take l.row-index l.rows) }
