use Rattle.replay_store.specs.Stores.{AreAll}
use Rattle.rig_tables.proofs.racing.do_jobs.Given as goal

abbrev pub invariant-loop : goal.invariant-loop
invariant-loop l = AreAll l.held
