use Rattle.replays.specs.View.{verdict_of}
use Rattle.replays.proofs.Done.{is-done}
use Rattle.play_outcome.proofs.Closing.{closes}
use Rattle.play_outcome.proofs.played.outcome.Goals as goal

pub returns-clause-run : goal.returns-clause-run
returns-clause-run g c deploy source l p f long closed storable x =
    let v = c.ending-verdict.result.0 in
    closes deploy source g.T.ShardTables.rows c.args.entries.items c.args.shards.items x c.args.limit c.args.total c.args.fault l p f c.in_ok-steps.field-0 c.in_ok-steps.ensures
    (verdict_of v) c.ending-verdict.ensures.verdict c.ending-verdict.result.1 c.ending-verdict.ensures.charge closed storable c.in_ok-rows.rows.items
    (λ e store differ are some. c.in_ok-rows.ensures.done (is-done v e) store differ long are some)
