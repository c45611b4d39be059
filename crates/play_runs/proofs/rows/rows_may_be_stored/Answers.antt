use Rattle.std.proofs.Common.{subst, arith}
use Rattle.std.proofs.lemmas.List.Elements.{All-more}
use Rattle.calculus.specs.Storing.{IsStorable}
use Rattle.play_runs.proofs.Taken.{all-taken}
use Rattle.play_runs.proofs.rows.rows_may_be_stored.Goals as goal

pub loop-row-preserved : goal.loop-row-preserved
loop-row-preserved c =
    record { storable = All-more IsStorable c.args.rows.now c.loop-row.row-index c.row-item.result c.loop-row-test.true c.loop-row.invariant.storable (subst IsStorable c.row-item.is c.op-operation.ensures.storable) }

pub returns : goal.returns
returns c = all-taken IsStorable c.args.rows.now c.loop-row.row-index (omega (arith, c.loop-row-test.false)) c.loop-row.invariant.storable
