use Rattle.std.proofs.Common.{List, map, take, sym, subst}
use Rattle.calculus.specs.Rows.{Row}
use Rattle.least_step.specs.Filed.{AreFiled}
use Rattle.least_step.specs.Orders.{referred}
use Rattle.least_step.proofs.Filing.{all-kept}
use Rattle.least_step.proofs.Steps.{rows-so-far, whole-rows}
use Rattle.least_step.proofs.sends.file_sends.Goals as goal

pub loop-row-preserved : goal.loop-row-preserved
loop-row-preserved c =
    let rows = c.args.rows.now in
    let i = c.loop-row.row-index in
    let es = c.file.new.sends.entries in
    record {
      filed = subst (λ (l : List Row). AreFiled l es) (sym (rows-so-far rows i c.row-item.result c.loop-row-test.true c.row-item.is)) (c.in_ok-file.ensures.filed (map referred (take i rows)) c.loop-row.invariant.filed);
      awaited = all-kept (map referred rows) c.loop-row.sends.entries es c.in_ok-file.ensures.kept c.loop-row.invariant.awaited;
    }

pub returns-clause-filed : goal.returns-clause-filed
returns-clause-filed c = subst (λ (l : List Row). AreFiled l c.loop-row.sends.entries) (whole-rows c.args.rows.now c.loop-row.row-index c.loop-row-test.false) c.loop-row.invariant.filed
