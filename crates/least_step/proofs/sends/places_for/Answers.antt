use Rattle.std.proofs.Common.{List, map, take, sym, subst}
use Rattle.std.proofs.lemmas.List.Elements.{All-nil, All-push}
use Rattle.calculus.specs.Rows.{Row}
use Rattle.least_step.specs.Orders.{referred}
use Rattle.least_step.specs.Filed.{AreAwaited, IsAwaited}
use Rattle.least_step.proofs.Filing.{all-kept, none-filed-yet}
use Rattle.least_step.proofs.Steps.{rows-so-far, whole-rows}
use Rattle.least_step.proofs.sends.places_for.Goals as goal

pub loop-row-init : goal.loop-row-init
loop-row-init c = record { awaited = All-nil (λ r. IsAwaited r c.new-sends.result.entries); bare = none-filed-yet c.new-sends.result.entries c.new-sends.ensures.empty }

pub loop-row-preserved : goal.loop-row-preserved
loop-row-preserved c =
    let rows = c.args.rows.now in
    let i = c.loop-row.row-index in
    let r = c.row-item.result in
    let es = c.await_row.new.sends.entries in
    record {
      awaited = subst (λ (l : List Row). AreAwaited l es) (sym (rows-so-far rows i r c.loop-row-test.true c.row-item.is))
          (All-push (λ q. IsAwaited q es) (map referred (take i rows)) r.now (all-kept (map referred (take i rows)) c.loop-row.sends.entries es c.in_ok-await_row.ensures.kept c.loop-row.invariant.awaited) c.in_ok-await_row.ensures.awaited);
      bare = c.in_ok-await_row.ensures.bare c.loop-row.invariant.bare;
    }

pub returns-clause-awaited : goal.returns-clause-awaited
returns-clause-awaited c =
    subst (λ (l : List Row). AreAwaited l c.loop-row.sends.entries) (whole-rows c.args.rows.now c.loop-row.row-index c.loop-row-test.false) c.loop-row.invariant.awaited
