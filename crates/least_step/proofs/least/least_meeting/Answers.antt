use Rattle.std.proofs.Common.{List, map, sym, ◌∙◌, subst, All}
use Rattle.calculus.specs.Rows.{Row}
use Rattle.least_step.specs.Filed.{IsAwaited}
use Rattle.least_step.specs.Meeting.{IsLeastWith, MeetsNone}
use Rattle.least_step.specs.Orders.{referred}
use Rattle.least_step.proofs.Choosing.{among-all}
use Rattle.least_step.proofs.Meeting.{none-meet}
use Rattle.least_step.proofs.Steps.{among-at, met-found, none-met, told, whole-rows}
use Rattle.least_step.proofs.least.least_meeting.Goals as goal

pub meet_least-requires : goal.meet_least-requires
meet_least-requires c =
    let rows = c.args.rows.now in
    let r = c.row-item.result in
    among-all (λ x. IsAwaited x c.in_ok-sends.sends.entries) r.now (map referred rows) c.in_ok-sends.ensures.awaited (among-at rows c.loop-row.row-index r c.loop-row-test.true c.row-item.is)

pub returns-then-is_some : goal.returns-then-is_some
returns-then-is_some c =
    let rows = c.args.rows.now in
    let i = c.loop-row.row-index in
    let r = c.row-item.result in
    let h = c.loop-row-test.true in
    let e = c.row-item.is in
    λ a. met-found rows i r h e c.in_ok-found.found (sym c.is_some.ensures ∙ c.if-is_some.true) a (c.loop-row.invariant a)
    (c.in_ok-found.ensures (map referred rows) a (among-at rows i r h e) c.in_ok-sends.ensures.filed)

pub loop-row-preserved : goal.loop-row-preserved
loop-row-preserved c =
    let rows = c.args.rows.now in
    let i = c.loop-row.row-index in
    let r = c.row-item.result in
    let h = c.loop-row-test.true in
    let e = c.row-item.is in
    λ a. none-met rows i r h e
    (told (MeetsNone (map referred rows) r.now) (IsLeastWith (map referred rows) r.now) c.in_ok-found.found (c.in_ok-found.ensures (map referred rows) a (among-at rows i r h e) c.in_ok-sends.ensures.filed) (sym c.is_some.ensures ∙ c.if-is_some.false))
    (c.loop-row.invariant a)

pub returns : goal.returns
returns c =
    let rows = c.args.rows.now in
    λ a. none-meet (map referred rows) (subst (λ (l : List Row). All (MeetsNone (map referred rows)) l) (whole-rows rows c.loop-row.row-index c.loop-row-test.false) (c.loop-row.invariant a))
