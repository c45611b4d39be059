use Rattle.std.proofs.Common.{sym, ap, ◌∙◌, subst}
use Rattle.calculus.specs.Runs.{work_fault, work_price, work_products}
use Rattle.calculus.specs.Unfolding.{rows_of, Unfolds}
use Rattle.calculus.proofs.States.{one_unfolding}
use Rattle.play_runs.specs.Rooms.{work_in}
use Rattle.play_runs.proofs.playing.play.Goals as goal

pub play_source-requires-clause-unfolds : goal.play_source-requires-clause-unfolds
play_source-requires-clause-unfolds g c κs within =
    let k = c.known_work-known.result in
    let w = work_in k.prices k.cap k.term.value k.seed k.room.0 in
    subst (λ s. Unfolds c.args.prices.now c.args.limit c.args.term.now s w) c.start-seed.ensures c.known_work-known.ensures

pub play_source-requires-clause-source : goal.play_source-requires-clause-source
play_source-requires-clause-source g c κs within =
    let p = c.args.prices.now in
    let cap = c.args.limit in
    let k = c.known_work-known.result in
    let w = work_in k.prices k.cap k.term.value k.seed k.room.0 in
    let work = c.in_ok-worked.ensures in
    let same = one_unfolding p cap c.args.term.now c.start-seed.result work.work w work.said c.known_work-known.ensures in
    (ap (work_price cap) (sym same) ∙ work.price_is, ap work_fault (sym same) ∙ work.fault_is, work.most, work.rows ∙ ap (λ v. rows_of (work_products v)) same)
