use denote.Param.Send.{sendable}
use Rattle.std.proofs.Crossing.{crosses}
use Rattle.std.proofs.Common.{◌≤◌, ◌^◌, length, map, refl, sym, ap, ◌∙◌, subst, arith, All}
use Rattle.std.specs.Prelude.{IfOk}
use Rattle.std.proofs.lemmas.Result.{IfOk-weaker}
use Rattle.std.proofs.lemmas.List.{length-map}
use Rattle.calculus.specs.Storing.{IsStorable}
use Rattle.calculus.specs.Runs.{Deploy, deploy_of, work_price}
use Rattle.event_log.specs.View.{step_of}
use Rattle.events.specs.Entries.{steps_of}
use Rattle.hub_scenes.specs.Plays.{entries_of}
use Rattle.play_hub.specs.Endings.{play_of}
use Rattle.play_outcome.specs.declared.played.Played.{Played}
use Rattle.play_pool.specs.Closing.{ClosesPlay}
use Rattle.play_runs.proofs.Beginning.{concluded, ends-or-clashes, few-steps, paid-steps, RunOrClash}
use Rattle.play_runs.proofs.Crossing.{prices-sync}
use Rattle.play_runs.proofs.playing.play_source.Goals as goal

pub play_side_by_side-requires-sync-M : goal.play_side_by_side-requires-sync-M
play_side_by_side-requires-sync-M g c κs within = let p = prices-sync in search (sendable, crosses) depth 30

pub play_side_by_side-requires-clause-maker : goal.play_side_by_side-requires-clause-maker
play_side_by_side-requires-clause-maker g c κs within = let e = c.requires.deploy in (ap (λ (d : Deploy). d.prices) e, ap (λ (d : Deploy). d.limit) e, c.requires.limit)

pub play_side_by_side-requires-clause-rows : goal.play_side_by_side-requires-clause-rows
play_side_by_side-requires-clause-rows g c κs within = ap (λ (d : Deploy). d.rows) c.requires.deploy

pub play_side_by_side-requires-clause-price : goal.play_side_by_side-requires-clause-price
play_side_by_side-requires-clause-price g c κs within = (
  ap (λ (d : Deploy). work_price d.limit g.J.PlayTerms.source) c.requires.deploy ∙ c.requires.source.0,
  omega (arith, c.requires.source.2, c.requires.limit, c.comm-comm.ensures.most, c.comm-comm.ensures.price),
)

pub play_side_by_side-requires-clause-limit : goal.play_side_by_side-requires-clause-limit
play_side_by_side-requires-clause-limit g c κs within =
    (ap (λ (d : Deploy). d.limit) c.requires.deploy, omega (arith, c.requires.limit, c.comm-comm.ensures.most, c.comm-comm.ensures.price))

pub play_side_by_side-requires-clause-comm : goal.play_side_by_side-requires-clause-comm
play_side_by_side-requires-clause-comm g c κs within =
    let e = ap (λ (d : Deploy). d.prices.comm) c.requires.deploy in omega (arith, e, c.comm-comm.ensures.some, c.comm-comm.ensures.price)

-- the limit pays for few steps
pub tell-requires-clause-few : goal.tell-requires-clause-few
tell-requires-clause-few g c κs within =
    let bound = few-steps g.J.PlayTerms.deploy c.args.means.prices.now c.args.means.limit c.args.base.items c.args.asked.now.term.now c.args.asked.now.source.now.0 c.requires.deploy _ c.args.crew.now.workers c.in_ok-closed.ensures.closes.few in
    let paid = paid-steps c.args.means.limit c.args.means.prices.now.comm c.args.crew.now.workers (omega (arith, c.comm-comm.ensures.some, c.comm-comm.ensures.price)) c.requires.limit c.args.crew.now.range.1 in
    omega (arith, bound, paid)

pub returns-clause-count : goal.returns-clause-count
returns-clause-count g c =
    let closes = c.in_ok-closed.ensures.closes in
    let bound = few-steps g.J.PlayTerms.deploy c.args.means.prices.now c.args.means.limit c.args.base.items c.args.asked.now.term.now c.args.asked.now.source.now.0 c.requires.deploy _ c.args.crew.now.workers closes.few in
    IfOk-weaker c.tell.result _ _ (λ (played : Played) s. omega (arith, bound, ap length s, length-map played.steps.items step_of)) c.tell.ensures.steps

pub returns-clause-most : goal.returns-clause-most
returns-clause-most g c =
    let closes = c.in_ok-closed.ensures.closes in
    let bound = few-steps g.J.PlayTerms.deploy c.args.means.prices.now c.args.means.limit c.args.base.items c.args.asked.now.term.now c.args.asked.now.source.now.0 c.requires.deploy _ c.args.crew.now.workers closes.few in
    let paid = paid-steps c.args.means.limit c.args.means.prices.now.comm c.args.crew.now.workers (omega (arith, c.comm-comm.ensures.some, c.comm-comm.ensures.price)) c.requires.limit c.args.crew.now.range.1 in
    IfOk-weaker c.tell.result _ _ (λ (played : Played) s. omega (arith, bound, paid, ap length s, length-map played.steps.items step_of)) c.tell.ensures.steps

pub returns-clause-run : goal.returns-clause-run
returns-clause-run g c numberable bytes quiet =
    let p = c.args.means.prices.now in
    let deploy : Deploy = deploy_of p c.args.means.limit c.args.base.items c.args.asked.now.term.now c.args.asked.now.source.now.0 in
    let source = g.J.PlayTerms.source in
    let es = c.in_ok-closed.closed.entries.items in
    let shards = map g.T.ShardTables.rows c.in_ok-closed.closed.shards.items in
    let charged = c.in_ok-closed.closed.charged in
    let closes : ClosesPlay deploy source c.args.crew.now.workers es shards charged = subst (λ d. ClosesPlay d source c.args.crew.now.workers es shards charged) c.requires.deploy c.in_ok-closed.ensures.closes in
    let paid = paid-steps c.args.means.limit p.comm c.args.crew.now.workers (omega (arith, c.comm-comm.ensures.some, c.comm-comm.ensures.price)) c.requires.limit c.args.crew.now.range.1 in
    let few : length (steps_of (entries_of (play_of es))) ≤ 2 ^ 32 = omega (arith, closes.few, paid) in
    let storable : All IsStorable c.args.base.items = subst (All IsStorable) c.as_slice.ensures.value c.rows_may_be_stored.ensures in
    let end = ends-or-clashes p c.args.means.limit c.args.base.items c.args.asked.now.term.now c.args.asked.now.source.now.0 c.args.asked.now.root.now.0 source c.args.crew.now.workers es shards charged numberable bytes quiet c.requires.unfolds closes few in
    subst (λ d. IfOk c.tell.result (RunOrClash d source es shards)) (sym c.requires.deploy)
    (concluded deploy source es shards c.tell.result end c.tell.ensures.steps
    (λ x. c.tell.ensures.run deploy source refl closes.total c.requires.source.1 c.requires.closed storable x))
