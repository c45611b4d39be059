use denote.Param.Send.{sendable}
use Rattle.std.proofs.Common.{◌∙◌, List, ℕ, sym, ap, subst}
use Rattle.calculus.specs.Runs.{Deploy, deploy_of, source_seed, work_price}
use Rattle.calculus.specs.Seeds.{digest_of, Start}
use Rattle.calculus.specs.Unfolding.{Unfolds}
use Rattle.events.specs.EventLaws.{Begins}
use Rattle.replay_store.specs.Stores.{AreOpenedShards}
use Rattle.replayed_log.proofs.Crossing.{channel-send, channel-sync, sharded-send, sharded-sync, shard-send, shard-sync, held-send, held-sync}
use Rattle.replay_runs.proofs.RacedLogs.{plain-shards}
use Rattle.replay_runs.proofs.Starting.{opens}
use Rattle.replay_runs.proofs.racing.race.Goals as goal

pub replay_side_by_side-requires-send-J-Row : goal.replay_side_by_side-requires-send-J-Row
replay_side_by_side-requires-send-J-Row g c κs within = let a = sharded-send in search sendable depth 10

pub replay_side_by_side-requires-send-J-Channel : goal.replay_side_by_side-requires-send-J-Channel
replay_side_by_side-requires-send-J-Channel g c κs within = let a = channel-send in search sendable depth 10

pub replay_side_by_side-requires-send-J-Shard : goal.replay_side_by_side-requires-send-J-Shard
replay_side_by_side-requires-send-J-Shard g c κs within = let a = shard-send in search sendable depth 10

pub replay_side_by_side-requires-send-J-Held : goal.replay_side_by_side-requires-send-J-Held
replay_side_by_side-requires-send-J-Held g c κs within = let a = held-send in search sendable depth 10

pub replay_side_by_side-requires-sync-J-Row : goal.replay_side_by_side-requires-sync-J-Row
replay_side_by_side-requires-sync-J-Row g c κs within = let a = sharded-sync in search sendable depth 10

pub replay_side_by_side-requires-sync-J-Channel : goal.replay_side_by_side-requires-sync-J-Channel
replay_side_by_side-requires-sync-J-Channel g c κs within = let a = channel-sync in search sendable depth 10

pub replay_side_by_side-requires-sync-J-Shard : goal.replay_side_by_side-requires-sync-J-Shard
replay_side_by_side-requires-sync-J-Shard g c κs within = let a = shard-sync in search sendable depth 10

pub replay_side_by_side-requires-sync-J-Held : goal.replay_side_by_side-requires-sync-J-Held
replay_side_by_side-requires-sync-J-Held g c κs within = let a = held-sync in search sendable depth 10

pub replay_side_by_side-requires-clause-opens : goal.replay_side_by_side-requires-clause-opens
replay_side_by_side-requires-clause-opens g c κs within =
    let p = c.args.basis.now.prices.now in
    let limit = c.args.log.header.limit in
    let t = c.args.basis.now.term.now in
    let source = c.args.basis.now.source.now.0 in
    let worked = c.in_ok-price.ensures in
    let unfolds = subst (λ (s : List ℕ). Unfolds p limit t s worked.work) (c.start-seed.ensures ∙ ap (λ (x : List ℕ). digest_of (Start x source)) (sym c.requires.basis.root_is)) worked.said in
    let begins : Begins (deploy_of p limit c.args.basis.now.base.now t source) worked.work = record { unfolds = unfolds; quiet = c.requires.quiet } in
    opens g.N.ReplayNames.deploy g.N.ReplayNames.steps worked.work (subst (λ (d : Deploy). Begins d worked.work) (sym c.requires.deploy) begins) c.in_ok-shards.shards.items c.in_ok-price.field-0.offers.items c.in_ok-tasks.tasks.items
    (subst (λ (d : Deploy). AreOpenedShards d.rows c.in_ok-shards.shards.items) (sym c.requires.deploy) c.in_ok-shards.ensures.opened) worked.rows c.in_ok-tasks.ensures.are

pub returns-clause-raced : goal.returns-clause-raced
returns-clause-raced g c fits differs =
    let p = c.args.basis.now.prices.now in
    let limit = c.args.log.header.limit in
    let t = c.args.basis.now.term.now in
    let source = c.args.basis.now.source.now.0 in
    let worked = c.in_ok-price.ensures in
    let unfolds = subst (λ (s : List ℕ). Unfolds p limit t s worked.work) (c.start-seed.ensures ∙ ap (λ (x : List ℕ). digest_of (Start x source)) (sym c.requires.basis.root_is)) worked.said in
    let here = subst (λ (d : Deploy). Unfolds d.prices d.limit d.process (source_seed d) worked.work) (sym c.requires.deploy) unfolds in
    record {
      work = worked.work;
      unfolds = here;
      price = ap (λ (d : Deploy). work_price d.limit worked.work) c.requires.deploy ∙ worked.price_is;
      fault = worked.fault_is;
      decides = plain-shards g.N.ReplayNames.deploy worked.work g.N.ReplayNames.steps _ c.in_ok-closed.closed.shards.items (c.in_ok-closed.ensures.decides worked.work here fits differs);
    }
