-- What events tell once nothing is to arrive and nothing is to be tried.
use Rattle.std.proofs.Common.{sym, subst, inl, inr}
use Rattle.std.specs.Prelude.{◌⊎◌}
use Rattle.replays.specs.Replays.{deploy_under}
use Rattle.racing_replays.specs.Laws.{IsFresh}
use Rattle.racing_replays.specs.Answering.{SomeClash}
use Rattle.racing_replays.specs.RacingLaws.{RaceTellsAnswer, RacesTellAnswers, RacesTellAnswersOrClash}
use Rattle.racing_replays.proofs.Premises.{fresh_replays_have_walks}
use Rattle.racing_replays.proofs.Racing.{races_are_replays}
use Rattle.racing_replays.proofs.Answering.{replays_tell_answers}
use Rattle.racing_replays.proofs.Along.{races_are_fresh_or_clash}

pub races_tell_answers : RacesTellAnswers
races_tell_answers g h w ss c right u quiet es a t f =
    let r = races_are_replays (deploy_under h.limit g) w ss c f quiet es in
    let full = r.1 a t in
    let k = fresh_replays_have_walks (deploy_under h.limit g) w ss r.0.replay full (subst (IsFresh g.rows w) (sym r.0.same_done) f) in
    (r.0, replays_tell_answers g h w ss k.0 r.0.replay right u k.1 full)

pub races_tell_answers_or_clash : RacesTellAnswersOrClash
races_tell_answers_or_clash g h w ss c right u quiet es a t fits differs = go (races_are_fresh_or_clash (deploy_under h.limit g) w ss c u quiet es fits differs)
  where
    go : IsFresh g.rows w c.done ⊎ SomeClash (deploy_under h.limit g) w ss → RaceTellsAnswer g h w ss c ⊎ SomeClash (deploy_under h.limit g) w ss
    go (inl f) = inl (races_tell_answers g h w ss c right u quiet es a t f)
    go (inr x) = inr x
