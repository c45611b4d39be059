use Rattle.std.proofs.Common.{◌≡◌, ◌∙◌, true, List, refl, sym, ap, subst}
use Rattle.calculus.specs.Log.{Step}
use Rattle.event_log.specs.View.{step_of}
use Rattle.racing_replays.specs.Counted.{names_id}
use Rattle.racing_replays.proofs.Arriving.{same-place}
use Rattle.events.specs.Entries.{Making}
use Rattle.hub_scenes.specs.Spaces.{IndexTry}
use Rattle.hub_scenes.specs.Entries.{does}
use Rattle.replay_hub.specs.Values.{making_of}
use Rattle.replay_shards.specs.Taken.{bytes_of}
use Rattle.replayed_log.specs.Making.{seen_tries}
use Rattle.replayed_log.proofs.Becoming.{finished}
use Rattle.replayed_log.proofs.Showing.{to-hand}
use Rattle.replayed_log.proofs.tables.LogReplayReplayTables.finish.Goals as goal

pub commit_done-requires-clause-low : goal.commit_done-requires-clause-low
commit_done-requires-clause-low g c before s after log place q m named =
    let p = c.requires.place in
    let same : step_of c.args.doing.now.made.made.value ≡ s = same-place p.before (step_of c.args.doing.now.made.made.value) p.after before s after (sym p.log ∙ c.requires.knows.steps ∙ log) (p.place ∙ sym place) in
    c.requires.low q (to-hand c.args.held.now q m) (subst (λ (z : Step). names_id q.row.id z ≡ true) (sym same) named)

pub returns : goal.returns
returns g c =
    let p = c.requires.place in
    let made = c.args.doing.now.made in
    let t : IndexTry = record { index = made.step; channel = made.channel.value } in
    let a : Making = making_of (λ r. r) (λ t. t) made in
    let next : List IndexTry = seen_tries made.next.value.items in
    finished (does t a next) c.args.held.now c.commit_done.new.self
    (c.commit_done.ensures p.before (step_of made.made.value) p.after (sym c.requires.knows.steps ∙ p.log) p.place t a next refl (ap bytes_of (sym c.requires.gone ∙ sym c.as_slice.ensures.value)))
