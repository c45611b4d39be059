use Rattle.std.proofs.Common.{◌∙◌, ap, append-nil, refl}
use Rattle.event_log.specs.View.{steps_of}
use Rattle.racing_replays.specs.Counted.{uses}
use Rattle.replay_space.specs.Rigs.{steps_in}
use Rattle.replay_space.proofs.Drafting.{index-of}
use Rattle.replay_space.proofs.index.Index.from_steps.Goals as goal

pub returns : goal.returns
returns c =
    let ss = steps_of c.args.steps.now in
    index-of ss c.as_slice.result.now c.in_ok-draft.draft _ c.in_ok-draft.ensures
    (λ x. ap (steps_in x) c.as_slice.ensures.value ∙ c.in_ok-all.ensures.named x ∙ append-nil (uses x 0 ss)) refl refl c.in_ok-uses.ensures
