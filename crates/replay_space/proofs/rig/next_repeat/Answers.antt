use Rattle.std.proofs.Common.{◌≡◌, true, false, sym, ◌∙◌}
use Rattle.event_log.specs.View.{step_of}
use Rattle.replay_space.proofs.Lone.{lone-never, counts-past}
use Rattle.replay_space.proofs.rig.next_repeat.Goals as goal

pub returns-then-has_lone_id : goal.returns-then-has_lone_id
returns-then-has_lone_id c log before after i is small are =
    let s = step_of c.args.step.now in
    let lone = (c.has_lone_id.ensures log i).0 c.if-has_lone_id.true in
    (sym (lone-never log before s after is lone), counts-past log before s c.args.counts.now.entries are lone)

pub returns : goal.returns
returns c log before after i is small are =
    let none : false ≡ true → ⊥ = λ e. cc in
    c.count_step.ensures log before small (λ lone. none (sym c.if-has_lone_id.false ∙ (c.has_lone_id.ensures log i).1 lone)) are
