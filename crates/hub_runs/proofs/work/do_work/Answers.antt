use Rattle.std.proofs.Common.{◌∙◌, ap, sym}
use Rattle.hub_rule.specs.Counts.{things_of}
use Rattle.group_locks.proofs.Hands.{hand_nil}
use Rattle.hub_runs.proofs.work.do_work.Goals as goal

pub draw_work-drawn-requires-clause-work : goal.draw_work-drawn-requires-clause-work
draw_work-drawn-requires-clause-work g c =
    let r = c.requires.work in let w = c.take_group.ensures.works in
    (r.0, ap (λ p. p.taken) w ∙ r.1, ap (λ p. p.offered) w ∙ r.2)

pub leave_ops-requires-clause-ops : goal.leave_ops-requires-clause-ops
leave_ops-requires-clause-ops g c κs within =
    c.in-Ok.ensures ∙ sym (ap (λ p. things_of p.offered) c.give_group.ensures.works ∙ (c.draw_work-drawn.ensures.drawn c.if-not-drawn.false).1)

pub returns-clause-left : goal.returns-clause-left
returns-clause-left g c done =
    let p = c.leave_ops.new.self.state.token.me.0.pile in
    hand_nil p c.leave_ops.new.self.state.calm.2
    (c.leave_ops.ensures.taken.0 ∙ (ap (λ q. q.taken) c.give_group.ensures.works ∙ (c.draw_work-drawn.ensures.drawn c.if-not-drawn.false).0)) c.in-Ok-leave_ops.ensures.left
