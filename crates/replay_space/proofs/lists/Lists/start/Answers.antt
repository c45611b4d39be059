use Rattle.std.proofs.Common.{◌≡◌, ◌-◌, suc, ◌∙◌, arith}
use Rattle.replay_space.proofs.Listed.{begins, some-end}
use Rattle.replay_space.proofs.lists.Lists.start.Goals as goal

pub returns-in-Some : goal.returns-in-Some
returns-in-Some c ls h lt =
    let next : suc (c.args.number - 1) ≡ c.args.number = omega (arith, c.if-number-eq0.false) in
    begins ls c.deref.result.now (c.args.number - 1) c.args.number c.in-Some.end.now (c.deref.ensures.value ∙ h.ends) next lt c.in-Some.ensures.lookup.1

pub returns-in-None : goal.returns-in-None
returns-in-None c ls h lt =
    let next : suc (c.args.number - 1) ≡ c.args.number = omega (arith, c.if-number-eq0.false) in
    absurd (some-end ls c.deref.result.now (c.args.number - 1) c.args.number (c.deref.ensures.value ∙ h.ends) next lt c.in-None.ensures.lookup.3)
