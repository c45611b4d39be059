use Rattle.std.proofs.Common.{◌∙◌}
use Rattle.replay_space.proofs.Listed.{not-listed, listed, up, within}
use Rattle.replay_space.proofs.lists.Lists.at.Goals as goal

pub returns-in_default : goal.returns-in_default
returns-in_default c ls h = not-listed ls c.deref.result.now c.args.number (c.deref.ensures.value ∙ h.ends) c.in_default.ensures.lookup.3

pub returns-in-Some-get : goal.returns-in-Some-get
returns-in-Some-get c ls h =
    c.in-Some-get.ensures.lookup.0.2
    ∙ listed ls c.deref.result.now c.deref-2.result.now c.args.number c.start.result c.in-Some.end.now (c.deref.ensures.value ∙ h.ends) (c.deref-2.ensures.value ∙ h.values) c.in-Some.ensures.lookup.3.0 c.in-Some.ensures.lookup.1
    (λ low. c.start.ensures ls h low)

pub returns-in-None : goal.returns-in-None
returns-in-None c ls h =
    let low = up ls c.deref.result.now c.deref-2.result.now c.args.number c.start.result c.in-Some.end.now (c.deref.ensures.value ∙ h.ends) (c.deref-2.ensures.value ∙ h.values) c.in-Some.ensures.lookup.3.0 c.in-Some.ensures.lookup.1
    (λ low. c.start.ensures ls h low) in
    let high = within ls c.deref.result.now c.deref-2.result.now c.args.number c.start.result c.in-Some.end.now (c.deref.ensures.value ∙ h.ends) (c.deref-2.ensures.value ∙ h.values) c.in-Some.ensures.lookup.3.0 c.in-Some.ensures.lookup.1
    (λ low. c.start.ensures ls h low) in
    absurd (cc (c.in-None.ensures.lookup.1 (low, high)))
