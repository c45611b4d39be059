use Rattle.hub_rule.specs.Works.{hand}
use Rattle.std.proofs.Common.{◌+◌, ◌%◌, ◌^◌, ◌∙◌, ◌++◌, length, refl, sym, ap}
use Rattle.hub_rule.specs.Counts.{count}
use Rattle.hub_rule.specs.Rule.{below, descends, emptied}
use Rattle.group_locks.proofs.Numbers.{last_same}
use Rattle.group_locks.proofs.Stops.{stops_more, stops_for}
use Rattle.group_locks.proofs.seat.Seat.stop.Goals as goal

pub invariant_of-self : goal.invariant_of-self
invariant_of-self g c = let e = c.halt.ensures.found in let s = c.args.self.now.state in record {
  told = s.told ∙ sym (ap (λ x. x.0.entries) e);
  out = ap (λ x. x.1) e ∙ (s.out ∙ sym (ap (λ x. emptied x.0.held) e));
  falls = (ap (λ x. below 64 x.0.held) e ∙ s.falls.0, ap (λ x. descends x.0.held) e ∙ s.falls.1);
  bits = λ k lt. s.bits k lt ∙ sym (ap (λ x. count k x.0.held) e);
  part = ap (λ x. x.0.parts) e ∙ s.part;
  near = s.near;
  calm = (ap (λ x. x.0.pile.owes) e ∙ s.calm.0, ap (λ x. x.0.pile.desk) e ∙ s.calm.1, ap (λ x. x.0.pile.kept) e ∙ s.calm.2);
  even = ap (λ x. x.0.pile.counted) e ∙ (s.even ∙ sym (ap (λ x. length (hand x.0.pile)) e));
  balance = ap (λ x. (s.moved + x.0.pile.fetched) % 2 ^ 64) e ∙ (s.balance ∙ sym (ap (λ x. x.0.pile.left % 2 ^ 64) e));
  fresh = λ h. ap (λ x. x.0.since) e ∙ s.fresh (sym (ap (λ x. x.0.held) e) ∙ h);
  owed = ap (λ x. x.0.entries) e ∙ (s.owed ∙ sym (ap (λ x. (x.0.tally.settled ++ x.0.tally.fresh) ++ x.0.tally.due) e));
  last = last_same _ _ (ap (λ x. length x.0.tally.fresh + length x.0.tally.due) e) s.last;
  clear = λ may. ap (λ x. length x.0.tally.fresh) e ∙ s.clear (sym (ap (λ x. x.0.tally.leave) e) ∙ may);
}

pub returns : goal.returns
returns g c = let h = c.halt.ensures in let e = h.found in let t = c.args.self.now.state.token.me.0.tally in record {
  hub = h.same.0;
  drawn = ap (λ x. x.0.entries) e;
  held = ap (λ x. x.0.held) e;
  since = ap (λ x. x.0.since) e;
  room = (refl, refl);
  charged = (ap (λ x. x.0.tally.settled ++ x.0.tally.fresh) e, ap (λ x. x.0.tally.due) e);
  works = ap (λ x. x.0.pile) e;
  leave = λ may. ap (λ x. x.0.tally.leave) e ∙ may;
  over = ap (λ x. x.0.tally.over) e;
  stops = ap (λ x. x.0.tally.no_memory + x.0.tally.fault) e ∙ stops_more t.no_memory t.fault c.halt.result c.args.cause h.low;
  cause = stops_for _ _ c.halt.result c.args.cause (ap (λ x. x.0.tally) e);
}
