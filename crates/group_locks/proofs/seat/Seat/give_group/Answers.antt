use Rattle.std.proofs.Common.{◌+◌, ◌%◌, ◌^◌, ◌++◌, length, refl, ap, sym, ◌∙◌}
use Rattle.std.proofs.lemmas.Nat.Bits.{bit_at-zero}
use Rattle.hub_rule.specs.Counts.{count}
use Rattle.hub_rule.specs.Rule.{below, descends, emptied}
use Rattle.hub_rule.specs.Works.{hand}
use Rattle.group_locks.proofs.Numbers.{last_same}
use Rattle.group_locks.proofs.seat.Seat.give_group.Goals as goal

pub invariant_of-state : goal.invariant_of-state
invariant_of-state g c = let e = c.give_turns.ensures.view in let s = c.args.self.now.state in record {
  told = s.told ∙ sym (ap (λ x. x.0.entries) e);
  out = ap (λ x. x.1) e ∙ sym (ap (λ x. emptied x.0.held) e);
  falls = (ap (λ x. below 64 x.0.held) e, ap (λ x. descends x.0.held) e);
  bits = λ k lt. bit_at-zero k ∙ sym (ap (λ x. count k x.0.held) e);
  part = ap (λ x. x.0.parts) e ∙ s.part;
  near = s.near;
  calm = (ap (λ x. x.0.pile.owes) e ∙ s.calm.0, ap (λ x. x.0.pile.desk) e ∙ s.calm.1, ap (λ x. x.0.pile.kept) e ∙ s.calm.2);
  even = ap (λ x. x.0.pile.counted) e ∙ (s.even ∙ sym (ap (λ x. length (hand x.0.pile)) e));
  balance = ap (λ x. (s.moved + x.0.pile.fetched) % 2 ^ 64) e ∙ (s.balance ∙ sym (ap (λ x. x.0.pile.left % 2 ^ 64) e));
  fresh = λ h. ap (λ x. x.0.since) e;
  owed = ap (λ x. x.0.entries) e ∙ (s.owed ∙ sym (ap (λ x. (x.0.tally.settled ++ x.0.tally.fresh) ++ x.0.tally.due) e));
  last = last_same _ _ (ap (λ x. length x.0.tally.fresh + length x.0.tally.due) e) s.last;
  clear = λ may. ap (λ x. length x.0.tally.fresh) e ∙ s.clear (sym (ap (λ x. x.0.tally.leave) e) ∙ may);
}

pub returns : goal.returns
returns g c = let e = c.give_turns.ensures in record {
  hub = e.same.0;
  drawn = ap (λ x. x.0.entries) e.view;
  room = (refl, refl);
  tally = ap (λ x. x.0.tally) e.view;
  works = ap (λ x. x.0.pile) e.view;
  free = ap (λ x. x.0.held) e.view;
  empty = e.none;
}
