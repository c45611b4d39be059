use Rattle.hub_rule.specs.Works.{hand}
use Rattle.std.proofs.Common.{◌+◌, ◌%◌, ◌^◌, ◌∙◌, ◌++◌, length, refl, sym, ap}
use Rattle.group_locks.proofs.Numbers.{last_same}
use Rattle.group_locks.proofs.Turns.{all_bits}
use Rattle.group_locks.proofs.seat.Seat.take_group.Goals as goal

pub invariant_of-state : goal.invariant_of-state
invariant_of-state g c = let e = c.take_turns.ensures in let s = c.args.self.now.state in record {
  told = s.told ∙ sym (ap (λ v. v.entries) e.view);
  out = e.out;
  falls = e.falls;
  bits = λ k lt. sym (e.numbers k lt);
  part = ap (λ v. v.parts) e.view ∙ s.part;
  near = s.near;
  calm = (ap (λ v. v.pile.owes) e.view ∙ s.calm.0, ap (λ v. v.pile.desk) e.view ∙ s.calm.1, ap (λ v. v.pile.kept) e.view ∙ s.calm.2);
  even = ap (λ v. v.pile.counted) e.view ∙ (s.even ∙ sym (ap (λ v. length (hand v.pile)) e.view));
  balance = ap (λ v. (s.moved + v.pile.fetched) % 2 ^ 64) e.view ∙ (s.balance ∙ sym (ap (λ v. v.pile.left % 2 ^ 64) e.view));
  fresh = λ _. ap (λ v. v.since) e.view;
  owed = ap (λ v. v.entries) e.view ∙ (s.owed ∙ sym (ap (λ v. (v.tally.settled ++ v.tally.fresh) ++ v.tally.due) e.view));
  last = last_same _ _ (ap (λ v. length v.tally.fresh + length v.tally.due) e.view) s.last;
  clear = λ may. ap (λ v. length v.tally.fresh) e.view ∙ s.clear (sym (ap (λ v. v.tally.leave) e.view) ∙ may);
}

pub returns : goal.returns
returns g c = let e = c.take_turns.ensures in record {
  hub = e.same.0;
  drawn = ap (λ v. v.entries) e.view;
  since = ap (λ v. v.since) e.view;
  tally = ap (λ v. v.tally) e.view;
  works = ap (λ v. v.pile) e.view;
  room = (refl, refl);
  turns = all_bits c.take_turns.new.token.me.0.held c.args.shards c.ranges.shards.fits e.falls.0 e.numbers;
  carries = e.carries;
}
