use Rattle.hub_rule.specs.Works.{hand}
use Rattle.std.proofs.Common.{◌+◌, ◌%◌, ◌^◌, ◌∙◌, ◌++◌, length, refl, sym, ap, append-nil, append_assoc, length-append}
use Rattle.std.proofs.lemmas.Bool.{false≢true}
use Rattle.hub_rule.specs.Counts.{count}
use Rattle.hub_rule.specs.Rule.{below, descends, emptied}
use Rattle.group_locks.proofs.Numbers.{last_paid, none_fresh}
use Rattle.group_locks.proofs.seat.Seat.charge.Goals as goal

pub invariant_of-self : goal.invariant_of-self
invariant_of-self g c = let e = c.pay.ensures.paid in let s = c.args.self.now.state in let t = s.token.me.0.tally in record {
  told = s.told ∙ sym (ap (λ x. x.0.entries) e);
  out = ap (λ x. x.1) e ∙ (s.out ∙ sym (ap (λ x. emptied x.0.held) e));
  falls = (ap (λ x. below 64 x.0.held) e ∙ s.falls.0, ap (λ x. descends x.0.held) e ∙ s.falls.1);
  bits = λ k lt. s.bits k lt ∙ sym (ap (λ x. count k x.0.held) e);
  part = ap (λ x. x.0.parts) e ∙ s.part;
  near = s.near;
  calm = (ap (λ x. x.0.pile.owes) e ∙ s.calm.0, ap (λ x. x.0.pile.desk) e ∙ s.calm.1, ap (λ x. x.0.pile.kept) e ∙ s.calm.2);
  even = ap (λ x. x.0.pile.counted) e ∙ (s.even ∙ sym (ap (λ x. length (hand x.0.pile)) e));
  balance = ap (λ x. (s.moved + x.0.pile.fetched) % 2 ^ 64) e ∙ (s.balance ∙ sym (ap (λ x. x.0.pile.left % 2 ^ 64) e));
  fresh = λ h. ap (λ x. x.0.since) e ∙ s.fresh (sym (ap (λ x. x.0.held) e) ∙ h);
  owed = ap (λ x. x.0.entries) e ∙ (s.owed ∙ (append_assoc t.settled t.fresh t.due ∙ (sym (append-nil (t.settled ++ (t.fresh ++ t.due))) ∙ sym (ap (λ x. (x.0.tally.settled ++ x.0.tally.fresh) ++ x.0.tally.due) e))));
  last = last_paid (length t.fresh) (length t.due) _ _ _ (ap (λ x. length x.0.tally.fresh) e) (length-append t.fresh t.due) (ap (λ x. length x.0.tally.due) e) s.last;
  clear = λ may. absurd (false≢true (sym (ap (λ x. x.0.tally.leave) e) ∙ may));
}

pub pay-requires-clause-clear : goal.pay-requires-clause-clear
pay-requires-clause-clear g c κs within = none_fresh _ _ (ap length c.requires.price.1) c.args.self.now.state.last

pub returns : goal.returns
returns g c = let p = c.pay.ensures in let e = p.paid in let s = c.args.self.now.state in let t = s.token.me.0.tally in record {
  hub = p.same.0;
  drawn = ap (λ x. x.0.entries) e;
  held = ap (λ x. x.0.held) e;
  since = ap (λ x. x.0.since) e;
  room = (refl, refl);
  charged = ap (λ x. x.0.tally.settled ++ x.0.tally.fresh) e ∙ sym (s.owed ∙ append_assoc t.settled t.fresh t.due);
  tally = ap (λ x. x.0.tally) e;
  works = ap (λ x. x.0.pile) e;
  due = ap (λ x. x.0.tally.due) e;
}
