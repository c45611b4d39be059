use Rattle.hub_rule.specs.Works.{hand}
use Rattle.std.proofs.Common.{◌+◌, ◌%◌, ◌^◌, ◌∙◌, length, refl, sym, ap}
use Rattle.hub_rule.specs.Counts.{count}
use Rattle.hub_rule.specs.Rule.{below, descends, emptied}
use Rattle.group_locks.proofs.Numbers.{last_fewer}
use Rattle.group_locks.proofs.Takes.{still_owed}
use Rattle.group_locks.proofs.seat.Seat.may_go.Goals as goal

pub invariant_of-self : goal.invariant_of-self
invariant_of-self g c = let m = c.may_go.ensures in let e = m.view in let s = c.args.self.now.state in record {
  told = s.told ∙ sym (ap (λ x. x.0.entries) e);
  out = ap (λ x. x.1) e ∙ (s.out ∙ sym (ap (λ x. emptied x.0.held) e));
  falls = (ap (λ x. below 64 x.0.held) e ∙ s.falls.0, ap (λ x. descends x.0.held) e ∙ s.falls.1);
  bits = λ k lt. s.bits k lt ∙ sym (ap (λ x. count k x.0.held) e);
  part = ap (λ x. x.0.parts) e ∙ s.part;
  near = s.near;
  calm = (ap (λ x. x.0.pile.owes) e ∙ s.calm.0, ap (λ x. x.0.pile.desk) e ∙ s.calm.1, ap (λ x. x.0.pile.kept) e ∙ s.calm.2);
  even = ap (λ x. x.0.pile.counted) e ∙ (s.even ∙ sym (ap (λ x. length (hand x.0.pile)) e));
  balance = ap (λ x. (s.moved + x.0.pile.fetched) % 2 ^ 64) e ∙ (s.balance ∙ sym (ap (λ x. x.0.pile.left % 2 ^ 64) e));
  fresh = λ h. ap (λ x. x.0.since) e ∙ s.fresh (sym (ap (λ x. x.0.held) e) ∙ h);
  owed = ap (λ x. x.0.entries) e ∙ still_owed s.token.me.0.tally c.may_go.new.token.me.0.tally s.token.me.0.entries m.charged.0 m.charged.1 s.owed;
  last = last_fewer _ _ _ _ m.fresh (ap length m.charged.1) s.last;
  clear = m.clear s.clear;
}

pub returns : goal.returns
returns g c = let m = c.may_go.ensures in let e = m.view in record {
  hub = m.same.0;
  drawn = ap (λ x. x.0.entries) e;
  held = ap (λ x. x.0.held) e;
  since = ap (λ x. x.0.since) e;
  room = (refl, refl);
  charged = (m.charged.0, m.charged.1 ∙ c.requires.charged);
  works = ap (λ x. x.0.pile) e;
  go = m.go;
  stays = m.stays;
  cause = m.cause;
}
