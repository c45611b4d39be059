use Rattle.std.proofs.Common.{◌∙◌, ◌++◌, ◌+◌, inr, length, refl, sym, ap}
use Rattle.std.specs.Int.{from_bool}
use Rattle.hub_rule.specs.Counts.{count}
use Rattle.hub_rule.specs.Rule.{below, descends, emptied}
use Rattle.hub_rule.specs.Works.{hand}
use Rattle.group_locks.proofs.Numbers.{whole_part, last_fewer, one_more}
use Rattle.group_locks.proofs.Takes.{still_owed, looked_charged, looked_taken, looked_new, looked_go, looked_idle, looked_cause, looked_calm, looked_even, looked_balance}
use Rattle.group_locks.proofs.seat.Seat.take_op.Goals as goal

pub stop-requires-clause-hub : goal.stop-requires-clause-hub
stop-requires-clause-hub g c κs within = c.in_default.ensures.hub ∙ c.requires.hub

pub returns-in_default : goal.returns-in_default
returns-in_default g c = let s = c.stop.ensures in let a = c.in_default.ensures in record {
  hub = s.hub ∙ a.hub;
  drawn = s.drawn ∙ a.drawn;
  held = s.held ∙ a.held;
  since = s.since ∙ a.since;
  charged = (s.charged.0 ∙ ap (λ u. u.settled ++ u.fresh) a.tally, s.charged.1 ∙ (ap (λ u. u.due) a.tally ∙ c.requires.charged));
  taken = tt;
  new = tt;
  go = tt;
  idle = ap (λ p. hand p) s.works ∙ (ap (λ p. hand p) a.works ∙ c.requires.idle);
  cause = inr (inr (one_more _ _ _ s.stops (ap (λ u. u.no_memory + u.fault) a.tally)));
}

pub find_work-found-requires-clause-table : goal.find_work-found-requires-clause-table
find_work-found-requires-clause-table g c κs within = (c.in-Ok.ensures.hub ∙ c.requires.hub, c.args.hub.now.wide)

pub find_work-found-requires-clause-terms : goal.find_work-found-requires-clause-terms
find_work-found-requires-clause-terms g c κs within = let h = c.args.hub.now in (ap (λ t. t.limit) h.agreed, h.few.0, h.few.1)

pub find_work-found-requires-clause-desk : goal.find_work-found-requires-clause-desk
find_work-found-requires-clause-desk g c κs within = let s = c.again.new.self.state in (s.near, s.calm.1, whole_part _ s.part, s.calm.0)

pub find_work-found-requires-clause-idle : goal.find_work-found-requires-clause-idle
find_work-found-requires-clause-idle g c κs within = ap (λ p. hand p) c.in-Ok.ensures.works ∙ c.requires.idle

pub invariant_of-state : goal.invariant_of-state
invariant_of-state g c = let l = c.find_work-found.ensures.looked in let e = l.view in let u = l.goes in let s = c.again.new.self.state in record {
  near = s.near;
  told = s.told ∙ sym (ap (λ x. x.0.entries) e);
  out = ap (λ x. x.1) e ∙ (s.out ∙ sym (ap (λ x. emptied x.0.held) e));
  falls = (ap (λ x. below 64 x.0.held) e ∙ s.falls.0, ap (λ x. descends x.0.held) e ∙ s.falls.1);
  bits = λ k lt. s.bits k lt ∙ sym (ap (λ x. count k x.0.held) e);
  part = ap (λ x. x.0.parts) e ∙ s.part;
  fresh = λ h. ap (λ x. x.0.since) e ∙ s.fresh (sym (ap (λ x. x.0.held) e) ∙ h);
  owed = ap (λ x. x.0.entries) e ∙ still_owed s.token.me.0.tally c.find_work-found.new.token.me.0.tally s.token.me.0.entries u.charged u.due s.owed;
  last = last_fewer _ _ _ _ u.fresh (ap length u.due) s.last;
  calm = looked_calm _ _ _ l s.calm;
  even = looked_even _ _ _ l (ap (λ p. hand p) c.in-Ok.ensures.works ∙ c.requires.idle) s.even;
  balance = looked_balance _ _ _ s.moved _ _ l (c.from.ensures ∙ ap from_bool c.is_some.ensures) refl s.balance;
  clear = λ may. u.clear s.clear may;
}

pub returns : goal.returns
returns g c = let l = c.find_work-found.ensures.looked in let a = c.in-Ok.ensures in let e = l.view in record {
  hub = c.find_work-found.ensures.same.0 ∙ a.hub;
  drawn = ap (λ x. x.0.entries) e ∙ a.drawn;
  held = ap (λ x. x.0.held) e ∙ a.held;
  since = ap (λ x. x.0.since) e ∙ a.since;
  charged = looked_charged _ _ _ _ l a.tally c.requires.charged;
  taken = looked_taken _ _ _ l;
  new = looked_new _ _ _ _ l a.works c.requires.idle;
  go = looked_go _ _ _ _ _ l a.tally a.room;
  idle = looked_idle _ _ _ _ l a.works c.requires.idle;
  cause = looked_cause _ _ _ _ _ l a.tally a.works;
}
