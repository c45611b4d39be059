use Rattle.std.proofs.Common.{◌∙◌, ◌+◌, ◌++◌, length, refl, ap, sym}
use Rattle.hub_rule.specs.Counts.{count}
use Rattle.hub_rule.specs.Rule.{below, descends, emptied}
use Rattle.hub_rule.proofs.Offers.{length_things}
use Rattle.group_locks.proofs.Numbers.{whole_part, last_same}
use Rattle.group_locks.proofs.Leaves.{Left, left_same, left_even, left_balance, left_nothing, left_back}
use Rattle.group_locks.proofs.seat.Seat.leave_ops.Goals as goal

pub leave_works-left-requires-clause-table : goal.leave_works-left-requires-clause-table
leave_works-left-requires-clause-table g c κs within = (c.requires.hub, c.args.hub.now.wide)

pub leave_works-left-requires-clause-desk : goal.leave_works-left-requires-clause-desk
leave_works-left-requires-clause-desk g c κs within = let s = c.args.self.now.state in (s.near, s.calm.1, whole_part _ s.part, s.calm.0)

pub invariant_of-state : goal.invariant_of-state
invariant_of-state g c =
    let w = c.leave_works-left.ensures in let n = c.left_of.ensures in let s = c.args.self.now.state in
    let l : Left s.token.me c.leave_works-left.new.token.me c.args.ops c.leave_works-left.result = record { ok = w.ok; err = w.err } in
    let h = left_same _ _ _ _ (λ x. x.0.held) refl l in
    record {
      near = s.near;
      told = s.told ∙ sym (left_same _ _ _ _ (λ x. x.0.entries) refl l);
      out = left_same _ _ _ _ (λ x. x.1) refl l ∙ (s.out ∙ sym (left_same _ _ _ _ (λ x. emptied x.0.held) refl l));
      falls = (left_same _ _ _ _ (λ x. below 64 x.0.held) refl l ∙ s.falls.0, left_same _ _ _ _ (λ x. descends x.0.held) refl l ∙ s.falls.1);
      bits = λ k lt. s.bits k lt ∙ sym (left_same _ _ _ _ (λ x. count k x.0.held) refl l);
      part = left_same _ _ _ _ (λ x. x.0.parts) refl l ∙ s.part;
      fresh = λ e. left_same _ _ _ _ (λ x. x.0.since) refl l ∙ s.fresh (sym h ∙ e);
      owed = left_same _ _ _ _ (λ x. x.0.entries) refl l ∙ (s.owed ∙ sym (left_same _ _ _ _ (λ x. (x.0.tally.settled ++ x.0.tally.fresh) ++ x.0.tally.due) refl l));
      last = last_same _ _ (left_same _ _ _ _ (λ x. length x.0.tally.fresh + length x.0.tally.due) refl l) s.last;
      calm = (left_same _ _ _ _ (λ x. x.0.pile.owes) refl l ∙ s.calm.0, left_same _ _ _ _ (λ x. x.0.pile.desk) (sym s.calm.1) l ∙ s.calm.1, left_same _ _ _ _ (λ x. x.0.pile.kept) refl l ∙ s.calm.2);
      even = left_even _ _ _ _ l s.even;
      balance = left_balance _ _ _ _ s.moved _ _ _ l n.ok n.err
          (c.len-count.ensures ∙ (c.args.ops.ok.0 ∙ (ap length c.requires.ops ∙ length_things s.token.me.0.pile.offered))) refl s.balance;
      clear = λ may. left_same _ _ _ _ (λ x. length x.0.tally.fresh) refl l ∙ s.clear (sym (left_same _ _ _ _ (λ x. x.0.tally.leave) refl l) ∙ may);
    }

pub returns : goal.returns
returns g c =
    let w = c.leave_works-left.ensures in
    let l : Left c.args.self.now.state.token.me c.leave_works-left.new.token.me c.args.ops c.leave_works-left.result = record { ok = w.ok; err = w.err } in
    record {
      hub = w.same.0;
      drawn = left_same _ _ _ _ (λ x. x.0.entries) refl l;
      held = left_same _ _ _ _ (λ x. x.0.held) refl l;
      since = left_same _ _ _ _ (λ x. x.0.since) refl l;
      tally = left_same _ _ _ _ (λ x. x.0.tally) refl l;
      room = (refl, refl);
      taken = (left_same _ _ _ _ (λ x. x.0.pile.taken) refl l, left_same _ _ _ _ (λ x. x.0.pile.took) refl l);
      empty = left_same _ _ _ _ (λ x. x.0.pile.empty) refl l;
      left = left_nothing _ _ _ _ l;
      back = left_back _ _ _ _ l;
    }
