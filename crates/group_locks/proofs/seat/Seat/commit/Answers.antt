use Rattle.std.proofs.Common.{◌∙◌, ◌+◌, ◌%◌, ◌^◌, ◌∷◌, ◌++◌, ℕ, List, [], length, length-append, append_assoc, sym, ap, subst}
use Rattle.std.proofs.lemmas.Bool.{false≢true}
use Rattle.hub_rule.specs.declared.view.View.{View}
use Rattle.hub_rule.specs.Counts.{count}
use Rattle.hub_rule.specs.Rule.{Carries, below, descends, emptied, since_after}
use Rattle.hub_rule.specs.Works.{hand}
use Rattle.hub_rule.proofs.Offers.{hand_is}
use Rattle.hub_steps.proofs.Groups.{carries_drawn}
use Rattle.group_locks.proofs.Numbers.{last_due, few_told, room_to_draw, whole_part}
use Rattle.group_locks.proofs.seat.Seat.commit.Goals as goal

pub draw_and_tell-number-requires-clause-may : goal.draw_and_tell-number-requires-clause-may
draw_and_tell-number-requires-clause-may g c κs inside =
    let s = c.args.self.now.state in let r = c.requires in
    record {
      room = room_to_draw _ _ (few_told _ _ _ s.entries.ok.0 (ap length s.told) r.room.1) s.part;
      within = r.within;
      part = whole_part _ s.part;
      index = r.work.0;
      work = (s.calm.2, r.work.1, r.left);
      told = s.calm.0;
      few = r.few;
      before = r.allowed.0;
      follows = r.allowed.1;
      tells = r.allowed.2;
    }

pub draw_and_tell-number-requires-clause-counted : goal.draw_and_tell-number-requires-clause-counted
draw_and_tell-number-requires-clause-counted g c κs inside =
    let s = c.args.self.now.state in let r = c.requires in
    s.even ∙ ap length (hand_is s.token.me.0.pile r.work.0 _ s.calm.2 r.work.1 r.left)

pub invariant_of-state : goal.invariant_of-state
invariant_of-state g c =
    let E : Type 0 = g.row.S-Entry.Denot in let X : Type 0 = g.row.S-Shard.Denot in
    let e = c.draw_and_tell-number.ensures.drawn.1 in let s = c.args.self.now.state in let t = s.token.me.0.tally in
    let x : List (ℕ × E) = (c.draw_and_tell-number.result, c.args.entry) ∷ [] in
    let since : List E = s.token.me.0.since ++ c.args.entry ∷ [] in
    record {
      told = c.push_reserved.ensures.items ∙ (ap {A = List (ℕ × E)} (λ l. l ++ x) s.told ∙ sym (ap (λ m. m.0.entries) e));
      out = ap (λ m. m.1) e ∙ (s.out ∙ sym (ap (λ m. emptied m.0.held) e));
      falls = (ap (λ m. below 64 m.0.held) e ∙ s.falls.0, ap (λ m. descends m.0.held) e ∙ s.falls.1);
      bits = λ k lt. s.bits k lt ∙ sym (ap (λ m. count k m.0.held) e);
      part = ap (λ m. m.0.parts) e ∙ s.part;
      near = s.near;
      calm = (ap (λ m. m.0.pile.owes) e, ap (λ m. m.0.pile.desk) e ∙ s.calm.1, ap (λ m. m.0.pile.kept) e ∙ s.calm.2);
      even = ap (λ m. m.0.pile.counted) e ∙ sym (ap (λ m. length (hand m.0.pile)) e);
      balance = ap (λ m. (s.moved + m.0.pile.fetched) % 2 ^ 64) e ∙ (s.balance ∙ sym (ap (λ m. m.0.pile.left % 2 ^ 64) e));
      fresh = λ h. ap (λ m. m.0.since) e ∙ ap {A = List (ℕ × X)} (λ l. since_after l since) (sym (ap (λ m. m.0.held) e) ∙ h);
      owed = ap (λ m. m.0.entries) e ∙ (ap {A = List (ℕ × E)} (λ l. l ++ x) s.owed ∙ (append_assoc (t.settled ++ t.fresh) t.due x ∙ sym (ap (λ m. (m.0.tally.settled ++ m.0.tally.fresh) ++ m.0.tally.due) e)));
      last = last_due (length t.fresh) (length t.due) _ _ _ (ap (λ m. length m.0.tally.fresh) e) (s.clear c.requires.leave) (ap (λ m. length m.0.tally.due) e) (length-append t.due x) (ap length c.requires.charged);
      clear = λ may. absurd (false≢true (sym (ap (λ m. m.0.tally.leave) e) ∙ may));
    }

pub returns : goal.returns
returns g c =
    let m = g.S.Scene.meaning in
    let E : Type 0 = g.row.S-Entry.Denot in let X : Type 0 = g.row.S-Shard.Denot in let W : Type 0 = g.row.S-Work.Denot in
    let d = c.draw_and_tell-number.ensures in let e = d.drawn.1 in let s = c.args.self.now.state in
    let x : List (ℕ × E) = (c.draw_and_tell-number.result, c.args.entry) ∷ [] in
    let v : View E X W = s.token.me.0 in
    let f = g.S.Scene.in_hand c.args.held.now in
    let P : View E X W → Type 0 = λ w. Carries m w.since w.held f in
    record {
      hub = d.same.0;
      drawn = ap (λ m. m.0.entries) e;
      tally = ap (λ m. m.0.tally) e;
      due = ap (λ m. m.0.tally.due) e ∙ ap {A = List (ℕ × E)} (λ l. l ++ x) c.requires.charged;
      taken = ap (λ m. m.0.pile.taken) e;
      offered = (d.drawn.0, ap (λ m. m.0.pile.offered) e);
      took = ap (λ m. m.0.pile.took) e;
      held = ap (λ m. m.0.held) e;
      since = ap (λ m. m.0.since) e;
      carries = subst P (sym (ap (λ m. m.0) e)) (carries_drawn m f (v.since ++ c.args.entry ∷ []) v.held c.requires.carries);
    }
