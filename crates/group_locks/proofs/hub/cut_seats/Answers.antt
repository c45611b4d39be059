use Rattle.std.proofs.Common.{◌≡◌, ◌∙◌, ◌+◌, ◌-◌, ap, length, length-append, [], ◌∷◌, ℕ}
use Rattle.hub_rule.specs.Rule.{newcomer, blank, cut_left}
use Rattle.hub_rule.specs.Works.{bare}
use Rattle.hub_rule.specs.declared.view.View.{View}
use Rattle.hub_rule.proofs.Seats.{cut}
use Rattle.hub_rule.proofs.Opens.{cut_newcomer, all_push, all_to}
use Rattle.group_locks.proofs.Numbers.{parts_left, one_less, some_left, one_made, same_room, from_one, first_made, none_made, few_desks, fits_seat, fits_last, all_cut, one_left}
use Rattle.group_locks.proofs.hub.cut_seats.Goals as goal

pub loop-number-init : goal.loop-number-init
loop-number-init g c =
    let E : Type 0 = g.row.S-Entry.Denot in let X : Type 0 = g.row.S-Shard.Denot in let W : Type 0 = g.row.S-Work.Denot in
    let none = c.requires.room.0 in
    record {
      table = c.requires.table.0;
      me = c.requires.parts.0 ∙ ap {A = ℕ} (λ n. (newcomer {E = E} {X = X} {W = W} n, [])) (from_one c.args.seats);
      count = first_made _ (ap length none);
      len = first_made _ (c.args.made.ok.0 ∙ ap length none);
      room = c.requires.room.1;
      each = none_made (λ s. (s.state.token.table_id ≡ c.args.board.now.table_id) × (s.state.token.me.0 ≡ newcomer 1)) c.args.made.items none;
    }

pub new_seat-requires-clause-desk : goal.new_seat-requires-clause-desk
new_seat-requires-clause-desk g c κs within = few_desks _ c.args.seats c.loop-number-test.true c.requires.parts.2

pub new_seat-requires-clause-token : goal.new_seat-requires-clause-token
new_seat-requires-clause-token g c κs within = c.split_seat-other.ensures.4

pub push_reserved-requires : goal.push_reserved-requires
push_reserved-requires g c = fits_seat _ _ c.args.seats _ c.loop-number.invariant.len c.loop-number-test.true c.loop-number.invariant.room

pub new_seat-requires-2-clause-token : goal.new_seat-requires-2-clause-token
new_seat-requires-2-clause-token g c κs within =
    let E : Type 0 = g.row.S-Entry.Denot in let X : Type 0 = g.row.S-Shard.Denot in let W : Type 0 = g.row.S-Work.Denot in
    c.loop-number.invariant.me ∙ ap {A = ℕ} (λ n. (newcomer {E = E} {X = X} {W = W} n, [])) (one_left c.args.seats c.loop-number.number (all_cut _ c.args.seats (c.loop-number.auto.number-end c.requires.parts.1) c.loop-number-test.false))

pub push_reserved-requires-2 : goal.push_reserved-requires-2
push_reserved-requires-2 g c = fits_last _ _ c.args.seats _ c.loop-number.invariant.len (c.loop-number.auto.number-end c.requires.parts.1) c.loop-number.invariant.room

pub split_seat-other-requires : goal.split_seat-other-requires
split_seat-other-requires g c =
    let m = g.S.Scene.meaning in
    let i = c.loop-number.invariant in
    let some = c.loop-number-test.true in (
      i.table,
      c.requires.table.1,
      cut m _ _ _ c.loop-number.token.me.0 (parts_left c.args.seats c.loop-number.number _ (ap (λ x. x.0.parts) i.me) some) (ap (λ x. x.0.entries) i.me) (ap (λ x. x.0.held) i.me) (ap (λ x. x.0.tally) i.me) (ap (λ x. x.0.pile) i.me),
    )

pub loop-number-preserved : goal.loop-number-preserved
loop-number-preserved g c =
    let m = g.S.Scene.meaning in
    let E : Type 0 = g.row.S-Entry.Denot in let X : Type 0 = g.row.S-Shard.Denot in let W : Type 0 = g.row.S-Work.Denot in
    let i = c.loop-number.invariant in let e = c.split_seat-other.ensures in let some = c.loop-number-test.true in let p = c.push_reserved.ensures in let f = c.new_seat.ensures in
    let n : ℕ = c.args.seats + 1 - c.loop-number.number in
    let less : n - 1 ≡ c.args.seats + 1 - (c.loop-number.number + 1) = one_less c.args.seats c.loop-number.number in
    let left : cut_left {E = E} {X = X} {W = W} (newcomer n) ≡ newcomer (c.args.seats + 1 - (c.loop-number.number + 1)) = cut_newcomer m n (some_left c.args.seats c.loop-number.number some) ∙ ap {A = ℕ} (newcomer {E = E} {X = X} {W = W}) less in
    record {
      table = e.0 ∙ i.table;
      me = e.2 ∙ (ap (λ x. (cut_left x.0, x.1)) i.me ∙ ap {A = View E X W} (λ v. (v, [])) left);
      count = one_made _ _ _ (ap length p.items ∙ length-append c.loop-number.made.items (c.new_seat.result ∷ [])) i.count;
      len = one_made _ _ _ p.len i.len;
      room = same_room _ _ _ p.capacity i.room;
      each = all_push (λ s. (s.state.token.table_id ≡ c.args.board.now.table_id) × (s.state.token.me.0 ≡ newcomer 1)) _ _ c.new_seat.result p.items i.each
          (ap (λ q. q.table_id) f ∙ (e.3 ∙ i.table), ap (λ q. q.me.0) f ∙ ap (λ x. x.0) e.4);
    }

pub returns-clause-count : goal.returns-clause-count
returns-clause-count g c =
    ap length c.push_reserved-2.ensures.items ∙ (length-append c.loop-number.made.items (c.new_seat-2.result ∷ [])
    ∙ (c.loop-number.invariant.count ∙ all_cut _ c.args.seats (c.loop-number.auto.number-end c.requires.parts.1) c.loop-number-test.false))

pub returns-clause-rest : goal.returns-clause-rest
returns-clause-rest g c = let i = c.loop-number.invariant in let p = c.push_reserved-2.ensures in let f = c.new_seat-2.ensures in
    let E : Type 0 = g.row.S-Entry.Denot in let X : Type 0 = g.row.S-Shard.Denot in let W : Type 0 = g.row.S-Work.Denot in
    all_push (λ s. (s.state.token.table_id ≡ c.args.board.now.table_id) × (s.state.token.me.0.held ≡ [])) _ _ c.new_seat-2.result p.items
    (all_to (λ s. (s.state.token.table_id ≡ c.args.board.now.table_id) × (s.state.token.me.0 ≡ newcomer 1)) (λ s. (s.state.token.table_id ≡ c.args.board.now.table_id) × (s.state.token.me.0.held ≡ []))
    (λ s h. (h.0, ap {A = View E X W} (λ v. v.held) h.1)) _ i.each)
    (ap (λ q. q.table_id) f ∙ i.table, ap (λ q. q.me.0.held) f ∙ ap (λ x. x.0.held) i.me)

pub returns-clause-drawn : goal.returns-clause-drawn
returns-clause-drawn g c = let i = c.loop-number.invariant in let p = c.push_reserved-2.ensures in let f = c.new_seat-2.ensures in
    let E : Type 0 = g.row.S-Entry.Denot in let X : Type 0 = g.row.S-Shard.Denot in let W : Type 0 = g.row.S-Work.Denot in
    all_push (λ s. (s.state.token.me.0.entries ≡ []) × (s.state.token.me.0.tally ≡ blank) × (s.state.token.me.0.pile ≡ bare)) _ _ c.new_seat-2.result p.items
    (all_to (λ s. (s.state.token.table_id ≡ c.args.board.now.table_id) × (s.state.token.me.0 ≡ newcomer 1)) (λ s. (s.state.token.me.0.entries ≡ []) × (s.state.token.me.0.tally ≡ blank) × (s.state.token.me.0.pile ≡ bare))
    (λ s h. (ap {A = View E X W} (λ v. v.entries) h.1, ap {A = View E X W} (λ v. v.tally) h.1, ap {A = View E X W} (λ v. v.pile) h.1)) _ i.each)
    (ap (λ q. q.me.0.entries) f ∙ ap (λ x. x.0.entries) i.me, ap (λ q. q.me.0.tally) f ∙ ap (λ x. x.0.tally) i.me, ap (λ q. q.me.0.pile) f ∙ ap (λ x. x.0.pile) i.me)
