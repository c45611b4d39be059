use Rattle.std.proofs.Common.{◌∙◌, sym, ap, subst}
use Rattle.std.specs.List.{All}
use Rattle.hub_rule.proofs.Seats.{join}
use Rattle.hub_rule.proofs.Sums.{empty_list}
use Rattle.hub_rule.proofs.Ends.{all_tail, out_of}
use Rattle.group_locks.specs.Seats.{AtRest}
use Rattle.group_locks.proofs.Gathering.{gathered_none, gathered_more, gathered_lists, gathered_known, room_first, room_next, fits_next}
use Rattle.group_locks.proofs.close.gather.Goals as goal

pub loop-seat-init : goal.loop-seat-init
loop-seat-init g c =
    let all = c.into_iter-seat-iterator.ensures.into_iter_gives.0 in
    record {
      table = c.requires.table.0;
      gathered = gathered_none _ _ _ _ _ all c.requires.start.1 c.requires.start.0;
      room = room_first _ _ _ _ c.requires.start.1 all c.requires.room;
      each = subst (λ l. All (λ s. AtRest c.args.board.now.table_id s.state) l) (sym all) c.requires.seats;
    }

pub join_seat-requires : goal.join_seat-requires
join_seat-requires g c =
    let m = g.S.Scene.meaning in
    let i = c.loop-seat.invariant in let seat = c.in-Some.seat in
    let here = all_tail (λ s. AtRest c.args.board.now.table_id s.state) _ _ _ c.in-Some.ensures.steps.0 i.each in
    let k = i.gathered.known in (
      i.table,
      here.0.0,
      out_of _ _ here.0.1 seat.state.out,
      c.requires.table.1,
      join m _ _ _ _ _ _ (ap (λ x. x.0.held) k) here.0.1 (ap (λ x. x.0.pile.owes) k, ap (λ x. x.0.pile.desk) k) (seat.state.calm.0, seat.state.calm.1),
    )

pub push_reserved-requires : goal.push_reserved-requires
push_reserved-requires g c = fits_next _ _ _ _ _ _ c.in-Some.ensures.steps.0 c.loop-seat.lists.ok.0 c.loop-seat.invariant.room

pub loop-seat-preserved : goal.loop-seat-preserved
loop-seat-preserved g c =
    let i = c.loop-seat.invariant in let next = c.in-Some.ensures.steps.0 in let seat = c.in-Some.seat in let p = c.push_reserved.ensures in
    let here = all_tail (λ s. AtRest c.args.board.now.table_id s.state) _ _ _ next i.each in
    record {
      table = c.join_seat.ensures.0 ∙ i.table;
      gathered = gathered_more _ _ _ _ _ _ _ _ _ _ i.gathered next p.items seat.state.told seat.state.part c.join_seat.ensures.2;
      room = room_next _ _ _ _ _ _ _ _ next p.items p.capacity i.room;
      each = here.1;
    }

pub returns : goal.returns
returns g c =
    let i = c.loop-seat.invariant in
    let none = empty_list c.loop-seat.seat-iterator.rest.items (sym c.loop-seat.seat-iterator.rest.ok.0 ∙ c.in-None.ensures.steps.0) in
    record {
      same = i.table ∙ sym c.requires.table.0;
      all = gathered_lists _ _ _ _ _ i.gathered none;
      view = gathered_known _ _ _ _ _ i.gathered none;
    }
