use Rattle.std.proofs.Common.{◌≡◌, ◌∙◌, ◌<◌, ◌≤◌, ℕ, length, get_or, subst, ap}
use Rattle.group_locks.proofs.Rooms.{counted_first, count_next, count_last, standing_first, standing_next, standing_last, wrapped_low, all_room}
use Rattle.group_locks.proofs.close.room_to_end.Goals as goal

pub loop-seat-init : goal.loop-seat-init
loop-seat-init g c = record {
  count = counted_first _;
  low = c.ranges.start.fits;
  standing = standing_first (λ s. s.state) c.args.seats.now.items c.args.start;
}

pub loop-seat-preserved : goal.loop-seat-preserved
loop-seat-preserved g c =
    let i = c.loop-seat.invariant in let e = c.seat-item.result in let k : ℕ = c.loop-seat.seat-index in let v = c.deref-seat-items.ensures.value in
    let lt = subst (λ l. k < length l) v c.loop-seat-test.true in
    let here : e ≡ get_or c.args.seats.now.items k e = c.seat-item.is ∙ ap (λ l. get_or l k e) v in
    record {
      count = count_next (λ s. s.state) c.args.seats.now.items k _ _ _ e i.count lt here (c.len.ensures ∙ e.state.entries.ok.0 ∙ ap length e.state.told) c.in_ok-count.ensures.1;
      low = wrapped_low _;
      standing = standing_next (λ s. s.state) c.args.seats.now.items k _ _ e i.standing lt here;
    }

pub returns : goal.returns
returns g c =
    let i = c.loop-seat.invariant in let xs = c.args.seats.now.items in let k : ℕ = c.loop-seat.seat-index in
    let past = subst (λ l. length l ≤ k) c.deref-seat-items.ensures.value c.loop-seat-test.false in
    let r = c.room_for.ensures in
    all_room (λ s. s.state) xs _ _ _ _ _ _ (c.len-2.ensures ∙ c.args.seats.now.ok.0) (count_last (λ s. s.state) xs k _ i.count past) i.low (standing_last (λ s. s.state) xs k _ _ i.standing past) r.drawn r.order r.shards r.left c.ok.ensures.value
