use Rattle.std.proofs.Common.{◌∙◌, [], refl}
use Rattle.hub_rule.specs.Rule.{newcomer}
use Rattle.hub_rule.proofs.Seats.{enter}
use Rattle.hub_rule.proofs.Ends.{at_end}
use Rattle.group_locks.proofs.Numbers.{some_words, charged_word, stop_word}
use Rattle.group_locks.proofs.Closing.{desks_fit, placed_once, ended}
use Rattle.group_locks.proofs.close.end.Goals as goal

pub load_new_seat-requires : goal.load_new_seat-requires
load_new_seat-requires g c = let m = g.S.Scene.meaning in (some_words _ c.args.hub.wide, enter m _ _ _ (newcomer 0, []))

pub gather-requires-clause-table : goal.gather-requires-clause-table
gather-requires-clause-table g c κs within = (c.load_new_seat.ensures.0, some_words _ c.args.hub.wide)

pub gather-requires-clause-start : goal.gather-requires-clause-start
gather-requires-clause-start g c κs within = (c.load_new_seat.ensures.2, c.requires.room.lists.0)

pub gather-requires-clause-seats : goal.gather-requires-clause-seats
gather-requires-clause-seats g c κs within = c.requires.seats

pub gather-requires-clause-room : goal.gather-requires-clause-room
gather-requires-clause-room g c κs within = c.requires.room.lists.1

pub close_with-closed-requires : goal.close_with-closed-requires
close_with-closed-requires g c = c.gather.ensures.same ∙ c.load_new_seat.ensures.0

pub word-charged-requires : goal.word-charged-requires
word-charged-requires g c = let w = c.close_with-closed.ensures in (charged_word _ _ w.counts.0 c.args.hub.wide, w.values.0)

pub word-stop_word-requires : goal.word-stop_word-requires
word-stop_word-requires g c = let w = c.close_with-closed.ensures in (stop_word _ _ w.counts.0 c.args.hub.wide, w.values.0)

pub take_shards-shards-requires-clause-slots : goal.take_shards-shards-requires-clause-slots
take_shards-shards-requires-clause-slots g c = let w = c.close_with-closed.ensures in (w.counts.1 ∙ c.args.hub.long, w.values.1)

pub take_shards-shards-requires-clause-home : goal.take_shards-shards-requires-clause-home
take_shards-shards-requires-clause-home g c =
    let m = g.S.Scene.meaning in
    let a = at_end m _ _ _ _ _ _ _ _ _ _ c.close_with-closed.ensures.values.2 c.gather.ensures.view refl c.requires.count in
    λ k lt. let h = a.home k lt in (h.0, h.1)

pub take_shards-shards-requires-clause-room : goal.take_shards-shards-requires-clause-room
take_shards-shards-requires-clause-room g c = c.requires.room.shards

pub take_left-left-requires-clause-slots : goal.take_left-left-requires-clause-slots
take_left-left-requires-clause-slots g c = c.take_shards-shards.ensures.left

pub take_left-left-requires-clause-desks : goal.take_left-left-requires-clause-desks
take_left-left-requires-clause-desks g c =
    let m = g.S.Scene.meaning in
    let a = at_end m _ _ _ _ _ _ _ _ _ _ c.close_with-closed.ensures.values.2 c.gather.ensures.view refl c.requires.count in
    desks_fit m c.args.hub.table.shared.key (λ s. s.state) c.args.seats.items _ _ _ a _ _ c.take_shards-shards.ensures.same c.requires.room.left.1

pub take_left-left-requires-clause-room : goal.take_left-left-requires-clause-room
take_left-left-requires-clause-room g c = c.requires.room.left.0

pub in_order-entries-requires-clause-once : goal.in_order-entries-requires-clause-once
in_order-entries-requires-clause-once g c =
    let m = g.S.Scene.meaning in
    let a = at_end m _ _ _ _ _ _ _ _ _ _ c.close_with-closed.ensures.values.2 c.gather.ensures.view refl c.requires.count in
    placed_once m c.args.hub.table.shared.key (λ s. s.state) c.args.seats.items _ _ _ a _ c.gather.ensures.all c.requires.room.order.0

pub in_order-entries-requires-clause-room : goal.in_order-entries-requires-clause-room
in_order-entries-requires-clause-room g c = let order = c.requires.room.order in (order.1, order.2)

pub returns : goal.returns
returns g c =
    let m = g.S.Scene.meaning in let s = c.take_shards-shards.ensures in let o = c.in_order-entries.ensures in
    let a = at_end m _ _ _ _ _ _ _ _ _ _ c.close_with-closed.ensures.values.2 c.gather.ensures.view refl c.requires.count in
    record {
      ended = ended m c.args.hub.table.shared.key (λ s. s.state) c.args.seats.items _ _ _ a _ _ _ _ _ _ _ c.gather.ensures.all (o.0 ∙ c.requires.room.order.0) o.1
          s.long s.items s.same c.take_left-left.ensures c.word-charged.ensures c.word-stop_word.ensures c.of_code-stop.ensures;
    }
