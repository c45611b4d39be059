use Rattle.std.proofs.Common.{◌≤◌, ◌+◌, List, refl, sym, ap, subst, ◌∙◌, arith, map as each}
use Rattle.std.specs.Prelude.{Some, Result, Ok, Err, OnOk, IsSome, vec_len, vec_capacity}
use Rattle.std.specs.declared.alloc.AllocError.{AllocError}
use Rattle.std.specs.BTreeMap.{insert_entry}
use Rattle.calculus.specs.Rows.{Row}
use Rattle.replay_space.specs.declared.seen.Seen.{Seen}
use Rattle.replay_rows.specs.Filing.{Filed, HasRoom, AllHave}
use Rattle.replay_rows.specs.Rows.{seen_row, id_of, filed_rows, AreFiled}
use Rattle.replay_rows.proofs.Filing.{order, not-found, put-nothing, set-same}
use Rattle.replay_rows.proofs.Under.{under-put, under-set}
use Rattle.replay_rows.proofs.rows.make_room.Goals as goal

pub returns-in-Some-clause-same : goal.returns-in-Some-clause-same
returns-in-Some-clause-same c =
    ap (λ (es : List (Filed (Seen Row))). filed_rows es) (c.get_mut.follows.holds c.reserve.new.self).0
    ∙ set-same seen_row c.args.id.now.0 c.in-Some.list.now c.reserve.new.self c.args.rows.now.entries (sym c.in-Some.ensures.value) c.reserve.ensures.items

pub returns-in-Some-clause-filed : goal.returns-in-Some-clause-filed
returns-in-Some-clause-filed c u =
    subst AreFiled (sym (c.get_mut.follows.holds c.reserve.new.self).0)
    (under-set seen_row id_of c.args.id.now.0 c.in-Some.list.now c.reserve.new.self c.args.rows.now.entries u (sym c.in-Some.ensures.value)
    (λ h. subst (λ (l : List (Seen Row)). AllHave id_of c.args.id.now.0 (each seen_row l)) (sym c.reserve.ensures.items) h))

pub returns-in-Some-clause-room : goal.returns-in-Some-clause-room
returns-in-Some-clause-room c = go c.reserve.result c.reserve.ensures.ok
  where
    here : IsSome (Some c.in-Some.list.now)
    here = refl

    go : (r : Result (Unit {0}) AllocError) → OnOk r (vec_len c.reserve.new.self + 1 ≤ vec_capacity c.reserve.new.self) → OnOk r (HasRoom c.args.id.now.0 (c.get_mut.follows.lender c.reserve.new.self).entries)
    go (Err e) h = tt
    go (Ok u) h = record {
      under = c.reserve.new.self;
      found = ((c.get_mut.follows.holds c.reserve.new.self).3 (subst IsSome c.in-Some.ensures.value here)).1;
      room = omega (arith, h);
    }

pub returns-in_ok-insert-in-None-clause-same : goal.returns-in_ok-insert-in-None-clause-same
returns-in_ok-insert-in-None-clause-same c =
    ap (λ (es : List (Filed (Seen Row))). filed_rows es) (c.in_ok-insert-in-None.ensures.entries ∙ ap (λ m. insert_entry order m.entries c.args.id.now.0 c.in_ok-list-in-None.list) c.get_mut.follows.holds-at-none)
    ∙ put-nothing seen_row c.args.id.now.0 c.in_ok-list-in-None.list c.args.rows.now.entries c.in_ok-list-in-None.ensures.items (not-found c.args.id.now.0 c.args.rows.now.entries (sym c.in-None.ensures.value))

pub returns-in_ok-insert-in-None-clause-filed : goal.returns-in_ok-insert-in-None-clause-filed
returns-in_ok-insert-in-None-clause-filed c u =
    subst AreFiled (sym (c.in_ok-insert-in-None.ensures.entries ∙ ap (λ m. insert_entry order m.entries c.args.id.now.0 c.in_ok-list-in-None.list) c.get_mut.follows.holds-at-none))
    (under-put seen_row id_of c.args.id.now.0 c.in_ok-list-in-None.list c.args.rows.now.entries c.in_ok-list-in-None.ensures.items u)

pub returns-in_ok-insert-in-None-clause-room : goal.returns-in_ok-insert-in-None-clause-room
returns-in_ok-insert-in-None-clause-room c = record {
  under = c.in_ok-list-in-None.list;
  found = c.in_ok-insert-in-None.ensures.updates.1;
  room = omega (arith, c.in_ok-list-in-None.ensures.len, c.in_ok-list-in-None.ensures.capacity);
}
