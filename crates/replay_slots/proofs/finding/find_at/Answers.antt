use Rattle.std.proofs.Common.{◌≡◌, List, sym, ap, subst, ◌∙◌, map as each}
use Rattle.std.specs.Prelude.{Some, None, option_map, option_copied}
use Rattle.calculus.specs.Rows.{Row}
use Rattle.replay_space.specs.declared.seen.Seen.{Seen}
use Rattle.replay_rows.specs.Rows.{filed_rows, find_seen, part_of, seen_row}
use Rattle.replay_slots.specs.Hands.{Slot, IsSlotFiled, shown_at}
use Rattle.replay_slots.proofs.Placing.{found-first-of, found-second-of}
use Rattle.replay_slots.proofs.finding.find_at.Goals as goal

pub returns-in-Some-find : goal.returns-in-Some-find
returns-in-Some-find c =
    let x = c.args.id.now.0 in
    let kept = c.in-Some.kept in
    let found : find_seen x (filed_rows kept.rows.entries) ≡ Some (seen_row c.in-Some-find.seen.now) = sym (c.find.ensures (subst IsSlotFiled c.in-Some.is c.requires)) ∙ ap (λ r. option_map seen_row (option_copied r)) c.in-Some-find.is in
    sym (ap (λ (z : Slot). find_seen x (shown_at (option_map part_of z))) c.in-Some.is ∙ found-first-of x (filed_rows kept.rows.entries) (each seen_row kept.built.items) (seen_row c.in-Some-find.seen.now) found)

pub returns-in-None-find : goal.returns-in-None-find
returns-in-None-find c =
    let x = c.args.id.now.0 in
    let kept = c.in-Some.kept in
    let none : find_seen x (filed_rows kept.rows.entries) ≡ None = sym (c.find.ensures (subst IsSlotFiled c.in-Some.is c.requires)) ∙ ap (λ r. option_map seen_row (option_copied r)) c.in-None-find.is in
    c.find_built.ensures ∙ ap (λ (l : List (Seen Row)). find_seen x (each seen_row l)) c.as_slice.ensures.value
    ∙ sym (ap (λ (z : Slot). find_seen x (shown_at (option_map part_of z))) c.in-Some.is ∙ found-second-of x (filed_rows kept.rows.entries) (each seen_row kept.built.items) none)
