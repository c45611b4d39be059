use Rattle.std.proofs.Common.{◌≡◌, ◌-◌, List, sym, ap, ◌∙◌, take, drop, length}
use Rattle.std.specs.Prelude.{Some, None, option_map, option_copied}
use Rattle.replay_slots.proofs.Firsts.{first-of}
use Rattle.replay_rows.specs.Rows.{find_seen, part_of, seen_row}
use Rattle.replay_slots.specs.Hands.{Slot, all_shown, parts_of, shown_at}
use Rattle.replay_slots.proofs.Placing.{found-first-of, found-second-of}
use Rattle.replay_slots.proofs.finding.+find_in.Goals as goal

pub returns-in-Some : goal.returns-in-Some
returns-in-Some t c =
    let x = c.args.id.now.0 in
    let slots = c.args.slots.now in
    let first = c.first-item.result in
    let rest = take (length slots - 1) (drop 1 slots) in
    let found : find_seen x (shown_at (option_map part_of first)) ≡ Some (seen_row c.in-Some.seen.now) = sym c.find_at.ensures ∙ ap (λ r. option_map seen_row (option_copied r)) c.in-Some.is in
    sym (ap (λ (l : List Slot). find_seen x (all_shown (parts_of l))) (first-of slots first c.in-len1-up.len_at_least c.first-item.is) ∙ found-first-of x (shown_at (option_map part_of first)) (all_shown (parts_of rest)) (seen_row c.in-Some.seen.now) found)

pub returns-in-None : goal.returns-in-None
returns-in-None t c =
    let x = c.args.id.now.0 in
    let slots = c.args.slots.now in
    let first = c.first-item.result in
    let rest = take (length slots - 1) (drop 1 slots) in
    let none : find_seen x (shown_at (option_map part_of first)) ≡ None = sym c.find_at.ensures ∙ ap (λ r. option_map seen_row (option_copied r)) c.in-None.is in
    c.find_in.ensures ∙ sym (ap (λ (l : List Slot). find_seen x (all_shown (parts_of l))) (first-of slots first c.in-len1-up.len_at_least c.first-item.is) ∙ found-second-of x (shown_at (option_map part_of first)) (all_shown (parts_of rest)) none)
