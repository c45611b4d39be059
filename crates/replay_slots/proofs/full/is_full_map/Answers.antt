use Rattle.std.proofs.Common.{List, sym, ap, ◌∙◌, map as each}
use Rattle.std.specs.List.{list_any}
use Rattle.calculus.specs.Rows.{Row}
use Rattle.replay_space.specs.declared.seen.Seen.{Seen}
use Rattle.replay_rows.specs.Rows.{is_full, seen_row}
use Rattle.replay_slots.proofs.Fullness.{full-absent, full-found}
use Rattle.replay_slots.proofs.full.is_full_map.Goals as goal

pub returns-in-None : goal.returns-in-None
returns-in-None c = full-absent c.args.id.now.0 c.args.rows.now.entries c.requires (sym c.in-None.ensures.value)

pub returns-in-Some : goal.returns-in-Some
returns-in-Some c =
    c.is_full_list.ensures ∙ ap (λ (l : List (Seen Row)). list_any (is_full c.args.id.now.0) (each seen_row l)) c.as_slice.ensures.value
    ∙ full-found c.args.id.now.0 c.in-Some.list.now c.args.rows.now.entries c.requires c.len-size.ensures.ordered (sym c.in-Some.ensures.value)
