use Rattle.std.proofs.Common.{◌≡◌, drop, map as each}
use Rattle.std.specs.List.{list_any}
use Rattle.calculus.specs.declared.ids.Digest.{Digest}
use Rattle.replay_slots.specs.Hands.{all_shown, parts_of}
use Rattle.replay_rows.specs.Rows.{is_full}
use Rattle.replay_slots.proofs.full.are_full.Given as goal

abbrev pub invariant-loop-id : goal.invariant-loop-id
invariant-loop-id l =
    list_any (λ x. list_any (is_full x) (all_shown (parts_of l.slots))) (each (λ (d : Digest). d.0) l.ids) ≡ list_any (λ x. list_any (is_full x) (all_shown (parts_of l.slots))) (each (λ (d : Digest). d.0) (drop l.id-index l.ids))
