use Rattle.std.proofs.Common.{◌≢◌, ℕ, List, Vec, Global}
use Rattle.row_table.specs.Groups.{HasId}
use Rattle.row_table.proofs.groups.remove_ids.Given as goal

abbrev pub invariant-loop-key : goal.invariant-loop-key
invariant-loop-key l = (k : Vec ℕ Global) (x : List ℕ) → x ≢ l.id.0 → HasId l.initial.groups.entries k.items x → HasId l.groups.entries k.items x
