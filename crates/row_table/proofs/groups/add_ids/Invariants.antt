use Rattle.std.proofs.Common.{ℕ, List, take, Vec, Global}
use Rattle.row_search.specs.Rows.{IsIn}
use Rattle.row_table.specs.Groups.{HasId}
use Rattle.row_table.proofs.groups.add_ids.Given as goal

abbrev pub invariant-loop-key : goal.invariant-loop-key
invariant-loop-key l =
    record {
      there : (k : Vec ℕ Global) → IsIn k (take l.key-index l.keys) → HasId l.groups.entries k.items l.id.0;
      kept : (k : Vec ℕ Global) (x : List ℕ) → HasId l.initial.groups.entries k.items x → HasId l.groups.entries k.items x;
    }
