use Rattle.std.proofs.Common.{◌≡◌, false, take}
use Rattle.std.specs.List.{list_any}
use Rattle.join_index.specs.Groups.{same_group}
use Rattle.join_index.proofs.index.place_of.Given as goal

abbrev pub invariant-loop-i : goal.invariant-loop-i
invariant-loop-i l = list_any (λ e. same_group l.group e.group) (take l.i l.groups) ≡ false
