use Rattle.std.proofs.Common.{All, take}
use Rattle.rho_eval.specs.Values.{IsOwnValue}
use Rattle.rho_term.specs.Parts.{part_tree}
use Rattle.rho_eval.proofs.owned.are_own_values.Given as goal

abbrev pub invariant-loop-part : goal.invariant-loop-part
invariant-loop-part l = All (λ q. IsOwnValue (part_tree q)) (take l.part-index l.parts)
