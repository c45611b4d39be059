use Rattle.std.proofs.Common.{ℕ, ◌≤◌, ◌<◌}
use Rattle.calculus.specs.Form.{HasVariable}
use Rattle.code_faults.specs.Scopes.{scope_of, sense_of}
use Rattle.code_fields.proofs.fields.begins_index.Given as goal

abbrev pub invariant-loop-index : goal.invariant-loop-index
invariant-loop-index l = (j : ℕ) → l.low ≤ j → j < l.index → HasVariable (scope_of l.scope.items) j (sense_of l.sense) → ⊥
