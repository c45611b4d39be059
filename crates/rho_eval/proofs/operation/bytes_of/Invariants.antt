use Rattle.std.proofs.Common.{◌≡◌, ◌+◌, length, drop, take, sum_by}
use Rattle.calculus.specs.Code.{code}
use Rattle.term_encoder.specs.Sizes.{in_u64}
use Rattle.rho_eval.proofs.operation.bytes_of.Given as goal

abbrev pub invariant-loop-term : goal.invariant-loop-term
invariant-loop-term l = l.bytes ≡ in_u64 (sum_by (λ v. length (code v)) (take l.term-index l.terms.items))
