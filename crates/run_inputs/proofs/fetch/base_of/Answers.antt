use Rattle.std.proofs.Common.{List, ℕ, subst}
use Rattle.run_inputs.specs.Bases.{IsStateOf}
use Rattle.run_inputs.specs.Refused.{StateCause}
use Rattle.run_status.proofs.Handing.{handed}
use Rattle.run_inputs.proofs.Refusing.{state_cause}
use Rattle.run_inputs.proofs.fetch.base_of.Goals as goal

pub returns-clause-state : goal.returns-clause-state
returns-clause-state c = subst (λ (bytes : List ℕ). IsStateOf bytes c.in_ok-checkpoint.checkpoint) c.as_slice.ensures.value c.in_ok-checkpoint.ensures.read

pub returns-in_err-checkpoint-clause-cause : goal.returns-in_err-checkpoint-clause-cause
returns-in_err-checkpoint-clause-cause c = handed _ _ _ c.from_residual.ensures.1
    (λ s k. subst (λ (bytes : List ℕ). StateCause bytes s) c.as_slice.ensures.value (state_cause c.as_slice.result.now c.in_err-checkpoint.field-0.0 s c.in_err-checkpoint.ensures.refused k))
