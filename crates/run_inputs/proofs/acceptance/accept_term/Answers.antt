use Rattle.std.proofs.Common.{refl}
use Rattle.input_faults.specs.Refusals.{refusal_of}
use Rattle.run_status.proofs.Handing.{handed}
use Rattle.run_inputs.proofs.Refusing.{fault_cause}
use Rattle.run_inputs.proofs.acceptance.accept_term.Goals as goal

pub returns-in_err-read_source-clause-cause : goal.returns-in_err-read_source-clause-cause
returns-in_err-read_source-clause-cause c = handed _ _ _ c.from_residual.ensures.1
    (λ s k. fault_cause c.args.source.now c.in_err-read_source.field-0.0 (refusal_of c.in_err-read_source.field-0.0) s refl c.in_err-read_source.ensures.refused k)
