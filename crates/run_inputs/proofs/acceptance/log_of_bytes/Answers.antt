use Rattle.run_status.proofs.Handing.{handed}
use Rattle.run_inputs.proofs.Refusing.{log_cause}
use Rattle.run_inputs.proofs.acceptance.log_of_bytes.Goals as goal

pub returns-in_err-read_log-clause-refused : goal.returns-in_err-read_log-clause-refused
returns-in_err-read_log-clause-refused c = handed _ _ _ c.from_residual.ensures.1
    (λ s k. log_cause c.args.bytes.now c.in_err-read_log.field-0.0 s c.in_err-read_log.ensures.log k)
