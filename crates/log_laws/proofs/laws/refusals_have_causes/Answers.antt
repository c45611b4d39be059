use Rattle.log_laws.proofs.Refused.{refusals_have_causes}
use Rattle.log_laws.proofs.laws.refusals_have_causes.Goals as goal

pub returns : goal.returns
returns c = record { law = refusals_have_causes }
