use Rattle.scope.proofs.laws.normal_form_is_congruent.Goals as goal
use Rattle.scope.proofs.Normalizing.{normal_form_is_congruent}

pub returns : goal.returns
returns c = record { law = normal_form_is_congruent }
