use Rattle.sources.proofs.Answering.{one_term, one_refusal, not_both}
use Rattle.sources.proofs.laws.one_answer.Goals as goal

pub returns-clause-one_term : goal.returns-clause-one_term
returns-clause-one_term c = one_term

pub returns-clause-one_refusal : goal.returns-clause-one_refusal
returns-clause-one_refusal c = one_refusal

pub returns-clause-not_both : goal.returns-clause-not_both
returns-clause-not_both c = not_both
