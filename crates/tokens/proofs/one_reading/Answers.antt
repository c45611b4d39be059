use Rattle.tokens.proofs.OneReading.{same_outcome}
use Rattle.tokens.proofs.one_reading.Goals as goal

pub returns-clause-one_list : goal.returns-clause-one_list
returns-clause-one_list c n text xs ys p q = let same = same_outcome p q in cc

pub returns-clause-one_refusal : goal.returns-clause-one_refusal
returns-clause-one_refusal c n text r s p q = let same = same_outcome p q in cc

pub returns-clause-not_both : goal.returns-clause-not_both
returns-clause-not_both c n text xs r p q = let same = same_outcome p q in cc
