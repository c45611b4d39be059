-- Proofs of the examples of congruent processes and what they come to.
use Rattle.std.proofs.Common.{refl, arith}
use Rattle.calculus.proofs.Opened.{computing}
use Rattle.process_laws.specs.ValuedExamples.{SameExamples}

pub same_examples : SameExamples
unfolding computing
same_examples =
    record {
      members_in_any_order = (refl, refl);
      first_fault_in_any_order = (refl, refl);
      same_pair_stays = (refl, refl);
      price_counts = λ h. omega (arith, h.0);
    }
