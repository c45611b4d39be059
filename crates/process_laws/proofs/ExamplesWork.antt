-- Proofs of the examples of processes that unfold alike.
use Rattle.std.proofs.Common.{refl, arith}
use Rattle.calculus.proofs.Opened.{computing}
use Rattle.process_laws.specs.CongruentExamples.{SameWorkExamples}

pub same_work_examples : SameWorkExamples
unfolding computing
same_work_examples =
    record {
      bodies_in_any_order = (refl, ((refl, refl, refl), tt));
      one_fault = (refl, refl);
      rows_count = λ h. cc (h.1.0.1);
      price_counts = λ h. omega (arith, h.0);
      fault_counts = λ h. cc (h.1);
      cap_counts = λ h. h;
    }
