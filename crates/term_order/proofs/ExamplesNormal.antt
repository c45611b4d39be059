-- Proofs of the examples of processes that are in normal order or not.
use Rattle.std.proofs.Common.{rules}
use Rattle.calculus.proofs.Opened.{computing}
use Rattle.term_order.specs.ExamplesNormal.{NormalExamples}

pub normal_examples : NormalExamples
unfolding computing
normal_examples =
    record {
      parts_ascend = search rules;
      parts_descend = λ h. cc h.0.0;
      repeats_stay = search rules;
      pairs_ascend = search rules;
      items_as_written = search rules;
      members_descend_inside = λ h. cc h.1.0.1.1.0.1.0.0.0;
    }
