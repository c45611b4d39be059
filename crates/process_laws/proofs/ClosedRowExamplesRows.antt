-- Proofs of the examples of rows that are closed, and of some that are not.
use Rattle.std.proofs.Common.{rules, arith}
use Rattle.process_laws.specs.ClosedRowExamples.{ClosedRowExamples}
use Rattle.process_laws.proofs.Meeting.{stdout-closed, stdout_ack-closed}

pub closed_row_examples : ClosedRowExamples
closed_row_examples =
    record {
      built_ins = (stdout-closed, (stdout_ack-closed, tt));
      variable_is_bound = search (rules, arith);
      variable_is_open = λ h. h.0.1.1.0.1.0.1.0.0;
      all_count = λ h. h.1.0.1.1.0.1.0.1.0.0;
    }
