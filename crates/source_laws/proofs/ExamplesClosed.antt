-- Proofs of the examples of what well-formedness asks for.
use Rattle.std.proofs.Common.{refl, arith}
use Rattle.calculus.proofs.Opened.{computing}
use Rattle.source_laws.specs.ExamplesClosed.{empty_tuple, no_binds, too_great, IsOnlyAccepted, ClosedExamples}

tuple_case : IsOnlyAccepted empty_tuple
unfolding computing
tuple_case = record { accepted = refl; not_closed = λ h. omega (arith, h.1.0.0); ill_formed = λ h. omega (arith, h.0.1) }

binds_case : IsOnlyAccepted no_binds
unfolding computing
binds_case = record { accepted = refl; not_closed = λ h. omega (arith, h.1.0.0.0); ill_formed = λ h. omega (arith, h.0.1.0) }

int_case : IsOnlyAccepted too_great
unfolding computing
int_case = record { accepted = refl; not_closed = λ h. omega (arith, h.1.0.0.1); ill_formed = λ h. omega (arith, h.0.0.1) }

pub closed_examples : ClosedExamples
closed_examples = record { of_an_empty_tuple = tuple_case; of_no_binds = binds_case; of_an_int = int_case }
