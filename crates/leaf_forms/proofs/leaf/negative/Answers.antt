use Rattle.std.proofs.Common.{refl, ap}
use Rattle.grammar.specs.Descent.{runs_sign, no_sign, runs_integer, no_integer}
use Rattle.grammar.specs.Values.{ground_of}
use Rattle.token_cursor.specs.Reading.{of_ground}
use Rattle.token_cursor.proofs.Steps.{ends, exit}
use Rattle.leaf_forms.proofs.leaf.negative.Goals as goal

pub returns-in_err-expect-clause-reads : goal.returns-in_err-expect-clause-reads
returns-in_err-expect-clause-reads c = λ side free. exit (of_ground side) _ _ c.from_residual.ensures.1 (no_sign c.in_err-expect.ensures.reads)

pub returns-in_err-value-clause-reads : goal.returns-in_err-value-clause-reads
returns-in_err-value-clause-reads c = λ side free. exit (of_ground side) _ _ c.from_residual-in_err-value.ensures.1 (runs_sign c.in_ok-expect.ensures.reads (no_integer c.in_err-value.ensures.reads))

pub returns-clause-reads : goal.returns-clause-reads
returns-clause-reads c = λ side free. runs_sign c.in_ok-expect.ensures.reads (runs_integer c.in_ok-value.ensures.reads (ends _ _ (ap (ground_of side) c.negative.ensures) refl))
