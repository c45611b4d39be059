use Rattle.std.proofs.Common.{◌+◌, ap}
use Rattle.calculus.specs.Meaning.{pat_written}
use Rattle.grammar.specs.Descent.{runs_sign, no_sign, runs_text}
use Rattle.grammar.specs.Values.{same_of}
use Rattle.token_cursor.specs.Reading.{of_pat}
use Rattle.token_cursor.proofs.Steps.{built_as, exit, lacks}
use Rattle.leaf_forms.proofs.leaf.same_drop.Goals as goal

pub returns-in_err-expect-clause-reads : goal.returns-in_err-expect-clause-reads
returns-in_err-expect-clause-reads c = λ free. exit (of_pat) _ _ c.from_residual.ensures.1 (no_sign c.in_err-expect.ensures.reads)

pub returns-in_err-name-clause-reads : goal.returns-in_err-name-clause-reads
returns-in_err-name-clause-reads c = λ free. exit (of_pat) _ _ c.from_residual-in_err-name.ensures.1 (runs_sign c.in_ok-expect.ensures.reads (lacks _ c.in_err-name.ensures.reads))

pub returns-clause-reads : goal.returns-clause-reads
returns-clause-reads c = λ free. runs_sign c.in_ok-expect.ensures.reads (runs_text c.in_ok-name.ensures.reads (built_as pat_written _ _ _ (ap same_of c.dropped_word-body.ensures.tree) (ap (λ n. n + 1) c.dropped_word-body.ensures.height) c.same.ensures.tree c.same.ensures.height))
