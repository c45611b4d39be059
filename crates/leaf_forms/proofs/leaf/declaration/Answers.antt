use Rattle.grammar.specs.Rules.{Sort, last}
use Rattle.std.proofs.Common.{map}
use Rattle.calculus.specs.Meaning.{declared}
use Rattle.grammar.specs.Descent.{runs_text, runs_last}
use Rattle.token_cursor.proofs.Steps.{carry, declares, lacks, leave}
use Rattle.leaf_forms.proofs.leaf.declaration.Goals as goal

pub returns-in_err-name-clause-reads : goal.returns-in_err-name-clause-reads
returns-in_err-name-clause-reads c = λ free. leave (λ ds. last (Sort.DeclTail (map declared ds.items))) _ _ c.from_residual.ensures.1 (lacks _ c.in_err-name.ensures.reads)

pub returns-in_err-uri-clause-reads : goal.returns-in_err-uri-clause-reads
returns-in_err-uri-clause-reads c = λ free. leave (λ ds. last (Sort.DeclTail (map declared ds.items))) _ _ c.from_residual-in_err-uri.ensures.1 (runs_text c.in_ok-name.ensures.reads (runs_last (c.in_err-uri.ensures.reads _ _ _)))

pub returns-clause-reads : goal.returns-clause-reads
returns-clause-reads c = λ free. carry (λ ds. last (Sort.DeclTail (map declared ds.items))) _ _ (λ out h. runs_text c.in_ok-name.ensures.reads (runs_last (c.in_ok-uri.ensures.reads _ _ _ out h))) (declares _ _ _ _ _ c.declare.ensures)
