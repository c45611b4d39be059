use Rattle.grammar.specs.declared.dialect.Dialect.TheVariants.{Tutorial}
use Rattle.grammar.specs.declared.mark.Mark.TheVariants.{Comma}
use Rattle.grammar.specs.Grammar.{rule}
use Rattle.grammar.specs.Productions.{Prod}
use Rattle.grammar.specs.Terminals.{sees}
use Rattle.token_cursor.specs.Meaning.{view}
use Rattle.std.proofs.Common.{◌≡◌, map, sym, ◌∙◌, arith, true, false}
use Rattle.calculus.specs.Meaning.{declared}
use Rattle.grammar.specs.Descent.{no_sign, runs_last, runs_sign}
use Rattle.token_cursor.proofs.Steps.{leave, names_as}
use Rattle.leaf_forms.proofs.leaf.declarations.Goals as goal

pub returns-in_err-names-clause-reads : goal.returns-in_err-names-clause-reads
returns-in_err-names-clause-reads c = λ free. leave (λ ds. rule Tutorial (Prod.decl_body (map declared ds.items))) _ _ c.from_residual.ensures.1 (runs_last (names_as c.no_names-none.ensures (c.in_err-names.ensures.reads free)))

pub returns-in_err-names-2-clause-reads : goal.returns-in_err-names-2-clause-reads
returns-in_err-names-2-clause-reads c = λ free. leave (λ ds. rule Tutorial (Prod.decl_body (map declared ds.items))) _ _ c.from_residual-in_err-names-2.ensures.1 (c.loop-cursor.invariant.turns free _ (runs_last (let b : sees Comma (view c.loop-cursor.cursor.rest.now) ≡ true = sym c.sees.ensures ∙ c.loop-cursor-test.true in rw b (runs_sign c.in_ok-expect.ensures.reads (runs_last (c.in_err-names-2.ensures.reads free))))))

pub returns-in_err-expect-clause-reads : goal.returns-in_err-expect-clause-reads
returns-in_err-expect-clause-reads c = λ free. leave (λ ds. rule Tutorial (Prod.decl_body (map declared ds.items))) _ _ c.from_residual-in_err-expect.ensures.1 (c.loop-cursor.invariant.turns free _ (runs_last (let b : sees Comma (view c.loop-cursor.cursor.rest.now) ≡ true = sym c.sees.ensures ∙ c.loop-cursor-test.true in rw b (no_sign c.in_err-expect.ensures.reads))))

pub loop-cursor-init : goal.loop-cursor-init
loop-cursor-init c = record { turns = λ free out h. runs_last (names_as c.no_names-none.ensures (c.in_ok-names.ensures.reads free out h)); shorter = omega (arith, c.in_ok-names.ensures.shorter) }

pub loop-cursor-preserved : goal.loop-cursor-preserved
loop-cursor-preserved c = record { turns = λ free out h. c.loop-cursor.invariant.turns free _ (runs_last (let b : sees Comma (view c.loop-cursor.cursor.rest.now) ≡ true = sym c.sees.ensures ∙ c.loop-cursor-test.true in rw b (runs_sign c.in_ok-expect.ensures.reads (runs_last (c.in_ok-names-2.ensures.reads free out h))))); shorter = omega (arith, c.in_ok-expect.ensures.shorter, c.in_ok-names-2.ensures.shorter) }

pub returns-clause-reads : goal.returns-clause-reads
returns-clause-reads c = λ free out h. c.loop-cursor.invariant.turns free _ (runs_last (let b : sees Comma (view c.loop-cursor.cursor.rest.now) ≡ false = sym c.sees.ensures ∙ c.loop-cursor-test.false in rw b h))
