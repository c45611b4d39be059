use Rattle.calculus.specs.declared.plain.Rest.TheVariants as rests
use Rattle.grammar.specs.Values.{any_rest, leaf}
use Rattle.grammar.specs.declared.mark.Mark.TheVariants.{Underscore}
use Rattle.grammar.specs.Terminals.{sees}
use Rattle.token_cursor.specs.Meaning.{view}
use Rattle.std.proofs.Common.{◌≡◌, refl, sym, ◌∙◌, true, false}
use Rattle.grammar.specs.Descent.{runs_done, runs_text}
use Rattle.token_cursor.specs.Reading.{of_rest}
use Rattle.token_cursor.proofs.Steps.{closes, exit, lacks}
use Rattle.leaf_forms.proofs.leaf.remainder.Goals as goal

pub returns-then-sees-clause-reads : goal.returns-then-sees-clause-reads
returns-then-sees-clause-reads c = λ free. let b : sees Underscore (view c.args.cursor.now.rest.now) ≡ true = sym c.sees.ensures ∙ c.if-sees.true in rw b (closes _ of_rest rests.Wild (leaf any_rest) _ c.closed.ensures.reads refl refl)

pub returns-in_err-name-clause-reads : goal.returns-in_err-name-clause-reads
returns-in_err-name-clause-reads c = λ free. exit of_rest _ _ c.from_residual.ensures.1 (let b : sees Underscore (view c.args.cursor.now.rest.now) ≡ false = sym c.sees.ensures ∙ c.if-sees.false in rw b (lacks _ c.in_err-name.ensures.reads))

pub returns-clause-reads : goal.returns-clause-reads
returns-clause-reads c = λ free. let b : sees Underscore (view c.args.cursor.now.rest.now) ≡ false = sym c.sees.ensures ∙ c.if-sees.false in rw b (runs_text c.in_ok-name.ensures.reads runs_done)
