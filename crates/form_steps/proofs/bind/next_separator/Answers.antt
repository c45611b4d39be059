use Rattle.grammar.specs.Terminals.{sees}
use Rattle.grammar.specs.declared.mark.Mark.TheVariants.{Ampersand, Semicolon}
use Rattle.token_cursor.specs.Meaning.{view}
use Rattle.std.proofs.Common.{false, refl, sym, true, ◌∙◌, ◌≡◌}
use Rattle.form_steps.proofs.bind.next_separator.Goals as goal

pub returns-then-sees : goal.returns-then-sees
returns-then-sees c = λ k b. let x0 : sees Semicolon (view c.args.cursor.now.rest.now) ≡ true = sym c.sees.ensures ∙ c.if-sees.true in rw x0 refl

pub returns-then-sees-2 : goal.returns-then-sees-2
returns-then-sees-2 c = λ k b. let x0 : sees Semicolon (view c.args.cursor.now.rest.now) ≡ false = sym c.sees.ensures ∙ c.if-sees.false in let x1 : sees Ampersand (view c.args.cursor.now.rest.now) ≡ true = sym c.sees-2.ensures ∙ c.if-sees-2.true in rw (x0, x1) refl

pub returns : goal.returns
returns c = λ k b. let x0 : sees Semicolon (view c.args.cursor.now.rest.now) ≡ false = sym c.sees.ensures ∙ c.if-sees.false in let x1 : sees Ampersand (view c.args.cursor.now.rest.now) ≡ false = sym c.sees-2.ensures ∙ c.if-sees-2.false in rw (x0, x1) refl
