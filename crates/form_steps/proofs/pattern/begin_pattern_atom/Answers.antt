use Rattle.grammar.specs.Choice.{sees_text}
use Rattle.grammar.specs.Grammar.{rule}
use Rattle.grammar.specs.Terminals.{a_word, sees}
use Rattle.grammar.specs.declared.dialect.Dialect.TheVariants.{Tutorial}
use Rattle.grammar.specs.declared.mark.Mark.TheVariants.{Underscore}
use Rattle.form_steps.specs.Steps.{HasRoomForPattern, PassesPattern, after_pattern_step}
use Rattle.form_steps.proofs.Opened.{begins_as, least, level, stays_so}
use Rattle.form_steps.proofs.Turning.{typed, untyped}
use Rattle.token_cursor.specs.Meaning.{view}
use Rattle.std.proofs.Common.{ap, false, refl, sym, true, ◌∙◌, ◌≡◌}
use Rattle.form_steps.proofs.pattern.begin_pattern_atom.Goals as goal

pub returns-then-sees_word : goal.returns-then-sees_word
returns-then-sees_word c = let w : sees_text a_word (view c.args.cursor.now.rest.now) ≡ true = sym c.sees_word.ensures ∙ c.if-sees_word.true in begins_as _ _ (stays_so after_pattern_step HasRoomForPattern PassesPattern _ _ (λ out h. h) (least _) (level _)) (rw w refl)

pub returns-then-sees : goal.returns-then-sees
returns-then-sees c = let w : sees_text a_word (view c.args.cursor.now.rest.now) ≡ false = sym c.sees_word.ensures ∙ c.if-sees_word.false in let u : sees Underscore (view c.args.cursor.now.rest.now) ≡ true = sym c.sees.ensures ∙ c.if-sees.true in begins_as _ _ (stays_so after_pattern_step HasRoomForPattern PassesPattern _ _ (λ out h. h) (least _) (level _)) (rw (w, u) refl)

pub returns-in-Some : goal.returns-in-Some
returns-in-Some c = let w : sees_text a_word (view c.args.cursor.now.rest.now) ≡ false = sym c.sees_word.ensures ∙ c.if-sees_word.false in let u : sees Underscore (view c.args.cursor.now.rest.now) ≡ false = sym c.sees.ensures ∙ c.if-sees.false in begins_as _ _ (stays_so after_pattern_step HasRoomForPattern PassesPattern _ _ (λ out h. h) (least _) (level _)) (rw (w, u) (ap (rule Tutorial) (typed (view c.args.cursor.now.rest.now) c.in-Some.simple _ c.in-Some.is c.simple_type.ensures)))

pub returns-in-None : goal.returns-in-None
returns-in-None c = let w : sees_text a_word (view c.args.cursor.now.rest.now) ≡ false = sym c.sees_word.ensures ∙ c.if-sees_word.false in let u : sees Underscore (view c.args.cursor.now.rest.now) ≡ false = sym c.sees.ensures ∙ c.if-sees.false in begins_as _ _ (c.begin_pattern_form.ensures) (rw (w, u) (ap (rule Tutorial) (untyped (view c.args.cursor.now.rest.now) _ c.in-None.is c.simple_type.ensures)))
