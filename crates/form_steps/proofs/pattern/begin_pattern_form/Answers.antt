use Rattle.grammar.specs.Terminals.{sees}
use Rattle.grammar.specs.declared.mark.Mark.TheVariants.{Assign, Nil, Open, OpenBrace, OpenSquare, Set}
use Rattle.form_steps.specs.Steps.{HasRoomForPattern, PassesPattern, after_pattern_step}
use Rattle.form_steps.proofs.Opened.{begins_as, least, level, opens_so, opens_two_so, stays_so}
use Rattle.token_cursor.specs.Meaning.{view}
use Rattle.std.proofs.Common.{false, refl, sym, true, ◌∙◌, ◌≡◌}
use Rattle.form_steps.proofs.pattern.begin_pattern_form.Goals as goal

pub returns-then-sees : goal.returns-then-sees
returns-then-sees c = let a : sees Assign (view c.args.cursor.now.rest.now) ≡ true = sym c.sees.ensures ∙ c.if-sees.true in begins_as _ _ (c.begin_same.ensures) (rw a refl)

pub returns-then-sees-2 : goal.returns-then-sees-2
returns-then-sees-2 c = let a : sees Assign (view c.args.cursor.now.rest.now) ≡ false = sym c.sees.ensures ∙ c.if-sees.false in let n : sees Nil (view c.args.cursor.now.rest.now) ≡ true = sym c.sees-2.ensures ∙ c.if-sees-2.true in begins_as _ _ (stays_so after_pattern_step HasRoomForPattern PassesPattern _ _ (λ out h. h) (least _) (level _)) (rw (a, n) refl)

pub returns-then-sees-3 : goal.returns-then-sees-3
returns-then-sees-3 c = let a : sees Assign (view c.args.cursor.now.rest.now) ≡ false = sym c.sees.ensures ∙ c.if-sees.false in let n : sees Nil (view c.args.cursor.now.rest.now) ≡ false = sym c.sees-2.ensures ∙ c.if-sees-2.false in let o : sees Open (view c.args.cursor.now.rest.now) ≡ true = sym c.sees-3.ensures ∙ c.if-sees-3.true in begins_as _ _ (opens_so after_pattern_step HasRoomForPattern PassesPattern _ _ _ _ _ _ c.opening.ensures.reads c.opening.ensures.shorter (λ z. z) (λ z. z)) (rw (a, n, o) refl)

pub returns-then-sees-4 : goal.returns-then-sees-4
returns-then-sees-4 c = let a : sees Assign (view c.args.cursor.now.rest.now) ≡ false = sym c.sees.ensures ∙ c.if-sees.false in let n : sees Nil (view c.args.cursor.now.rest.now) ≡ false = sym c.sees-2.ensures ∙ c.if-sees-2.false in let o : sees Open (view c.args.cursor.now.rest.now) ≡ false = sym c.sees-3.ensures ∙ c.if-sees-3.false in let b : sees OpenBrace (view c.args.cursor.now.rest.now) ≡ true = sym c.sees-4.ensures ∙ c.if-sees-4.true in begins_as _ _ (c.begin_pattern_block.ensures) (rw (a, n, o, b) refl)

pub returns-then-sees-5 : goal.returns-then-sees-5
returns-then-sees-5 c = let a : sees Assign (view c.args.cursor.now.rest.now) ≡ false = sym c.sees.ensures ∙ c.if-sees.false in let n : sees Nil (view c.args.cursor.now.rest.now) ≡ false = sym c.sees-2.ensures ∙ c.if-sees-2.false in let o : sees Open (view c.args.cursor.now.rest.now) ≡ false = sym c.sees-3.ensures ∙ c.if-sees-3.false in let b : sees OpenBrace (view c.args.cursor.now.rest.now) ≡ false = sym c.sees-4.ensures ∙ c.if-sees-4.false in let q : sees OpenSquare (view c.args.cursor.now.rest.now) ≡ true = sym c.sees-5.ensures ∙ c.if-sees-5.true in begins_as _ _ (opens_so after_pattern_step HasRoomForPattern PassesPattern _ _ _ _ _ _ c.opening-then-sees-5.ensures.reads c.opening-then-sees-5.ensures.shorter (λ z. z) (λ z. z)) (rw (a, n, o, b, q) refl)

pub returns-then-sees-6 : goal.returns-then-sees-6
returns-then-sees-6 c = let a : sees Assign (view c.args.cursor.now.rest.now) ≡ false = sym c.sees.ensures ∙ c.if-sees.false in let n : sees Nil (view c.args.cursor.now.rest.now) ≡ false = sym c.sees-2.ensures ∙ c.if-sees-2.false in let o : sees Open (view c.args.cursor.now.rest.now) ≡ false = sym c.sees-3.ensures ∙ c.if-sees-3.false in let b : sees OpenBrace (view c.args.cursor.now.rest.now) ≡ false = sym c.sees-4.ensures ∙ c.if-sees-4.false in let q : sees OpenSquare (view c.args.cursor.now.rest.now) ≡ false = sym c.sees-5.ensures ∙ c.if-sees-5.false in let s : sees Set (view c.args.cursor.now.rest.now) ≡ true = sym c.sees-6.ensures ∙ c.if-sees-6.true in begins_as _ _ (opens_two_so after_pattern_step HasRoomForPattern PassesPattern _ _ _ _ _ _ _ _ _ _ c.opening-set.ensures.reads c.opening-set.ensures.shorter c.then_mark.ensures.reads c.then_mark.ensures.same c.then_mark.ensures.shorter (λ z. z) (λ z. z)) (rw (a, n, o, b, q, s) refl)

pub returns : goal.returns
returns c = let a : sees Assign (view c.args.cursor.now.rest.now) ≡ false = sym c.sees.ensures ∙ c.if-sees.false in let n : sees Nil (view c.args.cursor.now.rest.now) ≡ false = sym c.sees-2.ensures ∙ c.if-sees-2.false in let o : sees Open (view c.args.cursor.now.rest.now) ≡ false = sym c.sees-3.ensures ∙ c.if-sees-3.false in let b : sees OpenBrace (view c.args.cursor.now.rest.now) ≡ false = sym c.sees-4.ensures ∙ c.if-sees-4.false in let q : sees OpenSquare (view c.args.cursor.now.rest.now) ≡ false = sym c.sees-5.ensures ∙ c.if-sees-5.false in let s : sees Set (view c.args.cursor.now.rest.now) ≡ false = sym c.sees-6.ensures ∙ c.if-sees-6.false in begins_as _ _ (stays_so after_pattern_step HasRoomForPattern PassesPattern _ _ (λ out h. h) (least _) (level _)) (rw (a, n, o, b, q, s) refl)
