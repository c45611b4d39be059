use Rattle.grammar.specs.Choice.{sees_text}
use Rattle.grammar.specs.Terminals.{a_word, sees}
use Rattle.grammar.specs.declared.mark.Mark.TheVariants.{Nil, Open, OpenBrace, OpenSquare, Set}
use Rattle.form_steps.specs.Steps.{HasRoomFor, Passes, after_process_step}
use Rattle.form_steps.proofs.Opened.{begins_as, least, level, opens_so, opens_two_so, stays_so}
use Rattle.token_cursor.specs.Meaning.{view}
use Rattle.std.proofs.Common.{false, refl, sym, true, ◌∙◌, ◌≡◌}
use Rattle.form_steps.proofs.atom.begin_form.Goals as goal

pub returns-then-sees_word : goal.returns-then-sees_word
returns-then-sees_word c = let w : sees_text a_word (view c.args.cursor.now.rest.now) ≡ true = sym c.sees_word.ensures ∙ c.if-sees_word.true in begins_as _ _ (stays_so after_process_step HasRoomFor Passes _ _ (λ out h. h) (least _) (level _)) (rw w refl)

pub returns-then-sees : goal.returns-then-sees
returns-then-sees c = let w : sees_text a_word (view c.args.cursor.now.rest.now) ≡ false = sym c.sees_word.ensures ∙ c.if-sees_word.false in let n : sees Nil (view c.args.cursor.now.rest.now) ≡ true = sym c.sees.ensures ∙ c.if-sees.true in begins_as _ _ (stays_so after_process_step HasRoomFor Passes _ _ (λ out h. h) (least _) (level _)) (rw (w, n) refl)

pub returns-then-sees-2 : goal.returns-then-sees-2
returns-then-sees-2 c = let w : sees_text a_word (view c.args.cursor.now.rest.now) ≡ false = sym c.sees_word.ensures ∙ c.if-sees_word.false in let n : sees Nil (view c.args.cursor.now.rest.now) ≡ false = sym c.sees.ensures ∙ c.if-sees.false in let o : sees Open (view c.args.cursor.now.rest.now) ≡ true = sym c.sees-2.ensures ∙ c.if-sees-2.true in begins_as _ _ (opens_so after_process_step HasRoomFor Passes _ _ _ _ _ _ c.opening.ensures.reads c.opening.ensures.shorter (λ z. z) (λ z. z)) (rw (w, n, o) refl)

pub returns-then-sees-3 : goal.returns-then-sees-3
returns-then-sees-3 c = let w : sees_text a_word (view c.args.cursor.now.rest.now) ≡ false = sym c.sees_word.ensures ∙ c.if-sees_word.false in let n : sees Nil (view c.args.cursor.now.rest.now) ≡ false = sym c.sees.ensures ∙ c.if-sees.false in let o : sees Open (view c.args.cursor.now.rest.now) ≡ false = sym c.sees-2.ensures ∙ c.if-sees-2.false in let b : sees OpenBrace (view c.args.cursor.now.rest.now) ≡ true = sym c.sees-3.ensures ∙ c.if-sees-3.true in begins_as _ _ (c.begin_block.ensures) (rw (w, n, o, b) refl)

pub returns-then-sees-4 : goal.returns-then-sees-4
returns-then-sees-4 c = let w : sees_text a_word (view c.args.cursor.now.rest.now) ≡ false = sym c.sees_word.ensures ∙ c.if-sees_word.false in let n : sees Nil (view c.args.cursor.now.rest.now) ≡ false = sym c.sees.ensures ∙ c.if-sees.false in let o : sees Open (view c.args.cursor.now.rest.now) ≡ false = sym c.sees-2.ensures ∙ c.if-sees-2.false in let b : sees OpenBrace (view c.args.cursor.now.rest.now) ≡ false = sym c.sees-3.ensures ∙ c.if-sees-3.false in let q : sees OpenSquare (view c.args.cursor.now.rest.now) ≡ true = sym c.sees-4.ensures ∙ c.if-sees-4.true in begins_as _ _ (opens_so after_process_step HasRoomFor Passes _ _ _ _ _ _ c.opening-then-sees-4.ensures.reads c.opening-then-sees-4.ensures.shorter (λ z. z) (λ z. z)) (rw (w, n, o, b, q) refl)

pub returns-then-sees-5 : goal.returns-then-sees-5
returns-then-sees-5 c = let w : sees_text a_word (view c.args.cursor.now.rest.now) ≡ false = sym c.sees_word.ensures ∙ c.if-sees_word.false in let n : sees Nil (view c.args.cursor.now.rest.now) ≡ false = sym c.sees.ensures ∙ c.if-sees.false in let o : sees Open (view c.args.cursor.now.rest.now) ≡ false = sym c.sees-2.ensures ∙ c.if-sees-2.false in let b : sees OpenBrace (view c.args.cursor.now.rest.now) ≡ false = sym c.sees-3.ensures ∙ c.if-sees-3.false in let q : sees OpenSquare (view c.args.cursor.now.rest.now) ≡ false = sym c.sees-4.ensures ∙ c.if-sees-4.false in let s : sees Set (view c.args.cursor.now.rest.now) ≡ true = sym c.sees-5.ensures ∙ c.if-sees-5.true in begins_as _ _ (opens_two_so after_process_step HasRoomFor Passes _ _ _ _ _ _ _ _ _ _ c.opening-set.ensures.reads c.opening-set.ensures.shorter c.then_mark.ensures.reads c.then_mark.ensures.same c.then_mark.ensures.shorter (λ z. z) (λ z. z)) (rw (w, n, o, b, q, s) refl)

pub returns : goal.returns
returns c = let w : sees_text a_word (view c.args.cursor.now.rest.now) ≡ false = sym c.sees_word.ensures ∙ c.if-sees_word.false in let n : sees Nil (view c.args.cursor.now.rest.now) ≡ false = sym c.sees.ensures ∙ c.if-sees.false in let o : sees Open (view c.args.cursor.now.rest.now) ≡ false = sym c.sees-2.ensures ∙ c.if-sees-2.false in let b : sees OpenBrace (view c.args.cursor.now.rest.now) ≡ false = sym c.sees-3.ensures ∙ c.if-sees-3.false in let q : sees OpenSquare (view c.args.cursor.now.rest.now) ≡ false = sym c.sees-4.ensures ∙ c.if-sees-4.false in let s : sees Set (view c.args.cursor.now.rest.now) ≡ false = sym c.sees-5.ensures ∙ c.if-sees-5.false in begins_as _ _ (stays_so after_process_step HasRoomFor Passes _ _ (λ out h. h) (least _) (level _)) (rw (w, n, o, b, q, s) refl)
