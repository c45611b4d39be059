use Rattle.grammar.specs.Descent.{runs_last, runs_sign}
use Rattle.grammar.specs.Terminals.{sees}
use Rattle.grammar.specs.declared.mark.Mark.TheVariants.{Star}
use Rattle.form_steps.specs.Steps.{HasRoomFor, Passes, after_process_step}
use Rattle.form_steps.specs.declared.step.ProcessStep.TheVariants.{Dropped}
use Rattle.form_steps.proofs.Opened.{fallen, made_so, opens_reads, opens_room}
use Rattle.form_steps.proofs.Turning.{drops_quote, drops_word}
use Rattle.token_cursor.proofs.Steps.{carry}
use Rattle.token_cursor.specs.Meaning.{view}
use Rattle.std.proofs.Common.{false, sym, true, ◌∙◌, ◌≡◌}
use Rattle.form_steps.proofs.atom.begin_atom.Goals as goal

pub returns-then-not-sees-clause-reads : goal.returns-then-not-sees-clause-reads
returns-then-not-sees-clause-reads c = let x0 : sees Star (view c.args.cursor.now.rest.now) ≡ false = sym c.sees.ensures ∙ c.if-not-sees.true in carry after_process_step _ _ (λ out h. rw x0 (runs_last h)) c.begin_form.ensures.reads

pub returns-then-not-sees-2-clause-reads : goal.returns-then-not-sees-2-clause-reads
returns-then-not-sees-2-clause-reads c = let x0 : sees Star (view c.args.cursor.now.rest.now) ≡ true = sym c.sees.ensures ∙ c.if-not-sees.false in λ out h. rw x0 (runs_sign (c.skip.ensures.takes (c.skip.ensures.is ∙ x0)) (drops_word _ (sym c.sees-2.ensures ∙ c.if-not-sees-2.true) h))

pub returns-clause-reads : goal.returns-clause-reads
returns-clause-reads c = let x0 : sees Star (view c.args.cursor.now.rest.now) ≡ true = sym c.sees.ensures ∙ c.if-not-sees.false in carry after_process_step _ _ (λ out h. rw x0 (runs_sign (c.skip.ensures.takes (c.skip.ensures.is ∙ x0)) (drops_quote (sym c.sees-2.ensures ∙ c.if-not-sees-2.false) h))) (opens_reads after_process_step _ _ _ _ _ _ c.opening.ensures.reads)

pub returns-clause-room : goal.returns-clause-room
returns-clause-room c = opens_room (HasRoomFor c.args.free) _ _ _ _ _ _ c.opening.ensures.reads (λ z. z)

pub returns-clause-shorter : goal.returns-clause-shorter
returns-clause-shorter c = fallen Passes _ _ _ Dropped _ (made_so _ _ _ _ _ _ c.opening.ensures.reads) c.opening.ensures.shorter c.skip.ensures.shorter (λ z. z)
