use Rattle.grammar.specs.Descent.{runs_last}
use Rattle.grammar.specs.Terminals.{sees}
use Rattle.grammar.specs.declared.mark.Mark.TheVariants.{Tilde}
use Rattle.form_steps.specs.Steps.{HasRoomForPattern, PassesPattern, after_pattern_step}
use Rattle.form_steps.proofs.Opened.{fallen, level, made_so, opens_reads, opens_room}
use Rattle.token_cursor.proofs.Steps.{carry}
use Rattle.token_cursor.specs.Meaning.{view}
use Rattle.std.proofs.Common.{false, sym, true, ◌∙◌, ◌≡◌}
use Rattle.form_steps.proofs.pattern.begin_pattern.Goals as goal

pub returns-then-not-sees-clause-reads : goal.returns-then-not-sees-clause-reads
returns-then-not-sees-clause-reads c = let x0 : sees Tilde (view c.args.cursor.now.rest.now) ≡ false = sym c.sees.ensures ∙ c.if-not-sees.true in carry after_pattern_step _ _ (λ out h. rw x0 (runs_last h)) c.begin_pattern_atom.ensures.reads

pub returns-clause-reads : goal.returns-clause-reads
returns-clause-reads c = let x0 : sees Tilde (view c.args.cursor.now.rest.now) ≡ true = sym c.sees.ensures ∙ c.if-not-sees.false in carry after_pattern_step _ _ (λ out h. rw x0 h) (opens_reads after_pattern_step _ _ _ _ _ _ c.opening.ensures.reads)

pub returns-clause-room : goal.returns-clause-room
returns-clause-room c = opens_room (HasRoomForPattern c.args.free) _ _ _ _ _ _ c.opening.ensures.reads (λ z. z)

pub returns-clause-shorter : goal.returns-clause-shorter
returns-clause-shorter c = fallen PassesPattern _ _ _ _ _ (made_so _ _ _ _ _ _ c.opening.ensures.reads) c.opening.ensures.shorter (level _) (λ z. z)
