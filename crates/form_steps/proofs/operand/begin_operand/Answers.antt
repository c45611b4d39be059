use Rattle.grammar.specs.Choice.{sees_prefix}
use Rattle.grammar.specs.Descent.{no_opens_next, runs_sign}
use Rattle.grammar.specs.Terminals.{sees}
use Rattle.grammar.specs.declared.mark.Mark.TheVariants.{Not}
use Rattle.form_steps.specs.Steps.{HasRoomAfter, PassesOperator, after_operator}
use Rattle.form_steps.proofs.Opened.{below, down, fallen, level, made_so, opens_reads, opens_room}
use Rattle.form_steps.proofs.Turning.{opened_next, sees_minus}
use Rattle.token_cursor.proofs.Steps.{carry}
use Rattle.token_cursor.specs.Meaning.{view}
use Rattle.std.proofs.Common.{false, sym, true, ◌∙◌, ◌≡◌}
use Rattle.form_steps.proofs.operand.begin_operand.Goals as goal

pub returns-then-sees-clause-reads : goal.returns-then-sees-clause-reads
returns-then-sees-clause-reads c = let x0 : sees Not (view c.args.cursor.now.rest.now) ≡ true = sym c.sees.ensures ∙ c.if-sees.true in carry after_operator _ _ (λ out h. rw x0 h) (opens_reads after_operator _ _ _ _ _ _ c.opening.ensures.reads)

pub returns-then-sees-clause-room : goal.returns-then-sees-clause-room
returns-then-sees-clause-room c = opens_room (HasRoomAfter c.args.free) _ _ _ _ _ _ c.opening.ensures.reads (λ z. z)

pub returns-then-sees-clause-shorter : goal.returns-then-sees-clause-shorter
returns-then-sees-clause-shorter c = fallen PassesOperator _ _ _ _ _ (made_so _ _ _ _ _ _ c.opening.ensures.reads) c.opening.ensures.shorter (level _) (λ z. z)

pub returns-in-Ok-clause-reads : goal.returns-in-Ok-clause-reads
returns-in-Ok-clause-reads c = let x0 : sees Not (view c.args.cursor.now.rest.now) ≡ false = sym c.sees.ensures ∙ c.if-sees.false in let x1 : sees_prefix (view c.args.cursor.now.rest.now) ≡ true = sym c.sees_prefix.ensures ∙ c.if-not-sees_prefix.false in let m : c.skip.result ≡ true = c.skip.ensures.is ∙ sees_minus (view c.args.cursor.now.rest.now) (sym c.sees_prefix.ensures ∙ c.if-not-sees_prefix.false) in λ out h. rw (x0, x1) (runs_sign (c.skip.ensures.takes m) (opened_next c.in-Ok.ensures.reads.0 c.in-Ok.ensures.reads.1 c.in-Ok.ensures.reads.2 h))

pub returns-in-Ok-clause-shorter : goal.returns-in-Ok-clause-shorter
returns-in-Ok-clause-shorter c = let m : c.skip.result ≡ true = c.skip.ensures.is ∙ sees_minus (view c.args.cursor.now.rest.now) (sym c.sees_prefix.ensures ∙ c.if-not-sees_prefix.false) in below c.in-Ok.ensures.shorter (c.skip.ensures.less m)

pub returns-in-Err-clause-reads : goal.returns-in-Err-clause-reads
returns-in-Err-clause-reads c = let x0 : sees Not (view c.args.cursor.now.rest.now) ≡ false = sym c.sees.ensures ∙ c.if-sees.false in let x1 : sees_prefix (view c.args.cursor.now.rest.now) ≡ true = sym c.sees_prefix.ensures ∙ c.if-not-sees_prefix.false in let m : c.skip.result ≡ true = c.skip.ensures.is ∙ sees_minus (view c.args.cursor.now.rest.now) (sym c.sees_prefix.ensures ∙ c.if-not-sees_prefix.false) in rw (x0, x1) (runs_sign (c.skip.ensures.takes m) (no_opens_next c.in-Err.ensures.reads))

pub returns-in-Err-clause-shorter : goal.returns-in-Err-clause-shorter
returns-in-Err-clause-shorter c = down c.in-Err.ensures.shorter c.skip.ensures.shorter
