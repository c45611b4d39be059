use Rattle.grammar.specs.Choice.{sees_any_send, sees_bundle, sees_send}
use Rattle.grammar.specs.Descent.{no_opens, runs_last, runs_opens}
use Rattle.grammar.specs.Terminals.{sees}
use Rattle.grammar.specs.Values.{patterns}
use Rattle.grammar.specs.declared.mark.Mark.TheVariants.{At}
use Rattle.form_steps.specs.Parts.{unkeyed_part}
use Rattle.form_steps.proofs.Turning.{chosen, unkeyed}
use Rattle.token_cursor.specs.Meaning.{view}
use Rattle.std.proofs.Common.{false, sym, true, ◌∙◌, ◌≡◌}
use Rattle.form_steps.proofs.part.begin_part.Goals as goal

pub returns-in-Err-clause-reads : goal.returns-in-Err-clause-reads
returns-in-Err-clause-reads c = let b : sees_bundle (view c.args.cursor.now.rest.now) ≡ true = sym c.sees_bundle.ensures ∙ c.if-sees_bundle.true in chosen _ (unkeyed_part (view c.args.cursor.now.rest.now)) (unkeyed (view c.args.cursor.now.rest.now) _ c.in_default.is c.keyed_form.ensures) (rw b (runs_last (c.in-Err.ensures.reads patterns)))

pub returns-in-Ok-clause-reads : goal.returns-in-Ok-clause-reads
returns-in-Ok-clause-reads c = let b : sees_bundle (view c.args.cursor.now.rest.now) ≡ true = sym c.sees_bundle.ensures ∙ c.if-sees_bundle.true in λ out h. chosen _ (unkeyed_part (view c.args.cursor.now.rest.now)) (unkeyed (view c.args.cursor.now.rest.now) _ c.in_default.is c.keyed_form.ensures) (rw b (runs_last (c.in-Ok.ensures.reads patterns out h)))

pub returns-in-Ok-opens-clause-reads : goal.returns-in-Ok-opens-clause-reads
returns-in-Ok-opens-clause-reads c = let b : sees_bundle (view c.args.cursor.now.rest.now) ≡ false = sym c.sees_bundle.ensures ∙ c.if-sees_bundle.false in let a : sees At (view c.args.cursor.now.rest.now) ≡ true = sym c.sees.ensures ∙ c.if-sees.true in λ out h. chosen _ (unkeyed_part (view c.args.cursor.now.rest.now)) (unkeyed (view c.args.cursor.now.rest.now) _ c.in_default.is c.keyed_form.ensures) (rw (b, a) (runs_opens c.in-Ok-opens.ensures.reads h))

pub returns-in-Err-opens-clause-reads : goal.returns-in-Err-opens-clause-reads
returns-in-Err-opens-clause-reads c = let b : sees_bundle (view c.args.cursor.now.rest.now) ≡ false = sym c.sees_bundle.ensures ∙ c.if-sees_bundle.false in let a : sees At (view c.args.cursor.now.rest.now) ≡ true = sym c.sees.ensures ∙ c.if-sees.true in chosen _ (unkeyed_part (view c.args.cursor.now.rest.now)) (unkeyed (view c.args.cursor.now.rest.now) _ c.in_default.is c.keyed_form.ensures) (rw (b, a) (no_opens c.in-Err-opens.ensures.reads))

pub returns-in-Err-begin_any_send-clause-reads : goal.returns-in-Err-begin_any_send-clause-reads
returns-in-Err-begin_any_send-clause-reads c = let b : sees_bundle (view c.args.cursor.now.rest.now) ≡ false = sym c.sees_bundle.ensures ∙ c.if-sees_bundle.false in let a : sees At (view c.args.cursor.now.rest.now) ≡ false = sym c.sees.ensures ∙ c.if-sees.false in let y : sees_any_send (view c.args.cursor.now.rest.now) ≡ true = sym c.sees_any_send.ensures ∙ c.if-sees_any_send.true in chosen _ (unkeyed_part (view c.args.cursor.now.rest.now)) (unkeyed (view c.args.cursor.now.rest.now) _ c.in_default.is c.keyed_form.ensures) (rw (b, a, y) c.in-Err-begin_any_send.ensures.reads)

pub returns-in-Ok-begin_any_send-clause-reads : goal.returns-in-Ok-begin_any_send-clause-reads
returns-in-Ok-begin_any_send-clause-reads c = let b : sees_bundle (view c.args.cursor.now.rest.now) ≡ false = sym c.sees_bundle.ensures ∙ c.if-sees_bundle.false in let a : sees At (view c.args.cursor.now.rest.now) ≡ false = sym c.sees.ensures ∙ c.if-sees.false in let y : sees_any_send (view c.args.cursor.now.rest.now) ≡ true = sym c.sees_any_send.ensures ∙ c.if-sees_any_send.true in λ out h. chosen _ (unkeyed_part (view c.args.cursor.now.rest.now)) (unkeyed (view c.args.cursor.now.rest.now) _ c.in_default.is c.keyed_form.ensures) (rw (b, a, y) (c.in-Ok-begin_any_send.ensures.reads out h))

pub returns-in-Err-begin_send_pattern-clause-reads : goal.returns-in-Err-begin_send_pattern-clause-reads
returns-in-Err-begin_send_pattern-clause-reads c = let b : sees_bundle (view c.args.cursor.now.rest.now) ≡ false = sym c.sees_bundle.ensures ∙ c.if-sees_bundle.false in let a : sees At (view c.args.cursor.now.rest.now) ≡ false = sym c.sees.ensures ∙ c.if-sees.false in let y : sees_any_send (view c.args.cursor.now.rest.now) ≡ false = sym c.sees_any_send.ensures ∙ c.if-sees_any_send.false in let s : sees_send (view c.args.cursor.now.rest.now) ≡ true = sym c.sees_send.ensures ∙ c.if-sees_send.true in chosen _ (unkeyed_part (view c.args.cursor.now.rest.now)) (unkeyed (view c.args.cursor.now.rest.now) _ c.in_default.is c.keyed_form.ensures) (rw (b, a, y, s) c.in-Err-begin_send_pattern.ensures.reads)

pub returns-in-Ok-begin_send_pattern-clause-reads : goal.returns-in-Ok-begin_send_pattern-clause-reads
returns-in-Ok-begin_send_pattern-clause-reads c = let b : sees_bundle (view c.args.cursor.now.rest.now) ≡ false = sym c.sees_bundle.ensures ∙ c.if-sees_bundle.false in let a : sees At (view c.args.cursor.now.rest.now) ≡ false = sym c.sees.ensures ∙ c.if-sees.false in let y : sees_any_send (view c.args.cursor.now.rest.now) ≡ false = sym c.sees_any_send.ensures ∙ c.if-sees_any_send.false in let s : sees_send (view c.args.cursor.now.rest.now) ≡ true = sym c.sees_send.ensures ∙ c.if-sees_send.true in λ out h. chosen _ (unkeyed_part (view c.args.cursor.now.rest.now)) (unkeyed (view c.args.cursor.now.rest.now) _ c.in_default.is c.keyed_form.ensures) (rw (b, a, y, s) (c.in-Ok-begin_send_pattern.ensures.reads out h))
