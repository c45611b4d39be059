use Rattle.grammar.specs.Choice.{sees_bundle, sees_send, sees_text}
use Rattle.grammar.specs.Descent.{no_opens, runs_last, runs_opens}
use Rattle.grammar.specs.Terminals.{a_fresh_name, sees}
use Rattle.grammar.specs.Values.{processes}
use Rattle.grammar.specs.declared.mark.Mark.TheVariants.{At, For, Match}
use Rattle.token_cursor.proofs.Fronts.{no_fresh}
use Rattle.token_cursor.specs.Meaning.{view}
use Rattle.std.proofs.Common.{false, sym, true, ◌∙◌, ◌≡◌}
use Rattle.form_steps.proofs.part.begin_term.Goals as goal

pub returns-in-Err-clause-reads : goal.returns-in-Err-clause-reads
returns-in-Err-clause-reads c = let x0 : sees For (view c.args.cursor.now.rest.now) ≡ false = sym c.sees.ensures ∙ c.if-sees.false in let x1 : sees Match (view c.args.cursor.now.rest.now) ≡ false = sym c.sees-2.ensures ∙ c.if-sees-2.false in let b : sees_bundle (view c.args.cursor.now.rest.now) ≡ true = sym c.sees_bundle.ensures ∙ c.if-sees_bundle.true in rw (x0, x1, b) (runs_last (c.in-Err.ensures.reads processes))

pub returns-in-Ok-clause-reads : goal.returns-in-Ok-clause-reads
returns-in-Ok-clause-reads c = let x0 : sees For (view c.args.cursor.now.rest.now) ≡ false = sym c.sees.ensures ∙ c.if-sees.false in let x1 : sees Match (view c.args.cursor.now.rest.now) ≡ false = sym c.sees-2.ensures ∙ c.if-sees-2.false in let b : sees_bundle (view c.args.cursor.now.rest.now) ≡ true = sym c.sees_bundle.ensures ∙ c.if-sees_bundle.true in λ out h. rw (x0, x1, b) (runs_last (c.in-Ok.ensures.reads processes out h))

pub returns-in-Ok-opens-clause-reads : goal.returns-in-Ok-opens-clause-reads
returns-in-Ok-opens-clause-reads c = let x0 : sees For (view c.args.cursor.now.rest.now) ≡ false = sym c.sees.ensures ∙ c.if-sees.false in let x1 : sees Match (view c.args.cursor.now.rest.now) ≡ false = sym c.sees-2.ensures ∙ c.if-sees-2.false in let b : sees_bundle (view c.args.cursor.now.rest.now) ≡ false = sym c.sees_bundle.ensures ∙ c.if-sees_bundle.false in let a : sees At (view c.args.cursor.now.rest.now) ≡ true = sym c.sees-3.ensures ∙ c.if-sees-3.true in λ out h. rw (x0, x1, b, a) (runs_opens c.in-Ok-opens.ensures.reads h)

pub returns-in-Err-opens-clause-reads : goal.returns-in-Err-opens-clause-reads
returns-in-Err-opens-clause-reads c = let x0 : sees For (view c.args.cursor.now.rest.now) ≡ false = sym c.sees.ensures ∙ c.if-sees.false in let x1 : sees Match (view c.args.cursor.now.rest.now) ≡ false = sym c.sees-2.ensures ∙ c.if-sees-2.false in let b : sees_bundle (view c.args.cursor.now.rest.now) ≡ false = sym c.sees_bundle.ensures ∙ c.if-sees_bundle.false in let a : sees At (view c.args.cursor.now.rest.now) ≡ true = sym c.sees-3.ensures ∙ c.if-sees-3.true in rw (x0, x1, b, a) (no_opens c.in-Err-opens.ensures.reads)

pub returns-in-Err-begin_send-clause-reads : goal.returns-in-Err-begin_send-clause-reads
returns-in-Err-begin_send-clause-reads c = let x0 : sees For (view c.args.cursor.now.rest.now) ≡ false = sym c.sees.ensures ∙ c.if-sees.false in let x1 : sees Match (view c.args.cursor.now.rest.now) ≡ false = sym c.sees-2.ensures ∙ c.if-sees-2.false in let b : sees_bundle (view c.args.cursor.now.rest.now) ≡ false = sym c.sees_bundle.ensures ∙ c.if-sees_bundle.false in let a : sees At (view c.args.cursor.now.rest.now) ≡ false = sym c.sees-3.ensures ∙ c.if-sees-3.false in let s : sees_send (view c.args.cursor.now.rest.now) ≡ true = sym c.sees_send.ensures ∙ c.if-sees_send.true in let n : sees_text a_fresh_name (view c.args.cursor.now.rest.now) ≡ false = no_fresh c.args.cursor.now.rest.now in rw (x0, x1, b, a, n, s) c.in-Err-begin_send.ensures.reads

pub returns-in-Ok-begin_send-clause-reads : goal.returns-in-Ok-begin_send-clause-reads
returns-in-Ok-begin_send-clause-reads c = let x0 : sees For (view c.args.cursor.now.rest.now) ≡ false = sym c.sees.ensures ∙ c.if-sees.false in let x1 : sees Match (view c.args.cursor.now.rest.now) ≡ false = sym c.sees-2.ensures ∙ c.if-sees-2.false in let b : sees_bundle (view c.args.cursor.now.rest.now) ≡ false = sym c.sees_bundle.ensures ∙ c.if-sees_bundle.false in let a : sees At (view c.args.cursor.now.rest.now) ≡ false = sym c.sees-3.ensures ∙ c.if-sees-3.false in let s : sees_send (view c.args.cursor.now.rest.now) ≡ true = sym c.sees_send.ensures ∙ c.if-sees_send.true in let n : sees_text a_fresh_name (view c.args.cursor.now.rest.now) ≡ false = no_fresh c.args.cursor.now.rest.now in λ out h. rw (x0, x1, b, a, n, s) (c.in-Ok-begin_send.ensures.reads out h)

pub returns-clause-reads : goal.returns-clause-reads
returns-clause-reads c = let x0 : sees For (view c.args.cursor.now.rest.now) ≡ false = sym c.sees.ensures ∙ c.if-sees.false in let x1 : sees Match (view c.args.cursor.now.rest.now) ≡ false = sym c.sees-2.ensures ∙ c.if-sees-2.false in let b : sees_bundle (view c.args.cursor.now.rest.now) ≡ false = sym c.sees_bundle.ensures ∙ c.if-sees_bundle.false in let a : sees At (view c.args.cursor.now.rest.now) ≡ false = sym c.sees-3.ensures ∙ c.if-sees-3.false in let s : sees_send (view c.args.cursor.now.rest.now) ≡ false = sym c.sees_send.ensures ∙ c.if-sees_send.false in let n : sees_text a_fresh_name (view c.args.cursor.now.rest.now) ≡ false = no_fresh c.args.cursor.now.rest.now in λ out h. rw (x0, x1, b, a, n, s) h
