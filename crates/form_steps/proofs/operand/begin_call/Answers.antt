use Rattle.grammar.specs.Descent.{no_opens, runs_opens}
use Rattle.grammar.specs.Rules.{Sort, last, round, sign, under}
use Rattle.grammar.specs.Terminals.{sees}
use Rattle.grammar.specs.Values.{method_of, opened, processes, spelt}
use Rattle.grammar.specs.declared.mark.Mark.TheVariants.{Dot, Open}
use Rattle.std.proofs.Common.{Some, false, max, sym, true, ◌∙◌, ◌≡◌}
use Rattle.form_steps.specs.Steps.{after_target}
use Rattle.form_steps.proofs.Opened.{below, down, falls, no_more, text_read}
use Rattle.token_cursor.specs.Meaning.{view}
use Rattle.form_steps.proofs.operand.begin_call.Goals as goal

pub returns-then-not-sees-clause-reads : goal.returns-then-not-sees-clause-reads
returns-then-not-sees-clause-reads c = λ t out h. let x0 : sees Dot (view c.args.cursor.now.rest.now) ≡ false = sym c.sees.ensures ∙ c.if-not-sees.true in rw x0 h

pub returns-in-Err-clause-reads : goal.returns-in-Err-clause-reads
returns-in-Err-clause-reads c = λ t. let x0 : sees Dot (view c.args.cursor.now.rest.now) ≡ true = sym c.sees.ensures ∙ c.if-not-sees.false in rw x0 (no_opens c.in-Err.ensures.reads)

pub returns-in-Ok-then_mark-clause-reads : goal.returns-in-Ok-then_mark-clause-reads
returns-in-Ok-then_mark-clause-reads c = λ t out h. let x0 : sees Dot (view c.args.cursor.now.rest.now) ≡ true = sym c.sees.ensures ∙ c.if-not-sees.false in rw x0 (runs_opens c.in-Ok.ensures.reads (c.in-Ok-then_mark.ensures.reads c.args.free _ _ (λ w. after_target (spelt t c.args.height) (Some w)) (text_read _ _ (λ w. sign Open (under (Sort.Row processes round) (λ r. last (Sort.MethTail (opened (method_of w t r.tree) (max c.args.height r.height)))))) _ _ _ c.word-name.ensures.reads) out h))

pub returns-in-Err-then_mark-clause-reads : goal.returns-in-Err-then_mark-clause-reads
returns-in-Err-then_mark-clause-reads c = λ t. let x0 : sees Dot (view c.args.cursor.now.rest.now) ≡ true = sym c.sees.ensures ∙ c.if-not-sees.false in rw x0 (runs_opens c.in-Ok.ensures.reads (c.in-Err-then_mark.ensures.reads c.args.free _ _ (λ w. after_target (spelt t c.args.height) (Some w)) (text_read _ _ (λ w. sign Open (under (Sort.Row processes round) (λ r. last (Sort.MethTail (opened (method_of w t r.tree) (max c.args.height r.height)))))) _ _ _ c.word-name.ensures.reads)))

pub returns-in-Ok-then_mark-clause-shorter : goal.returns-in-Ok-then_mark-clause-shorter
returns-in-Ok-then_mark-clause-shorter c = below (down (falls c.in-Ok-then_mark.ensures.shorter) (no_more _ c.word-name.ensures.shorter)) c.in-Ok.ensures.shorter

pub returns-in-Err-then_mark-clause-shorter : goal.returns-in-Err-then_mark-clause-shorter
returns-in-Err-then_mark-clause-shorter c = falls (below (down c.in-Err-then_mark.ensures.shorter (no_more _ c.word-name.ensures.shorter)) c.in-Ok.ensures.shorter)
