use Rattle.grammar.specs.Descent.{no_opens, runs_last, runs_opens, runs_sign}
use Rattle.form_steps.proofs.Opened.{below, falls, unmoved}
use Rattle.std.proofs.Common.{sym, ◌∙◌}
use Rattle.form_steps.proofs.pattern.begin_same.Goals as goal

pub returns-in-Err : goal.returns-in-Err
returns-in-Err c = record { reads = no_opens c.in-Err.ensures.reads; enough = tt; shorter = c.in-Err.ensures.shorter }

pub returns-then-sees : goal.returns-then-sees
returns-then-sees c = record { reads = λ out h. runs_opens c.in-Ok.ensures.reads (runs_last (let x0 = sym c.sees.ensures ∙ c.if-sees.true in rw x0 h)); enough = c.in-Ok.ensures.room; shorter = falls c.in-Ok.ensures.shorter }

pub returns-then-skip : goal.returns-then-skip
returns-then-skip c = record { reads = λ out h. runs_opens c.in-Ok.ensures.reads (runs_last (let x0 = sym c.sees.ensures ∙ c.if-sees.false in let x1 = sym c.skip.ensures.is ∙ c.if-skip.true in rw (x0, x1) (runs_sign (c.skip.ensures.takes c.if-skip.true) h))); enough = c.in-Ok.ensures.room; shorter = below c.skip.ensures.shorter c.in-Ok.ensures.shorter }

pub returns : goal.returns
returns c = record { reads = λ out h. runs_opens c.in-Ok.ensures.reads (runs_last (let x0 = sym c.sees.ensures ∙ c.if-sees.false in let x1 = sym c.skip.ensures.is ∙ c.if-skip.false in rw (x0, x1) (unmoved _ _ (c.skip.ensures.stays c.if-skip.false) h))); enough = c.in-Ok.ensures.room; shorter = falls (below c.skip.ensures.shorter c.in-Ok.ensures.shorter) }
