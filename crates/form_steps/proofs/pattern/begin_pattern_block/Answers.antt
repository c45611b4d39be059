use Rattle.grammar.specs.Descent.{no_opens, runs_last, runs_opens}
use Rattle.form_steps.proofs.Opened.{falls}
use Rattle.std.proofs.Common.{sym, ◌∙◌}
use Rattle.form_steps.proofs.pattern.begin_pattern_block.Goals as goal

pub returns-in-Err : goal.returns-in-Err
returns-in-Err c = record { reads = no_opens c.in-Err.ensures.reads; enough = tt; shorter = c.in-Err.ensures.shorter }

pub returns-then-sees : goal.returns-then-sees
returns-then-sees c = record { reads = λ out h. runs_opens c.in-Ok.ensures.reads (runs_last (let x0 = sym c.sees.ensures ∙ c.if-sees.true in rw x0 h)); enough = c.in-Ok.ensures.room; shorter = falls c.in-Ok.ensures.shorter }

pub returns-then-sees-2 : goal.returns-then-sees-2
returns-then-sees-2 c = record { reads = λ out h. runs_opens c.in-Ok.ensures.reads (runs_last (let x0 = sym c.sees.ensures ∙ c.if-sees.false in let x1 = sym c.sees-2.ensures ∙ c.if-sees-2.true in rw (x0, x1) h)); enough = c.in-Ok.ensures.room; shorter = falls c.in-Ok.ensures.shorter }

pub returns : goal.returns
returns c = record { reads = λ out h. runs_opens c.in-Ok.ensures.reads (runs_last (let x0 = sym c.sees.ensures ∙ c.if-sees.false in let x1 = sym c.sees-2.ensures ∙ c.if-sees-2.false in rw (x0, x1) h)); enough = c.in-Ok.ensures.room; shorter = c.in-Ok.ensures.shorter }
