use Rattle.form_ends.proofs.Chains.{joint_off, joint_on}
use Rattle.form_ends.proofs.Lengths.{none_given}
use Rattle.form_ends.specs.Chains.{joint_tail}
use Rattle.form_steps.proofs.Handed.{as_fault, as_read, if_read}
use Rattle.grammar.specs.Descent.{no_opens, runs_opens}
use Rattle.grammar.specs.Rules.{last}
use Rattle.token_cursor.proofs.Steps.{gives_up}
use Rattle.token_cursor.specs.Reading.{of_pat}
use Rattle.std.proofs.Common.{sym, ◌∙◌, ◌≤◌}
use Rattle.form_ends.proofs.chain_steps.next_joint.Goals as goal

pub returns-then-not-sees-clause-reads : goal.returns-then-not-sees-clause-reads
returns-then-not-sees-clause-reads c = λ r ts t. as_read (λ p. last (joint_tail c.args.joint (of_pat p))) _ c.in-Ok.is t _ (joint_off c.args.joint _ (of_pat c.in-Ok.part) c.mark-mark.ensures (sym c.sees.ensures ∙ c.if-not-sees.true))

pub returns-then-not-sees-clause-within : goal.returns-then-not-sees-clause-within
returns-then-not-sees-clause-within c = λ n l. if_read (λ p. p.height ≤ n) _ c.in-Ok.is l

pub returns-in-Ok-opens-clause-reads : goal.returns-in-Ok-opens-clause-reads
returns-in-Ok-opens-clause-reads c = λ r ts t out h. as_read (λ p. last (joint_tail c.args.joint (of_pat p))) _ c.in-Ok.is t out (joint_on c.args.joint _ (of_pat c.in-Ok.part) c.mark-mark.ensures (sym c.sees.ensures ∙ c.if-not-sees.false) (runs_opens c.in-Ok-opens.ensures.reads h))

pub returns-in-Err-opens-clause-reads : goal.returns-in-Err-opens-clause-reads
returns-in-Err-opens-clause-reads c = λ r ts t. gives_up of_pat _ _ c.give_up.ensures (as_read (λ p. last (joint_tail c.args.joint (of_pat p))) _ c.in-Ok.is t _ (joint_on c.args.joint _ (of_pat c.in-Ok.part) c.mark-mark.ensures (sym c.sees.ensures ∙ c.if-not-sees.false) (no_opens c.in-Err-opens.ensures.reads)))

pub returns-in-Err-opens-clause-within : goal.returns-in-Err-opens-clause-within
returns-in-Err-opens-clause-within c = λ n l. none_given n _ _ c.give_up.ensures

pub returns-in-Err-clause-reads : goal.returns-in-Err-clause-reads
returns-in-Err-clause-reads c = λ r ts t. as_fault (λ p. last (joint_tail c.args.joint (of_pat p))) _ c.in-Err.is t
