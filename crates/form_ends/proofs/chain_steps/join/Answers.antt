use Rattle.calculus.specs.Meaning.{pat_written}
use Rattle.form_ends.proofs.Chains.{join_height, made_on}
use Rattle.form_ends.specs.Chains.{joined}
use Rattle.form_steps.proofs.Handed.{as_fault, as_read, if_read, made_room}
use Rattle.token_cursor.proofs.Steps.{turns_back}
use Rattle.token_cursor.specs.Reading.{of_pat}
use Rattle.std.proofs.Common.{arith, ◌+◌, ◌<◌, ◌^◌}
use Rattle.form_ends.proofs.chain_steps.join.Goals as goal

pub join_two-requires : goal.join_two-requires
join_two-requires c = record { left = c.requires.left; right = if_read (λ p. p.height + 1 < 2 ^ 32) _ c.in-Ok.is c.requires.right }

pub returns-in-Ok-clause-reads : goal.returns-in-Ok-clause-reads
returns-in-Ok-clause-reads c = λ free r ts us after t. made_on pat_written after (joined c.args.joint (of_pat c.args.left) (of_pat c.in-Ok.right)) _ c.join_two.ensures.tree (join_height c.args.joint c.args.left c.in-Ok.right _ c.join_two.ensures.height) (as_read (λ p. after (joined c.args.joint (of_pat c.args.left) (of_pat p))) _ c.in-Ok.is t)

pub returns-in-Ok-clause-room : goal.returns-in-Ok-clause-room
returns-in-Ok-clause-room c = λ n l h. let k = if_read (λ p. p.height < n) _ c.in-Ok.is h in made_room _ c.join_two.ensures.height (omega (arith, k, l))

pub returns-in-Err-clause-reads : goal.returns-in-Err-clause-reads
returns-in-Err-clause-reads c = λ free r ts us after t. turns_back (λ p. after (of_pat p)) _ _ c.give_up.ensures (as_fault (λ p. after (joined c.args.joint (of_pat c.args.left) (of_pat p))) _ c.in-Err.is t)
