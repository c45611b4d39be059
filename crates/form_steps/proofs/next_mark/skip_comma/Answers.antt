use Rattle.form_steps.proofs.Turning.{sees_comma}
use Rattle.token_cursor.specs.Meaning.{view}
use Rattle.token_cursor.specs.Reading.{sees_member}
use Rattle.std.proofs.Common.{sym, true, ◌∙◌, ◌≡◌}
use Rattle.form_steps.proofs.next_mark.skip_comma.Goals as goal

pub returns-clause-is : goal.returns-clause-is
returns-clause-is c = let m : sees_member (view c.args.cursor.now.rest.now) ≡ true = sym c.sees_member.ensures ∙ c.if-not-sees_member.false in c.skip.ensures.is ∙ (sees_comma (view c.args.cursor.now.rest.now) m ∙ sym m)
