use Rattle.std.proofs.Common.{◌∙◌}
use Rattle.token_cursor.proofs.Fronts.{first_sees}
use Rattle.token_cursor.proofs.cursor.begins.Goals as goal

pub returns-in-Some : goal.returns-in-Some
returns-in-Some c = c.is_mark.ensures ∙ first_sees _ _ _ _ c.in-Some.ensures.cases
