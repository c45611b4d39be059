use Rattle.std.proofs.Common.{sym}
use Rattle.token_cursor.proofs.Fronts.{no_integer}
use Rattle.token_cursor.proofs.cursor.begins_number.Goals as goal

pub returns-in_default : goal.returns-in_default
returns-in_default c = sym (no_integer 0 _ _ _ c.in-Some.ensures.cases c.in_default.not-Int).1
