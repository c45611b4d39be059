use Rattle.std.proofs.Common.{sym}
use Rattle.token_cursor.proofs.Fronts.{no_string}
use Rattle.token_cursor.proofs.cursor.Cursor.sees_string.Goals as goal

pub returns-in_default : goal.returns-in_default
returns-in_default c = sym (no_string _ _ _ c.in-Some.ensures.cases c.in_default.not-Str)
