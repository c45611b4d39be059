use Rattle.std.proofs.Common.{sym}
use Rattle.token_cursor.proofs.Fronts.{no_uri}
use Rattle.token_cursor.proofs.cursor.Cursor.sees_uri.Goals as goal

pub returns-in_default : goal.returns-in_default
returns-in_default c = sym (no_uri _ _ _ c.in-Some.ensures.cases c.in_default.not-Uri)
