use Rattle.std.proofs.Common.{sym}
use Rattle.token_cursor.proofs.Fronts.{no_word}
use Rattle.token_cursor.proofs.cursor.Cursor.sees_word.Goals as goal

pub returns-in_default : goal.returns-in_default
returns-in_default c = sym (no_word _ _ _ c.in-Some.ensures.cases c.in_default.not-Word)
