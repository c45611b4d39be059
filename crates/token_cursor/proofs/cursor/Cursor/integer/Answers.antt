use Rattle.std.proofs.Common.{refl, arith}
use Rattle.token_cursor.proofs.Fronts.{no_integer}
use Rattle.token_cursor.proofs.cursor.Cursor.integer.Goals as goal

pub returns-in_default-kind : goal.returns-in_default-kind
returns-in_default-kind c = record { reads = record { no = (no_integer _ _ _ _ c.in-Some.ensures.cases c.in_default-kind.not-Int).0; is = refl; same = refl }; shorter = omega arith; fits = tt }
