use Rattle.std.proofs.Common.{refl, inl, arith}
use Rattle.token_cursor.proofs.Fronts.{no_uri}
use Rattle.token_cursor.proofs.cursor.Cursor.uri.Goals as goal

pub returns-in_default-kind : goal.returns-in_default-kind
returns-in_default-kind c = record { reads = inl (record { no = no_uri _ _ _ c.in-Some.ensures.cases c.in_default-kind.not-Uri; is = refl; same = refl }); shorter = omega arith }
