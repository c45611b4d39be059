use Rattle.std.proofs.Common.{sym, refl, ◌∙◌}
use Rattle.token_cursor.proofs.Fronts.{first_sees, first_takes}
use Rattle.token_cursor.proofs.cursor.Cursor.expect.Goals as goal

pub returns-in-Some-clause-reads : goal.returns-in-Some-clause-reads
returns-in-Some-clause-reads c = first_takes _ _ _ _ c.in-Some.ensures.cases (sym c.is_mark.ensures ∙ c.if-is_mark.true)

pub returns-in_default-clause-reads : goal.returns-in_default-clause-reads
returns-in_default-clause-reads c = record { no = sym (first_sees _ _ _ _ c.in-Some.ensures.cases) ∙ (sym c.is_mark.ensures ∙ c.if-is_mark.false); is = refl; same = refl }
