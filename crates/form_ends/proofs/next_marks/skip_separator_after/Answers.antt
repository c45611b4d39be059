use Rattle.form_ends.proofs.Carried.{known, unread}
use Rattle.std.proofs.Common.{ap, not, sym, ◌∙◌}
use Rattle.form_ends.proofs.next_marks.skip_separator_after.Goals as goal

pub returns-then-is_err-clause-ends : goal.returns-then-is_err-clause-ends
returns-then-is_err-clause-ends g c = λ e. unread _ _ (sym c.is_err.ensures.value ∙ c.if-is_err.true)

pub returns-clause-after : goal.returns-clause-after
returns-clause-after g c = λ e. c.is_err.ensures.negation ∙ ap not c.if-is_err.false

pub returns-clause-is : goal.returns-clause-is
returns-clause-is g c = λ e. sym c.skip_separator.ensures.is ∙ e

pub returns-clause-ends : goal.returns-clause-ends
returns-clause-ends g c = λ e. known _ (sym c.skip_separator.ensures.is ∙ e)
