use Rattle.std.proofs.Common.{refl, sym, ◌∙◌, inl, inr}
use Rattle.code_faults.proofs.Kids.{no_false}
use Rattle.code_fields.proofs.fields.blamed.Goals as goal

pub returns-then-has_sense : goal.returns-then-has_sense
returns-then-has_sense c = inl (refl, c.has_sense.ensures.only c.if-has_sense.true)

pub returns-else-has_sense : goal.returns-else-has_sense
returns-else-has_sense c = inr (refl, λ i h. no_false (sym (c.has_sense.ensures.all i h) ∙ c.if-has_sense.false))
