use Rattle.std.proofs.Common.{pos, sym, ap, ◌∙◌, rules, w64}
use Rattle.std.proofs.lemmas.Int.{to_z-of_z}
use Rattle.std.specs.Int.RustNames.{FitsSigned}
use Rattle.calculus.specs.Operators.{of_int, seen}
use Rattle.calculus.specs.Outcome.{gives}
use Rattle.value_ops.proofs.Arguments.{index_inside, index_outside}
use Rattle.value_ops.proofs.methods.byte_at.Goals as goal

pub returns-in-Some : goal.returns-in-Some
returns-in-Some c =
    let h = c.in-Some.ensures.lookup in
    let fits : FitsSigned w64 c.from.result = search rules in
    index_inside (λ b. of_int (pos b)) c.args.bytes.now (seen c.args.index.now) c.in_ok-index.index c.in-Some.byte.now (sym c.in_ok-index.ensures) h.3.0 h.1
    ∙ ap (λ z. gives (of_int z)) (sym (to_z-of_z w64 c.from.result fits ∙ c.from.ensures))

pub returns-in-None : goal.returns-in-None
returns-in-None c =
    let h = c.in-None.ensures.lookup in
    index_outside (λ b. of_int (pos b)) c.args.bytes.now (seen c.args.index.now) c.in_ok-index.index (sym c.in_ok-index.ensures) h.3
