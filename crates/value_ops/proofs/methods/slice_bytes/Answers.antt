use Rattle.std.proofs.Common.{◌≡◌, ◌≤◌, ◌<◌, length, ap, sym, ◌∙◌, arith}
use Rattle.calculus.specs.Outcome.{gives}
use Rattle.calculus.specs.Operators.{of_bytes}
use Rattle.value_ops.proofs.Arguments.{slice_inside, part_from}
use Rattle.value_ops.proofs.methods.slice_bytes.Goals as goal

pub returns : goal.returns
returns c =
    let inside : c.args.to ≤ length c.args.bytes.now = omega arith in
    slice_inside of_bytes c.args.bytes.now c.args.from c.args.to c.requires inside
    ∙ ap (λ x. gives (of_bytes x)) (sym (part_from c.args.bytes.now c.args.from c.args.to c.requires) ∙ sym c.in_ok-from_slice.ensures.items)
