use Rattle.std.proofs.Common.{◌≡◌, ℕ, ◌<◌, sym, ap, ◌∙◌, rules}
use Rattle.calculus.specs.Operators.{of_text}
use Rattle.calculus.specs.Outcome.{gives}
use Rattle.hex.specs.Hex.{IsBytes}
use Rattle.value_ops.proofs.Hexadecimal.{written_hex}
use Rattle.value_ops.proofs.methods.write_hex.Goals as goal

pub returns : goal.returns
returns c =
    let bytes : IsBytes c.args.bytes.now = λ k. (c.type_inv.bytes k).fits in
    ap (λ x. gives (of_text x)) (written_hex c.args.bytes.now bytes ∙ sym c.in_ok-encode.ensures)
