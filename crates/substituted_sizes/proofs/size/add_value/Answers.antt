use Rattle.std.proofs.Common.{arith}
use Rattle.term_encoder.proofs.Lengths.{size-code}
use Rattle.substituted_sizes.proofs.Extending.{parts-size, parts-height}
use Rattle.substituted_sizes.proofs.size.add_value.Goals as goal

pub returns : goal.returns
returns c =
    let s = parts-size c.args.value.now _ c.parts-parts.ensures.parts in
    let h = parts-height c.args.value.now _ c.parts-parts.ensures.parts in
    record {
      height = omega (arith, h);
      length = omega (arith, s, size-code c.args.value.now);
    }
