use Rattle.std.proofs.Common.{arith}
use Rattle.calculus.specs.CodeLaws.{IsShort}
use Rattle.source_rows.proofs.groups.told_short.Goals as goal

pub told-requires : goal.told-requires
told-requires c =
    let s : IsShort c.args.channel.now = omega (arith, c.code_len.ensures) in
    record { closed = c.requires; short = s }
