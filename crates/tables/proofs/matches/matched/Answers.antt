use Rattle.std.proofs.Common.{arith}
use Rattle.calculus.specs.CodeLaws.{IsShort}
use Rattle.tables.proofs.matches.matched.Goals as goal

pub match_one-requires : goal.match_one-requires
match_one-requires c =
    let s : IsShort c.args.process.now = omega (arith, c.code_len.ensures) in
    record { closed = c.requires; short = s }
