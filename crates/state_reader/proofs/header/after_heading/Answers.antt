use Rattle.std.proofs.Common.{◌++◌, ◌∙◌, sym, ap, refl, arith}
use Rattle.state_reader.specs.Files.{heading}
use Rattle.state_reader.proofs.Heading.{cut-heading, after-heading}
use Rattle.state_reader.proofs.header.after_heading.Goals as goal

pub returns-then-len-clause-cut : goal.returns-then-len-clause-cut
returns-then-len-clause-cut c = (refl, cut-heading c.args.bytes.now c.args.len c.requires.len c.requires.same (omega arith))

pub returns-clause-is : goal.returns-clause-is
returns-clause-is c = after-heading c.args.bytes.now c.args.len (omega arith) c.requires.same ∙ ap (λ z. heading ++ z) (sym c.rest_of.ensures)
