use Rattle.std.proofs.Common.{◌∙◌}
use Rattle.std.proofs.lemmas.Int.{to_z-of_z}
use Rattle.term_order.proofs.Comparing.{cmp-signed}
use Rattle.term_order.proofs.ground.signed_order.Goals as goal

pub returns : goal.returns
returns c = (simp (to_z-of_z, c.ranges.x, c.ranges.y) at c.cmp.ensures) ∙ cmp-signed c.args.x c.args.y c.ranges.x c.ranges.y
