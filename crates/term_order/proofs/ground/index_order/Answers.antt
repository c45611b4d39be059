use Rattle.std.proofs.Common.{◌∙◌}
use Rattle.term_order.proofs.Comparing.{cmp-be32}
use Rattle.term_order.proofs.ground.index_order.Goals as goal

pub returns : goal.returns
returns c = c.cmp.ensures ∙ cmp-be32 c.args.x c.args.y c.ranges.x.fits c.ranges.y.fits
