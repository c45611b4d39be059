use Rattle.std.proofs.Common.{◌∙◌}
use Rattle.radix_root.proofs.Places.{place-digest, none-digest}
use Rattle.radix_root.proofs.digests.under.Goals as goal

pub returns-in-Some : goal.returns-in-Some
returns-in-Some c = c.digest.ensures ∙ place-digest c.args.half c.args.children.now c.in-Some.place c.index-children-place.result c.in-Some.ensures.some c.index-children-place.is

pub returns-in-None : goal.returns-in-None
returns-in-None c = none-digest c.args.half c.args.children.now c.in-None.ensures.none
