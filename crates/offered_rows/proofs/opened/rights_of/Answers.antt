use Rattle.std.proofs.Common.{sym, ap, ◌∙◌}
use Rattle.offered_rows.specs.Offers.{bundle_rights}
use Rattle.offered_rows.proofs.Bundles.{rights-other}
use Rattle.offered_rows.proofs.opened.rights_of.Goals as goal

pub returns-then-parts-ne1 : goal.returns-then-parts-ne1
returns-then-parts-ne1 c = sym (ap bundle_rights c.parts-parts.ensures.parts ∙ rights-other c.parts-parts.result.now c.if-parts-ne1.true)
