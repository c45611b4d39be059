use Rattle.std.proofs.Common.{sym}
use Rattle.calculus.specs.Tree.{bundle}
use Rattle.calculus.specs.Shape.{one}
use Rattle.offered_rows.proofs.Rows.{some-parts}
use Rattle.offered_rows.proofs.Bundles.{inside-is, inside-bundle}
use Rattle.offered_rows.proofs.opened.inside.Goals as goal

pub remove-part-requires : goal.remove-part-requires
remove-part-requires c =
    let h = c.requires in
    some-parts c.into_parts-parts.result.items _ c.args.term (one (bundle h.0) h.1) h.2 c.into_parts-parts.ensures.parts (sym c.into_parts-parts.result.ok.0)

pub unreachable-requires : goal.unreachable-requires
unreachable-requires c =
    inside-bundle c.into_parts-parts.result.items c.remove-part.result c.args.term c.requires c.into_parts-parts.ensures.parts c.remove-part.ensures.value c.in-Err.ensures.1

pub returns : goal.returns
returns c = λ r e. inside-is c.into_parts-parts.result.items c.remove-part.result c.args.term c.in-Ok.ensures.0 r c.in-Ok.body c.requires c.into_parts-parts.ensures.parts c.remove-part.ensures.value c.in-Ok.ensures.1 e
