use Rattle.std.proofs.Common.{sym, ap, ◌∙◌}
use Rattle.rho_term.specs.Parts.{part_tree}
use Rattle.offered_rows.specs.Offers.{row_of}
use Rattle.offered_rows.proofs.Rows.{some-parts, first-offered, not-offered}
use Rattle.offered_rows.proofs.row.offer_of.Goals as goal

pub remove-part-requires : goal.remove-part-requires
remove-part-requires c =
    let h = c.requires in
    some-parts c.into_parts-parts.result.items _ c.args.term (part_tree h.0) h.2 c.into_parts-parts.ensures.parts (sym c.into_parts-parts.result.ok.0)

pub unreachable-requires : goal.unreachable-requires
unreachable-requires c =
    let w = first-offered c.into_parts-parts.result.items c.remove-part.result c.args.term c.requires c.into_parts-parts.ensures.parts c.remove-part.ensures.value in
    not-offered c.remove-part.result w.0 c.in-Err.ensures.1.0 c.in-Err.ensures.1.1

pub returns : goal.returns
returns c =
    let w = first-offered c.into_parts-parts.result.items c.remove-part.result c.args.term c.requires c.into_parts-parts.ensures.parts c.remove-part.ensures.value in
    c.in-Ok.ensures ∙ ap (row_of c.args.id.0) w.1
