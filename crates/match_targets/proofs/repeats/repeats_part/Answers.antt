use Rattle.std.proofs.Common.{◌≡◌, ◌+◌, ◌-◌, ◌<◌, length, sym, ◌∙◌, arith, rules}
use Rattle.free_places.specs.Places.{has}
use Rattle.free_places.proofs.Counting.{is-free}
use Rattle.match_targets.proofs.Repeating.{part-repeats}
use Rattle.match_targets.proofs.Holding.{held_length}
use Rattle.match_targets.proofs.repeats.repeats_part.Goals as goal

pub offset_bounds-parts-j : goal.offset_bounds-parts-j
offset_bounds-parts-j c =
    let l : c.args.j - 1 < length c.parts-parts.result.now = omega (arith, c.requires.within, held_length c.args.target.now c.parts-parts.result.now c.parts-parts.ensures.parts) in
    first_of (omega arith, search rules, grind arith)

pub bounds-parts-j : goal.bounds-parts-j
bounds-parts-j c = omega (arith, c.requires.within, held_length c.args.target.now c.parts-parts.result.now c.parts-parts.ensures.parts)

pub offset_bounds-parts-j-2 : goal.offset_bounds-parts-j-2
offset_bounds-parts-j-2 c =
    let l : c.args.j < length c.parts-parts.result.now = omega (arith, c.requires.within, held_length c.args.target.now c.parts-parts.result.now c.parts-parts.ensures.parts) in
    first_of (omega arith, search rules, grind arith)

pub bounds-parts-j-2 : goal.bounds-parts-j-2
bounds-parts-j-2 c = omega (arith, c.requires.within, held_length c.args.target.now c.parts-parts.result.now c.parts-parts.ensures.parts)

pub returns : goal.returns
returns c e =
    let l : c.args.j < length c.parts-parts.result.now = omega (arith, c.requires.within, held_length c.args.target.now c.parts-parts.result.now c.parts-parts.ensures.parts) in
    let n : c.args.j ≡ c.args.j - 1 + 1 = omega (arith, c.if-j-eq0.false) in
    part-repeats c.args.target.now c.args.used.now c.parts-parts.result.now (c.args.j - 1) c.args.j c.index-parts-j.result c.index-parts-j-2.result c.part_order.result
    c.requires.ready c.parts-parts.ensures.parts c.parts-parts.ensures.normal n l (is-free (has c.args.used.now (c.args.j - 1)) (sym c.if-not-is_free.false ∙ c.is_free.ensures))
    c.index-parts-j.is c.index-parts-j-2.is c.part_order.ensures (sym c.is_eq.ensures ∙ e)
