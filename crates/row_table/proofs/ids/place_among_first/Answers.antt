use Rattle.std.proofs.Common.{◌<◌, arith, length, [], Some, sym, ◌∙◌, ap, get_or}
use Rattle.calculus.specs.declared.ids.Digest.{Digest}
use Rattle.events.proofs.Counts.{bytes_same}
use Rattle.row_table.proofs.Standing.{stands}
use Rattle.row_table.proofs.ids.place_among_first.Goals as goal

pub returns-then-eq : goal.returns-then-eq
returns-then-eq c =
    let d : Digest = record { 0 = [] } in
    let h : c.loop-place.place < length c.args.ids.now = omega (arith, c.loop-place-test.true, c.min-place-end.ensures) in
    stands c.args.ids.now c.loop-place.place d h ∙ ap Some (bytes_same (get_or c.args.ids.now c.loop-place.place d).0 c.args.id.now.0 (sym c.eq.ensures ∙ c.if-eq.true))
