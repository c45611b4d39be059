use Rattle.std.proofs.Common.{refl, sym, ◌∙◌, ap, subst}
use Rattle.std.specs.Prelude.{IsSome}
use Rattle.std.specs.Option.{option_copied_mut}
use Rattle.row_table.proofs.Standing.{none-left, noted}
use Rattle.row_table.proofs.ids.note_place.Goals as goal

pub returns-then-place-lt-FEW : goal.returns-then-place-lt-FEW
returns-then-place-lt-FEW c = none-left c.args.places.now c.remove.new.self c.args.id.now c.args.place c.remove.ensures.updates

pub returns-in-Some : goal.returns-in-Some
returns-in-Some c =
    let e = sym c.get_mut.ensures.value ∙ ap option_copied_mut c.in-Some.is in
    let u = (c.get_mut.follows.holds c.args.place).3 (subst IsSome (sym e) refl) in
    noted c.args.places.now (c.get_mut.follows.lender c.args.place) c.args.id.now c.args.place u
