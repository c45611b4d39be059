use Rattle.std.proofs.Common.{refl, sym, subst}
use Rattle.std.specs.Prelude.{Some, Option}
use Rattle.calculus.specs.Rows.{Row}
use Rattle.replay_space.specs.declared.seen.Seen.{Seen}
use Rattle.replay_slots.specs.Hands.{Slot, HasRoomAt, GainsRow}
use Rattle.replay_slots.proofs.slots.put_at.Goals as goal

pub put-requires : goal.put-requires
put-requires c = record { room = subst (HasRoomAt c.in-Some.seen.row.id) c.in-Some-slot.is (c.requires c.in-Some.seen c.in-Some.is) }

pub returns-in-Some-slot : goal.returns-in-Some-slot
returns-in-Some-slot c =
    let after : Slot = Some (record { number = c.in-Some-slot.kept.number; rows = c.put.new.rows; built = c.in-Some-slot.kept.built }) in
    subst (λ (o : Option (Seen Row)). GainsRow o c.args.slot.now after) (sym c.in-Some.is)
    (subst (λ (x : Slot). GainsRow (Some c.in-Some.seen) x after) (sym c.in-Some-slot.is) (_, refl, record { number = refl; rows = c.put.ensures.rows; filed = c.put.ensures.filed; built = refl }))
