-- What a loop keeps that only waits.
use Rattle.std.specs.Prelude.{◌≡◌}
use Rattle.atomic_table.specs.declared.shared.Seat.{Seat}

-- the seat is as it was
abbrev pub Stays : {S V : Type 0} → Seat S V → Seat S V → Type 0
Stays p q = (q.table_id ≡ p.table_id) × (q.id ≡ p.id) × (q.me ≡ p.me)
