use Rattle.std.proofs.Common.{◌≡◌, map, take}
use Rattle.events.specs.Found.{without}
use Rattle.row_table.proofs.table.RowTable.take_out.Given as goal

abbrev pub invariant-loop-id : goal.invariant-loop-id
invariant-loop-id l = l.self ≡ without (map (λ d. d.0) (take l.id-index l.ids)) l.initial.self
