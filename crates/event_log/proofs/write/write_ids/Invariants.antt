use Rattle.std.proofs.Common.{◌≡◌, ◌++◌, map, take}
use Rattle.calculus.specs.Bytes.{joined}
use Rattle.event_log.proofs.write.write_ids.Given as goal

abbrev pub invariant-loop-id : goal.invariant-loop-id
invariant-loop-id l = l.bytes.items ≡ l.initial.bytes.items ++ joined (map (λ id. id.0) (take l.id-index l.ids))
