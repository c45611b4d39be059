use Rattle.std.proofs.Common.{◌≡◌, map, take}
use Rattle.radix_root.proofs.digests.slices_of.Given as goal

abbrev pub invariant-loop-row : goal.invariant-loop-row
invariant-loop-row l = map (λ s. s.now) l.slices.items ≡ map (λ r. r.items) (take l.row-index l.rows)
