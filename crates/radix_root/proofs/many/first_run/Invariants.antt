use Rattle.std.proofs.Common.{◌≡◌, ◌≤◌, take}
use Rattle.radix_root.specs.Leaves.{half_of}
use Rattle.radix_root.specs.Groups.{AllGroups}
use Rattle.radix_root.proofs.many.first_run.Given as goal

-- the keys so far have the half byte of the first
abbrev pub invariant-loop-place : goal.invariant-loop-place
invariant-loop-place l = AllGroups (λ k. half_of l.depth k ≡ l.half) (take l.place l.groups) × (1 ≤ l.place)
