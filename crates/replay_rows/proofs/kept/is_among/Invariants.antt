use Rattle.std.proofs.Common.{◌≡◌, drop, map as each}
use Rattle.calculus.specs.declared.ids.Digest.{Digest}
use Rattle.calculus.specs.Steps.{is_one_of}
use Rattle.replay_rows.proofs.kept.is_among.Given as goal

abbrev pub invariant-loop-other : goal.invariant-loop-other
invariant-loop-other l = is_one_of l.id.0 (each (λ (d : Digest). d.0) l.ids) ≡ is_one_of l.id.0 (each (λ (d : Digest). d.0) (drop l.other-index l.ids))
