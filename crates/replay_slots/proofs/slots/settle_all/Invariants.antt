use Rattle.std.proofs.Common.{◌≡◌, map as each}
use Rattle.std.specs.Prelude.{None, option_map}
use Rattle.calculus.specs.declared.ids.Digest.{Digest}
use Rattle.event_log.specs.View.{step_of}
use Rattle.replay_slots.specs.Hands.{IsSlotFiled}
use Rattle.replay_rows.specs.Rows.{part_of, settled_part}
use Rattle.replay_slots.proofs.Stepping.{UpTo}
use Rattle.replay_slots.proofs.slots.settle_all.Given as goal

abbrev pub invariant-loop-k : goal.invariant-loop-k
invariant-loop-k l =
    UpTo (λ k old new. (option_map part_of new ≡ option_map (settled_part (step_of l.step) (each (λ (d : Digest). d.0) l.gone)) (option_map part_of old)) × IsSlotFiled new) l.k None l.initial.slots.items l.slots.items
