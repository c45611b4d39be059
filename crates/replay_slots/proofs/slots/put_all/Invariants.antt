use Rattle.std.proofs.Common.{◌≡◌, ◌≤◌, ℕ, length, get_or}
use Rattle.std.specs.Prelude.{None}
use Rattle.replay_slots.specs.Hands.{GainsRow}
use Rattle.replay_slots.proofs.Stepping.{UpTo}
use Rattle.replay_slots.proofs.slots.put_all.Given as goal

abbrev pub invariant-loop-k : goal.invariant-loop-k
invariant-loop-k l =
    record {
      slots : UpTo (λ k old new. GainsRow (get_or l.fn.copies.items k None) old new) l.k None l.initial.slots.items l.slots.items;
      long : length l.rest.items ≡ 64;
      rest : (k : ℕ) → l.k ≤ k → get_or l.rest.items k None ≡ get_or l.fn.copies.items k None;
    }
