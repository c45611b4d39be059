use Rattle.std.proofs.Common.{◌≡◌, ◌∷◌, take, map as each}
use Rattle.calculus.specs.declared.ids.Digest.{Digest}
use Rattle.replay_rows.specs.Rows.{filed_rows, counted_in, AreFiled}
use Rattle.replay_rows.proofs.kept.count_named.Given as goal

abbrev pub invariant-loop-i : goal.invariant-loop-i
invariant-loop-i l =
    record {
      rows : filed_rows l.rows.entries ≡ each (counted_in (l.step.cont.0 ∷ each (λ (d : Digest). d.0) (take l.i l.step.taken.items))) (filed_rows l.fn.rows.entries);
      filed : AreFiled l.rows.entries;
    }
