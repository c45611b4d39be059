use Rattle.std.proofs.Common.{◌≡◌, take, map as each}
use Rattle.std.specs.Prelude.{flat_map}
use Rattle.calculus.specs.declared.ids.Digest.{Digest}
use Rattle.replay_rows.specs.Rows.{filed_rows, stays_from, AreFiled}
use Rattle.replay_rows.proofs.kept.take_out.Given as goal

abbrev pub invariant-loop-id : goal.invariant-loop-id
invariant-loop-id l =
    record {
      rows : filed_rows l.rows.entries ≡ flat_map (stays_from (each (λ (d : Digest). d.0) (take l.id-index l.gone))) (filed_rows l.initial.rows.entries);
      filed : AreFiled l.rows.entries;
    }
