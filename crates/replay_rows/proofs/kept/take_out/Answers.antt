use Rattle.std.proofs.Common.{List, sym, ap, ◌∙◌, map as each}
use Rattle.std.specs.Prelude.{flat_map}
use Rattle.std.proofs.lemmas.List.{take_all}
use Rattle.calculus.specs.declared.ids.Digest.{Digest}
use Rattle.replay_rows.specs.Rows.{filed_rows, stays_from}
use Rattle.replay_rows.proofs.Settling.{taken-more, stays-all}
use Rattle.replay_rows.proofs.kept.take_out.Goals as goal

pub loop-id-init : goal.loop-id-init
loop-id-init c = record { rows = sym (stays-all (filed_rows c.args.rows.now.entries)); filed = c.requires }

pub settle-requires-clause-filed : goal.settle-requires-clause-filed
settle-requires-clause-filed c = c.loop-id.invariant.filed

pub settle-requires-clause-low : goal.settle-requires-clause-low
settle-requires-clause-low c e q m f = absurd (cc e)

pub loop-id-preserved : goal.loop-id-preserved
loop-id-preserved c =
    let gone = c.args.gone.now in
    let old = filed_rows c.args.rows.now.entries in
    let i = c.loop-id.id-index in
    record {
      rows = taken-more gone i _ c.loop-id-test.true old _ _ c.loop-id.invariant.rows c.settle.ensures.rows;
      filed = c.settle.ensures.filed;
    }

pub returns-clause-rows : goal.returns-clause-rows
returns-clause-rows c =
    c.loop-id.invariant.rows ∙ ap (λ (l : List Digest). flat_map (stays_from (each (λ (d : Digest). d.0) l)) (filed_rows c.args.rows.now.entries)) (take_all c.loop-id.id-index c.args.gone.now c.loop-id-test.false)
