use Rattle.std.proofs.Common.{sym, ◌∙◌, arith}
use Rattle.state_reader.proofs.Fronts.{fall, rise, target-at}
use Rattle.state_reader.proofs.Placing.{turned-not}
use Rattle.state_reader.proofs.front.channels_rise.Goals as goal

pub is_less-requires-clause-a : goal.is_less-requires-clause-a
is_less-requires-clause-a c = target-at c.args.binds.now.items _ c.index.result.now c.requires (omega arith) c.index.ensures

pub is_less-requires-clause-b : goal.is_less-requires-clause-b
is_less-requires-clause-b c = target-at c.args.binds.now.items _ c.index-in-loop-i.result.now c.requires (omega arith) c.index-in-loop-i.ensures

pub returns-then-not-is_less-clause-no : goal.returns-then-not-is_less-clause-no
returns-then-not-is_less-clause-no c = λ e h. fall c.args.binds.now.items c.loop-i.i c.index.result.now c.index-in-loop-i.result.now c.loop-i.invariant.from (omega arith) c.index.ensures c.index-in-loop-i.ensures
    (turned-not _ _ (sym c.is_less.ensures ∙ c.if-not-is_less.true)) h

pub loop-i-preserved : goal.loop-i-preserved
loop-i-preserved c = record {
  from = omega arith;
  rising = rise c.args.binds.now.items c.loop-i.i c.index.result.now c.index-in-loop-i.result.now c.loop-i.invariant.from (omega arith) c.index.ensures c.index-in-loop-i.ensures
      (turned-not _ _ (sym c.is_less.ensures ∙ c.if-not-is_less.false)) c.loop-i.invariant.rising;
}
