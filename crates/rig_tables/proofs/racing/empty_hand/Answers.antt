use Rattle.std.proofs.Common.{◌∙◌, arith}
use Rattle.rig_tables.proofs.Staying.{one-more}
use Rattle.rig_tables.proofs.racing.empty_hand.Goals as goal

pub loop-number-preserved : goal.loop-number-preserved
loop-number-preserved c =
    let n = c.loop-number.number in
    let i = c.loop-number.invariant in
    record {
      there = one-more n c.loop-number.held c.add.new.self c.in_ok-new.field-0 c.add.ensures.here c.add.ensures.others i.there;
      rest = λ k le. c.add.ensures.others k (λ e. omega (arith, le, e)) ∙ i.rest k (omega (arith, le));
    }
