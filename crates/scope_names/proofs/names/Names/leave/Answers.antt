use Rattle.std.proofs.Common.{◌≡◌, ◌<◌, ◌-◌, length, length-drop, arith, ap, ◌∙◌}
use Rattle.scope_names.proofs.Places.{left-more}
use Rattle.scope_names.proofs.names.Names.leave.Goals as goal

pub loop-self-preserved : goal.loop-self-preserved
loop-self-preserved c =
    let h : 0 < length c.loop-self.self = omega arith in
    let n : length c.leave_last.new.self ≡ length c.loop-self.self - 1 = ap length c.leave_last.ensures ∙ length-drop 1 c.loop-self.self in
    record {
      most = omega (arith, n);
      left = left-more c.args.self.now c.loop-self.self c.leave_last.new.self h c.loop-self.invariant.left c.leave_last.ensures;
    }
