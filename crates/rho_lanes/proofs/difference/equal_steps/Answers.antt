use Rattle.std.proofs.Common.{◌≡◌, ◌+◌, ◌*◌, take, subst, arith}
use Rattle.rho_lanes.proofs.Lanes.{further}
use Rattle.rho_lanes.proofs.difference.equal_steps.Goals as goal

pub loop-step-preserved : goal.loop-step-preserved
loop-step-preserved c =
    let i = c.loop-step.step in
    let e : i * 16 + 16 ≡ (i + 1) * 16 = omega arith in
    subst (λ n. take n c.args.a.now ≡ take n c.args.b.now) e (further 16 (i * 16) c.args.a.now c.args.b.now c.loop-step.invariant (c.are_equal_lanes.ensures c.if-not-are_equal_lanes.false))
