use Rattle.std.proofs.Common.{◌≡◌, take, subst, arith}
use Rattle.rho_lanes.proofs.Ends.{parted-ends}
use Rattle.rho_lanes.proofs.difference.first_difference.Goals as goal

pub returns : goal.returns
returns c =
    let e : c.loop-i.i ≡ c.min-shorter.result = omega arith in (
      subst (λ n. take n c.args.a.now ≡ take n c.args.b.now) e c.loop-i.invariant,
      parted-ends c.min-shorter.result c.args.a.now c.args.b.now (omega arith) c.if-a-b.false,
    )
