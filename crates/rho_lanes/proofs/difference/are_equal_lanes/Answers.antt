use Rattle.std.proofs.Common.{◌≡◌, ◌%◌, ◌^◌, take, drop, eqb, eqb-true, subst, w8}
use Rattle.std.proofs.lemmas.Simd.{tops_compared}
use Rattle.std.specs.Simd.Lanes.{mask_l}
use Rattle.rho_lanes.proofs.Lanes.{full, sixteen-set}
use Rattle.rho_lanes.proofs.difference.are_equal_lanes.Goals as goal

pub returns : goal.returns
returns c h =
    let xs = take 16 (drop c.args.at c.args.a.now) in
    let ys = take 16 (drop c.args.at c.args.b.now) in
    sixteen-set xs ys (full c.args.a.now c.args.at c.requires.a) (full c.args.b.now c.args.at c.requires.b) (subst (λ bs. mask_l bs % 2 ^ 64 ≡ 65535) (tops_compared w8 eqb xs ys) (eqb-true _ _ h))
