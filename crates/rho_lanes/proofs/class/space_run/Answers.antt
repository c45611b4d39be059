use Rattle.std.proofs.Common.{refl}
use Rattle.std.proofs.lemmas.Simd.{length-chunk, zip2_of_maps, zip2_splat}
use lib.Lanes.{chunk}
use Rattle.rho_lanes.specs.declared.class.ByteClass.TheVariants.{Space}
use Rattle.rho_lanes.proofs.ClassLanes.{run_in}
use Rattle.rho_lanes.proofs.class.space_run.Goals as goal

pub returns : goal.returns
returns c =
    let v = chunk c.args.at 16 c.args.bytes.now in
    let long = length-chunk c.args.at 16 c.args.bytes.now c.requires in
    run_in Space c.args.bytes.now c.args.at _ _ c.requires c.type_inv.bytes c.first_set.ensures _
    (zip2_of_maps _ _ _ v (zip2_of_maps _ _ _ v (zip2_splat _ v 16 32 long) (zip2_splat _ v 16 9 long)) (zip2_of_maps _ _ _ v (zip2_splat _ v 16 10 long) (zip2_splat _ v 16 13 long))) refl
