use Rattle.std.proofs.Common.{leb, cond, sym, refl}
use Rattle.std.proofs.lemmas.Simd.{length-chunk, splat_is_map, zip2_of_maps, zip2_splat}
use Rattle.std.proofs.lemmas.List.{map-id}
use lib.Lanes.{chunk}
use Rattle.rho_lanes.specs.declared.class.ByteClass.TheVariants.{Plain}
use Rattle.rho_lanes.proofs.ClassLanes.{run_in}
use Rattle.rho_lanes.proofs.class.plain_run.Goals as goal

pub returns : goal.returns
returns c =
    let v = chunk c.args.at 16 c.args.bytes.now in
    let long = length-chunk c.args.at 16 c.args.bytes.now c.requires in
    run_in Plain c.args.bytes.now c.args.at _ _ c.requires c.type_inv.bytes c.first_set.ensures _
    (zip2_of_maps _ _ _ v (zip2_of_maps _ _ _ v (zip2_splat _ v 16 34 long) (zip2_splat _ v 16 92 long)) (zip2_of_maps (λ a b. cond (leb a b) 255 0) _ _ v (splat_is_map v 16 128 long) (sym (map-id v)))) refl
