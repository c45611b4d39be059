use Rattle.calculus.specs.Unfolding.{UnfoldsUnder}
use Rattle.process_laws.proofs.StorableStaying.{offers_are_storable}
use Rattle.unfold.proofs.Works.{within-cap, worked, may-be-stored}
use Rattle.unfold.proofs.work.work_body.Goals as goal

pub settle-requires-clause-storable : goal.settle-requires-clause-storable
settle-requires-clause-storable c =
    let p = c.args.prices.now in
    let vs = c.args.values.now in
    let t = c.args.body.now in
    let s = c.args.seed.now in
    may-be-stored (UnfoldsUnder p c.args.cap vs t s) (λ w h. offers_are_storable.body p c.args.cap vs t s w c.requires.closed h) c.unfold_body.result c.unfold_body.ensures

pub returns : goal.returns
returns c =
    let p = c.args.prices.now in
    let vs = c.args.values.now in
    let t = c.args.body.now in
    let s = c.args.seed.now in
    worked (UnfoldsUnder p c.args.cap vs t s) c.args.cap (λ o h. within-cap c.args.cap _ o h.1) c.unfold_body.result c.settle.result c.unfold_body.ensures c.settle.ensures
