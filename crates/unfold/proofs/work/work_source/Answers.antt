use Rattle.calculus.specs.Unfolding.{Unfolds}
use Rattle.process_laws.proofs.StorableStaying.{offers_are_storable}
use Rattle.unfold.proofs.Works.{within-cap, worked, may-be-stored}
use Rattle.unfold.proofs.work.work_source.Goals as goal

pub settle-requires-clause-storable : goal.settle-requires-clause-storable
settle-requires-clause-storable c =
    let p = c.args.prices.now in
    let t = c.args.term.now in
    let s = c.args.seed.now in
    may-be-stored (Unfolds p c.args.cap t s) (λ w h. offers_are_storable.process p c.args.cap t s w c.requires.closed h) c.unfold.result c.unfold.ensures

pub returns : goal.returns
returns c =
    let p = c.args.prices.now in
    let t = c.args.term.now in
    let s = c.args.seed.now in
    worked (Unfolds p c.args.cap t s) c.args.cap (λ o h. within-cap c.args.cap _ o h.1) c.unfold.result c.settle.result c.unfold.ensures c.settle.ensures
