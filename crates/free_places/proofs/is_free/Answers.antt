use Rattle.std.proofs.Common.{sym, ap, arith}
use Rattle.std.specs.Prelude.{not}
use Rattle.free_places.proofs.Counting.{free-hit, free-miss, free-end}
use Rattle.free_places.proofs.is_free.Goals as goal

pub returns-then-place-j : goal.returns-then-place-j
returns-then-place-j c = sym (ap not (free-hit c.args.used.now c.loop-place.place-index c.args.j (omega arith) c.if-place-j.true c.loop-place.invariant))

pub loop-place-preserved : goal.loop-place-preserved
loop-place-preserved c = free-miss c.args.used.now c.loop-place.place-index c.args.j (omega arith) c.if-place-j.false c.loop-place.invariant

pub returns : goal.returns
returns c = sym (ap not (free-end c.args.used.now c.loop-place.place-index c.args.j (omega arith) c.loop-place.invariant))
