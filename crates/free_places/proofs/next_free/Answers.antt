use Rattle.std.proofs.Common.{◌∙◌, sym, arith}
use Rattle.free_places.specs.Places.{has}
use Rattle.free_places.proofs.Counting.{is-free, is-used, none-used, used-next, used-up_to}
use Rattle.free_places.proofs.next_free.Goals as goal

pub loop-j-init : goal.loop-j-init
loop-j-init c = (omega arith, none-used c.args.used.now c.args.from)

pub returns-then-is_free : goal.returns-then-is_free
returns-then-is_free c = record {
  from = c.loop-j.invariant.0;
  within = c.loop-j-test.true;
  free = is-free (has c.args.used.now c.loop-j.j) (sym c.if-is_free.true ∙ c.is_free.ensures);
  before = c.loop-j.invariant.1;
}

pub loop-j-preserved : goal.loop-j-preserved
loop-j-preserved c =
    (omega (arith, c.loop-j.invariant.0), used-next c.args.used.now c.args.from c.loop-j.j (is-used (has c.args.used.now c.loop-j.j) (sym c.if-is_free.false ∙ c.is_free.ensures)) c.loop-j.invariant.1)

pub returns : goal.returns
returns c = used-up_to c.args.used.now c.args.from c.loop-j.j c.args.n c.loop-j-test.false c.loop-j.invariant.1
