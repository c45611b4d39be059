use Rattle.free_places.proofs.Counting.{is-free, is-used, spent-next, spent-not}
use Rattle.free_places.specs.Places.{has}
use Rattle.std.proofs.Common.{◌∙◌, sym}
use Rattle.free_places.proofs.is_spent.Goals as goal

pub returns-then-is_free : goal.returns-then-is_free
returns-then-is_free c =
    spent-not c.args.used.now c.args.n c.loop-j.j c.loop-j-test.true (is-free (has c.args.used.now c.loop-j.j) (sym c.if-is_free.true ∙ c.is_free.ensures)) c.loop-j.invariant

pub loop-j-preserved : goal.loop-j-preserved
loop-j-preserved c =
    spent-next c.args.used.now c.args.n c.loop-j.j c.loop-j-test.true (is-used (has c.args.used.now c.loop-j.j) (sym c.if-is_free.false ∙ c.is_free.ensures)) c.loop-j.invariant
