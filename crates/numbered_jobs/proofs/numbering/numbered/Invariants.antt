use Rattle.std.proofs.Common.{◌≡◌, ℕ, ◌+◌, ◌++◌, length, map}
use Rattle.numbered_jobs.proofs.numbering.numbered.Given as goal

abbrev pub invariant-loop-thing : goal.invariant-loop-thing
invariant-loop-thing g l = record {
  many : l.number + length l.thing-iterator.rest.items ≡ length l.fn.things.items;
  same : map (λ (p : ℕ × g.row.A.Denot). p.1) l.pairs.items ++ l.thing-iterator.rest.items ≡ l.fn.things.items;
}
