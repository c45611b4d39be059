use Rattle.free_places.proofs.Counting.{Spent}
use Rattle.free_places.proofs.is_spent.Given as goal

abbrev pub invariant-loop-j : goal.invariant-loop-j
invariant-loop-j l = Spent l.used l.n l.j
