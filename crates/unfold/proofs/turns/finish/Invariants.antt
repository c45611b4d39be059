use Rattle.unfold.specs.Progress.{Advances, progress}
use Rattle.unfold.proofs.turns.finish.Given as goal

abbrev pub invariant-loop-turn : goal.invariant-loop-turn
invariant-loop-turn l = Advances l.prices l.cap (progress l.fn.work) (progress l.work)
