use Rattle.hub_steps.proofs.Loops.{Taking}
use Rattle.hub_steps.proofs.steps.take_turns.Given as goal

abbrev pub invariant-loop-rest : goal.invariant-loop-rest
invariant-loop-rest g l = Taking g.S.Scene.meaning l.initial.token l.token (g.S.Scene.in_hand l.held) l.shards l.rest

abbrev pub decreases-loop-rest : goal.decreases-loop-rest
decreases-loop-rest g l = l.rest
