use Rattle.hub_desks.proofs.Staying.{Stays}
use Rattle.hub_desks.proofs.desks.look_round.Given as goal

abbrev pub invariant-loop-step : goal.invariant-loop-step
invariant-loop-step g l = Stays l.initial.token l.token
