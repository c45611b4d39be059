use Rattle.hub_desks.proofs.Staying.{Stays}
use Rattle.hub_desks.proofs.desks.take_desk.Given as goal

abbrev pub invariant-loop : goal.invariant-loop
invariant-loop g l = Stays l.initial.token l.token
