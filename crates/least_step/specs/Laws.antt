-- Where nothing is used up. Each law stands in the contract of a public function that does nothing.
use Rattle.std.specs.Prelude.{List}
use Rattle.calculus.specs.Log.{Step}
use Rattle.calculus.specs.Runs.{Deploy, State, Leads}
use Rattle.events.specs.Events.{AreFresh}
use Rattle.least_step.specs.Least.{NothingIsUsedUp}

-- wherever a legal list leads, its steps used up none of the rows at hand, under fresh digests
abbrev pub LegalListsUseNothingUp : Type 0
LegalListsUseNothingUp = (deploy : Deploy) (ss : List Step) (a : State) → Leads deploy ss a → AreFresh deploy ss → NothingIsUsedUp a.bag a.made
