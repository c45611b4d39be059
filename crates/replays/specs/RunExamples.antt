-- Examples of lists of steps that are allowed in turn, and of some that are not.
use Rattle.std.specs.Prelude.{List, [], ◌∷◌}
use Rattle.calculus.specs.Log.{Step}
use Rattle.calculus.specs.Runs.{deploy_of}
use Rattle.calculus.specs.Examples.{nil}
use Rattle.replays.specs.ReplayExamples.{prices, source, printed_datum, printing_step}
use Rattle.replays.specs.RunLaws.{AreAllowedInTurn}

-- steps that are allowed in turn where the checkpoint has the one datum 5 on the name behind `rho:io:stdout`
abbrev pub AreAllowed : List Step → Type 0
AreAllowed ss = AreAllowedInTurn (deploy_of prices 9 (printed_datum ∷ []) nil source) ss

-- steps that are allowed in turn, and steps that are not
pub record TurnExamples : Type 0 where
  -- no step
  pub none : AreAllowed []
  -- the built-in receiver takes the datum
  pub once : AreAllowed (printing_step ∷ [])
  -- the datum is gone
  pub twice : AreAllowed (printing_step ∷ printing_step ∷ []) → ⊥
