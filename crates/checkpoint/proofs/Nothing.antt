-- The state without rows.
use Rattle.std.proofs.Common.{◌≡◌, [], refl}
use Rattle.std.specs.Prelude.{None}
use Rattle.calculus.specs.Log.{Step}
use Rattle.calculus.specs.Steps.{meeting}
use Rattle.calculus.proofs.Opened.{hashing}
use Rattle.calculus.proofs.Candidates.{candidates_suffice}
use Rattle.events.specs.Events.{stored}
use Rattle.std.proofs.lemmas.List.Elements.{All-nil}
use Rattle.calculus.specs.Storing.{IsStorable}
use Rattle.checkpoint.specs.Kept.{AreKept}

-- the built-in receivers make no step with each other
nothing-meets : (s : Step) → meeting (stored []) [] s ≡ None
unfolding hashing
nothing-meets s = candidates_suffice (stored []) [] refl s

-- no rows are the rows of a state
pub nothing-kept : AreKept []
nothing-kept = record { order = record { storable = All-nil IsStorable; ascending = tt; ids = refl }; quiet = λ d s. nothing-meets s }
