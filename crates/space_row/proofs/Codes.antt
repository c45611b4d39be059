-- The order of the codes of a row's channels.
use Rattle.std.proofs.Common.{ℕ, List, [], ◌∷◌}
use Rattle.calculus.specs.Order.{IsAscending}
use Rattle.calculus.specs.Storing.{AreRising}
use Rattle.calculus.proofs.Ordered.{up_to_total}
pub use Rattle.term_encoder.proofs.Channels.{channels-receive}

-- what rises ascends
pub rising-ascending : (cs : List (List ℕ)) → AreRising cs → IsAscending cs
rising-ascending [] h = tt
rising-ascending (c ∷ []) h = (tt, tt)
rising-ascending (c ∷ d ∷ cs) h = (up_to_total d c h.0, rising-ascending (d ∷ cs) h.1)
