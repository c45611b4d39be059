-- What is owed where a call leaves early.
use Rattle.std.proofs.Common.{◌≡◌, ap}
use Rattle.std.specs.Prelude.{Result, Ok, Err, IsErrAnd}

-- an error that is passed on is the result
pub is-err : {A E : Type 0} (r : Result A E) (e : E) → IsErrAnd r (λ y. y ≡ e) → r ≡ Err e
is-err (Ok a) e h = absurd h
is-err (Err y) e h = ap Err h
