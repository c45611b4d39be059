-- What holds of a status that a cause was handed on as.
use Rattle.std.proofs.Common.{Result, Ok, Err}
use Rattle.std.specs.Result.{IfErr, IsErrAnd}

-- what follows of each error that is given holds of the error of a result that gives it
pub handed : {T E : Type 0} (G P : E → Type 0) (r : Result T E) → IsErrAnd r G → ((e : E) → G e → P e) → IfErr r P
handed G P (Ok x) h f = absurd h
handed G P (Err e) h f = f e h
