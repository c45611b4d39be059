-- A hub that was not stopped.
use Rattle.std.proofs.Common.{◌≡◌, false, refl, Some, None}
use Rattle.std.specs.Prelude.{Option, is_some}

pub no-stop : {A : Type 0} (o : Option A) → is_some o ≡ false → o ≡ None
no-stop None e = refl
no-stop (Some x) e = cc e
