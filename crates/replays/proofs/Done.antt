-- One verdict of the program alone stands for done.
use Rattle.std.proofs.Common.{◌≡◌, ℕ, refl}
use Rattle.std.specs.Prelude.{Option}
use Rattle.calculus.specs.declared.fault.FaultKind.{FaultKind}
use Rattle.calculus.specs.Runs.{done, exhausted, faulted}
use Rattle.replays.specs.declared.verdict.Verdict.{Verdict as Ending}
use Rattle.replays.specs.declared.verdict.Verdict.TheVariants as ending
use Rattle.replays.specs.View.{verdict_of}

exhausted-is-none : exhausted ≡ done → ⊥
exhausted-is-none e = cc

faulted-is-none : (step : Option ℕ) (kind : FaultKind) → faulted step kind ≡ done → ⊥
faulted-is-none step kind e = cc

pub is-done : (v : Ending) → verdict_of v ≡ done → v ≡ ending.Done
is-done ending.Done e = refl
is-done ending.Exhausted e = absurd (exhausted-is-none e)
is-done (ending.Faulted step kind) e = absurd (faulted-is-none step kind e)
