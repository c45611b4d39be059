-- What a verdict of the program stands for.
use Rattle.calculus.specs.Runs.{Verdict, done, exhausted, faulted}
use Rattle.replays.specs.declared.verdict.Verdict.{Verdict as Ending}
use Rattle.replays.specs.declared.verdict.Verdict.TheVariants as ending

-- how a run ended
abbrev pub verdict_of : Ending → Verdict
verdict_of ending.Done = done
verdict_of ending.Exhausted = exhausted
verdict_of (ending.Faulted step kind) = faulted step kind
