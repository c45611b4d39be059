use Rattle.std.proofs.Common.{List, ℕ, IfSome, subst}
use Rattle.input_faults.specs.Refusals.{refusal_of}
use Rattle.sources.specs.Sources.{IsRefused}
use Rattle.recorded_runs.proofs.Reading.{no_refusal}
use Rattle.recorded_runs.proofs.inputs.read_process.Goals as goal

pub memory_error-requires : goal.memory_error-requires
memory_error-requires c =
    let f = c.in-Err.fault in
    no_refusal c.args.steps c.ranges.steps.fits (refusal_of f) (subst (λ (x : List ℕ). IfSome (refusal_of f) (IsRefused x)) c.requires c.in-Err.ensures.refused)
