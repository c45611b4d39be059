use Rattle.std.proofs.Common.{◌≡◌, ◌⊎◌, inl, inr, Result, Err, subst}
use Rattle.std.specs.Result.{IsOk}
use Rattle.event_log.specs.Reading.{log_of}
use Rattle.event_log.specs.declared.fault.LogFault.{LogFault}
use Rattle.event_log.specs.declared.fault.LogFault.TheVariants as fault
use Rattle.recorded_runs.proofs.plans.read_played.Goals as goal

-- what is read has no fault
no-fault : (A : Type 0) (v : Result A LogFault) (e : LogFault) → IsOk v → (e ≡ fault.NoMemory) ⊎ (v ≡ Err e) → e ≡ fault.NoMemory
no-fault A v e o (inl h) = h
no-fault A v e o (inr h) = absurd (none A e (subst IsOk h o))
  where
    none : (B : Type 0) (f : LogFault) → IsOk (let r : Result B LogFault = Err f in r) → ⊥
    none B f k = cc

pub log_memory_error-requires : goal.log_memory_error-requires
log_memory_error-requires c = no-fault _ (log_of c.args.text.now) c.in-Err.fault c.requires c.in-Err.ensures.log
