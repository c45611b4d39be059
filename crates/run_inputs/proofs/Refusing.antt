-- Why inputs are refused, from what each call found.
use Rattle.std.proofs.Common.{◌≡◌, ◌⊎◌, inl, inr, ℕ, List, Result, Ok, Err, Option, Some, None, IfSome, sym, ap, subst}
use Rattle.std.specs.Result.{IfOk}
use Rattle.event_log.specs.Reading.{log_of}
use Rattle.event_log.specs.declared.fault.LogFault.{LogFault}
use Rattle.event_log.specs.declared.fault.LogFault.TheVariants as logged
use Rattle.rho_outside.specs.FileMap.{FileMap}
use Rattle.input_faults.specs.Refusals.{Refusal as SourceRefusal, refusal_of}
use Rattle.input_faults.specs.declared.source_fault.SourceFault.{SourceFault}
use Rattle.input_faults.specs.declared.state_fault.StateFault.{StateFault}
use Rattle.input_faults.specs.declared.state_fault.StateFault.TheVariants as stated
use Rattle.sources.specs.Sources as sources
use Rattle.command_words.specs.Commands.{RunRequest}
use Rattle.run_inputs.specs.Inputs.{Refusal, ◌>>=◌, accepted_state}
use Rattle.run_inputs.specs.Bases.{IsState}
use Rattle.state_reader.specs.Refused.{IsRefused}
use Rattle.run_inputs.specs.Runnable.{MayHaveState}
use Rattle.run_inputs.specs.Refused.{SourceCause, StateCause}
use Rattle.run_inputs.specs.Given.{LogCause}
use Rattle.run_status.specs.Statuses.{LogStatusOf, SourceStatusOf, StateStatusOf}
use Rattle.run_status.specs.declared.status.Status.{Status}

-- a fault of a source is why it is refused
pub fault_cause : (source : List ℕ) (f : SourceFault) (o : Option SourceRefusal) (s : Status) → refusal_of f ≡ o → IfSome o (sources.IsRefused source) → SourceStatusOf f o s → SourceCause source s
fault_cause source f None s e h k = let P = λ (x : Status). SourceCause source x in subst P (sym k) tt
fault_cause source f (Some r) s e h k = let P = λ (x : Status). SourceCause source x in subst P (sym k) (r, (e, h))

-- a fault of a state is why it is none
pub state_cause : (bytes : List ℕ) (f : StateFault) (s : Status) → IsRefused bytes f → StateStatusOf f s → StateCause bytes s
state_cause bytes (stated.Short at) s h k = subst (StateCause bytes) (sym k) (λ e. cc, h)
state_cause bytes (stated.NotCanonical at) s h k = subst (StateCause bytes) (sym k) (λ e. cc, h)
state_cause bytes (stated.WrongRoot stored found) s h k = subst (StateCause bytes) (sym k) (λ e. cc, h)
state_cause bytes (stated.Reducible cont taken) s h k = subst (StateCause bytes) (sym k) (λ e. cc, h)
state_cause bytes stated.NoMemory s h k = subst (StateCause bytes) (sym k) tt

-- a fault of a log is why its bytes are refused
pub log_cause : (bytes : List ℕ) (f : LogFault) (s : Status) → (f ≡ logged.NoMemory) ⊎ (log_of bytes ≡ Err f) → LogStatusOf f s → LogCause bytes s
log_cause bytes logged.NoMemory s h k = subst (LogCause bytes) (sym k) tt
log_cause bytes (logged.Short at) s (inl e) k = absurd cc
log_cause bytes (logged.Short at) s (inr h) k = subst (LogCause bytes) (sym k) h
log_cause bytes (logged.Bad at) s (inl e) k = absurd cc
log_cause bytes (logged.Bad at) s (inr h) k = subst (LogCause bytes) (sym k) h
log_cause bytes (logged.Version found) s (inl e) k = absurd cc
log_cause bytes (logged.Version found) s (inr h) k = subst (LogCause bytes) (sym k) h
log_cause bytes (logged.TooLong entries) s (inl e) k = absurd cc
log_cause bytes (logged.TooLong entries) s (inr h) k = subst (LogCause bytes) (sym k) h

-- what is refused first stays refused
pub bind-err : {A B : Type 0} (r : Result A Refusal) (f : A → Result B Refusal) (x : Refusal) → r ≡ Err x → (r >>= f) ≡ Err x
bind-err r f x e = ap (λ (q : Result _ Refusal). q >>= f) e

-- what comes next where nothing was refused
pub bind-ok : {A B : Type 0} (r : Result A Refusal) (f : A → Result B Refusal) (x : A) → r ≡ Ok x → (r >>= f) ≡ f x
bind-ok r f x e = ap (λ (q : Result _ Refusal). q >>= f) e

-- a state's bytes that are refused may be a state
pub none-yet : (names : RunRequest) (files : FileMap) (x : Refusal) → accepted_state names files ≡ Err x → MayHaveState names files
none-yet names files x e = subst (λ (r : Result (List ℕ) Refusal). IfOk r IsState) (sym e) tt
