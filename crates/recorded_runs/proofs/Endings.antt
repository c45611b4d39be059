-- What holds of the end of a run, and after fetches alone.
use Rattle.std.proofs.Common.{◌≡◌, ◌≤◌, ◌∙◌, ℕ, sym, ap, arith}
use Rattle.rho_outside.specs.Causes.{Rose}
use Rattle.run_reports.specs.World.{World, world}
use Rattle.run_status.specs.Endings.{OnRefusal, OnHalt, OnVerdict, status_of}
use Rattle.run_status.specs.declared.status.Status.{Status}
use Rattle.run_status.specs.declared.status.Status.TheVariants.{Done, Usage, ReadFault, WriteFault, State, Source, Prices, Limit, Log, Replay, Exhausted, Faulted, NoMemory, TooLarge}
use Rattle.replays.specs.declared.verdict.Verdict.{Verdict}
use Rattle.replays.specs.declared.verdict.Verdict.TheVariants as ending
use Rattle.recorded_runs.specs.Accepted.{HasDeployed, HasReplayed}
use Rattle.recorded_runs.specs.Fetched.{HasFetched}

-- a verdict is an end of accepted inputs
pub verdict_deployed : (v : Verdict) → HasDeployed (status_of v)
verdict_deployed ending.Done = tt
verdict_deployed ending.Exhausted = tt
verdict_deployed (ending.Faulted step kind) = tt

pub verdict_replayed : (v : Verdict) → HasReplayed (status_of v)
verdict_replayed ending.Done = tt
verdict_replayed ending.Exhausted = tt
verdict_replayed (ending.Faulted step kind) = tt

-- what holds where nothing was kept or put holds of a status with a cause that no verdict and no failed write has
module _ (Cause : Status → Type 0) (done : Cause Done → ⊥) (exhausted : Cause Exhausted → ⊥) (faulted : Cause Faulted → ⊥) (fault : Cause WriteFault → ⊥)
    (P Q R W : Type 0) (p : P) (r : R) where
  pub on_refused : (s : Status) → Cause s → OnRefusal s P × (OnVerdict s Q × (OnHalt s R × (s ≡ WriteFault → W)))
  on_refused Done h = absurd (done h)
  on_refused Exhausted h = absurd (exhausted h)
  on_refused Faulted h = absurd (faulted h)
  on_refused WriteFault h = absurd (fault h)
  on_refused (Usage u) h = (p, (tt, (tt, λ e. cc)))
  on_refused (ReadFault i) h = (p, (tt, (tt, λ e. cc)))
  on_refused (Source f) h = (p, (tt, (tt, λ e. cc)))
  on_refused (Prices f) h = (p, (tt, (tt, λ e. cc)))
  on_refused (Limit n m) h = (p, (tt, (tt, λ e. cc)))
  on_refused (Log f) h = (p, (tt, (tt, λ e. cc)))
  on_refused (Replay f) h = (p, (tt, (tt, λ e. cc)))
  on_refused (State f) h = (p, (tt, (tt, λ e. cc)))
  on_refused NoMemory h = (tt, (tt, (r, λ e. cc)))
  on_refused (TooLarge i n m) h = (p, (tt, (tt, λ e. cc)))

-- a count that rose after a later moment rose after an earlier one
pub rose_before : (before mid now : ℕ) → before ≤ mid → Rose mid now → Rose before now
rose_before before mid now l r = omega (arith, l, r)

-- a world after which only fetches were made differs in their count alone
pub fetched_world : (a m : World) → HasFetched a m → world a.files m.fetches a.keeps a.bytes a.puts ≡ m
fetched_world a m f =
    ap (λ x. world x m.fetches a.keeps a.bytes a.puts) (sym f.files)
    ∙ (ap (λ x. world m.files m.fetches x a.bytes a.puts) (sym f.keeps)
    ∙ (ap (λ x. world m.files m.fetches m.keeps x a.puts) (sym f.bytes)
    ∙ ap (λ x. world m.files m.fetches m.keeps m.bytes x) (sym f.puts)))
