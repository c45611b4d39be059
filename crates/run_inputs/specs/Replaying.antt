-- When a replay ends before its log is replayed.
use Rattle.std.specs.Prelude.{◌≡◌, ◌⊎◌, ℕ, ◌<◌, List, Err, IsOk, IsOkAnd, Option, ⊤}
use Rattle.event_log.specs.Reading.{log_of}
use Rattle.event_log.specs.declared.fault.LogFault.{LogFault}
use Rattle.rho_outside.specs.FileMap.{FileMap, Lacks, GivesAtLeast}
use Rattle.rho_outside.specs.Causes.{Rose}
use Rattle.rho_outside.specs.Told.{Told}
use Rattle.command_words.specs.Commands.{RunRequest}
use Rattle.run_inputs.specs.Inputs.{Refusal, too_large, Task, name_of, size_limit, accepted_prices, accepted_source, accepted_log}
use Rattle.run_inputs.specs.Runnable.{IsRunnable, HasState, MayHaveState}
use Rattle.run_inputs.specs.Refused.{IsFaultOf, IsPriceFault, PricesReach, LacksState}
use Rattle.run_status.specs.declared.status.Input.{Input}
use Rattle.run_status.specs.declared.status.Input.TheVariants.{Source, Log}
use Rattle.run_status.specs.declared.status.Status.{Status}
use Rattle.run_status.specs.declared.status.Status.TheVariants as status

-- each told input before this one was accepted
abbrev pub ReplayReaches : Option FileMap → RunRequest → Input → Type 0
ReplayReaches told names Source = Told told (λ files. HasState names files × IsOk (accepted_prices names files))
ReplayReaches told names Log = Told told (λ files. HasState names files × IsOkAnd (accepted_source names files) IsRunnable)
ReplayReaches told names input = PricesReach told names input

-- the first refusal of all that a replay needs: of its files up to the source, or of its log after a source that runs
abbrev pub IsReplayRefusal : RunRequest → FileMap → Refusal → Type 0
IsReplayRefusal names files r = MayHaveState names files
    × ((accepted_source names files ≡ Err r) ⊎ (IsOkAnd (accepted_source names files) IsRunnable × (accepted_log names files ≡ Err r)))

-- the bytes of a log are refused so, after a source that runs
abbrev pub IsLogFault : LogFault → Task × List ℕ → Type 0
IsLogFault f inputs = IsRunnable inputs.0 × (log_of inputs.1 ≡ Err f)

-- why a replay refuses its files, from the counts of failed fetches before and after
abbrev pub ReplayRefusedFor : Option FileMap → RunRequest → ℕ → ℕ → Status → Type 0
ReplayRefusedFor told names before now (status.ReadFault input) = (Rose before now ⊎ Lacks told (name_of names input)) × ReplayReaches told names input
ReplayRefusedFor told names before now (status.TooLarge input seen max) = (max ≡ size_limit input) × ((max < seen) × (GivesAtLeast told (name_of names input) seen × Told told (λ files. IsReplayRefusal names files (too_large input))))
ReplayRefusedFor told names before now (status.State f) = LacksState told names f
ReplayRefusedFor told names before now (status.Prices f) = Told told (λ files. (r : Refusal) × (IsPriceFault f r × IsReplayRefusal names files r))
ReplayRefusedFor told names before now (status.Source f) = Told told (λ files. HasState names files × IsOkAnd (accepted_source names files) (λ task. IsFaultOf f task.source))
ReplayRefusedFor told names before now (status.Log f) = Told told (λ files. HasState names files × IsOkAnd (accepted_log names files) (IsLogFault f))
ReplayRefusedFor told names before now status.NoMemory = ⊤
ReplayRefusedFor told names before now _ = ⊥

-- a status says this fault of a log; want of memory may stand in its place
abbrev pub SaysLog : LogFault → Status → Type 0
SaysLog f (status.Log g) = g ≡ f
SaysLog f status.NoMemory = ⊤
SaysLog f _ = ⊥
