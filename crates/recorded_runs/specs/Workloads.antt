-- What is promised of a workload.
use Rattle.std.specs.Prelude.{◌≡◌, ◌⊎◌, ℕ, List, ⊤}
use Rattle.rho_outside.specs.Causes.{Rose}
use Rattle.run_reports.specs.World.{World}
use Rattle.run_status.specs.Endings.{HasEnded, OnHalt, OnRefusal, OnVerdict}
use Rattle.run_status.specs.declared.status.Status.{Status}
use Rattle.run_status.specs.declared.status.Status.TheVariants.{Done, Exhausted, Faulted, NoMemory, Replay, WriteFault}
use Rattle.recorded_runs.specs.Left.{IsRefusedPlay, LeavesAll, LeavesInPart}

-- why a workload wrote nothing: the log of its play is refused, which shows a clash of digests, or memory is wanted
abbrev pub RefusedFor : ℕ → Status → Type 0
RefusedFor steps (Replay f) = IsRefusedPlay steps f
RefusedFor steps NoMemory = ⊤
RefusedFor steps _ = ⊥

-- the cause of an end: the play and the replay ended with a verdict, or a write failed, or it wrote nothing
abbrev pub WorkloadEnds : ℕ → Status → Type 0
WorkloadEnds steps Done = ⊤
WorkloadEnds steps Exhausted = ⊤
WorkloadEnds steps Faulted = ⊤
WorkloadEnds steps WriteFault = ⊤
WorkloadEnds steps s = RefusedFor steps s

-- a workload ended with a verdict or for want of memory, or the log of its play is refused
abbrev pub EndsOrRefuses : Status → Type 0
EndsOrRefuses (Replay f) = ⊤
EndsOrRefuses s = HasEnded s

-- the play and the replay of the made input of so many steps, from one world to the next: each end has its cause; where nothing failed it ended, or memory is wanted, or the log of its play is refused; nothing is fetched; a refusal changes nothing; a write fault has its cause; with a verdict all that a workload leaves is there, and where it stopped on its way a part
pub record IsWorkload (steps : ℕ) (log : List ℕ) (a b : World) (s : Status) : Type 0 where
  pub ends : WorkloadEnds steps s
  pub complete : ¬ (Rose a.keeps b.keeps) → ¬ (Rose a.puts b.puts) → EndsOrRefuses s
  pub fetches : b.fetches ≡ a.fetches
  pub stays : OnRefusal s ((b.files ≡ a.files) × (b.bytes ≡ a.bytes))
  pub write_fault : s ≡ WriteFault → Rose a.keeps b.keeps ⊎ Rose a.puts b.puts
  pub verdict : OnVerdict s (LeavesAll steps log a b s)
  pub part : OnHalt s (LeavesInPart steps log a b)
