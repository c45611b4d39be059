-- Which statuses are refusals, halts and verdicts.
use Rattle.std.specs.Prelude.{⊤}
use Rattle.command_words.specs.declared.usage.Usage.{Usage as Fault}
use Rattle.replays.specs.declared.verdict.Verdict.{Verdict}
use Rattle.replays.specs.declared.verdict.Verdict.TheVariants as ending
use Rattle.run_status.specs.declared.status.Status.{Status}
use Rattle.run_status.specs.declared.status.Status.TheVariants.{Done, Usage, ReadFault, WriteFault, State, Source, Prices, Limit, Log, Replay, Exhausted, Faulted, NoMemory, TooLarge}

-- the words were refused for this
abbrev pub OnUsage : Status → (Fault → Type 0) → Type 0
OnUsage (Usage u) P = P u
OnUsage _ P = ⊤

-- a status says that words are refused, or that memory is wanted
abbrev pub SaysUsage : Status → Type 0
SaysUsage (Usage u) = ⊤
SaysUsage NoMemory = ⊤
SaysUsage _ = ⊥

-- the words, a file, the state, the prices, the limit, the source or the log was refused
abbrev pub OnRefusal : Status → Type 0 → Type 0
OnRefusal (Usage u) P = P
OnRefusal (ReadFault i) P = P
OnRefusal (State f) P = P
OnRefusal (Source f) P = P
OnRefusal (Prices f) P = P
OnRefusal (Limit n m) P = P
OnRefusal (Log f) P = P
OnRefusal (Replay f) P = P
OnRefusal (TooLarge i n m) P = P
OnRefusal _ P = ⊤

-- a file, the state, the prices, the limit, the source or the log was refused
abbrev pub OnFileRefusal : Status → Type 0 → Type 0
OnFileRefusal (Usage u) P = ⊤
OnFileRefusal status P = OnRefusal status P

-- the call stopped on its way
abbrev pub OnHalt : Status → Type 0 → Type 0
OnHalt WriteFault P = P
OnHalt NoMemory P = P
OnHalt _ P = ⊤

-- the run ended with a verdict, and all was kept and put
abbrev pub OnVerdict : Status → Type 0 → Type 0
OnVerdict Done P = P
OnVerdict Exhausted P = P
OnVerdict Faulted P = P
OnVerdict _ P = ⊤

-- the run ended with a verdict, or memory is wanted
abbrev pub HasEnded : Status → Type 0
HasEnded Done = ⊤
HasEnded Exhausted = ⊤
HasEnded Faulted = ⊤
HasEnded NoMemory = ⊤
HasEnded _ = ⊥

-- the status that a verdict gives
abbrev pub status_of : Verdict → Status
status_of ending.Done = Done
status_of ending.Exhausted = Exhausted
status_of (ending.Faulted step kind) = Faulted
