-- What the words ask for, and why they are refused.
use Rattle.std.specs.Prelude.{◌≡◌, ℕ, List, Option, Some, None, Result, Ok, Err, ⊤, string_bytes}
use Rattle.command_words.specs.Answers.{answer_of}
use Rattle.command_words.specs.Arguments.{Text}
use Rattle.command_words.specs.Commands.{Refusal, Request, RunRequest, WorkloadRequest, bad_number, deploy, genesis, inspect, missing, replay, same_file, surplus, unknown_verb, workload}
use Rattle.command_words.specs.declared.usage.Usage.{Usage}
use Rattle.command_words.specs.declared.usage.Usage.TheVariants.{BadWords, BadNumber, Missing, NoMemory, SameFile, Surplus, UnknownVerb}

-- what is answered for words: a request or a refusal; nothing where they are no line of a verb, a file and options
abbrev pub Answer : Type 0
Answer = Option (Result Request Refusal)

-- a request is answered for a deploy, and this holds of its run and its limit; or there is no such answer
abbrev pub DeployIn : Answer → (RunRequest → ℕ → Type 0) → Type 0
DeployIn (Some (Ok (deploy run limit))) P = P run limit
DeployIn _ P = ⊤

-- the same of a replay, which has no limit
abbrev pub ReplayIn : Answer → (RunRequest → Type 0) → Type 0
ReplayIn (Some (Ok (replay run))) P = P run
ReplayIn _ P = ⊤

-- the same of the making of a state, and of its name
abbrev pub GenesisIn : Answer → (Text → Type 0) → Type 0
GenesisIn (Some (Ok (genesis file))) P = P file
GenesisIn _ P = ⊤

-- the same of the showing of a state, and of its name
abbrev pub InspectIn : Answer → (Text → Type 0) → Type 0
InspectIn (Some (Ok (inspect file))) P = P file
InspectIn _ P = ⊤

-- the same of a workload
abbrev pub WorkloadIn : Answer → (WorkloadRequest → Type 0) → Type 0
WorkloadIn (Some (Ok (workload request))) P = P request
WorkloadIn _ P = ⊤

-- where the words ask for a deploy, this holds of its run and its limit
abbrev pub OnDeploy : List Text → (RunRequest → ℕ → Type 0) → Type 0
OnDeploy words P = DeployIn (answer_of words) P

-- where the words ask for a replay, this holds of its run
abbrev pub OnReplay : List Text → (RunRequest → Type 0) → Type 0
OnReplay words P = ReplayIn (answer_of words) P

-- where the words ask for the empty state, this holds of its name
abbrev pub OnGenesis : List Text → (Text → Type 0) → Type 0
OnGenesis words P = GenesisIn (answer_of words) P

-- where the words ask for a state to be shown, this holds of its name
abbrev pub OnInspect : List Text → (Text → Type 0) → Type 0
OnInspect words P = InspectIn (answer_of words) P

-- where the words ask for a workload, this holds of what they ask
abbrev pub OnWorkload : List Text → (WorkloadRequest → Type 0) → Type 0
OnWorkload words P = WorkloadIn (answer_of words) P

-- no request is answered
abbrev pub IsRefusal : Answer → Type 0
IsRefusal None = ⊤
IsRefusal (Some (Err refusal)) = ⊤
IsRefusal (Some (Ok request)) = ⊥

-- this fault says what is answered; want of memory says nothing
abbrev pub IsSaidBy : Answer → Usage → Type 0
IsSaidBy answer BadWords = answer ≡ None
IsSaidBy answer (UnknownVerb name) = answer ≡ Some (Err (unknown_verb (string_bytes name)))
IsSaidBy answer (Missing what) = answer ≡ Some (Err (missing (string_bytes what)))
IsSaidBy answer (Surplus what) = answer ≡ Some (Err (surplus (string_bytes what)))
IsSaidBy answer (BadNumber what) = answer ≡ Some (Err (bad_number (string_bytes what)))
IsSaidBy answer SameFile = answer ≡ Some (Err same_file)
IsSaidBy answer NoMemory = ⊥

-- this fault says what is answered, or memory ran out
abbrev pub Tells : Answer → Usage → Type 0
Tells answer NoMemory = ⊤
Tells answer fault = IsSaidBy answer fault
