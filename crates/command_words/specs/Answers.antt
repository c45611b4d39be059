-- What is answered for words.
use Rattle.std.specs.Prelude.{◌≡◌, ◌⊎◌, ⊤, List, Option, Some, None, Result, Ok, Err, if◌then◌else◌, string_bytes}
use Rattle.clap.specs.Matches.{first_value, found_of}
use Rattle.clap.specs.declared.parser.matches.ArgMatches.{ArgMatches}
use Rattle.command_words.specs.Arguments.{Text, id_of}
use Rattle.command_words.specs.Clap.{has_matches, matched}
use Rattle.command_words.specs.Commands.{Given, Refusal, Request, RunRequest, WorkloadRequest, asked, bad_number, deploy, genesis, inspect, missing, replay, same_file, surplus, unknown_verb, workload}
use Rattle.command_words.specs.declared.command.Command.{Command}
use Rattle.command_words.specs.declared.command.Command.TheVariants as command
use Rattle.command_words.specs.declared.command.Run.{Run}
use Rattle.command_words.specs.declared.command.Workload.{Workload}
use Rattle.command_words.specs.declared.usage.Usage.{Usage}
use Rattle.command_words.specs.declared.usage.Usage.TheVariants.{BadWords, BadNumber, Missing, NoMemory, SameFile, Surplus, UnknownVerb}

-- what clap's matches have for each argument
abbrev pub given_in : ArgMatches → Given
given_in matches argument = first_value (found_of matches) (id_of argument)

-- what words ask for, or why they are refused; nothing is said where clap has no matches for them
abbrev pub answer_of : List Text → Option (Result Request Refusal)
answer_of words = if has_matches words then Some (asked (matched words)) else None

-- the run that a command asks for
abbrev pub run_of : Run → RunRequest
run_of r = record {
  file = string_bytes r.file;
  state = string_bytes r.state;
  prices = string_bytes r.prices;
  log = string_bytes r.log;
  next = string_bytes r.next;
  workers = r.workers;
}

-- what a workload asks for
abbrev pub workload_of : Workload → WorkloadRequest
workload_of w = record { log = string_bytes w.log; workers = w.workers; steps = w.steps }

-- what a command asks for
abbrev pub request_of : Command → Request
request_of (command.Genesis file) = genesis (string_bytes file)
request_of (command.Deploy run limit) = deploy (run_of run) limit
request_of (command.Replay run) = replay (run_of run)
request_of (command.Inspect file) = inspect (string_bytes file)
request_of (command.Workload w) = workload (workload_of w)

-- the fault is this refusal, or memory ran out
abbrev pub Refuses : {Y : Type 0} → Usage → Result Y Refusal → Type 0
Refuses BadWords said = ⊥
Refuses (UnknownVerb verb) said = said ≡ Err (unknown_verb (string_bytes verb))
Refuses (Missing what) said = said ≡ Err (missing (string_bytes what))
Refuses (Surplus what) said = said ≡ Err (surplus (string_bytes what))
Refuses (BadNumber what) said = said ≡ Err (bad_number (string_bytes what))
Refuses SameFile said = said ≡ Err same_file
Refuses NoMemory said = ⊤

-- the answer, seen so, is what is said, unless memory ran out
abbrev pub GivesAs : {X Y : Type 0} → (X → Y) → Result X Usage → Result Y Refusal → Type 0
GivesAs view (Ok x) said = said ≡ Ok (view x)
GivesAs view (Err e) said = Refuses e said

-- the answer is what is said, and `BadWords` where nothing is, unless memory ran out
abbrev pub Answers : Result Command Usage → Option (Result Request Refusal) → Type 0
Answers result (Some said) = GivesAs request_of result said
Answers result None = (result ≡ Err BadWords) ⊎ (result ≡ Err NoMemory)
