-- What the arguments of a command line ask for, or why they are refused.
use Rattle.std.specs.Prelude.{ℕ, ◌^◌, ◌&&◌, nat_le, nat_lt, Bool, List, [], ◌∷◌, length, find, Option, Some, None, is_some, not, unwrap_or, option_and_then, Result, Ok, Err, if◌then◌else◌}
use Rattle.std.specs.Str.{bytes_eq, all_ascii_digits}
use Rattle.std.specs.Str.Parse.{digits_value}
use Rattle.command_words.specs.Arguments.{Text, name_of, verb_of}
use Rattle.command_words.specs.declared.argument.Argument.{Argument}
use Rattle.command_words.specs.declared.argument.Argument.TheVariants as argument
use Rattle.command_words.specs.declared.command.Verb.{Verb}
use Rattle.command_words.specs.declared.command.Verb.TheVariants as verb

-- what is given for each argument
abbrev pub Given : Type 0
Given = Argument → Option Text

-- the run of a source, as a deploy or as a replay
pub record RunRequest : Type 0 where
  pub file : Text
  pub state : Text
  pub prices : Text
  pub log : Text
  pub next : Text
  pub workers : ℕ

-- a run and a replay of made input
pub record WorkloadRequest : Type 0 where
  pub log : Text
  pub workers : ℕ
  pub steps : ℕ

-- what the words ask for; a deploy has a limit
pub data Request : Type 0 where
  genesis : Text → Request
  deploy : RunRequest → ℕ → Request
  replay : RunRequest → Request
  inspect : Text → Request
  workload : WorkloadRequest → Request

-- why words that clap takes are refused
pub data Refusal : Type 0 where
  unknown_verb : Text → Refusal
  missing : Text → Refusal
  surplus : Text → Refusal
  bad_number : Text → Refusal
  same_file : Refusal

infixl 10 ◌>>=◌
-- what comes next, where there is no refusal
abbrev pub ◌>>=◌ : {A B : Type 0} → Result A Refusal → (A → Result B Refusal) → Result B Refusal
(Ok x) >>= f = f x
(Err e) >>= f = Err e

-- the value, or the refusal that is told where there is none
abbrev pub or_refused : {A : Type 0} → Refusal → Option A → Result A Refusal
or_refused refusal (Some x) = Ok x
or_refused refusal None = Err refusal

-- the text of an argument; of one that is not there the empty text
abbrev pub text : Given → Argument → Text
text given a = unwrap_or (given a) []

-- what a verb needs
abbrev pub needed : Verb → List Argument
needed verb.Genesis = argument.File ∷ []
needed verb.Deploy = argument.File ∷ argument.State ∷ argument.Prices ∷ argument.Limit ∷ argument.Log ∷ argument.Next ∷ []
needed verb.Replay = argument.File ∷ argument.State ∷ argument.Prices ∷ argument.Log ∷ argument.Next ∷ []
needed verb.Inspect = argument.File ∷ []
needed verb.Workload = argument.Log ∷ argument.Steps ∷ []

-- what a verb does not take
abbrev pub untaken : Verb → List Argument
untaken verb.Genesis = argument.State ∷ argument.Prices ∷ argument.Limit ∷ argument.Log ∷ argument.Next ∷ argument.Workers ∷ argument.Steps ∷ []
untaken verb.Deploy = argument.Steps ∷ []
untaken verb.Replay = argument.Limit ∷ argument.Steps ∷ []
untaken verb.Inspect = argument.State ∷ argument.Prices ∷ argument.Limit ∷ argument.Log ∷ argument.Next ∷ argument.Workers ∷ argument.Steps ∷ []
untaken verb.Workload = argument.File ∷ argument.State ∷ argument.Prices ∷ argument.Limit ∷ argument.Next ∷ []

-- the first of some arguments that is not there
abbrev pub first_missing : Given → List Argument → Option Argument
first_missing given needed = find (λ a. not (is_some (given a))) needed

-- the first of some arguments that is there
abbrev pub first_there : Given → List Argument → Option Argument
first_there given untaken = find (λ a. is_some (given a)) untaken

-- no refusal, where there is no such argument
abbrev pub unless_found : (Text → Refusal) → Option Argument → Result (Unit {0}) Refusal
unless_found refusal None = Ok tt
unless_found refusal (Some a) = Err (refusal (name_of a))

-- whether a text is a number: 1 to 20 decimal digits of a value below 2^64
abbrev pub is_number : Text → Bool
is_number text = (nat_le 1 (length text) && nat_le (length text) 20) && (all_ascii_digits text && nat_lt (digits_value 10 text) (2 ^ 64))

-- the number that a text is
abbrev pub number_of : Text → Option ℕ
number_of text = if is_number text then Some (digits_value 10 text) else None

-- a number from `least` to `most`
abbrev pub within : ℕ → ℕ → ℕ → Option ℕ
within least most n = if nat_le least n && nat_le n most then Some n else None

-- the number that the text of an argument is
abbrev pub number_in : Argument → Text → Result ℕ Refusal
number_in a text = or_refused (bad_number (name_of a)) (number_of text)

-- the number from `least` to `most` that the text of an argument is
abbrev pub number_between : Argument → ℕ → ℕ → Text → Result ℕ Refusal
number_between a least most text = or_refused (bad_number (name_of a)) (option_and_then (within least most) (number_of text))

-- how many workers run: 1 to 32, and 4 where that is not said
abbrev pub workers_in : Option Text → Result ℕ Refusal
workers_in None = Ok 4
workers_in (Some text) = number_between argument.Workers 1 32 text

-- two names that may not be the same
abbrev pub unless_same : Text → Text → Result (Unit {0}) Refusal
unless_same log next = if bytes_eq log next then Err same_file else Ok tt

-- the run that a deploy or a replay asks for
abbrev pub run_asked : Given → Result RunRequest Refusal
run_asked given = do
  workers ← workers_in (given argument.Workers)
  _ ← unless_same (text given argument.Log) (text given argument.Next)
  Ok (record {
    file = text given argument.File;
    state = text given argument.State;
    prices = text given argument.Prices;
    log = text given argument.Log;
    next = text given argument.Next;
    workers = workers;
  })

-- what a deploy asks for
abbrev pub deploy_asked : Given → Result Request Refusal
deploy_asked given = do
  limit ← number_in argument.Limit (text given argument.Limit)
  run ← run_asked given
  Ok (deploy run limit)

-- what a replay asks for
abbrev pub replay_asked : Given → Result Request Refusal
replay_asked given = do
  run ← run_asked given
  Ok (replay run)

-- what a workload asks for
abbrev pub workload_asked : Given → Result Request Refusal
workload_asked given = do
  workers ← workers_in (given argument.Workers)
  steps ← number_between argument.Steps 4 200000 (text given argument.Steps)
  Ok (workload (record { log = text given argument.Log; workers = workers; steps = steps }))

-- what a verb asks for
abbrev pub asked_of : Verb → Given → Result Request Refusal
asked_of verb.Genesis given = Ok (genesis (text given argument.File))
asked_of verb.Deploy given = deploy_asked given
asked_of verb.Replay given = replay_asked given
asked_of verb.Inspect given = Ok (inspect (text given argument.File))
asked_of verb.Workload given = workload_asked given

-- the verb, or that it is missing or unknown
abbrev pub verb_asked : Option Text → Result Verb Refusal
verb_asked None = Err (missing (name_of argument.Verb))
verb_asked (Some name) = or_refused (unknown_verb name) (verb_of name)

-- what the arguments ask for, or the first refusal
abbrev pub asked : Given → Result Request Refusal
asked given = do
  verb ← verb_asked (given argument.Verb)
  _ ← unless_found missing (first_missing given (needed verb))
  _ ← unless_found surplus (first_there given (untaken verb))
  asked_of verb given
