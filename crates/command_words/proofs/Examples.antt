-- What some words ask for, or why they are refused.
use Rattle.std.proofs.Common.{◌≡◌, refl, [], ◌∷◌, Some, None, Ok, Err, Option, Result, codes}
use Rattle.clap.proofs.OnLiterals.{clap_on_literals}
use Rattle.command_words.specs.Answers.{answer_of}
use Rattle.command_words.specs.Commands.{Refusal, Request, RunRequest, bad_number, deploy, genesis, inspect, missing, replay, same_file, surplus, unknown_verb, workload}

abbrev Said : Type 0
Said = Option (Result Request Refusal)

abbrev run : RunRequest
run = record { file = codes "a.rho"; state = codes "s"; prices = codes "p"; log = codes "l"; next = codes "n"; workers = 4 }

-- ---- what words ask for

a_genesis : answer_of (codes "genesis" ∷ codes "f" ∷ []) ≡ Some (Ok (genesis (codes "f")))
unfolding clap_on_literals
a_genesis = refl

a_deploy : answer_of (codes "deploy" ∷ codes "a.rho" ∷ codes "--state" ∷ codes "s" ∷ codes "--prices" ∷ codes "p" ∷ codes "--limit" ∷ codes "22"
    ∷ codes "--log" ∷ codes "l" ∷ codes "--next" ∷ codes "n" ∷ []) ≡ Some (Ok (deploy run 22))
unfolding clap_on_literals
a_deploy = refl

-- options in any order, before the verb, or with `=`
a_replay : answer_of (codes "--next=n" ∷ codes "replay" ∷ codes "--log" ∷ codes "l" ∷ codes "a.rho" ∷ codes "--prices" ∷ codes "p" ∷ codes "--workers=32"
    ∷ codes "--state" ∷ codes "s" ∷ []) ≡ Some (Ok (replay (record run { workers = 32 })))
unfolding clap_on_literals
a_replay = refl

a_workload : answer_of (codes "workload" ∷ codes "--steps" ∷ codes "0004" ∷ codes "--log" ∷ codes "w" ∷ [])
    ≡ Some (Ok (workload (record { log = codes "w"; workers = 4; steps = 4 })))
unfolding clap_on_literals
a_workload = refl

after_two_hyphens : answer_of (codes "--" ∷ codes "inspect" ∷ codes "--f" ∷ []) ≡ Some (Ok (inspect (codes "--f")))
unfolding clap_on_literals
after_two_hyphens = refl

-- ---- refusals, in the order in which they are told

no_verb : answer_of (codes "--log" ∷ codes "l" ∷ []) ≡ Some (Err (missing (codes "verb")))
unfolding clap_on_literals
no_verb = refl

no_such_verb : answer_of (codes "help" ∷ codes "--log" ∷ codes "l" ∷ []) ≡ Some (Err (unknown_verb (codes "help")))
unfolding clap_on_literals
no_such_verb = refl

-- of what is missing the first is told, before what is there and is not taken
first_missing : answer_of (codes "deploy" ∷ codes "a.rho" ∷ codes "--state" ∷ codes "s" ∷ codes "--steps" ∷ codes "4" ∷ []) ≡ Some (Err (missing (codes "--prices")))
unfolding clap_on_literals
first_missing = refl

no_file : answer_of (codes "inspect" ∷ []) ≡ Some (Err (missing (codes "file")))
unfolding clap_on_literals
no_file = refl

-- of what is not taken the first is told, before a wrong number
first_surplus : answer_of (codes "workload" ∷ codes "--next" ∷ codes "n" ∷ codes "--steps" ∷ codes "x" ∷ codes "--log" ∷ codes "w" ∷ codes "--limit" ∷ codes "1" ∷ [])
    ≡ Some (Err (surplus (codes "--limit")))
unfolding clap_on_literals
first_surplus = refl

-- of wrong numbers the first is told
first_number : answer_of (codes "workload" ∷ codes "--steps" ∷ codes "3" ∷ codes "--log" ∷ codes "w" ∷ codes "--workers" ∷ codes "33" ∷ [])
    ≡ Some (Err (bad_number (codes "--workers")))
unfolding clap_on_literals
first_number = refl

few_steps : answer_of (codes "workload" ∷ codes "--log" ∷ codes "w" ∷ codes "--steps" ∷ codes "3" ∷ []) ≡ Some (Err (bad_number (codes "--steps")))
unfolding clap_on_literals
few_steps = refl

-- a limit is below 2^64, and is told before one file
great_limit : answer_of (codes "deploy" ∷ codes "a.rho" ∷ codes "--state" ∷ codes "s" ∷ codes "--prices" ∷ codes "p" ∷ codes "--limit" ∷ codes "18446744073709551616"
    ∷ codes "--log" ∷ codes "l" ∷ codes "--next" ∷ codes "l" ∷ []) ≡ Some (Err (bad_number (codes "--limit")))
unfolding clap_on_literals
great_limit = refl

one_file : answer_of (codes "replay" ∷ codes "a.rho" ∷ codes "--state" ∷ codes "s" ∷ codes "--prices" ∷ codes "p" ∷ codes "--log" ∷ codes "l" ∷ codes "--next" ∷ codes "l" ∷ [])
    ≡ Some (Err same_file)
unfolding clap_on_literals
one_file = refl

-- ---- words that clap has no matches for

twice : answer_of (codes "genesis" ∷ codes "f" ∷ codes "--log" ∷ codes "l" ∷ codes "--log" ∷ codes "l" ∷ []) ≡ None
unfolding clap_on_literals
twice = refl

no_such_option : answer_of (codes "genesis" ∷ codes "--file" ∷ codes "f" ∷ []) ≡ None
unfolding clap_on_literals
no_such_option = refl

no_value : answer_of (codes "genesis" ∷ codes "f" ∷ codes "--log" ∷ []) ≡ None
unfolding clap_on_literals
no_value = refl

third_place : answer_of (codes "genesis" ∷ codes "f" ∷ codes "g" ∷ []) ≡ None
unfolding clap_on_literals
third_place = refl

asks_for_help : answer_of (codes "deploy" ∷ codes "--help" ∷ []) ≡ None
unfolding clap_on_literals
asks_for_help = refl
