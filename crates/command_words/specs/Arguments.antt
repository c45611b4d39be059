-- The arguments of the program, and its verbs.
use Rattle.std.specs.Prelude.{ℕ, List, Option, Some, None, if◌then◌else◌, codes}
use Rattle.std.specs.Str.{bytes_eq}
use Rattle.command_words.specs.declared.argument.Argument.{Argument}
use Rattle.command_words.specs.declared.argument.Argument.TheVariants as argument
use Rattle.command_words.specs.declared.command.Verb.{Verb}
use Rattle.command_words.specs.declared.command.Verb.TheVariants as verb

-- the bytes of a text
abbrev pub Text : Type 0
Text = List ℕ

-- what clap calls an argument
abbrev pub id_of : Argument → Text
id_of argument.Verb = codes "verb"
id_of argument.File = codes "file"
id_of argument.State = codes "state"
id_of argument.Prices = codes "prices"
id_of argument.Limit = codes "limit"
id_of argument.Log = codes "log"
id_of argument.Next = codes "next"
id_of argument.Workers = codes "workers"
id_of argument.Steps = codes "steps"

-- what messages call an argument; an option is called by its word
abbrev pub name_of : Argument → Text
name_of argument.Verb = codes "verb"
name_of argument.File = codes "file"
name_of argument.State = codes "--state"
name_of argument.Prices = codes "--prices"
name_of argument.Limit = codes "--limit"
name_of argument.Log = codes "--log"
name_of argument.Next = codes "--next"
name_of argument.Workers = codes "--workers"
name_of argument.Steps = codes "--steps"

-- the verb that a text names
abbrev pub verb_of : Text → Option Verb
verb_of text =
    if bytes_eq text (codes "genesis") then Some verb.Genesis
    else if bytes_eq text (codes "deploy") then Some verb.Deploy
    else if bytes_eq text (codes "replay") then Some verb.Replay
    else if bytes_eq text (codes "inspect") then Some verb.Inspect
    else if bytes_eq text (codes "workload") then Some verb.Workload
    else None
