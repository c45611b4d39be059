-- What clap reads of words.
use Rattle.std.specs.Prelude.{Bool, true, List, [], ◌∷◌, ◌≡◌, Option, Result, IfOk, Some, codes, fold}
use Rattle.clap.specs.Walk.{Rule, first_of, is_empty}
use Rattle.clap.specs.Simple.{App, app_of, matches_of, new_app, new_rule, on_top, with_rule}
use Rattle.clap.specs.Faults.{fault_of}
use Rattle.clap.specs.declared.builder.command.Command.{Command}
use Rattle.command_words.specs.Arguments.{Text, id_of}
use Rattle.command_words.specs.declared.argument.Argument.{Argument}

-- an option that has one value
abbrev pub option_rule : Text → Rule
option_rule name = record (new_rule name) { long = Some name }

-- `rho` with no arguments: the first word is no program's name
abbrev pub bare_rho : App
bare_rho = on_top (λ s. record s { no_binary_name = true }) (new_app (codes "rho"))

-- the arguments of `rho`: a verb and a file by their places, and seven options
abbrev pub rho_rules : List Rule
rho_rules = new_rule (codes "verb") ∷ new_rule (codes "file") ∷ option_rule (codes "state") ∷ option_rule (codes "prices") ∷ option_rule (codes "limit")
    ∷ option_rule (codes "log") ∷ option_rule (codes "next") ∷ option_rule (codes "workers") ∷ option_rule (codes "steps") ∷ []

-- the command `rho`, as clap knows it
abbrev pub rho : App
rho = fold with_rule bare_rho rho_rules

-- a command that was made is this one, as clap knows it
abbrev pub HasApp : {E : Type 0} → Result Command E → App → Type 0
HasApp made app = IfOk made (λ c. app_of c ≡ app)

-- whether clap has matches for the words
abbrev pub has_matches : List Text → Bool
has_matches words = is_empty (fault_of rho words)

-- what the matches have for an argument
abbrev pub matched : List Text → Argument → Option Text
matched words argument = first_of (id_of argument) (matches_of rho words)
