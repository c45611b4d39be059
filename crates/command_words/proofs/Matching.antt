-- What the answers of clap say of words.
use Rattle.std.proofs.Common.{◌≡◌, ◌∙◌, ◌⊎◌, inl, inr, sym, ap, true, false, [], ◌∷◌, List, length}
use Rattle.std.proofs.Math.Dec.{eqb-suc-zero}
use Rattle.clap.proofs.WalkLemmas.{first_value-rows}
use Rattle.clap.specs.Faults.{fault_of}
use Rattle.clap.specs.Kinds.{IsAmong, Kinds}
use Rattle.clap.specs.Matches.{found_of}
use Rattle.clap.specs.Simple.{App, matches_of}
use Rattle.clap.specs.Walk.{first_of, is_empty, rows_of}
use Rattle.clap.specs.declared.error.kind.ErrorKind.{ErrorKind}
use Rattle.clap.specs.declared.error.kind.ErrorKind.TheVariants.{OutOfMemory}
use Rattle.clap.specs.declared.parser.matches.ArgMatches.{ArgMatches}
use Rattle.command_words.specs.Answers.{given_in}
use Rattle.command_words.specs.Arguments.{Text, id_of}
use Rattle.command_words.specs.Clap.{has_matches, matched, rho}
use Rattle.command_words.specs.declared.argument.Argument.{Argument}

-- clap has matches where it tells no fault
pub matches_there : (app : App) (words : List Text) → app ≡ rho → fault_of app words ≡ [] → has_matches words ≡ true
matches_there app words is none = ap is_empty (ap (λ a. fault_of a words) (sym is) ∙ none)

-- its rows are what is matched
pub matches_give : (app : App) (words : List Text) (m : ArgMatches) → app ≡ rho → rows_of (found_of m) ≡ matches_of app words → (a : Argument) → given_in m a ≡ matched words a
matches_give app words m is rows a = first_value-rows (found_of m) (id_of a) ∙ ap (first_of (id_of a)) (rows ∙ ap (λ x. matches_of x words) is)

-- a fault that is told is there
told : (kind : ErrorKind) (kinds : Kinds) → IsAmong kind kinds → is_empty kinds ≡ false
told kind [] h = absurd h
told kind (k ∷ ks) h = eqb-suc-zero (length ks)

-- and clap has no matches where it tells one
no_matches : (app : App) (words : List Text) (kind : ErrorKind) → app ≡ rho → IsAmong kind (fault_of app words) → has_matches words ≡ false
no_matches app words kind is among = ap (λ a. is_empty (fault_of a words)) (sym is) ∙ told kind (fault_of app words) among

-- an error that is not want of memory is one that clap tells
pub not_memory : (app : App) (words : List Text) (kind : ErrorKind) → app ≡ rho → (kind ≡ OutOfMemory → ⊥) → (kind ≡ OutOfMemory) ⊎ IsAmong kind (fault_of app words)
    → has_matches words ≡ false
not_memory app words kind is other told = elim told [
  | inl memory ↦ absurd (other memory)
  | inr among ↦ no_matches app words kind is among
]
