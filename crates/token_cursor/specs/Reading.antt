-- What the methods of the parser promise.
use Rattle.std.specs.Prelude.{ℕ, zero, suc, Bool, false, not, ◌&&◌, List, [], ◌∷◌, ◌++◌, map, Option, option_map, Result, Ok, Err, string_bytes}
use Rattle.std.specs.declared.alloc.Global.{Global}
use Rattle.std.specs.declared.string.String.{String}
use Rattle.std.specs.declared.vec.Vec.{Vec}
use Rattle.calculus.specs.Meaning.{declared, ground_label, rest_written}
use Rattle.calculus.specs.declared.plain.Decl.{Decl}
use Rattle.calculus.specs.declared.plain.Ground.{Ground}
use Rattle.calculus.specs.declared.plain.Rest.{Rest}
use Rattle.grammar.specs.declared.dialect.Dialect.TheVariants.{Tutorial}
use Rattle.grammar.specs.declared.fault.Fault.{Fault}
use Rattle.grammar.specs.declared.mark.Mark.TheVariants as marks
use Rattle.grammar.specs.Choice.{after, choose}
use Rattle.grammar.specs.Descent.{Outcome, read, fault, Runs}
use Rattle.grammar.specs.Grammar.{rule}
use Rattle.grammar.specs.Productions.{Prod}
use Rattle.grammar.specs.Rules.{Bracket, round, square, Separator, semicolon, ampersand, separator_mark, Sort, Rule, last}
use Rattle.grammar.specs.Terminals.{Terminal, sees}
use Rattle.grammar.specs.Values.{Spelt, Side, leaf, ground_of}
pub use Rattle.form_parts.specs.Forms.{of_bind, of_left, of_name, of_name_pat, of_pat, of_pat_row, of_proc, of_row, of_sequence}
pub use Rattle.form_parts.specs.Forms.{pairs_written, pat_pairs_written, sequence_written}
use Rattle.form_parts.specs.declared.part.Bracket as brackets
use Rattle.form_parts.specs.declared.part.Bracket.TheVariants as rounds
use Rattle.form_parts.specs.declared.part.Separator as separators
use Rattle.form_parts.specs.declared.part.Separator.TheVariants as signs

-- where a ground value was read
abbrev pub of_ground : Side → Ground → Spelt
of_ground side g = leaf (ground_of side (ground_label g))

-- where a remainder was read
abbrev pub of_rest : Rest → Spelt
of_rest r = leaf (rest_written r)

-- what a result comes to
abbrev pub outcome : {T : Type 0} → (T → Spelt) → Result T Fault → List Terminal → Outcome
outcome of (Ok p) us = read (of p) us
outcome of (Err e) us = fault e us

-- the result is what the rule comes to
abbrev pub Makes : {T : Type 0} → ℕ → Rule → (T → Spelt) → List Terminal → Result T Fault → List Terminal → Type 0
Makes free r of ts result us = Runs Tutorial free r ts (outcome of result us)

-- the result is what the sort comes to
abbrev pub Gives : {T : Type 0} → ℕ → Sort → (T → Spelt) → List Terminal → Result T Fault → List Terminal → Type 0
Gives free s of ts result us = Makes free (rule Tutorial (choose s ts)) of ts result us

-- the rule, begun on `ts`, goes on as the other rule after what was read
abbrev pub Turns : {T : Type 0} → ℕ → Rule → (T → Rule) → List Terminal → Result T Fault → List Terminal → Type 0
Turns free r after ts (Ok p) us = (out : Outcome) → Runs Tutorial free (after p) us out → Runs Tutorial free r ts out
Turns free r after ts (Err e) us = Runs Tutorial free r ts (fault e us)

-- what follows these declared names
abbrev pub after_names : Vec Decl Global → Rule
after_names ds = last (Sort.DeclTail (map declared ds.items))

-- the body that follows them
abbrev pub body_after : Vec Decl Global → Rule
body_after ds = rule Tutorial (Prod.decl_body (map declared ds.items))

-- what follows a name after these, once its URI was read, if it has one
abbrev pub after_uri : List (List ℕ × Option (List ℕ)) → List ℕ → Option (String Global) → Rule
after_uri ds w u = last (Sort.DeclTail (ds ++ ((w, option_map string_bytes u) ∷ [])))

-- a comma is next that no remainder follows
abbrev pub sees_member : List Terminal → Bool
sees_member ts = sees marks.Comma ts && not (sees marks.Ellipsis (after ts))

-- a bracket of the program
abbrev pub bracket_of : brackets.Bracket → Bracket
bracket_of rounds.Round = round
bracket_of rounds.Square = square

-- a separator of the program
abbrev pub separator_of : separators.Separator → Separator
separator_of signs.Semicolon = semicolon
separator_of signs.Ampersand = ampersand

-- a bind follows, where so many more may stand
abbrev pub sees_bind : Separator → ℕ → List Terminal → Bool
sees_bind m zero ts = false
sees_bind m (suc left) ts = sees (separator_mark m) ts
