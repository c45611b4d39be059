-- What a parser answers for a list of tokens.
use Rattle.std.specs.Prelude.{◌≡◌, ℕ, zero, suc, List, [], ◌∷◌}
use Rattle.tokens.specs.Token.{source}
use Rattle.tokens.specs.Reading.{AreInOrder}
use Rattle.grammar.specs.declared.dialect.Dialect.TheVariants.{Tutorial}
use Rattle.grammar.specs.Spells.{SpellsNothing}
use Rattle.grammar.specs.Places.{PassesAt, EndsAt}
use Rattle.rho_lexer.specs.Meaning.{spanned_tokens}
use Rattle.rho_lexer.specs.declared.token.Token.{Token}
use Rattle.input_faults.specs.declared.parse_fault.ParseFault.{ParseFault}
use Rattle.input_faults.specs.declared.parse_fault.ParseFault.TheVariants.{Syntax, TooDeep, NoMemory}
use Rattle.token_cursor.specs.Meaning.{most_height, plain_tokens}

-- the tokens of some text: each has its form, and the end stands last and nowhere else
abbrev pub AreOfText : List Token → Type 0
AreOfText ts = (size : ℕ) × AreInOrder 0 size (spanned_tokens ts)

-- the place of the first byte of the token of this number, counted from 0
abbrev pub place_of : List Token → ℕ → ℕ
place_of [] k = 0
place_of (t ∷ ts) zero = t.start
place_of (t ∷ ts) (suc k) = place_of ts k

-- tokens pass the height at this place: the token there is the first with which they begin no text within it, but a higher one
pub record IsTooDeep (ts : List Token) (at : ℕ) : Type 0 where
  pub number : ℕ
  pub passes : PassesAt source Tutorial most_height (plain_tokens ts) number
  pub place : at ≡ place_of ts number

-- tokens spell nothing, and the one at this place is the first with which they begin no text
pub record IsIllFormed (ts : List Token) (at : ℕ) : Type 0 where
  pub nothing : SpellsNothing source Tutorial (plain_tokens ts)
  pub number : ℕ
  pub ends : EndsAt source Tutorial most_height (plain_tokens ts) number
  pub place : at ≡ place_of ts number

-- tokens are refused for this fault; want of memory says nothing of them
abbrev pub IsRefused : List Token → ParseFault → Type 0
IsRefused ts (Syntax at) = IsIllFormed ts at
IsRefused ts (TooDeep at) = IsTooDeep ts at
IsRefused ts NoMemory = Unit {0}
