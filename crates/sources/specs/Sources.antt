-- Sources: which process a text spells, and why a text is refused.
use Rattle.std.specs.Prelude.{◌≡◌, ℕ, zero, suc, ◌≤◌, List, [], ◌∷◌, map as each}
use Rattle.calculus.specs.Bare.{bare}
use Rattle.calculus.specs.Tree.{Tree}
use Rattle.calculus.specs.Written.{Written}
use Rattle.tokens.specs.Token.{source, Token, Spanned}
use Rattle.tokens.specs.Reading as reading
use Rattle.tokens.specs.Reading.{HasTokens}
use Rattle.grammar.specs.declared.dialect.Dialect.TheVariants.{Tutorial}
use Rattle.grammar.specs.Spells.{Spells, SpellsNothing}
use Rattle.grammar.specs.Places.{PassesAt, EndsAt}
use Rattle.scope.specs.NormalForm.{normal_form}
use Rattle.scope.specs.Rules.{Broken, broken_rules}
use Rattle.input_faults.specs.Refusals.{Refusal, no_tokens, too_deep, ill_formed, out_of_scope}

-- the greatest height of a source
abbrev pub most_height : ℕ
most_height = 200

-- tokens without their places
abbrev pub plain : List Spanned → List Token
plain ts = each (λ t. t.token) ts

-- the place of the first byte of the token of this number, counted from 0
abbrev pub start_of : List Spanned → ℕ → ℕ
start_of [] k = 0
start_of (t ∷ ts) zero = t.start
start_of (t ∷ ts) (suc k) = start_of ts k

-- a text spells this process, within the height
pub record IsSpelt (text : List ℕ) (p : Written) : Type 0 where
  pub spanned : List Spanned
  pub tokens : HasTokens source text spanned
  pub height : ℕ
  pub within : height ≤ most_height
  pub spells : Spells source Tutorial (plain spanned) p height

-- a text spells this process, which breaks no rule of scope
pub record IsAccepted (text : List ℕ) (p : Written) : Type 0 where
  pub spelt : IsSpelt text p
  pub sound : broken_rules p ≡ []

-- a text spells such a process, whose normal form is this
pub record IsSourceOf (text : List ℕ) (t : Tree) : Type 0 where
  pub process : Written
  pub accepted : IsAccepted text process
  pub normal : t ≡ normal_form (bare process)

-- a text passes the height at this place: the token that begins there is the first up to which its tokens begin no text within the height
pub record IsTooDeep (text : List ℕ) (at : ℕ) : Type 0 where
  pub spanned : List Spanned
  pub tokens : HasTokens source text spanned
  pub number : ℕ
  pub passes : PassesAt source Tutorial most_height (plain spanned) number
  pub place : at ≡ start_of spanned number

-- a text is no text of the grammar, which shows at this place: its tokens before the one that begins there begin a text within the height, and with that one they begin none
pub record IsIllFormed (text : List ℕ) (at : ℕ) : Type 0 where
  pub spanned : List Spanned
  pub tokens : HasTokens source text spanned
  pub nothing : SpellsNothing source Tutorial (plain spanned)
  pub number : ℕ
  pub ends : EndsAt source Tutorial most_height (plain spanned) number
  pub place : at ≡ start_of spanned number

-- a text spells a process whose first broken rule is this one
pub record IsOutOfScope (text : List ℕ) (b : Broken) : Type 0 where
  pub process : Written
  pub spelt : IsSpelt text process
  pub others : List Broken
  pub broken : broken_rules process ≡ b ∷ others

-- a text is refused so
abbrev pub IsRefused : List ℕ → Refusal → Type 0
IsRefused text (no_tokens r) = reading.IsRefused source text r
IsRefused text (too_deep at) = IsTooDeep text at
IsRefused text (ill_formed at) = IsIllFormed text at
IsRefused text (out_of_scope b) = IsOutOfScope text b
