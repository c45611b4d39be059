-- Which process a made input spells.
use Rattle.std.specs.Prelude.{◌≡◌, ℕ, ◌<◌, ◌≤◌, ◌^◌, List, [], map}
use Rattle.calculus.specs.Written.{Written}
use Rattle.grammar.specs.Spells.{Spells}
use Rattle.grammar.specs.declared.dialect.Dialect.TheVariants.{Tutorial}
use Rattle.made_input.specs.MadeInput.{made_text}
use Rattle.scope.specs.Rules.{broken_rules}
use Rattle.tokens.specs.Reading.{HasTokens}
use Rattle.tokens.specs.Token.{source, Spanned}

-- a text has tokens that spell a process, of a height of at most 200, which breaks no rule of scope
pub record IsSound (text : List ℕ) : Type 0 where
  pub spanned : List Spanned
  pub tokens : HasTokens source text spanned
  pub process : Written
  pub height : ℕ
  pub within : height ≤ 200
  pub spells : Spells source Tutorial (map (λ t. t.token) spanned) process height
  pub sound : broken_rules process ≡ []

-- each made input is such a text
abbrev pub MadeInputsAreSound : Type 0
MadeInputsAreSound = (steps : ℕ) → steps < 2 ^ 32 → IsSound (made_text steps)
