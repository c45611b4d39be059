-- Laws of what sources spell. Each stands in the contract of a public function that does nothing.
use Rattle.std.specs.Prelude.{◌≤◌, ◌^◌, ℕ, List, length, map as each}
use Rattle.calculus.specs.Written.{Written}
use Rattle.calculus.specs.Bare.{bare}
use Rattle.tokens.specs.Token.{source, Token, Spanned}
use Rattle.tokens.specs.Reading.{HasTokens}
use Rattle.grammar.specs.declared.dialect.Dialect.{Dialect}
use Rattle.grammar.specs.Spells.{Spells}
use Rattle.scope.specs.NormalForm.{normal_form}
use Rattle.events.specs.Numbers.{IsNumberable}

-- four bytes number the parts and names of what at most 2^24 tokens of a source spell
abbrev pub SourcesAreNumberable : Type 0
SourcesAreNumberable = (d : Dialect) (tokens : List Token) (p : Written) (h : ℕ)
    → Spells source d tokens p h → length tokens ≤ 2 ^ 24 → IsNumberable (normal_form (bare p))

-- and of what a text of at most 2^20 bytes spells
abbrev pub SourceTextsAreNumberable : Type 0
SourceTextsAreNumberable = (d : Dialect) (text : List ℕ) (spanned : List Spanned) (p : Written) (h : ℕ)
    → HasTokens source text spanned → Spells source d (each (λ t. t.token) spanned) p h → length text ≤ 2 ^ 20 → IsNumberable (normal_form (bare p))
