-- Laws of written processes. Each stands in the contract of a public function that does nothing.
use Rattle.std.specs.Prelude.{◌≡◌, ℕ, List, [], map as each}
use Rattle.calculus.specs.Written.{Written}
use Rattle.calculus.specs.Bare.{bare}
use Rattle.calculus.specs.Form.{IsClosed}
use Rattle.scope.specs.Rules.{broken_rules}
use Rattle.scope.specs.NormalForm.{normal_form}
use Rattle.tokens.specs.Token.{Notation, Token, Spanned}
use Rattle.tokens.specs.Reading.{HasTokens}
use Rattle.grammar.specs.declared.dialect.Dialect.{Dialect}
use Rattle.grammar.specs.Spells.{Spells}
use Rattle.source_laws.specs.WellFormed.{IsWellFormed}
use Rattle.source_laws.specs.Texts.{AreFormed}

-- what a well-formed process that breaks no rule of scope comes to is closed
abbrev pub AcceptedIsClosed : Type 0
AcceptedIsClosed = (p : Written) → IsWellFormed p → broken_rules p ≡ [] → IsClosed (normal_form (bare p))

-- what tokens of their forms spell is well formed
abbrev pub SpeltIsWellFormed : Type 0
SpeltIsWellFormed = (n : Notation) (d : Dialect) (tokens : List Token) (p : Written) (h : ℕ) → AreFormed tokens → Spells n d tokens p h → IsWellFormed p

-- what the tokens of a text spell is well formed
abbrev pub TextIsWellFormed : Type 0
TextIsWellFormed = (n : Notation) (d : Dialect) (text : List ℕ) (tokens : List Spanned) (p : Written) (h : ℕ) → HasTokens n text tokens → Spells n d (each (λ t. t.token) tokens) p h → IsWellFormed p

-- what the tokens of a text spell, where it breaks no rule of scope, comes to a closed process
abbrev pub AcceptedTextIsClosed : Type 0
AcceptedTextIsClosed = (n : Notation) (d : Dialect) (text : List ℕ) (tokens : List Spanned) (p : Written) (h : ℕ) → HasTokens n text tokens → Spells n d (each (λ t. t.token) tokens) p h → broken_rules p ≡ [] → IsClosed (normal_form (bare p))
