-- Laws of printed texts. Each stands in the contract of a public function that does nothing.
use Rattle.std.specs.Prelude.{ℕ, List, IsTrue, map as each}
use Rattle.calculus.specs.Tree.{Tree}
use Rattle.calculus.specs.Form.{IsClosed}
use Rattle.calculus.specs.Bare.{bare}
use Rattle.calculus.specs.CodeLaws.{IsShort}
use Rattle.calculus.specs.Congruence.{congruent}
use Rattle.calculus.specs.Printed.{printed_text}
use Rattle.calculus.specs.Written.{Written}
use Rattle.tokens.specs.Reading.{HasTokens}
use Rattle.tokens.specs.Token.{printed, Spanned}
use Rattle.grammar.specs.declared.dialect.Dialect.TheVariants.{Tutorial}
use Rattle.grammar.specs.Spells.{Spells}
use Rattle.printed_spelling.specs.Spelled.{written}

-- a printed text spells this written process: it has tokens, and they spell the process, with a text of this height
pub record TextSpells (text : List ℕ) (process : Written) : Type 0 where
  pub tokens : List Spanned
  pub height : ℕ
  pub has : HasTokens printed text tokens
  pub spells : Spells printed Tutorial (each (λ x. x.token) tokens) process height

-- the printed text of a closed process spells its written process
abbrev pub PrintedTextSpells : Type 0
PrintedTextSpells = (t : Tree) → IsClosed t → TextSpells (printed_text t) (written t)

-- the printed text of a closed process spells a process that is congruent to it
abbrev pub PrintedTextComesBack : Type 0
PrintedTextComesBack = (t : Tree) → IsClosed t → IsShort t → (process : Written) × TextSpells (printed_text t) process × IsTrue (congruent (bare process) t)

-- and no other
abbrev pub PrintedTextSpellsOne : Type 0
PrintedTextSpellsOne = (t : Tree) → IsClosed t → IsShort t → (process : Written) → TextSpells (printed_text t) process → IsTrue (congruent (bare process) t)
