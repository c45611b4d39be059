-- Laws of printed texts. Each stands in the contract of a public function that does nothing.
use Rattle.std.specs.Prelude.{◌≡◌, IsTrue}
use Rattle.calculus.specs.Tree.{Tree}
use Rattle.calculus.specs.Form.{IsClosed}
use Rattle.calculus.specs.Bare.{bare}
use Rattle.calculus.specs.Congruence.{congruent}
use Rattle.calculus.specs.CodeLaws.{IsShort}
use Rattle.printed_spelling.specs.Spelled.{written}
use Rattle.printed_spelling.specs.Ordered.{ordered}

-- putting parts and members in order gives a congruent tree
abbrev pub OrderedIsCongruent : Type 0
OrderedIsCongruent = (t : Tree) → IsTrue (congruent (ordered t) t)

-- the written process of a closed process has for its bare form that process with its parts in order
abbrev pub SpelledIsOrdered : Type 0
SpelledIsOrdered = (t : Tree) → IsClosed t → IsShort t → bare (written t) ≡ ordered t

-- and that is congruent to the process
abbrev pub SpelledIsCongruent : Type 0
SpelledIsCongruent = (t : Tree) → IsClosed t → IsShort t → IsTrue (congruent (bare (written t)) t)
