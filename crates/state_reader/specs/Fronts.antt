-- What is known of the channels of a row that was read.
use Rattle.std.specs.Prelude.{List, All}
use Rattle.calculus.specs.CodeLaws.{IsShort}
use Rattle.calculus.specs.Form.{IsClosed}
use Rattle.calculus.specs.Tree.{Tree}

-- closed processes whose codes have room in four bytes
abbrev pub AreTargets : List Tree → Type 0
AreTargets ts = All (λ t. IsClosed t × IsShort t) ts
