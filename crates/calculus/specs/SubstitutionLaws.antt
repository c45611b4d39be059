-- Laws of substitution. Each stands in the contract of a public function that does nothing.
use Rattle.std.specs.Prelude.{◌≡◌, ℕ, List, length, All}
use Rattle.calculus.specs.Tree.{Tree}
use Rattle.calculus.specs.Variables.{Sense}
use Rattle.calculus.specs.Form.{term, Scope, HasVariable, Fits, IsClosed}
use Rattle.calculus.specs.Substitution.{put, renumber}

-- a body with closed values for all its variables is closed; a name's value is the process that it quotes
abbrev pub PutIsClosed : Type 0
PutIsClosed = (v : Scope) (t : Tree) (vs : List Tree) → Fits term v t → length vs ≡ length v → All IsClosed vs → IsClosed (put vs t)

-- a body whose variables are now other ones of the same senses is a process in their scope
abbrev pub RenumberFits : Type 0
RenumberFits = (v w : Scope) (f : ℕ → ℕ) (t : Tree) → Fits term v t → ((i : ℕ) (s : Sense) → HasVariable v i s → HasVariable w (f i) s) → Fits term w (renumber f t)
