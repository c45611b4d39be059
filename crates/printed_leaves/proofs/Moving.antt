-- What has been written of a tree has been written of an equal one.
use Rattle.std.proofs.Common.{◌≡◌, ℕ, List, subst}
use Rattle.calculus.specs.Tree.{Tree}
use Rattle.calculus.specs.Form.{part}
use Rattle.printed_leaves.specs.Texts.{Writes, WritesPart}

pub same_writes : (t u : Tree) (d : ℕ) (old new : List ℕ) → t ≡ u → Writes part t d old new → Writes part u d old new
same_writes t u d old new e w = subst (λ (x : Tree). Writes part x d old new) e w

pub same_pattern : (t u : Tree) (d n m : ℕ) (old new : List ℕ) → t ≡ u → WritesPart t d n m old new → WritesPart u d n m old new
same_pattern t u d n m old new e w = subst (λ (x : Tree). WritesPart x d n m old new) e w
