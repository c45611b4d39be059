-- What is known of a target, what is left of it, and which of its parts or members repeat.
use Rattle.std.specs.Prelude.{◌≡◌, ℕ, ◌+◌, false, List, [], ◌∷◌, ⊤, slice_index_or}
use Rattle.calculus.specs.Tree.{Tree, par}
use Rattle.calculus.specs.Shape.{held, leaf, process}
use Rattle.calculus.specs.CodeLaws.{IsShort}
use Rattle.calculus.specs.Form.{Sort, Fits}
use Rattle.free_places.specs.Places.{has, left_from}

-- a closed tree of this sort, whose code has room in four bytes
pub record Ready (s : Sort) (t : Tree) : Type 0 where
  pub closed : Fits s [] t
  pub short : IsShort t

-- each of these is so
abbrev pub AllReady : Sort → List Tree → Type 0
AllReady s [] = ⊤
AllReady s (t ∷ ts) = Ready s t × AllReady s ts

-- the process of the parts whose numbers are not among these
abbrev pub remaining : List ℕ → Tree → Tree
remaining us t = process (left_from 0 us (held t))

-- a target is equal to the one before it, which is not taken
pub record Repeats (us : List ℕ) (ts : List Tree) (j : ℕ) : Type 0 where
  pub before : ℕ
  pub next : j ≡ before + 1
  pub free : has us before ≡ false
  pub same : slice_index_or ts before (leaf par) ≡ slice_index_or ts j (leaf par)
