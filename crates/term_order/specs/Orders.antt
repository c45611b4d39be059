-- What an order of two trees says of their codes.
use Rattle.std.specs.Prelude.{◌≡◌, ◌≤◌, ◌⊎◌, ℕ, List, [], ◌∷◌, ⊤}
use Rattle.std.specs.Ordering.{ordering_then}
use Rattle.std.specs.declared.cmp.Ordering.{Ordering}
use Rattle.calculus.specs.Tree.{Label, tuple, Tree, node, Trees, none, also}
use Rattle.calculus.specs.Shape.{leaf}
use Rattle.calculus.specs.Order.{byte_cmp}
use Rattle.calculus.specs.Code.{code}
use Rattle.calculus.specs.CodeLaws.{IsShort}
use Rattle.calculus.specs.Form.{Sort, Scope, Fits, term}
use Rattle.calculus.specs.Formed.{IsFine, Formed}
use Rattle.rho_term.specs.Normal.{IsNormal}
use Rattle.rho_term.specs.declared.term.PatPart.{PatPart}
use Rattle.rho_term.specs.declared.term.PatPart.TheVariants as pat

-- the first of these bytes, and 0 where there is none
abbrev pub first : List ℕ → ℕ
first [] = 0
first (x ∷ xs) = x

-- the order of the codes of two trees, where both have room
abbrev pub ComparesShort : Tree → Tree → Ordering → Type 0
ComparesShort t u r = IsShort t → IsShort u → r ≡ byte_cmp (code t) (code u)

-- the order of the codes of two forms without constituents
abbrev pub ComparesLeaves : Label → Label → Ordering → Type 0
ComparesLeaves l m r = ComparesShort (leaf l) (leaf m) r

-- where this form is a tuple, it has a member
abbrev pub HasMember : Label → Trees → Type 0
HasMember tuple none = ⊥
HasMember _ ts = ⊤

abbrev mutual
  -- each tuple in this tree has a member
  pub IsFilled : Tree → Type 0
  IsFilled (node l ts) = HasMember l ts × AreFilled ts

  -- the same in each of these trees
  pub AreFilled : Trees → Type 0
  AreFilled none = ⊤
  AreFilled (also t ts) = IsFilled t × AreFilled ts

-- a tree of this sort in normal order without an empty tuple, whose code has room in four bytes
pub record Suits (s : Sort) (t : Tree) : Type 0 where
  pub normal : IsNormal t
  pub formed : Formed IsFine s t
  pub filled : IsFilled t
  pub short : IsShort t

-- the order of the codes of two trees of one sort
abbrev pub ComparesAs : Sort → Tree → Tree → Ordering → Type 0
ComparesAs s t u r = Suits s t → Suits s u → r ≡ byte_cmp (code t) (code u)

-- that order after one that goes before it
abbrev pub ThenCompares : Ordering → Sort → Tree → Tree → Ordering → Type 0
ThenCompares o s t u r = Suits s t → Suits s u → r ≡ ordering_then o (byte_cmp (code t) (code u))

-- the order of the codes of two processes, which may stand in different scopes
abbrev pub OrdersCodes : Tree → Tree → Ordering → Type 0
OrdersCodes t u r = (v w : Scope) → Fits term v t → Fits term w u → IsShort t → IsShort u → r ≡ byte_cmp (code t) (code u)

-- the tag of a ground value, a receive, a `new` or a `match`
abbrev pub IsClosedTag : ℕ → Type 0
IsClosedTag n = (n ≤ 0x14) ⊎ ((0x31 ≤ n) × (n ≤ 0x33))

-- what is known of a tag of a part of a pattern: a closed form has one of its own
abbrev pub IsOwnTag : PatPart → ℕ → Type 0
IsOwnTag (pat.Closed p) n = IsClosedTag n
IsOwnTag _ n = ⊤
