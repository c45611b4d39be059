-- Trees of a sort whose labels have a property.
use Rattle.std.specs.Prelude.{◌≡◌, [], ◌∷◌, length, ⊤}
use Rattle.calculus.specs.Tree.{Label, fresh, Tree, node, Trees, none, also}
use Rattle.calculus.specs.Form.{Sort, Kids, all, these, no_form, kids}

-- a digest has 32 bytes
abbrev pub IsFine : Label → Type 0
IsFine (fresh x) = length x ≡ 32
IsFine _ = ⊤

abbrev mutual
  -- a tree of this sort, where P holds of each label in it; a name pattern may here have name variables beside other parts
  pub Formed : (Label → Type 0) → Sort → Tree → Type 0
  Formed P s (node l ts) = P l × Holds P (kids s l 0) ts

  -- these trees are what a form holds, where P holds of each label in them
  pub Holds : (Label → Type 0) → Kids → Trees → Type 0
  Holds P (all s) none = ⊤
  Holds P (all s) (also t ts) = Formed P s t × Holds P (all s) ts
  Holds P (these []) none = ⊤
  Holds P (these []) (also t ts) = ⊥
  Holds P (these (s ∷ ss)) none = ⊥
  Holds P (these (s ∷ ss)) (also t ts) = Formed P s t × Holds P (these ss) ts
  Holds P no_form ts = ⊥
