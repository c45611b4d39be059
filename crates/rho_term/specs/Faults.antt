-- How far a tree is from one of a sort, as far as the order of codes asks for it.
use Rattle.std.specs.Prelude.{ℕ, ◌+◌, ◌-◌, [], ◌∷◌, length}
use Rattle.calculus.specs.Tree.{Label, fresh, tuple, Tree, node, Trees, none, also}
use Rattle.calculus.specs.Shape.{count}
use Rattle.calculus.specs.Form.{Sort, Kids, all, these, no_form, kids}

-- a digest has 32 bytes, and a tuple a member
abbrev pub own_faults : Label → Trees → ℕ
own_faults (fresh x) ts = (length x - 32) + (32 - length x)
own_faults tuple ts = 1 - count ts
own_faults _ ts = 0

abbrev mutual
  -- faults in a tree that is to be of this sort; a name pattern may have name variables beside other parts
  pub faults : Sort → Tree → ℕ
  faults s (node l ts) = own_faults l ts + all_faults (kids s l 0) ts

  -- faults in the constituents of a form that holds these sorts
  pub all_faults : Kids → Trees → ℕ
  all_faults (all s) none = 0
  all_faults (all s) (also t ts) = faults s t + all_faults (all s) ts
  all_faults (these []) none = 0
  all_faults (these []) (also t ts) = 1
  all_faults (these (s ∷ ss)) none = 1
  all_faults (these (s ∷ ss)) (also t ts) = faults s t + all_faults (these ss) ts
  all_faults no_form ts = 1
