-- Binds on other channels, and beside the places of their variables.
use Rattle.std.specs.Prelude.{◌≤◌, ℕ, List, [], ◌∷◌, length, Vec}
use Rattle.std.specs.declared.alloc.Global.{Global}
use Rattle.calculus.specs.Tree.{bind, Tree}
use Rattle.calculus.specs.Shape.{three, held, at}
use Rattle.calculus.specs.Code.{code}
use Rattle.calculus.specs.Form.{term, Scope, Fits}
use Rattle.calculus.specs.Unfolding.{Placed}
use Rattle.rho_term.specs.Parts.{bind_tree}
use Rattle.offered_rows.specs.declared.placed.PlacedBind.{PlacedBind}

-- a bind on this name
abbrev pub bind_on : Tree → Tree → Tree
bind_on name b = three bind name (at 1 (held b)) (at 2 (held b))

-- binds on these names
abbrev pub binds_on : List Tree → List Tree → List Tree
binds_on [] bs = []
binds_on (t ∷ ts) [] = []
binds_on (t ∷ ts) (b ∷ bs) = bind_on t b ∷ binds_on ts bs

-- a bind beside the places of its variables
abbrev pub placed_of : PlacedBind → Placed
placed_of p = (bind_tree p.bind, p.places.items)

-- such a bind after the code of its channel
abbrev pub keyed_of : Vec ℕ Global × PlacedBind → List ℕ × Placed
keyed_of p = (p.0.items, placed_of p.1)

-- a bind with its places after the code of its channel
abbrev pub with_channel_code : Placed → List ℕ × Placed
with_channel_code b = (code (at 0 (held b.0)), b)

-- a process in a scope of at most so many variables
abbrev pub HasScope : ℕ → Tree → Type 0
HasScope n t = (s : Scope) × (length s ≤ n) × Fits term s t
