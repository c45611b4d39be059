-- What nodes hold, as far as none, one and several go.
use Rattle.std.specs.Prelude.{◌≡◌, ◌≤◌, [], ◌∷◌, length}
use Rattle.radix_root.specs.Leaves.{Leaves}
use Rattle.radix_root.specs.declared.held.Held.{Held}
use Rattle.radix_root.specs.declared.held.Held.TheVariants.{Nothing, One, Several}

-- these groups are what is held
abbrev pub IsHeld : Held → Leaves → Type 0
IsHeld Nothing ls = ls ≡ []
IsHeld (One k d) ls = ls ≡ (k.0, d.0) ∷ []
IsHeld Several ls = 2 ≤ length ls
