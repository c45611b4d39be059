-- What trees become when their outer variables are changed, under inner variables that 64 bits count.
use Rattle.std.specs.Prelude.{◌≡◌, ℕ, ◌+◌, ◌-◌, min, List, [], ◌∷◌, ◌++◌, length, slice_index, map, All}
use Rattle.calculus.specs.Tree.{Label, var, name_var, Tree, none, also}
use Rattle.calculus.specs.Shape.{leaf}
use Rattle.calculus.specs.Substitution.{Change}
use Rattle.rho_term.specs.Normal.{IsOrdered}
use Rattle.rho_term.specs.Sizes.{in_u64}
use Rattle.term_bounds.specs.Filled.{value_parts, filled, all_filled}
use Rattle.substitution.specs.declared.variable.Replacement.{Replacement}
use Rattle.substitution.specs.declared.variable.Replacement.TheVariants as replacement
use Rattle.substitution.specs.declared.variable.Sense.{Sense}
use Rattle.substitution.specs.declared.variable.Sense.TheVariants as sense

-- the new index of the outer variable of index k, in a list of the new indices by the old ones: past its end it is the last one
abbrev pub index_in : List ℕ → ℕ → ℕ
index_in ns k = slice_index ns (min k (length ns - 1))

-- the variable of the new index
unfoldable pub index_parts : (ℕ → ℕ) → Change
index_parts f k d form = also (leaf (form (f k + d))) none

-- what comes in place of a use of an outer variable
unfoldable pub change_of : Replacement → Change
change_of (replacement.Values vs) = value_parts vs.now
change_of (replacement.Indices ns) = index_parts (index_in ns.now)

-- the form of a use of a variable
abbrev pub use_of : Sense → ℕ → Label
use_of sense.Process i = var i
use_of sense.Name i = name_var i

-- the one tree becomes the other, under any number of inner variables that is n as far as 64 bits count
abbrev pub Becomes : Change → ℕ → Tree → Tree → Type 0
Becomes f n t u = (d : ℕ) → in_u64 d ≡ n → filled f d t ≡ u ∷ []

-- what a tree becomes was added to these trees, which gave those
abbrev pub Adds : Change → ℕ → Tree → List Tree → List Tree → Type 0
Adds f n t us ws = (d : ℕ) → in_u64 d ≡ n → ws ≡ us ++ filled f d t

-- where each of these things has its own members in order, each of those has
abbrev pub StayOrdered : {A : Type 0} → (A → Tree) → List A → List A → Type 0
StayOrdered tree us ws = All (λ u. IsOrdered (tree u)) us → All (λ w. IsOrdered (tree w)) ws

-- things that stand for these trees were added to things, which gave those; where the first had their members in order, all have
abbrev pub Joins : {A : Type 0} → (A → Tree) → List Tree → List A → List A → Type 0
Joins tree ts us ws = (map tree ws ≡ map tree us ++ ts) × StayOrdered tree us ws

-- the same of things that stand for what a tree becomes
abbrev pub Grows : {A : Type 0} → (A → Tree) → Change → ℕ → Tree → List A → List A → Type 0
Grows tree f n t us ws = Adds f n t (map tree us) (map tree ws) × StayOrdered tree us ws

-- these trees become those
abbrev pub AllBecome : Change → ℕ → List Tree → List Tree → Type 0
AllBecome f n ts us = (d : ℕ) → in_u64 d ≡ n → all_filled f d ts ≡ us

-- these trees become those with what the rest becomes after them
abbrev pub BecomeWith : Change → ℕ → List Tree → List Tree → List Tree → Type 0
BecomeWith f n ts us rest = (d : ℕ) → in_u64 d ≡ n → us ++ all_filled f d rest ≡ all_filled f d ts
