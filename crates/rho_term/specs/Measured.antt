-- What is counted of trees, and what a process and a pattern keep of it beside their parts.
use Rattle.std.specs.Prelude.{ℕ, ◌≡◌, ◌+◌, ◌-◌, max}
use Rattle.calculus.specs.Tree.{Tree}
use Rattle.calculus.specs.Form.{Sort, term, pat, name_pat}
use Rattle.calculus.specs.Size.{height}
use Rattle.rho_term.specs.Normal.{IsNormal, IsOrdered}
use Rattle.rho_term.specs.Measures.{in_u32, sign}
use Rattle.rho_term.specs.Sizes.{in_u64, size}
use Rattle.rho_term.specs.Faults.{faults}
use Rattle.rho_term.specs.declared.measures.Measures.{Measures}

-- the height of a tree, whether it has faults where it stands for this sort, and the length of its code
abbrev pub IsCount : Sort → Tree → Measures → Type 0
IsCount s t m = (m.height ≡ in_u32 (height t)) × (m.faults ≡ sign (faults s t)) × (m.length ≡ in_u64 (size t))

-- these of a tree that is in normal order
abbrev pub IsMeasured : Sort → Tree → Measures → Type 0
IsMeasured s t m = IsNormal t × IsCount s t m

-- these of a tree that is in normal order if what stands first in it ascends
abbrev pub IsFormMeasured : Sort → Tree → Measures → Type 0
IsFormMeasured s t m = (IsOrdered t → IsNormal t) × IsCount s t m

-- a form without constituents, of this many bytes
abbrev pub IsLeaf : ℕ → Measures → Type 0
IsLeaf k m = (m.height ≡ 0) × (m.faults ≡ 0) × (m.length ≡ k)

-- what stands in two places: the greater height, whether there are faults in one, and the lengths together
abbrev pub IsJoin : Measures → Measures → Measures → Type 0
IsJoin a b m = (m.height ≡ max a.height b.height) × (m.faults ≡ max a.faults b.faults) × (m.length ≡ in_u64 (a.length + b.length))

-- a form one higher than what stands in it, with this many bytes before that
abbrev pub IsOne : ℕ → Measures → Measures → Type 0
IsOne k a m = (m.height ≡ in_u32 (a.height + 1)) × (m.faults ≡ a.faults) × (m.length ≡ in_u64 (k + a.length))

-- the same over two constituents
abbrev pub IsTwo : ℕ → Measures → Measures → Measures → Type 0
IsTwo k a b m = (m.height ≡ in_u32 (max a.height b.height + 1)) × (m.faults ≡ max a.faults b.faults) × (m.length ≡ in_u64 (k + (a.length + b.length)))

-- a tuple of this many members, which stand in a row; one without is a fault
abbrev pub IsTuple : ℕ → Measures → Measures → Type 0
IsTuple n a m = (m.height ≡ in_u32 (a.height + 1)) × (m.faults ≡ max a.faults (1 - n)) × (m.length ≡ in_u64 (1 + a.length))

-- what a process keeps: its height, whether it has faults, and the length of its code
abbrev pub IsKept : Tree → ℕ → ℕ → ℕ → Type 0
IsKept t h f n = IsNormal t × (h ≡ in_u32 (height t)) × (f ≡ sign (faults term t)) × (n ≡ in_u64 (size t))

-- what a pattern keeps: the same, and whether it has faults as a pattern of names
abbrev pub IsPatKept : Tree → ℕ → ℕ → ℕ → ℕ → Type 0
IsPatKept t h f g n = IsNormal t × (h ≡ in_u32 (height t)) × (f ≡ sign (faults pat t)) × (g ≡ sign (faults name_pat t)) × (n ≡ in_u64 (size t))
