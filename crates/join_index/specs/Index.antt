-- What an index of groups stands for.
use Rattle.std.specs.Prelude.{◌≡◌, ℕ, suc, ◌-◌, ◌^◌, true, false, cond, min, eqb, pred, List, [], ◌∷◌, ◌++◌, fold, length, map as each, vec_capacity, Option, Some, None}
use Rattle.std.specs.List.{list_any}
use Rattle.join_index.specs.Groups.{Channels, same_group}
use Rattle.join_index.specs.declared.index.Counted.{Counted}
use Rattle.join_index.specs.declared.index.JoinIndex.{JoinIndex}

-- a group with how often it stands in a list
abbrev pub Tally : Type 0
Tally = Channels × ℕ

-- one more of a group, which goes last where it is new
abbrev pub one_more : List Tally → Channels → List Tally
one_more [] g = (g, 1) ∷ []
one_more (e ∷ es) g = cond (same_group g e.0) ((e.0, suc e.1) ∷ es) (e ∷ one_more es g)

-- one less of a group, which goes where it was the last
abbrev pub one_less : List Tally → Channels → List Tally
one_less [] g = []
one_less (e ∷ es) g = cond (same_group g e.0) (cond (eqb e.1 1) es ((e.0, pred e.1) ∷ es)) (e ∷ one_less es g)

-- each of these groups once, with how often it stands there, in the order in which they first stand
abbrev pub tallies : List Channels → List Tally
tallies gs = fold one_more [] gs

-- a group of the index with its number
abbrev pub tally_of : Counted → Tally
tally_of e = (e.group, e.count)

-- an index has exactly these groups of channels, with repeats, in the order in which they were added
pub record HasGroups (i : JoinIndex) (gs : List Channels) : Type 0 where
  pub groups : each tally_of i.groups.items ≡ tallies gs
  pub total : i.total ≡ length gs

-- this is the place of the first of these that has a group, or there is none
abbrev pub IsPlace : Channels → List Counted → Option ℕ → Type 0
IsPlace g es None = list_any (λ e. same_group g e.group) es ≡ false
IsPlace g es (Some i) = (before : List Counted) × (e : Counted) × (after : List Counted) × (es ≡ before ++ e ∷ after) × (length before ≡ i)
    × (list_any (λ d. same_group g d.group) before ≡ false) × (same_group g e.group ≡ true)

-- how many groups may be put that take no memory
abbrev pub spare : JoinIndex → ℕ
spare i = min (vec_capacity i.groups - length i.groups.items) ((2 ^ 64 - 1) - i.total)
