-- Where names stand among those in scope.
use Rattle.std.specs.Prelude.{◌≡◌, ℕ, ◌-◌, ◌<◌, ◌^◌, List, [], ◌∷◌, ⊤, map as each, reverse, length, string_bytes, String, unwrap_or}
use Rattle.std.specs.BTreeMap.{BTreeMap, get_by_text}
use Rattle.std.specs.declared.alloc.Global.{Global}
use Rattle.calculus.specs.Bare.{index}
use Rattle.scope_names.specs.declared.names.Bound.{Bound}

-- a name's bytes
abbrev pub bytes_of : Bound → List ℕ
bytes_of b = string_bytes b.name

-- the names, the last one bound first
abbrev pub names_of : List Bound → List (List ℕ)
names_of bs = each bytes_of (reverse bs)

-- the place of the last name that is this, counted from 1, or 0
abbrev pub place : List ℕ → List (List ℕ) → ℕ
place x v = length v - index x v

-- each of these names, of which the last one stands first, has the place of the last equal one before it
abbrev pub AreChained : List Bound → Type 0
AreChained [] = ⊤
AreChained (b ∷ bs) = (b.before ≡ place (bytes_of b) (each bytes_of bs)) × AreChained bs

-- the map has the place of the last name of each text
pub record IsIndexed (bs : List Bound) (m : BTreeMap (String Global) ℕ) : Type 0 where
  pub few : length bs < 2 ^ 32
  pub last : (x : List ℕ) → unwrap_or (get_by_text m x) 0 ≡ place x (names_of bs)
  pub chained : AreChained (reverse bs)
