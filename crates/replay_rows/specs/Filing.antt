-- Things that stand in a map under their ids.
use Rattle.std.specs.Prelude.{◌≡◌, ◌<◌, ⊤, ℕ, Bool, cond, List, [], ◌∷◌, ◌++◌, map as each, Option, Some, None, vec_len, vec_capacity}
use Rattle.std.specs.Str.{bytes_eq}
use Rattle.std.specs.Map.{lookup}
use Rattle.std.specs.Ordering.{nat_cmp, is_eq}
use Rattle.std.specs.Cmp.Lexicographic.{slice_cmp}
use Rattle.std.specs.declared.alloc.Global.{Global}
use Rattle.std.specs.declared.vec.Vec.{Vec}

-- whether a key of a map is this id
abbrev pub is_key : List ℕ → List ℕ → Bool
is_key x k = is_eq (slice_cmp nat_cmp x k)

-- an id with what stands under it
abbrev pub Filed : Type 0 → Type 0
Filed A = List ℕ × Vec A Global

-- one more thing under an id takes no memory
pub record HasRoom {A : Type 0} (x : List ℕ) (es : List (Filed A)) : Type 0 where
  pub under : Vec A Global
  pub found : lookup (is_key x) es ≡ Some under
  pub room : vec_len under < vec_capacity under

-- all that stands in a map, seen
abbrev pub seen_in_all : {A B : Type 0} → (A → B) → List (Filed A) → List B
seen_in_all view [] = []
seen_in_all view (e ∷ es) = each view e.1.items ++ seen_in_all view es

-- each of these has this id
abbrev pub AllHave : {B : Type 0} → (B → List ℕ) → List ℕ → List B → Type 0
AllHave id x [] = ⊤
AllHave id x (b ∷ bs) = (x ≡ id b) × AllHave id x bs

-- each stands under its id
abbrev pub AreUnder : {A B : Type 0} → (A → B) → (B → List ℕ) → List (Filed A) → Type 0
AreUnder view id [] = ⊤
AreUnder view id (e ∷ es) = AllHave id e.0 (each view e.1.items) × AreUnder view id es

-- the first of these that has this id
abbrev pub first_with : {B : Type 0} → (B → List ℕ) → List ℕ → List B → Option B
first_with id x [] = None
first_with id x (b ∷ bs) = cond (bytes_eq x (id b)) (Some b) (first_with id x bs)
