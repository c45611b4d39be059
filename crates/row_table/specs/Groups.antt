-- Ids in groups, each found by its key.
use Rattle.std.specs.Prelude.{◌≡◌, ◌≢◌, ℕ, Bool, true, List, [], Option, Some, None, is_some}
use Rattle.std.specs.Map.{lookup}
use Rattle.std.specs.Ordering.{nat_cmp, is_eq}
use Rattle.std.specs.Cmp.Lexicographic.{slice_cmp}
use Rattle.std.specs.declared.alloc.Global.{Global}
use Rattle.std.specs.declared.vec.Vec.{Vec}
use Rattle.calculus.specs.Rows.{Row}
use Rattle.calculus.specs.Steps.{as_datum, is_one_of}
use Rattle.row_search.specs.Rows.{IsIn}

-- whether a row is a send
abbrev pub is_send : Row → Bool
is_send r = is_some (as_datum r.part)

-- whether a key is this one
abbrev pub is_key : List ℕ → List ℕ → Bool
is_key k q = is_eq (slice_cmp nat_cmp k q)

-- the ids of a group, where there is one
abbrev pub ids_in : Option (List (List ℕ)) → List (List ℕ)
ids_in None = []
ids_in (Some xs) = xs

-- groups by their keys
abbrev pub Index : Type 0
Index = List (Vec ℕ Global × List (List ℕ))

-- the ids of the group with this key
abbrev pub group : Index → List ℕ → List (List ℕ)
group es k = ids_in (lookup (λ (q : Vec ℕ Global). is_key k q.items) es)

-- the group with this key has an id
abbrev pub HasId : Index → List ℕ → List ℕ → Type 0
HasId es k x = is_one_of x (group es k) ≡ true

-- each group keeps its ids
abbrev pub KeepIds : Index → Index → Type 0
KeepIds old new = (k : Vec ℕ Global) (x : List ℕ) → HasId old k.items x → HasId new k.items x

-- each group keeps its ids but this one
abbrev pub KeepIdsBut : List ℕ → Index → Index → Type 0
KeepIdsBut id old new = (k : Vec ℕ Global) (x : List ℕ) → x ≢ id → HasId old k.items x → HasId new k.items x

-- each group with one of these keys has this id
abbrev pub HaveId : List (Vec ℕ Global) → Index → List ℕ → Type 0
HaveId keys es id = (k : Vec ℕ Global) → IsIn k keys → HasId es k.items id
