-- Counts of shards, by key.
use Rattle.std.specs.Prelude.{◌≡◌, ℕ, ◌+◌, ◌-◌, ◌<◌, Bool, cond, List, [], ◌∷◌, Option, None, Some, slice_index}
use Rattle.std.specs.Int.{bit_at}
use Rattle.std.specs.Map.{lookup}
use Rattle.std.specs.Ordering.{nat_cmp, is_eq}
use Rattle.std.specs.Cmp.Lexicographic.{slice_cmp}
use Rattle.std.specs.declared.alloc.Global.{Global}
use Rattle.std.specs.declared.vec.Vec.{Vec}

-- whether a key is this one
abbrev pub is_key : List ℕ → List ℕ → Bool
is_key k q = is_eq (slice_cmp nat_cmp k q)

-- keys, each with its 64 counts
abbrev pub Entries : Type 0
Entries = List (Vec ℕ Global × List ℕ)

-- counts, where there are some
abbrev pub counts_in : Option (List ℕ) → List ℕ
counts_in None = []
counts_in (Some cs) = cs

-- the count of the shard s under the key k
abbrev pub count : Entries → List ℕ → ℕ → ℕ
count es k s = slice_index (counts_in (lookup (λ (q : Vec ℕ Global). is_key k q.items) es)) s

-- what one key adds to that count where the shards of these bits are counted under it
abbrev pub adds : List ℕ → ℕ → List ℕ → ℕ → ℕ
adds q bits k s = cond (is_key k q) (bit_at bits s) 0

-- what these keys add to it
abbrev pub added : List (Vec ℕ Global) → ℕ → List ℕ → ℕ → ℕ
added [] bits k s = 0
added (q ∷ qs) bits k s = adds q.items bits k s + added qs bits k s

-- under each key the count of each of the 64 shards rose by so many
abbrev pub CountsRiseBy : (List ℕ → ℕ → ℕ) → (List ℕ → ℕ → ℕ) → (List ℕ → ℕ → ℕ) → Type 0
CountsRiseBy more old new = (k : Vec ℕ Global) (s : ℕ) → s < 64 → new k.items s ≡ old k.items s + more k.items s

-- under each key the count of each of the 64 shards fell by so many, or to none
abbrev pub CountsFallBy : (List ℕ → ℕ → ℕ) → (List ℕ → ℕ → ℕ) → (List ℕ → ℕ → ℕ) → Type 0
CountsFallBy less old new = (k : Vec ℕ Global) (s : ℕ) → s < 64 → new k.items s ≡ old k.items s - less k.items s

-- under each key the count of each of the 64 shards is what it was
abbrev pub CountsStay : (List ℕ → ℕ → ℕ) → (List ℕ → ℕ → ℕ) → Type 0
CountsStay old new = (k : Vec ℕ Global) (s : ℕ) → s < 64 → new k.items s ≡ old k.items s
