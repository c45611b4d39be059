-- Groups of rows as keys and digests, and the digest of a set of them.
use Rattle.std.specs.Prelude.{◌≡◌, ℕ, zero, suc, ◌-◌, cond, eqb, Bool, List, [], ◌∷◌, ◌++◌, length, map as each, slice_index, replicate}
use Rattle.std.specs.List.{filter}
use Rattle.std.specs.Str.{bytes_eq}
use Rattle.sha2.specs.Sha256.{sha256}
use Rattle.calculus.specs.Bytes.{be32, joined}
use Rattle.calculus.specs.Order.{sorted}
use Rattle.calculus.specs.Rows.{Row, row_code}
use Rattle.calculus.specs.Root.{key, halves, sixteen}

-- the keys of groups and the digests of these groups
abbrev pub Leaves : Type 0
Leaves = List (List ℕ × List ℕ)

-- the digest of the group of a key, empty where there is none
abbrev pub digest_at : Leaves → List ℕ → List ℕ
digest_at [] k = []
digest_at (l ∷ ls) k = cond (bytes_eq k l.0) l.1 (digest_at ls k)

-- the digest of the group of a key with these codes of rows, empty where there are none
abbrev pub group_digest : List ℕ → List (List ℕ) → List ℕ
group_digest k [] = []
group_digest k (c ∷ cs) = sha256 (0x10 ∷ (k ++ (be32 (length (c ∷ cs)) ++ joined (c ∷ cs))))

-- a half byte of a key
abbrev pub half_of : ℕ → List ℕ → ℕ
half_of place k = slice_index (halves k) place

-- whether the key of a group has this half byte at this place
abbrev pub has_half : ℕ → ℕ → List ℕ × List ℕ → Bool
has_half place half l = eqb (half_of place l.0) half

-- the digest of a set of groups whose keys agree in all but the last `left` half bytes
abbrev pub set_digest : ℕ → Leaves → List ℕ
set_digest left [] = replicate 32 0
set_digest left (l ∷ []) = l.1
set_digest zero (l ∷ m ∷ ls) = replicate 32 0
set_digest (suc left) (l ∷ m ∷ ls) = sha256 (0x11 ∷ joined (each (λ x. set_digest left (filter (has_half (63 - left) x) (l ∷ m ∷ ls))) sixteen))

-- the codes of the rows of a key
abbrev pub codes_at : List Row → List ℕ → List (List ℕ)
codes_at [] k = []
codes_at (r ∷ rs) k = cond (bytes_eq k (key r)) (row_code r ∷ codes_at rs k) (codes_at rs k)

-- each key has the digest of these codes of its rows
abbrev pub Keeps : Leaves → (List ℕ → List (List ℕ)) → Type 0
Keeps ls f = (k : List ℕ) → digest_at ls k ≡ group_digest k (f k)

-- the codes of the rows of each key, ascending
abbrev pub groups_of : List Row → List ℕ → List (List ℕ)
groups_of rs k = sorted (codes_at rs k)

-- these codes of each key, with others at one key
abbrev pub changed : (List ℕ → List (List ℕ)) → List ℕ → List (List ℕ) → List ℕ → List (List ℕ)
changed f k cs l = cond (bytes_eq l k) cs (f l)
