-- The root of a list of rows: groups of rows by key, and a digest of a set of groups.
use Rattle.std.specs.Prelude.{ℕ, zero, suc, ◌/◌, ◌%◌, cond, eqb, List, [], ◌∷◌, ◌++◌, length, map as each, replicate}
use Rattle.std.specs.Str.{bytes_eq}
use Rattle.sha2.specs.Sha256.{sha256}
use Rattle.calculus.specs.Order.{sorted}
use Rattle.calculus.specs.Bytes.{be32, joined}
use Rattle.calculus.specs.Code.{code}
use Rattle.calculus.specs.Rows.{Row, row_code, channels}

-- the code of a list of codes, ascending
abbrev pub group_code : List (List ℕ) → List ℕ
group_code cs = be32 (length cs) ++ joined (sorted cs)

-- the key of a row's group: the digest of the code of its channels
unfoldable pub key : Row → List ℕ
key r = sha256 (group_code (each code (channels r.part)))

-- the rows of one key: the key, those of its half bytes that are left, and the codes of the rows
pub record Group : Type 0 where
  pub key : List ℕ
  pub way : List ℕ
  pub rows : List (List ℕ)

-- the half bytes, the high one of each byte first
abbrev pub halves : List ℕ → List ℕ
halves [] = []
halves (b ∷ bs) = (b / 16) ∷ (b % 16) ∷ halves bs

-- groups with one more row, of this key and this code
abbrev pub with_row : List ℕ → List ℕ → List Group → List Group
with_row k c [] = record { key = k; way = halves k; rows = c ∷ [] } ∷ []
with_row k c (g ∷ gs) = cond (bytes_eq k g.key) (record { key = k; way = g.way; rows = c ∷ g.rows } ∷ gs) (g ∷ with_row k c gs)

-- the groups of these rows
abbrev pub groups : List Row → List Group
groups [] = []
groups (r ∷ rs) = with_row (key r) (row_code r) (groups rs)

-- the digest of a set of one group
abbrev pub leaf_digest : Group → List ℕ
leaf_digest g = sha256 (0x10 ∷ (g.key ++ (be32 (length g.rows) ++ joined (sorted g.rows))))

-- a group before others, without the next half byte of its way, where that is h
abbrev pub under_way : ℕ → Group → List ℕ → List Group → List Group
under_way h g [] gs = gs
under_way h g (x ∷ xs) gs = cond (eqb x h) (record { key = g.key; way = xs; rows = g.rows } ∷ gs) gs

-- the groups whose next half byte is h, without it
abbrev pub under : ℕ → List Group → List Group
under h [] = []
under h (g ∷ gs) = under_way h g g.way (under h gs)

-- the values of a half byte
abbrev pub sixteen : List ℕ
sixteen = 0 ∷ 1 ∷ 2 ∷ 3 ∷ 4 ∷ 5 ∷ 6 ∷ 7 ∷ 8 ∷ 9 ∷ 10 ∷ 11 ∷ 12 ∷ 13 ∷ 14 ∷ 15 ∷ []

-- the digest of a set of groups with this many half bytes left, in one of which any two distinct keys differ
abbrev pub digest_in : ℕ → List Group → List ℕ
digest_in left [] = replicate 32 0
digest_in left (g ∷ []) = leaf_digest g
digest_in zero (g ∷ h ∷ gs) = replicate 32 0
digest_in (suc left) (g ∷ h ∷ gs) = sha256 (0x11 ∷ joined (each (λ x. digest_in left (under x (g ∷ h ∷ gs))) sixteen))

-- the root of a list of rows
unfoldable pub root : List Row → List ℕ
root rs = digest_in 64 (groups rs)
