-- Rows with the keys of their groups, and groups that were closed one after another.
use Rattle.std.specs.Prelude.{◌≡◌, ◌≢◌, All, cond, true, false, ℕ, List, [], map as each}
use Rattle.std.specs.Str.{bytes_eq}
use Rattle.calculus.specs.Order.{IsAscending}
use Rattle.calculus.specs.Rows.{Row, row_code}
use Rattle.calculus.specs.Root.{key}
use Rattle.calculus.specs.Steps.{differ, is_one_of}
use Rattle.radix_root.specs.Leaves.{group_digest, codes_at, groups_of}
use Rattle.radix_root.specs.Groups.{digest_after}
use Rattle.radix_root.specs.declared.group.Group.{Group}
use Rattle.checkpoint.specs.declared.keyed.KeyedRow.{KeyedRow}
use Rattle.checkpoint.specs.declared.groups.Groups.{Groups}

-- the row of a keyed row
abbrev pub row_of : KeyedRow → Row
row_of k = k.row.now

-- a keyed row has the key of its row's group and its row's code
abbrev pub IsKeyed : KeyedRow → Type 0
IsKeyed k = (k.key.now.0 ≡ key k.row.now) × (k.code.now ≡ row_code k.row.now)

-- keyed rows in the order of their keys
pub record AreByKey (ks : List KeyedRow) : Type 0 where
  pub keyed : All IsKeyed ks
  pub ascending : IsAscending (each (λ k. k.key.now.0) ks)

-- these groups have these codes of the rows of each key
abbrev pub Give : List Group → (List ℕ → List (List ℕ)) → Type 0
Give gs f = (k : List ℕ) → digest_after gs [] k ≡ group_digest k (f k)

-- the keys of groups
abbrev pub keys_in : List Group → List (List ℕ)
keys_in gs = each (λ g. g.key.0) gs

-- no two of these groups have one key, and each has some of these rows
pub record AreApart (gs : List Group) (rows : List Row) : Type 0 where
  pub once : differ (keys_in gs) ≡ true
  pub some : (k : List ℕ) → is_one_of k (keys_in gs) ≡ true → codes_at rows k ≢ []

-- of these rows all groups are closed but that of one key, and beside them stand the codes of this group
pub record Holds (gs : Groups) (rows : List Row) : Type 0 where
  pub codes : each (λ c. c.now) gs.codes.items ≡ codes_at rows gs.key.0
  pub closed : Give gs.closed.items (λ k. cond (bytes_eq k gs.key.0) [] (groups_of rows k))
  pub apart : AreApart gs.closed.items rows
  pub last : is_one_of gs.key.0 (keys_in gs.closed.items) ≡ false
