-- Which rows may be stored, and in which of 64 shards a channel's rows stand.
use Rattle.std.specs.Prelude.{◌≡◌, ℕ, ◌≤◌, ◌%◌, Bool, true, false, List, [], ◌∷◌, map as each, ⊤, slice_index}
use Rattle.sha2.specs.Sha256.{sha256}
use Rattle.calculus.specs.Order.{up_to}
use Rattle.calculus.specs.Tree.{send, receive, Tree, node}
use Rattle.calculus.specs.Shape.{only}
use Rattle.calculus.specs.Form.{IsDigest, IsClosed}
use Rattle.calculus.specs.Code.{code}
use Rattle.calculus.specs.Size.{height}
use Rattle.calculus.specs.Rows.{Row, row_length, channels}

-- whether a part is a send or a receive
abbrev pub is_active : Tree → Bool
is_active (node (send q) ts) = true
is_active (node (receive k) ts) = true
is_active _ = false

-- a list of bytes is less than the first of these, where there is one
abbrev pub IsLessThanFirst : List ℕ → List (List ℕ) → Type 0
IsLessThanFirst x [] = ⊤
IsLessThanFirst x (y ∷ ys) = up_to y x ≡ false

-- each of these lists of bytes is less than the next
abbrev pub AreRising : List (List ℕ) → Type 0
AreRising [] = ⊤
AreRising (x ∷ xs) = IsLessThanFirst x xs × AreRising xs

-- a row that may be stored: a closed send or receive within the limits, under an id of 32 bytes, whose channels rise in their codes, so that no two are congruent; that a receive has 1 to 16 binds is said by its form
pub record IsStorable (r : Row) : Type 0 where
  pub id : IsDigest r.id
  pub active : is_active r.part ≡ true
  pub closed : IsClosed (only r.part)
  pub low : height r.part ≤ 400
  pub short : row_length r ≤ 1048576
  pub rising : AreRising (each code (channels r.part))

-- the shard of a channel, of 64: the first byte of the SHA-256 of its code, modulo 64
abbrev pub shard : Tree → ℕ
shard t = slice_index (sha256 (code t)) 0 % 64
