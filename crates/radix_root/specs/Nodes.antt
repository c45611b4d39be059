-- What is seen of a node of the tree, and what holds of it.
use Rattle.std.specs.Prelude.{◌≡◌, ◌≢◌, ◌<◌, ◌≤◌, ℕ, zero, suc, ◌-◌, ◌+◌, List, [], ◌∷◌, ◌++◌, length, max, replicate, cond, eqb, Option, Some, None, ⊤}
use Rattle.calculus.specs.declared.ids.Digest.{Digest}
use Rattle.radix_root.specs.Leaves.{Leaves, digest_at, half_of, set_digest}

-- a node: how many half bytes the keys under it share, the last of these, the digest that it keeps, its groups, and
-- how deep it goes
pub record Seen : Type 0 where
  pub depth : ℕ
  pub half : ℕ
  pub digest : List ℕ
  pub leaves : Leaves
  pub height : ℕ

-- the groups of these nodes, one node after another
abbrev pub leaves_of : List Seen → Leaves
leaves_of [] = []
leaves_of (c ∷ cs) = c.leaves ++ leaves_of cs

-- one more than the deepest of these nodes
abbrev pub height_of : List Seen → ℕ
height_of [] = 0
height_of (c ∷ cs) = max (c.height + 1) (height_of cs)

-- the group of a node that has one itself
abbrev pub own_leaf : Option Digest → List ℕ → Leaves
own_leaf None d = []
own_leaf (Some k) d = (k.0, d) ∷ []

-- each key is so
abbrev pub AllKeys : (List ℕ → Type 0) → Leaves → Type 0
AllKeys P [] = ⊤
AllKeys P (l ∷ ls) = P l.0 × AllKeys P ls

-- keys and digests of 32 bytes, and no key twice
abbrev pub AreLeaves : Leaves → Type 0
AreLeaves [] = ⊤
AreLeaves (l ∷ ls) = ((length l.0 ≡ 32) × (length l.1 ≡ 32) × (digest_at ls l.0 ≡ [])) × AreLeaves ls

-- a key begins with the same half bytes as another, as many as these
abbrev pub Shares : ℕ → List ℕ → List ℕ → Type 0
Shares d k l = (i : ℕ) → i < d → half_of i l ≡ half_of i k

-- the keys of these groups begin with the same half bytes as a key, as many as these
abbrev pub AllShare : ℕ → List ℕ → Leaves → Type 0
AllShare d k ls = AllKeys (Shares d k) ls

-- the keys of these groups have this half byte at this place
abbrev pub AllHalf : ℕ → ℕ → Leaves → Type 0
AllHalf d i ls = AllKeys (λ k. half_of d k ≡ i) ls

-- a node at this depth keeps the digest of its groups
pub record IsNode (d : ℕ) (s : Seen) : Type 0 where
  pub depth : s.depth ≡ d
  pub leaves : AreLeaves s.leaves
  pub digest : s.digest ≡ set_digest (64 - d) s.leaves

-- none of these nodes is that of this half byte
abbrev pub NoneHas : ℕ → List Seen → Type 0
NoneHas h [] = ⊤
NoneHas h (c ∷ cs) = (c.half ≢ h) × NoneHas h cs

-- the first of these nodes that is that of this half byte stands at this place
abbrev pub IsPlace : ℕ → List Seen → ℕ → Type 0
IsPlace h [] i = ⊥
IsPlace h (c ∷ cs) zero = c.half ≡ h
IsPlace h (c ∷ cs) (suc i) = (c.half ≢ h) × IsPlace h cs i

-- the digest of the groups of a half byte, as the nodes keep it
abbrev pub digest_under : List Seen → ℕ → List ℕ
digest_under [] h = replicate 32 0
digest_under (c ∷ cs) h = cond (eqb c.half h) c.digest (digest_under cs h)

-- the nodes under a node at this depth, each of another half byte
abbrev pub AreChildren : ℕ → List Seen → Type 0
AreChildren d [] = ⊤
AreChildren d (c ∷ cs) = (IsNode (suc d) c × AllHalf d c.half c.leaves × NoneHas c.half cs) × AreChildren d cs

-- nodes that may stand under a node at this depth
pub record IsFork (d : ℕ) (cs : List Seen) : Type 0 where
  pub within : d < 64
  pub children : AreChildren d cs

-- a node with no nodes under it, or with some that hold two groups at least
abbrev pub IsShaped : ℕ → Option Digest → List Seen → Type 0
IsShaped d key [] = ⊤
IsShaped d key (c ∷ cs) = (key ≡ None) × IsFork d (c ∷ cs) × (2 ≤ length (leaves_of (c ∷ cs)))

-- a node with this depth, digest, key and nodes under it is as it should be
pub record IsWell (d : ℕ) (kept : List ℕ) (key : Option Digest) (cs : List Seen) : Type 0 where
  pub within : d ≤ 64
  pub shaped : IsShaped d key cs
  pub leaves : AreLeaves (own_leaf key kept ++ leaves_of cs)
  pub digest : kept ≡ set_digest (64 - d) (own_leaf key kept ++ leaves_of cs)
