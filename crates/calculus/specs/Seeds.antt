-- Seeds, and the digest that each stands for. Ids of rows and fresh names are such digests, lists of 32 bytes.
use Rattle.std.specs.Prelude.{ℕ, List, ◌∷◌, ◌++◌, length}
use Rattle.sha2.specs.Sha256.{sha256}
use Rattle.calculus.specs.Bytes.{be32, joined}

-- what a digest is made from: the system's number k; a root and a source's digest; part number i under a seed; the body under a seed; name number k under a seed; a receiver, its data and how often they met before
pub data Seed : Type 0 where
  System : ℕ → Seed
  Start : List ℕ → List ℕ → Seed
  Split : List ℕ → ℕ → Seed
  Body : List ℕ → Seed
  Fresh : List ℕ → ℕ → Seed
  Comm : List ℕ → List (List ℕ) → ℕ → Seed

-- the bytes that are hashed for a seed
abbrev pub message : Seed → List ℕ
message (System k) = 0x01 ∷ be32 k
message (Start root source) = 0x02 ∷ (root ++ source)
message (Split s i) = 0x03 ∷ (s ++ be32 i)
message (Body s) = 0x04 ∷ s
message (Fresh s k) = 0x05 ∷ (s ++ be32 k)
message (Comm c taken n) = 0x06 ∷ (c ++ (be32 (length taken) ++ (joined taken ++ be32 n)))

-- the digest of a seed
abbrev pub digest_of : Seed → List ℕ
digest_of s = sha256 (message s)
