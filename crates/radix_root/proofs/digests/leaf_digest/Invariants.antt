use Rattle.std.proofs.Common.{◌∷◌, ◌++◌, map, take, length}
use Rattle.sha2.specs.Hashers.{Holds256}
use Rattle.calculus.specs.Bytes.{be32, joined}
use Rattle.radix_root.proofs.digests.leaf_digest.Given as goal

-- the hasher holds the tag, the key, the number of rows and the codes so far
abbrev pub invariant-loop-row : goal.invariant-loop-row
invariant-loop-row g l =
    Holds256 l.hasher (0x10 ∷ (l.key.0 ++ (be32 (length l.rows) ++ joined (map (λ r. r.now) (take l.row-index l.rows)))))
