use Rattle.std.proofs.Common.{◌∷◌, ◌++◌, map, take, length}
use Rattle.sha2.specs.Hashers.{Holds256}
use Rattle.calculus.specs.Bytes.{be32, joined}
use Rattle.name_seed.proofs.Seed.comm.Given as goal

-- the hasher holds the tag, the receiver, the number of data and the data so far
abbrev pub invariant-loop-id : goal.invariant-loop-id
invariant-loop-id l =
    Holds256 l.hasher (0x06 ∷ (l.cont.0 ++ (be32 (length l.taken) ++ joined (map (λ d. d.0) (take l.id-index l.taken)))))
