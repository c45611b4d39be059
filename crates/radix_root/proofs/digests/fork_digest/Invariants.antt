use Rattle.std.proofs.Common.{◌∷◌, map, take}
use Rattle.sha2.specs.Hashers.{Holds256}
use Rattle.calculus.specs.Bytes.{joined}
use Rattle.calculus.specs.Root.{sixteen}
use Rattle.radix_root.specs.Nodes.{digest_under}
use Rattle.radix_root.proofs.digests.fork_digest.Given as goal

-- the hasher holds the tag and the digests so far
abbrev pub invariant-loop-half : goal.invariant-loop-half
invariant-loop-half g l = Holds256 l.hasher (0x11 ∷ joined (map (digest_under l.children) (take l.half sixteen)))
