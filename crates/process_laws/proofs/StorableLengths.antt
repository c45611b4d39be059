-- How long the codes of a row that may be stored are.
use Rattle.std.proofs.Common.{◌≡◌, ◌+◌, true, List, [], ℕ, ◌++◌, ◌∷◌, length, arith, length-append}
use Rattle.calculus.specs.Tree.{par, send, receive, Tree, node, none, also}
use Rattle.calculus.specs.Shape.{only, listed, at}
use Rattle.calculus.specs.Kinds.{kind_number}
use Rattle.calculus.specs.Code.{code, byte_of}
use Rattle.calculus.specs.Rows.{coded_part}
use Rattle.calculus.specs.Storing.{is_active}
use Rattle.calculus.proofs.Formed.{length-code}
use Rattle.calculus.proofs.Tails.{length-be32}
use Rattle.process_laws.specs.StorableLaws.{StorableRowsAreShort}
use Rattle.process_laws.proofs.Channels.{part-length}

-- an id is as long in a row's code as it is
id-length : (id : List ℕ) (t : Tree) → is_active t ≡ true → length (coded_part id t) ≡ length id + length (coded_part [] t)
id-length id (node (send q) ts) e = omega (arith, length-append id (code (at 0 (listed ts)) ++ (byte_of q ∷ code (at 1 (listed ts)))))
id-length id (node (receive k) ts) e = omega (arith, length-append id (kind_number k ∷ (code (at 0 (listed ts)) ++ code (at 1 (listed ts)))))
id-length id (node _ ts) e = cc

only-length : (t : Tree) → length (code (only t)) ≡ 4 + length (code t)
only-length t = omega (arith, length-code par (also t none), length-append (code t) [], length-be32 1)

pub storable_rows_are_short : StorableRowsAreShort
storable_rows_are_short r h =
    (omega (arith, h.short, h.id.0, id-length r.id r.part h.active), omega (arith, h.short, only-length r.part, part-length r h.active h.closed.1.0))
