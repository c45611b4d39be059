-- What stands in a code is no longer than the code.
use Rattle.std.proofs.Common.{ℕ, ◌<◌, ◌≤◌, ◌^◌, List, [], ◌∷◌, ◌++◌, length, arith, length-append}
use Rattle.calculus.specs.Tree.{Label, par, str, bytes, pair, Tree, node, Trees, none, also}
use Rattle.calculus.specs.Shape.{listed, count}
use Rattle.calculus.specs.Bytes.{be32, joined}
use Rattle.calculus.specs.Order.{sorted}
use Rattle.calculus.specs.Code.{code, codes}
use Rattle.calculus.specs.CodeLaws.{IsShort}
use Rattle.calculus.specs.Form.{Sort, term, pair_of, all, Hold, Fits, IsClosed}
use Rattle.calculus.proofs.Splitting.{first-short, kids-short}
use Rattle.calculus.proofs.Tails.{length-be32}

pub text-short : (x : List ℕ) → IsShort (node (str x) none) → length x < 2 ^ 32
text-short x h = omega (arith, h, length-append (0x12 ∷ (be32 (length x) ++ x)) [], length-append (be32 (length x)) x)

pub bytes-short : (x : List ℕ) → IsShort (node (bytes x) none) → length x < 2 ^ 32
bytes-short x h = omega (arith, h, length-append (0x14 ∷ (be32 (length x) ++ x)) [], length-append (be32 (length x)) x)

term-long : (t : Tree) → IsClosed t → 1 ≤ length (code t)
term-long (node par ts) h = omega (arith, length-append (be32 (count ts)) (joined (sorted (codes ts))), length-be32 (count ts))
term-long (node _ ts) h = absurd h.1

pair-long : (p : Tree) → Fits (pair_of term) [] p → 1 ≤ length (code p)
pair-long (node pair none) h = absurd h.1
pair-long (node pair (also t none)) h = absurd h.1.1
pair-long (node pair (also t (also u us))) h = omega (arith, length-append (code t) (joined (codes (also u us))), term-long t h.1.0)
pair-long (node _ ts) h = absurd h.1

-- things whose codes have a byte are no more than their codes have bytes
module _ (s : Sort) (long : (t : Tree) → Fits s [] t → 1 ≤ length (code t)) where
  no-more : (ts : Trees) → Hold (all s) [] [] ts → length (listed ts) ≤ length (joined (codes ts))
  no-more none h = omega arith
  no-more (also t ts) h = omega (arith, long t h.0, no-more ts h.1, length-append (code t) (joined (codes ts)))

pub members-short : (l : Label) (ts : Trees) → Hold (all term) [] [] ts → IsShort (node l ts) → length (listed ts) < 2 ^ 32
members-short l ts h a = omega (arith, no-more term term-long ts h, kids-short l ts a)

pub pairs-short : (l : Label) (ts : Trees) → Hold (all (pair_of term)) [] [] ts → IsShort (node l ts) → length (listed ts) < 2 ^ 32
pairs-short l ts h a = omega (arith, no-more (pair_of term) pair-long ts h, kids-short l ts a)

-- the one part of a process
pub part-short : (t : Tree) → IsShort (node par (also t none)) → IsShort t
part-short t a = first-short t none (kids-short par (also t none) a)
