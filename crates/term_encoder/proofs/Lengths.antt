-- The length of a code is what is counted form by form.
use Rattle.std.proofs.Common.{◌≡◌, ℕ, ◌+◌, List, length, refl, arith, length-append}
use Rattle.std.specs.Prelude.{map as each, ◌+ℤ◌, ◌^◌, pos, nat_abs}
use Rattle.calculus.specs.Bytes.{be32, joined}
use Rattle.calculus.specs.Kinds.{origin_number}
use Rattle.calculus.specs.Tree.{Label, par, row, int, str, uri, bytes, var, name_var, list, tuple, set, dict, new, method, pattern, Tree, node, Trees, none, also}
use Rattle.calculus.specs.Shape.{count}
use Rattle.calculus.specs.Code.{head, text, code, codes}
use Rattle.calculus.proofs.Tails.{length-be32, length-be64}
use Rattle.calculus.proofs.Formed.{length-code}
use Rattle.term_encoder.specs.Sizes.{head_size, size, sizes}
use Rattle.calculus.proofs.ListCodes.{length-map}

length-text : (s : List ℕ) → length (text s) ≡ 4 + length s
length-text s = omega (arith, length-append (be32 (length s)) s, length-be32 (length s))

length-head : (l : Label) (n : ℕ) → length (head l n) ≡ head_size l
length-head par n = length-be32 n
length-head row n = length-be32 n
length-head (int x) n = omega (arith, length-be64 (nat_abs (x +ℤ pos (2 ^ 63))))
length-head (str x) n = omega (arith, length-text x)
length-head (uri x) n = omega (arith, length-text x)
length-head (bytes x) n = omega (arith, length-text x)
length-head (var x) n = omega (arith, length-be32 x)
length-head (name_var x) n = omega (arith, length-be32 x)
length-head list n = omega (arith, length-be32 n)
length-head tuple n = omega (arith, length-be32 n)
length-head set n = omega (arith, length-be32 n)
length-head dict n = omega (arith, length-be32 n)
length-head (new x) n = omega (arith, length-append (be32 (length x)) (each origin_number x), length-be32 (length x), length-map origin_number x)
length-head (method x) n = omega (arith, length-text x)
length-head pattern n = length-be32 n
length-head _ n = omega arith

mutual
  pub size-code : (t : Tree) → size t ≡ length (code t)
  size-code (node l ts) = omega (arith, length-code l ts, length-head l (count ts), sizes-codes ts)

  sizes-codes : (ts : Trees) → sizes ts ≡ length (joined (codes ts))
  sizes-codes none = refl
  sizes-codes (also t ts) = omega (arith, size-code t, sizes-codes ts, length-append (code t) (joined (codes ts)))
