-- A form is had back from its head.
use Rattle.std.proofs.Common.{◌≡◌, ℕ, zero, suc, ◌<◌, ◌^◌, Bool, true, false, List, [], ◌∷◌, ◌++◌, map as each, length, drop, refl, sym, ap, ◌∙◌, arith}
use Rattle.std.specs.Prelude.{⊤, ℤ, pos, ◌+ℤ◌, neg_ℤ, nat_abs, ◌≤ℤ◌, ◌<ℤ◌}
use Rattle.std.proofs.lemmas.Int.{ints}
use Rattle.calculus.specs.Tree.{Label, bool, int, str, uri, bytes, fresh, var, name_var, send, receive, new, bundle, unary, binary, method, rest, simple}
use Rattle.calculus.specs.Kinds.{simple_of, simple_of-number, kind_of, kind_of-number, rights_of, rights_of-number, unary_op_of, unary_op_of-number, binary_op_of, binary_op_of-number, rest_of, rest_of-number, origin_number, origin_of, origin_of-number}
use Rattle.calculus.specs.declared.plain.Origin.{Origin}
use Rattle.calculus.specs.Bytes.{be32}
use Rattle.calculus.specs.Code.{byte_of}
use Rattle.calculus.proofs.Heads.{tail, blank}
use Rattle.calculus.proofs.Tails.{number, number-be32, number-be64}

-- the data of a form are in the ranges that a head has room for
abbrev pub IsRanged : Label → Type 0
IsRanged (int z) = (neg_ℤ (pos (2 ^ 63)) ≤ℤ z) × (z <ℤ pos (2 ^ 63))
IsRanged (fresh x) = length x ≡ 32
IsRanged (var i) = i < 2 ^ 32
IsRanged (name_var i) = i < 2 ^ 32
IsRanged _ = ⊤

abbrev first : List ℕ → ℕ
first [] = 0
first (x ∷ xs) = x

abbrev truth : ℕ → Bool
truth zero = false
truth (suc n) = true

truth-byte : (b : Bool) → truth (byte_of b) ≡ b
truth-byte true = refl
truth-byte false = refl

-- the number at this distance from the least one of 64 bits
abbrev from_least : ℕ → ℤ
from_least n = pos n +ℤ neg_ℤ (pos (2 ^ 63))

from_least-is : (z : ℤ) → neg_ℤ (pos (2 ^ 63)) ≤ℤ z → from_least (nat_abs (z +ℤ pos (2 ^ 63))) ≡ z
from_least-is z h = omega (arith, ints)

least-below : (z : ℤ) → neg_ℤ (pos (2 ^ 63)) ≤ℤ z → z <ℤ pos (2 ^ 63) → nat_abs (z +ℤ pos (2 ^ 63)) < 2 ^ 64
least-below z h k = omega (arith, ints)

-- a form without its data, with the data that these bytes stand for
abbrev filled : Label → List ℕ → Label
filled (bool x) bs = bool (truth (first bs))
filled (int x) bs = int (from_least (number 0 bs))
filled (str x) bs = str (drop 4 bs)
filled (uri x) bs = uri (drop 4 bs)
filled (bytes x) bs = bytes (drop 4 bs)
filled (fresh x) bs = fresh bs
filled (var x) bs = var (number 0 bs)
filled (name_var x) bs = name_var (number 0 bs)
filled (send x) bs = send (truth (first bs))
filled (receive x) bs = receive (kind_of (first bs))
filled (new x) bs = new (each origin_of (drop 4 bs))
filled (bundle x) bs = bundle (rights_of (first bs))
filled (unary x) bs = unary (unary_op_of (first bs))
filled (binary x) bs = binary (binary_op_of (first bs))
filled (method x) bs = method (drop 4 bs)
filled (rest x) bs = rest (rest_of (first bs))
filled (simple x) bs = simple (simple_of (first bs))
filled l bs = l

after-be32 : (n : ℕ) (xs : List ℕ) → drop 4 (be32 n ++ xs) ≡ xs
unfolding be32
after-be32 n xs = refl

origins_back : (xs : List Origin) → each origin_of (each origin_number xs) ≡ xs
origins_back [] = refl
origins_back (x ∷ xs) = cc (origin_of-number x, origins_back xs)

filled-tail : (l : Label) (n : ℕ) → IsRanged l → filled (blank l) (tail l n) ≡ l
filled-tail (bool x) n h = ap bool (truth-byte x)
filled-tail (int x) n h =
    ap (λ k. int (from_least k)) (number-be64 (nat_abs (x +ℤ pos (2 ^ 63))) (least-below x h.0 h.1)) ∙ ap int (from_least-is x h.0)
filled-tail (str x) n h = ap str (after-be32 (length x) x)
filled-tail (uri x) n h = ap uri (after-be32 (length x) x)
filled-tail (bytes x) n h = ap bytes (after-be32 (length x) x)
filled-tail (fresh x) n h = refl
filled-tail (var x) n h = ap var (number-be32 x h)
filled-tail (name_var x) n h = ap name_var (number-be32 x h)
filled-tail (send x) n h = ap send (truth-byte x)
filled-tail (receive x) n h = ap receive (kind_of-number x)
filled-tail (new x) n h = ap (λ ys. new (each origin_of ys)) (after-be32 (length x) (each origin_number x)) ∙ ap new (origins_back x)
filled-tail (bundle x) n h = ap bundle (rights_of-number x)
filled-tail (unary x) n h = ap unary (unary_op_of-number x)
filled-tail (binary x) n h = ap binary (binary_op_of-number x)
filled-tail (method x) n h = ap method (after-be32 (length x) x)
filled-tail (rest x) n h = ap rest (rest_of-number x)
filled-tail (simple x) n h = ap simple (simple_of-number x)
filled-tail _ n h = refl

-- equal forms but for their data, and equal tails: equal forms
pub one-label : (l m : Label) (n k : ℕ) → IsRanged l → IsRanged m → blank l ≡ blank m → tail l n ≡ tail m k → l ≡ m
one-label l m n k h g e f = sym (filled-tail l n h) ∙ ap (λ x. filled x (tail l n)) e ∙ ap (filled (blank m)) f ∙ filled-tail m k g
