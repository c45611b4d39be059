-- What follows a form's own byte: a length and as many bytes, a number of constituents, or bytes whose number is the form's.
use Rattle.std.proofs.Common.{◌≡◌, ℕ, ◌<◌, ◌+◌, ◌*◌, ◌^◌, Bool, true, false, List, [], ◌∷◌, ◌++◌, map as each, length, refl, sym, ap, ◌∙◌, subst, arith, length-append}
use Rattle.std.proofs.lemmas.List.{length-map}
use Rattle.std.specs.Prelude.{pos, ◌+ℤ◌, nat_abs}
use Rattle.calculus.specs.Tree.{Label, par, row, bool, int, str, uri, bytes, fresh, var, name_var, list, tuple, set, dict, send, receive, new, bundle, unary, binary, method, pattern, rest, simple, plain}
use Rattle.calculus.specs.Kinds.{origin_number}
use Rattle.calculus.specs.Bytes.{be32, be64}
use Rattle.calculus.specs.Code.{text}
use Rattle.calculus.specs.CodeLaws.{Splits}
pub use Rattle.calculus.specs.Formed.{IsFine}
use Rattle.calculus.proofs.Prefixes.{Splits-append, Splits-length}
use Rattle.calculus.proofs.Heads.{tail, blank}

-- the number of digits to the base 256, after those of a
abbrev pub number : ℕ → List ℕ → ℕ
number a [] = a
number a (d ∷ ds) = number (a * 256 + d) ds

pub length-be32 : (n : ℕ) → length (be32 n) ≡ 4
unfolding be32
length-be32 n = refl

pub length-be64 : (n : ℕ) → length (be64 n) ≡ 8
unfolding be64
length-be64 n = refl

pub number-be32 : (n : ℕ) → n < 2 ^ 32 → number 0 (be32 n) ≡ n
unfolding be32
number-be32 n h = omega arith

pub number-be64 : (n : ℕ) → n < 2 ^ 64 → number 0 (be64 n) ≡ n
unfolding be64
number-be64 n h = omega arith

pub one-be32 : (m n : ℕ) → m < 2 ^ 32 → n < 2 ^ 32 → be32 m ≡ be32 n → m ≡ n
one-be32 m n h k e = sym (number-be32 m h) ∙ ap (number 0) e ∙ number-be32 n k

pub length-text : (xs : List ℕ) → length (text xs) ≡ 4 + length xs
length-text xs = omega (arith, length-append (be32 (length xs)) xs, length-be32 (length xs))

pub Splits-be32 : (m n : ℕ) → Splits (be32 m) (be32 n)
Splits-be32 m n = Splits-length (be32 m) (be32 n) (length-be32 m ∙ sym (length-be32 n))

pub Splits-text : (xs ys : List ℕ) → length (text xs) < 2 ^ 32 → length (text ys) < 2 ^ 32 → Splits (text xs) (text ys)
Splits-text xs ys h k =
    let m : length xs < 2 ^ 32 = omega (arith, length-text xs) in
    let n : length ys < 2 ^ 32 = omega (arith, length-text ys) in
    Splits-append (be32 (length xs)) (be32 (length ys)) xs ys (Splits-be32 (length xs) (length ys)) (λ e. Splits-length xs ys (one-be32 (length xs) (length ys) m n e))

-- the forms with data of any length
abbrev is_text : Label → Bool
is_text (str x) = true
is_text (uri x) = true
is_text (bytes x) = true
is_text (new x) = true
is_text (method x) = true
is_text _ = false

-- the number of bytes that follow the own byte of the other forms
abbrev width : Label → ℕ
width par = 4
width row = 4
width (bool x) = 1
width (int x) = 8
width (fresh x) = 32
width (var x) = 4
width (name_var x) = 4
width list = 4
width tuple = 4
width set = 4
width dict = 4
width (send x) = 1
width (receive x) = 1
width (bundle x) = 1
width (unary x) = 1
width (binary x) = 1
width pattern = 4
width (rest x) = 1
width (simple x) = 1
width _ = 0

TailIs : Bool → Label → ℕ → Type 0
TailIs true l n = tail l n ≡ text (plain l).1.1
TailIs false l n = length (tail l n) ≡ width (blank l)

tail-is : (l : Label) (n : ℕ) → IsFine l → TailIs (is_text (blank l)) l n
unfolding TailIs
tail-is par n h = length-be32 n
tail-is row n h = length-be32 n
tail-is list n h = length-be32 n
tail-is tuple n h = length-be32 n
tail-is set n h = length-be32 n
tail-is dict n h = length-be32 n
tail-is pattern n h = length-be32 n
tail-is (int x) n h = length-be64 (nat_abs (x +ℤ pos (2 ^ 63)))
tail-is (fresh x) n h = h
tail-is (var x) n h = length-be32 x
tail-is (name_var x) n h = length-be32 x
tail-is (new x) n h = ap (λ k. be32 k ++ each origin_number x) (sym (length-map x origin_number))
tail-is _ n h = refl

split_by : (b : Bool) (l m : Label) (n k : ℕ) → blank l ≡ blank m → TailIs b l n → TailIs b m k → length (tail l n) < 2 ^ 32 → length (tail m k) < 2 ^ 32 → Splits (tail l n) (tail m k)
unfolding TailIs
split_by true l m n k e p q a b = rw (p, q) (Splits-text (plain l).1.1 (plain m).1.1 (rw p at a) (rw q at b))
split_by false l m n k e p q a b = Splits-length (tail l n) (tail m k) (p ∙ ap width e ∙ sym q)

pub tails : (l m : Label) (n k : ℕ) → blank l ≡ blank m → IsFine l → IsFine m → length (tail l n) < 2 ^ 32 → length (tail m k) < 2 ^ 32 → Splits (tail l n) (tail m k)
tails l m n k e h g a b =
    let q = subst (λ (x : Label). TailIs (is_text x) m k) (sym e) (tail-is m k g) in
    split_by (is_text (blank l)) l m n k e (tail-is l n h) q a b
