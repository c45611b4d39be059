-- The order of lists of bytes, one piece at a time.
use Rattle.std.proofs.Common.{◌≡◌, ℕ, ◌<◌, ◌≤◌, ◌+◌, ◌*◌, ◌^◌, ◌%◌, true, false, List, [], ◌∷◌, ◌++◌, map, drop, get_or, length, refl, sym, ap, ◌∙◌, arith, drop-cons, add-one}
use Rattle.std.specs.Prelude.{⊤, ℤ, pos, ◌+ℤ◌, nat_abs}
use Rattle.std.specs.Ordering.{nat_cmp, int_cmp, ordering_then, is_ne}
use Rattle.std.specs.Cmp.{ranked}
use Rattle.std.specs.declared.cmp.Ordering.{Ordering}
use Rattle.std.specs.declared.cmp.Ordering.TheVariants.{Less, Equal, Greater}
use Rattle.std.proofs.lemmas.Bool.Decides.{nat_tests}
use Rattle.std.proofs.lemmas.Int.{ints}
use Rattle.std.proofs.lemmas.List.{length-map, drop_all}
use mir.Val.{SFits}
use mir.Syntax.{w64}
use Rattle.calculus.specs.Order.{byte_cmp}
use Rattle.calculus.specs.Bytes.{be32, be64}
use Rattle.calculus.specs.Code.{text}
use Rattle.calculus.specs.CodeLaws.{Splits}
use Rattle.calculus.proofs.Tails.{number, number-be32, number-be64, length-be32, length-be64, Splits-be32}

step : (o a b c : Ordering) → (o ≡ Equal → a ≡ ordering_then b c) → ordering_then o a ≡ ordering_then (ordering_then o b) c
step Less a b c h = refl
step Equal a b c h = h refl
step Greater a b c h = refl

same : (x y : ℕ) (o : Ordering) → o ≡ nat_cmp x y → o ≡ Equal → x ≡ y
same x y Less e h = cc
same x y Equal e h = ranked x y Equal e
same x y Greater e h = cc

-- what follows two lists of which neither is a proper prefix of the other counts where they are equal
pub cmp-append : (xs ys us vs : List ℕ) → Splits xs ys → byte_cmp (xs ++ us) (ys ++ vs) ≡ ordering_then (byte_cmp xs ys) (byte_cmp us vs)
cmp-append [] [] us vs h = refl
cmp-append [] (y ∷ ys) us vs h = absurd h
cmp-append (x ∷ xs) [] us vs h = absurd h
cmp-append (x ∷ xs) (y ∷ ys) us vs h = step (nat_cmp x y) _ _ _ (λ e. cmp-append xs ys us vs (h (same x y (nat_cmp x y) refl e)))

pub then_assoc : (a b c : Ordering) → ordering_then (ordering_then a b) c ≡ ordering_then a (ordering_then b c)
then_assoc Less b c = refl
then_assoc Equal b c = refl
then_assoc Greater b c = refl

pub then_equal : (a : Ordering) → ordering_then a Equal ≡ a
then_equal Less = refl
then_equal Equal = refl
then_equal Greater = refl

-- an order that decides, whatever comes after it
pub decided : (o r : Ordering) → is_ne o ≡ true → o ≡ ordering_then o r
decided Less r h = refl
decided Equal r h = cc
decided Greater r h = refl

-- an order that leaves it to what comes after it
pub undecided : (o r : Ordering) → is_ne o ≡ false → r ≡ ordering_then o r
undecided Less r h = cc
undecided Equal r h = refl
undecided Greater r h = cc

-- one more digit to the base 256
cmp-digit : (a b x y : ℕ) → x < 256 → y < 256 → nat_cmp (a * 256 + x) (b * 256 + y) ≡ ordering_then (nat_cmp a b) (nat_cmp x y)
cmp-digit a b x y h k = grind (arith, nat_tests)

abbrev AreDigits : List ℕ → Type 0
AreDigits [] = ⊤
AreDigits (d ∷ ds) = (d < 256) × AreDigits ds

cmp-number : (a b : ℕ) (ds es : List ℕ) → AreDigits ds → AreDigits es → length ds ≡ length es → nat_cmp (number a ds) (number b es) ≡ ordering_then (nat_cmp a b) (byte_cmp ds es)
cmp-number a b [] [] h k l = sym (then_equal (nat_cmp a b))
cmp-number a b [] (e ∷ es) h k l = absurd (omega arith)
cmp-number a b (d ∷ ds) [] h k l = absurd (omega arith)
cmp-number a b (d ∷ ds) (e ∷ es) h k l =
    cmp-number (a * 256 + d) (b * 256 + e) ds es h.1 k.1 (omega arith)
    ∙ (ap (λ o. ordering_then o (byte_cmp ds es)) (cmp-digit a b d e h.0 k.0) ∙ then_assoc (nat_cmp a b) (nat_cmp d e) (byte_cmp ds es))

digit : (n : ℕ) → n % 256 < 256
digit n = omega arith

be32-digits : (n : ℕ) → AreDigits (be32 n)
unfolding be32
be32-digits n = (digit _, (digit _, (digit _, (digit _, tt))))

be64-digits : (n : ℕ) → AreDigits (be64 n)
unfolding be64
be64-digits n = (digit _, (digit _, (digit _, (digit _, (digit _, (digit _, (digit _, (digit _, tt))))))))

-- numbers as four bytes are in the order of the numbers
pub cmp-be32 : (m n : ℕ) → m < 2 ^ 32 → n < 2 ^ 32 → nat_cmp m n ≡ byte_cmp (be32 m) (be32 n)
cmp-be32 m n h k =
    ap (λ x. nat_cmp x n) (sym (number-be32 m h)) ∙ ap (nat_cmp (number 0 (be32 m))) (sym (number-be32 n k))
    ∙ cmp-number 0 0 (be32 m) (be32 n) (be32-digits m) (be32-digits n) (length-be32 m ∙ sym (length-be32 n))

-- and so are numbers as eight bytes
pub cmp-be64 : (m n : ℕ) → m < 2 ^ 64 → n < 2 ^ 64 → nat_cmp m n ≡ byte_cmp (be64 m) (be64 n)
cmp-be64 m n h k =
    ap (λ x. nat_cmp x n) (sym (number-be64 m h)) ∙ ap (nat_cmp (number 0 (be64 m))) (sym (number-be64 n k))
    ∙ cmp-number 0 0 (be64 m) (be64 n) (be64-digits m) (be64-digits n) (length-be64 m ∙ sym (length-be64 n))

-- the order of two lists with their lengths before them
pub cmp-counted : (n k : ℕ) (xs ys : List ℕ) → n < 2 ^ 32 → k < 2 ^ 32 → byte_cmp (be32 n ++ xs) (be32 k ++ ys) ≡ ordering_then (nat_cmp n k) (byte_cmp xs ys)
cmp-counted n k xs ys h g = cmp-append (be32 n) (be32 k) xs ys (Splits-be32 n k) ∙ ap (λ o. ordering_then o (byte_cmp xs ys)) (sym (cmp-be32 n k h g))

-- texts go by their lengths, and then by their bytes
pub cmp-text : (xs ys : List ℕ) → length xs < 2 ^ 32 → length ys < 2 ^ 32 → byte_cmp (text xs) (text ys) ≡ ordering_then (nat_cmp (length xs) (length ys)) (byte_cmp xs ys)
cmp-text xs ys h k = cmp-counted (length xs) (length ys) xs ys h k

pub text_decided : (xs ys : List ℕ) (o : Ordering) → o ≡ nat_cmp (length xs) (length ys) → is_ne o ≡ true → length xs < 2 ^ 32 → length ys < 2 ^ 32 → o ≡ byte_cmp (text xs) (text ys)
text_decided xs ys o e n h k = decided o (byte_cmp xs ys) n ∙ ap (λ p. ordering_then p (byte_cmp xs ys)) e ∙ sym (cmp-text xs ys h k)

pub text_undecided : (xs ys : List ℕ) (o r : Ordering) → o ≡ nat_cmp (length xs) (length ys) → is_ne o ≡ false → r ≡ byte_cmp xs ys → length xs < 2 ^ 32 → length ys < 2 ^ 32 → r ≡ byte_cmp (text xs) (text ys)
text_undecided xs ys o r e n f h k = f ∙ undecided o (byte_cmp xs ys) n ∙ ap (λ p. ordering_then p (byte_cmp xs ys)) e ∙ sym (cmp-text xs ys h k)

from_least : (x y : ℤ) → SFits w64 x → SFits w64 y → int_cmp x y ≡ nat_cmp (nat_abs (x +ℤ pos (2 ^ 63))) (nat_abs (y +ℤ pos (2 ^ 63)))
from_least x y h k = grind (arith, ints, nat_tests)

room : (x : ℤ) → SFits w64 x → nat_abs (x +ℤ pos (2 ^ 63)) < 2 ^ 64
room x h = omega (arith, ints)

-- signed numbers are in the order of their distances from the least one
pub cmp-signed : (x y : ℤ) → SFits w64 x → SFits w64 y → int_cmp x y ≡ byte_cmp (be64 (nat_abs (x +ℤ pos (2 ^ 63)))) (be64 (nat_abs (y +ℤ pos (2 ^ 63))))
cmp-signed x y h k = from_least x y h k ∙ cmp-be64 _ _ (room x h) (room y k)

-- the order of two lists of numbers from one place on
pub cmp-drop : {A : Type 0} (f : A → ℕ) (xs ys : List A) (i : ℕ) (d e : A) → i < length xs → i < length ys
    → byte_cmp (map f (drop i xs)) (map f (drop i ys)) ≡ ordering_then (nat_cmp (f (get_or xs i d)) (f (get_or ys i e))) (byte_cmp (map f (drop (i + 1) xs)) (map f (drop (i + 1) ys)))
cmp-drop f xs ys i d e h k = rw (drop-cons xs i d h, drop-cons ys i e k, add-one)

-- texts of the numbers of things
module _ {A : Type 0} (f : A → ℕ) (xs ys : List A) (o : Ordering) (e : o ≡ nat_cmp (length xs) (length ys)) where
  lengths : o ≡ nat_cmp (length (map f xs)) (length (map f ys))
  lengths = e ∙ ap (λ n. nat_cmp n (length ys)) (sym (length-map xs f)) ∙ ap (nat_cmp (length (map f xs))) (sym (length-map ys f))

  pub numbers_decided : is_ne o ≡ true → length xs < 2 ^ 32 → length ys < 2 ^ 32 → o ≡ byte_cmp (text (map f xs)) (text (map f ys))
  numbers_decided n h k = text_decided (map f xs) (map f ys) o lengths n (omega (arith, length-map xs f)) (omega (arith, length-map ys f))

  pub numbers_undecided : (r : Ordering) → is_ne o ≡ false → r ≡ byte_cmp (map f xs) (map f ys) → length xs < 2 ^ 32 → length ys < 2 ^ 32 → r ≡ byte_cmp (text (map f xs)) (text (map f ys))
  numbers_undecided r n g h k = text_undecided (map f xs) (map f ys) o r lengths n g (omega (arith, length-map xs f)) (omega (arith, length-map ys f))

-- where nothing decides, the lengths are equal
pub equal_numbers : (n k : ℕ) (o : Ordering) → o ≡ nat_cmp n k → is_ne o ≡ false → n ≡ k
equal_numbers n k Less e h = cc
equal_numbers n k Equal e h = ranked n k Equal e
equal_numbers n k Greater e h = cc

-- at the end of two lists nothing is left
pub cmp-ended : {A : Type 0} (f : A → ℕ) (xs ys : List A) (i : ℕ) → length xs ≤ i → length ys ≤ i → Equal ≡ byte_cmp (map f (drop i xs)) (map f (drop i ys))
cmp-ended f xs ys i h k = rw (drop_all i xs h, drop_all i ys k)

pub cmp-equal : (n : ℕ) → nat_cmp n n ≡ Equal
cmp-equal n = grind (arith, nat_tests)
