-- A number, read from a text.
use Rattle.std.proofs.Common.{◌≡◌, ◌∙◌, ◌≤◌, ◌<◌, ◌^◌, ◌&&◌, ◌==◌, ℕ, suc, true, false, cond, List, [], ◌∷◌, length, Some, None, Result, Ok, Err, refl, ap, sym, arith}
use Rattle.std.specs.Char.{is_ascii_digit}
use Rattle.std.specs.List.{list_all}
use Rattle.std.specs.Result.{result_ok}
use Rattle.std.specs.Str.{all_ascii_digits}
use Rattle.std.specs.Str.Parse.{ParsesUnsigned, digits_value}
use Rattle.std.proofs.Math.Nat.{lt_of_not-le}
use Rattle.std.proofs.lemmas.Bool.Decides.{nat_tests}
use Rattle.std.proofs.lemmas.Str.Parse.{IsNumeralModel, numerals_by_value, tells_all_ascii_digits, parse_digits}
use Rattle.command_words.specs.Commands.{is_number, number_of}

-- texts of digits, with their values
digits : IsNumeralModel (λ ds. all_ascii_digits ds ≡ true) (digits_value 10)
digits = numerals_by_value _ tells_all_ascii_digits

-- each byte is a digit where all of them are digits
pub all_ascii_digits-list_all : (bs : List ℕ) → list_all is_ascii_digit bs ≡ all_ascii_digits bs
all_ascii_digits-list_all [] = refl
all_ascii_digits-list_all (b ∷ bs) = ap (λ t. is_ascii_digit b && t) (all_ascii_digits-list_all bs)

-- a text that is not empty has a byte
pub some_bytes : (bs : List ℕ) → (length bs == 0) ≡ false → 1 ≤ length bs
some_bytes [] e = cc
some_bytes (b ∷ bs) e = omega arith

-- a value that fits makes digits a number
is_number-fits : (bs : List ℕ) → all_ascii_digits bs ≡ true → 1 ≤ length bs → length bs ≤ 20 → digits_value 10 bs < 2 ^ 64 → is_number bs ≡ true
is_number-fits bs d low high fits = grind (arith, nat_tests)

-- a value that does not fit makes no number
is_number-large : (bs : List ℕ) → 2 ^ 64 ≤ digits_value 10 bs → is_number bs ≡ false
is_number-large bs large = grind (arith, nat_tests)

-- what is parsed from at most twenty digits is the number that they are
pub result_ok-parsed : {E : Type 0} (bs : List ℕ) (r : Result ℕ E) → ParsesUnsigned 64 10 bs r → all_ascii_digits bs ≡ true → 1 ≤ length bs → length bs ≤ 20
    → result_ok r ≡ number_of bs
result_ok-parsed {E} bs (Ok x) h d low high =
    let k = parse_digits digits {E = E} 64 bs (Ok x) h d in
    ap Some k.1 ∙ sym (ap (λ b. cond b (Some (digits_value 10 bs)) None) (is_number-fits bs d low high k.0.1))
result_ok-parsed {E} bs (Err e) h d low high =
    let k = parse_digits digits {E = E} 64 bs (Err e) h d in
    let past : 2 ^ 64 < suc (digits_value 10 bs) = lt_of_not-le (λ f. k (low, f)) in
    let large : 2 ^ 64 ≤ digits_value 10 bs = omega arith in
    sym (ap (λ b. cond b (Some (digits_value 10 bs)) None) (is_number-large bs large))

-- no number: no byte, more than twenty, or one that is no digit
not_number : (bs : List ℕ) → is_number bs ≡ false → None ≡ number_of bs
not_number bs e = sym (ap (λ b. cond b (Some (digits_value 10 bs)) None) e)

is_number-empty : (bs : List ℕ) → (length bs == 0) ≡ true → is_number bs ≡ false
is_number-empty bs e = grind (arith, nat_tests)

pub number_of-empty : (bs : List ℕ) → (length bs == 0) ≡ true → None ≡ number_of bs
number_of-empty bs e = not_number bs (is_number-empty bs e)

is_number-long : (bs : List ℕ) → 20 < length bs → is_number bs ≡ false
is_number-long bs long = grind (arith, nat_tests)

pub number_of-long : (bs : List ℕ) → 20 < length bs → None ≡ number_of bs
number_of-long bs long = not_number bs (is_number-long bs long)

is_number-other : (bs : List ℕ) → all_ascii_digits bs ≡ false → is_number bs ≡ false
is_number-other bs e = grind (arith, nat_tests)

pub number_of-other : (bs : List ℕ) → all_ascii_digits bs ≡ false → None ≡ number_of bs
number_of-other bs e = not_number bs (is_number-other bs e)
