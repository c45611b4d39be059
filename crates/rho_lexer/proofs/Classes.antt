-- The classes of bytes that runs are made of, as the tokens have them.
use Rattle.std.proofs.Common.{◌≡◌, ◌<◌, ◌+◌, ℕ, zero, suc, Bool, true, false, not, ◌&&◌, ◌||◌, List, [], ◌∷◌, length, get_or, refl, sym, ◌∙◌, subst, arith}
use Rattle.std.specs.Prelude.{◌==◌, nat_lt}
use Rattle.std.specs.List.{prefix_len}
use Rattle.tokens.specs.Bytes.{is_blank, is_digit, is_letter, is_word_byte}
use Rattle.rho_lexer.specs.Meaning.{is_plain}
use Rattle.rho_lanes.specs.declared.class.ByteClass.TheVariants.{Space, Digit, Word, Plain}
use Rattle.rho_lanes.specs.Classes.{is_in, IsLongestRun}
use Rattle.rho_lanes.proofs.Runs.{longest_ends, longest_is_front}

same_front : (p q : ℕ → Bool) → ((b : ℕ) → p b ≡ q b) → (xs : List ℕ) → prefix_len p xs ≡ prefix_len q xs
same_front p q h [] = refl
same_front p q h (x ∷ xs) = let here = h x in let rest = same_front p q h xs in rw (here, rest) refl

moved : (l m d u : Bool) → (((l || d) || u) || m) ≡ (((l || m) || d) || u)
moved true m d u = refl
moved false true true u = refl
moved false true false true = refl
moved false true false false = refl
moved false false true u = refl
moved false false false true = refl
moved false false false false = refl

-- a run of the words' class from the front, of the digits', and of the blanks'
pub word_front : (text : List ℕ) (n : ℕ) → IsLongestRun Word text 0 n → n ≡ prefix_len is_word_byte text
word_front text n h =
    sym (longest_is_front Word text 0 n h)
    ∙ same_front (is_in Word) is_word_byte (λ b. moved (is_letter b) (b == 39) (is_digit b) (b == 95)) text

pub digit_front : (text : List ℕ) (n : ℕ) → IsLongestRun Digit text 0 n → n ≡ prefix_len is_digit text
digit_front text n h = sym (longest_is_front Digit text 0 n h)

pub blank_front : (text : List ℕ) (n : ℕ) → IsLongestRun Space text 0 n → n ≡ prefix_len is_blank text
blank_front text n h = sym (longest_is_front Space text 0 n h)

plain_part : (s p q : Bool) → (s && p && q) ≡ true → (p && q) ≡ true
plain_part true p q e = e
plain_part false p q e = cc

-- the bytes of ASCII that are no quote and no backslash stand for themselves in a string
pub plain_in : (b : ℕ) → is_in Plain b ≡ true → is_plain b ≡ true
plain_in b e = plain_part (nat_lt b 128) (not (b == 34)) (not (b == 92)) e

plain_both : (s p q : Bool) → s ≡ true → (p && q) ≡ true → (s && p && q) ≡ true
plain_both true p q e f = f
plain_both false p q e f = cc

-- where one stands, a run of them is not empty
pub some_plain : (text : List ℕ) (from n : ℕ) → IsLongestRun Plain text from n → from < length text → nat_lt (get_or text from 0) 128 ≡ true
    → is_plain (get_or text from 0) ≡ true → 0 < n
some_plain text from n h inside ascii plain = by_length n refl
  where
    by_length : (m : ℕ) → n ≡ m → 0 < n
    by_length zero e =
        let here : from + n ≡ from = omega arith in
        let ends = longest_ends Plain text from n h (omega arith) in
        let none : is_in Plain (get_or text from 0) ≡ false = subst (λ i. is_in Plain (get_or text i 0) ≡ false) here ends in
        let some : is_in Plain (get_or text from 0) ≡ true =
        plain_both (nat_lt (get_or text from 0) 128) (not (get_or text from 0 == 34)) (not (get_or text from 0 == 92)) ascii plain in absurd (cc)
    by_length (suc m) e = omega arith
