-- Which form bytes may have, by the first of them.
use Rattle.std.proofs.Common.{◌≡◌, ℕ, Bool, true, false, not, ◌&&◌, ◌||◌, List, [], ◌∷◌, refl, ap, subst, arith}
use Rattle.std.specs.Prelude.{◌==◌, None}
use Rattle.std.specs.Option.{option_or}
use Rattle.std.specs.List.{list_all}
use Rattle.std.specs.Str.{bytes_eq}
use Rattle.std.proofs.lemmas.Slice.Eq.{bytes_eq-Decides}
use Rattle.std.proofs.lemmas.Bool.Decides.{nat_tests}
use Rattle.tokens.specs.Bytes.{is_blank, is_letter, is_digit, is_word_start, is_word_byte}
use Rattle.tokens.specs.Tables.{keys, signs, is_among}
use Rattle.tokens.specs.Spelling.{token_of, key_of, word_of, sign_of, integer_of, string_of, uri_of, printed_form_of}
use Rattle.tokens.specs.Token.{printed}

row_passes : (p : List ℕ → Bool) (row bytes : List ℕ) (b : Bool) → bytes_eq row bytes ≡ b → p row ≡ true → p bytes ≡ false → b ≡ false
row_passes p row bytes true e f g = let same : row ≡ bytes = (bytes_eq-Decides row bytes).0 e in let h : p bytes ≡ true = subst (λ x. p x ≡ true) same f in cc
row_passes p row bytes false e f g = refl

pub and_halves : (a b : Bool) → (a && b) ≡ true → (a ≡ true) × (b ≡ true)
and_halves true b e = (refl, e)
and_halves false b e = cc

-- what fails a test that all rows pass doesn't stand in the table
pub not_among : (p : List ℕ → Bool) (table : List (List ℕ)) (bytes : List ℕ) → list_all p table ≡ true → p bytes ≡ false → is_among table bytes ≡ false
not_among p [] bytes h e = refl
not_among p (row ∷ rows) bytes h e =
    let k = and_halves (p row) (list_all p rows) h in
    rw (row_passes p row bytes (bytes_eq row bytes) refl k.0 e, not_among p rows bytes k.1 e) refl

-- whether there is a first byte, and it passes the test
abbrev pub first_passes : (ℕ → Bool) → List ℕ → Bool
first_passes test [] = false
first_passes test (b ∷ bs) = test b

keys_begin : list_all (first_passes is_letter) keys ≡ true
unfolding keys
keys_begin = refl

signs_begin : list_all (first_passes (λ b. not (is_word_start b || is_digit b))) signs ≡ true
unfolding signs
signs_begin = refl

no_key : (b : ℕ) (bs : List ℕ) → is_letter b ≡ false → key_of (b ∷ bs) ≡ None
no_key b bs e = let h = not_among (first_passes is_letter) keys (b ∷ bs) keys_begin e in rw h refl

pub no_sign : (b : ℕ) (bs : List ℕ) → (is_word_start b || is_digit b) ≡ true → sign_of (b ∷ bs) ≡ None
no_sign b bs e = let h = not_among (first_passes (λ b. not (is_word_start b || is_digit b))) signs (b ∷ bs) signs_begin (ap not e) in rw h refl

no_word : (b : ℕ) (bs : List ℕ) → is_word_start b ≡ false → (b == 95) ≡ false → word_of (b ∷ bs) ≡ None
no_word b bs e f = rw (e, f) refl

pub no_integer : (b : ℕ) (bs : List ℕ) → is_digit b ≡ false → integer_of (b ∷ bs) ≡ None
no_integer b bs e = rw e refl

pub no_string : (b : ℕ) (bs : List ℕ) → (b == 34) ≡ false → string_of (b ∷ bs) ≡ None
no_string b bs e = rw e refl

pub no_uri : (b : ℕ) (bs : List ℕ) → (b == 96) ≡ false → uri_of (b ∷ bs) ≡ None
no_uri b bs e = rw e refl

pub no_hex : (b : ℕ) (bs : List ℕ) → (b == 36) ≡ false → (b == 35) ≡ false → printed_form_of printed (b ∷ bs) ≡ None
no_hex b bs e f = rw (e, f) refl

-- what a digit is not
pub record IsApart (b : ℕ) : Type 0 where
  pub letter : is_letter b ≡ false
  pub start : is_word_start b ≡ false
  pub underscore : (b == 95) ≡ false
  pub quote : (b == 34) ≡ false
  pub back_quote : (b == 96) ≡ false
  pub dollar : (b == 36) ≡ false
  pub hash : (b == 35) ≡ false
  pub slash : (47 == b) ≡ false
  pub dash : (45 == b) ≡ false
  pub blank : is_blank b ≡ false
  pub byte : is_word_byte b ≡ true

pub apart_digit : (b : ℕ) → is_digit b ≡ true → IsApart b
apart_digit b e = record {
  letter = grind (arith, nat_tests, e);
  start = grind (arith, nat_tests, e);
  underscore = grind (arith, nat_tests, e);
  quote = grind (arith, nat_tests, e);
  back_quote = grind (arith, nat_tests, e);
  dollar = grind (arith, nat_tests, e);
  hash = grind (arith, nat_tests, e);
  slash = grind (arith, nat_tests, e);
  dash = grind (arith, nat_tests, e);
  blank = grind (arith, nat_tests, e);
  byte = grind (arith, nat_tests, e);
}

-- a digit begins an integer or nothing
pub digits_only : (b : ℕ) (bs : List ℕ) → is_digit b ≡ true → token_of printed (b ∷ bs) ≡ option_or (integer_of (b ∷ bs)) None
unfolding token_of
digits_only b bs e =
    let apart = apart_digit b e in
    let other : (is_word_start b || is_digit b) ≡ true = rw (apart.start, e) refl in
    rw (no_key b bs apart.letter, no_word b bs apart.start apart.underscore, no_sign b bs other, no_string b bs apart.quote, no_uri b bs apart.back_quote, no_hex b bs apart.dollar apart.hash) refl

-- what a byte is not that begins a word, or is no digit and goes on with none
pub record IsHead (b : ℕ) : Type 0 where
  pub digit : is_digit b ≡ false
  pub quote : (b == 34) ≡ false
  pub back_quote : (b == 96) ≡ false
  pub dollar : (b == 36) ≡ false
  pub hash : (b == 35) ≡ false
  pub slash : (47 == b) ≡ false
  pub dot : (46 == b) ≡ false
  pub blank : is_blank b ≡ false

pub apart_head : (b : ℕ) → (is_word_start b || b == 95) ≡ true → IsHead b
apart_head b e = record {
  digit = grind (arith, nat_tests, e);
  quote = grind (arith, nat_tests, e);
  back_quote = grind (arith, nat_tests, e);
  dollar = grind (arith, nat_tests, e);
  hash = grind (arith, nat_tests, e);
  slash = grind (arith, nat_tests, e);
  dot = grind (arith, nat_tests, e);
  blank = grind (arith, nat_tests, e);
}
