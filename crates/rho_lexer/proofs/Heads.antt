-- Which form bytes may have, by the first of them.
use Rattle.std.proofs.Common.{◌≡◌, ℕ, Bool, true, false, not, ◌&&◌, ◌||◌, List, [], ◌∷◌, refl, sym, ◌∙◌, ap, arith}
use Rattle.std.specs.Prelude.{◌==◌, None}
use Rattle.std.specs.Option.{option_or}
use Rattle.std.specs.List.{list_all}
use Rattle.std.specs.Str.{bytes_eq}
use Rattle.std.proofs.lemmas.Slice.Eq.{bytes_eq-Decides}
use Rattle.std.proofs.lemmas.Bool.Decides.{nat_tests}
use Rattle.tokens.specs.Bytes.{is_letter, is_digit, is_word_start, quote, back_quote, underscore}
use Rattle.tokens.specs.Tables.{keys, signs, is_among}
use Rattle.tokens.specs.Spelling.{token_of, key_of, word_of, sign_of, integer_of, string_of, uri_of}
use Rattle.tokens.specs.Token.{source}

one_or_more : (p : List ℕ → Bool) (row bytes : List ℕ) (a b q : Bool) (rest : Bool) → bytes_eq row bytes ≡ b → p row ≡ q
    → (q && rest) ≡ true → (b || a) ≡ true → (rest ≡ true → a ≡ true → p bytes ≡ true) → p bytes ≡ true
one_or_more p row bytes a b false rest d f g i more = cc
one_or_more p row bytes a true true rest d f g i more = let same : row ≡ bytes = (bytes_eq-Decides row bytes).0 d in sym (ap p same) ∙ f
one_or_more p row bytes a false true rest d f g i more = more g i

-- what stands in a table whose rows all pass a test passes it
pub among_passes : (p : List ℕ → Bool) (table : List (List ℕ)) (bytes : List ℕ) → list_all p table ≡ true → is_among table bytes ≡ true → p bytes ≡ true
among_passes p [] bytes h e = cc
among_passes p (row ∷ rows) bytes h e =
    one_or_more p row bytes (is_among rows bytes) (bytes_eq row bytes) (p row) (list_all p rows) refl refl h e (among_passes p rows bytes)

false_unless : (b : Bool) → (b ≡ true → ⊥) → b ≡ false
false_unless true h = absurd (h refl)
false_unless false h = refl

-- what fails a test that all rows pass doesn't stand in the table
pub not_among : (p : List ℕ → Bool) (table : List (List ℕ)) (bytes : List ℕ) → list_all p table ≡ true → p bytes ≡ false → is_among table bytes ≡ false
not_among p table bytes h e = false_unless _ (λ i. let passes = among_passes p table bytes h i in cc)

-- whether there is a first byte, and it passes the test
abbrev pub first_passes : (ℕ → Bool) → List ℕ → Bool
first_passes test [] = false
first_passes test (b ∷ bs) = test b

-- a first byte that no sign has
abbrev pub is_other_head : ℕ → Bool
is_other_head b = is_word_start b || is_digit b || b == quote || b == back_quote

keys_begin : list_all (first_passes is_letter) keys ≡ true
unfolding keys
keys_begin = refl

signs_begin : list_all (first_passes (λ b. not (is_other_head b))) signs ≡ true
unfolding signs
signs_begin = refl

pub no_key : (b : ℕ) (bs : List ℕ) → is_letter b ≡ false → key_of (b ∷ bs) ≡ None
no_key b bs e = let h = not_among _ keys (b ∷ bs) keys_begin e in rw h refl

pub no_sign : (b : ℕ) (bs : List ℕ) → is_other_head b ≡ true → sign_of (b ∷ bs) ≡ None
no_sign b bs e = let h = not_among _ signs (b ∷ bs) signs_begin (ap not e) in rw h refl

pub no_word : (b : ℕ) (bs : List ℕ) → is_word_start b ≡ false → (b == underscore) ≡ false → word_of (b ∷ bs) ≡ None
no_word b bs e f = rw (e, f) refl

pub no_integer : (b : ℕ) (bs : List ℕ) → is_digit b ≡ false → integer_of (b ∷ bs) ≡ None
no_integer b bs e = rw e refl

pub no_string : (b : ℕ) (bs : List ℕ) → (b == quote) ≡ false → string_of (b ∷ bs) ≡ None
no_string b bs e = rw e refl

pub no_uri : (b : ℕ) (bs : List ℕ) → (b == back_quote) ≡ false → uri_of (b ∷ bs) ≡ None
no_uri b bs e = rw e refl

-- what a digit is not
pub record IsApart (b : ℕ) : Type 0 where
  pub letter : is_letter b ≡ false
  pub start : is_word_start b ≡ false
  pub underscore : (b == 95) ≡ false
  pub quote : (b == 34) ≡ false
  pub back_quote : (b == 96) ≡ false

pub apart_digit : (b : ℕ) → is_digit b ≡ true → IsApart b
apart_digit b e = record {
  letter = grind (arith, nat_tests, e);
  start = grind (arith, nat_tests, e);
  underscore = grind (arith, nat_tests, e);
  quote = grind (arith, nat_tests, e);
  back_quote = grind (arith, nat_tests, e);
}

-- what a byte is not that begins a word whatever follows
pub record IsApartStart (b : ℕ) : Type 0 where
  pub digit : is_digit b ≡ false
  pub quote : (b == 34) ≡ false
  pub back_quote : (b == 96) ≡ false

pub apart_start : (b : ℕ) → is_word_start b ≡ true → IsApartStart b
apart_start b e = record {
  digit = grind (arith, nat_tests, e);
  quote = grind (arith, nat_tests, e);
  back_quote = grind (arith, nat_tests, e);
}

-- the forms with a head of their own
pub digits_only : (b : ℕ) (bs : List ℕ) → is_digit b ≡ true → token_of source (b ∷ bs) ≡ option_or (integer_of (b ∷ bs)) None
unfolding token_of
digits_only b bs e =
    let apart = apart_digit b e in
    let other : is_other_head b ≡ true = rw (apart.start, e) refl in
    rw (no_key b bs apart.letter, no_word b bs apart.start apart.underscore, no_sign b bs other, no_string b bs apart.quote, no_uri b bs apart.back_quote) refl

pub words_only : (b : ℕ) (bs : List ℕ) → is_word_start b ≡ true → token_of source (b ∷ bs) ≡ option_or (key_of (b ∷ bs)) (option_or (word_of (b ∷ bs)) None)
unfolding token_of
words_only b bs e =
    let apart = apart_start b e in
    let other : is_other_head b ≡ true = rw e refl in
    rw (no_sign b bs other, no_integer b bs apart.digit, no_string b bs apart.quote, no_uri b bs apart.back_quote) refl

pub underscores_only : (bs : List ℕ) → token_of source (95 ∷ bs) ≡ option_or (word_of (95 ∷ bs)) (option_or (sign_of (95 ∷ bs)) None)
unfolding token_of keys
underscores_only bs = refl

pub strings_only : (bs : List ℕ) → token_of source (34 ∷ bs) ≡ option_or (string_of (34 ∷ bs)) None
unfolding token_of keys signs
strings_only bs = refl

pub uris_only : (bs : List ℕ) → token_of source (96 ∷ bs) ≡ option_or (uri_of (96 ∷ bs)) None
unfolding token_of keys signs
uris_only bs = refl

pub signs_only : (b : ℕ) (bs : List ℕ) → is_other_head b ≡ false → (b == 95) ≡ false → token_of source (b ∷ bs) ≡ option_or (sign_of (b ∷ bs)) None
unfolding token_of
signs_only b bs e f =
    let start : is_word_start b ≡ false = grind (arith, e) in
    let digit : is_digit b ≡ false = grind (arith, e) in
    let quotes : (b == 34) ≡ false = grind (arith, e) in
    let backs : (b == 96) ≡ false = grind (arith, e) in
    let letter : is_letter b ≡ false = grind (arith, start) in
    rw (no_key b bs letter, no_word b bs start f, no_integer b bs digit, no_string b bs quotes, no_uri b bs backs) refl
