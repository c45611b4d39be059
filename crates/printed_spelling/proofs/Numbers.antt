-- Variables and integers of printed texts, before what stops a word.
use Rattle.std.proofs.Common.{◌≡◌, ◌≤◌, ◌<◌, ℕ, zero, suc, ◌+◌, ◌-◌, ◌*◌, ◌/◌, ◌%◌, ◌^◌, Bool, true, false, cond, List, [], ◌∷◌, ◌++◌, length, refl, ap, ◌∙◌, arith, mod-lt}
use Rattle.std.specs.Prelude.{◌==◌, nat_eq, Some, None, codes, pos, negsuc, ℤ, neg_ℤ, ◌≤ℤ◌, ◌<ℤ◌, fold}
use Rattle.std.specs.Fmt.{decimal as decimal_text, digits, digits_onto, digit_glyph}
use Rattle.std.specs.List.{list_all}
use Rattle.std.specs.Option.{option_or}
use Rattle.std.specs.Char.{digit_value}
use Rattle.std.specs.Str.Parse.{digits_value_after, AllDigits}
use Rattle.std.proofs.lemmas.Bool.{lt-ltb, le-ltb, le-leb}
use Rattle.std.proofs.lemmas.Bool.Decides.{nat_tests}
use Rattle.std.proofs.lemmas.Fmt.{decimal_is_IsNumeral_wide}
use Rattle.std.proofs.lemmas.Int.{ints}
use Rattle.std.proofs.lemmas.Str.{digit_value_digit}
use Rattle.std.proofs.lemmas.Str.Parse.{digit_from_value}
use Rattle.calculus.specs.Printed.{variable_text, int_text}
use Rattle.tokens.specs.Bytes.{is_digit, is_word_byte}
use Rattle.tokens.specs.Spelling.{token_of, only_if, decimal}
use Rattle.tokens.specs.Tables.{keys, signs}
use Rattle.tokens.specs.Token.{printed, word, sign, integer}
use Rattle.grammar.specs.declared.mark.Mark.TheVariants as marks
use Rattle.grammar.specs.Terminals.{number, mark}
use Rattle.printed_spelling.proofs.Pieces.{Piece, variable, int_piece}
use Rattle.printed_spelling.proofs.Scanning.{scan, Lexed}
use Rattle.printed_spelling.proofs.Heads.{and_halves, apart_digit, digits_only}
use Rattle.printed_spelling.proofs.Words.{run_stops, no_word_then, lex_stopped}

glyph_digit : (d : ℕ) → d < 10 → is_digit (digit_glyph false d) ≡ true
glyph_digit d h = rw (lt-ltb d 10 h) (rw (le-leb 48 (48 + d) (omega arith), le-leb (48 + d) 57 (omega arith)) refl)

either_all : (t : Bool) (xs ys : List ℕ) → list_all is_digit xs ≡ true → list_all is_digit ys ≡ true → list_all is_digit (cond t xs ys) ≡ true
either_all true xs ys h k = h
either_all false xs ys h k = k

digits_before : (k n : ℕ) (acc : List ℕ) → list_all is_digit acc ≡ true → list_all is_digit (digits_onto k 10 false n acc) ≡ true
digits_before zero n acc h = h
digits_before (suc k) n acc h =
    let some : 0 < 10 = omega arith in
    let small : n % 10 < 10 = mod-lt n some in
    let g : list_all is_digit (digit_glyph false (n % 10) ∷ acc) ≡ true = rw (glyph_digit (n % 10) small, h) refl in
    either_all (n / 10 == 0) (digit_glyph false (n % 10) ∷ acc) (digits_onto k 10 false (n / 10) (digit_glyph false (n % 10) ∷ acc)) g (digits_before k (n / 10) (digit_glyph false (n % 10) ∷ acc) g)

-- a number is written with digits
pub all_digits : (n : ℕ) → list_all is_digit (decimal_text n) ≡ true
unfolding digits
all_digits n = digits_before 64 n [] refl

pub digits_go_on : (ds : List ℕ) → list_all is_digit ds ≡ true → list_all is_word_byte ds ≡ true
digits_go_on [] h = refl
digits_go_on (d ∷ ds) h =
    let k = and_halves (is_digit d) (list_all is_digit ds) h in
    rw ((apart_digit d k.0).byte, digits_go_on ds k.1) refl

-- a variable
variable_token : (ds : List ℕ) → list_all is_word_byte ds ≡ true → token_of printed (118 ∷ ds) ≡ Some (word (118 ∷ ds))
unfolding token_of keys signs
variable_token ds h = rw h refl

variable_stops : (ds : List ℕ) (c : ℕ) (e : List ℕ) → is_word_byte c ≡ false → token_of printed (118 ∷ (ds ++ (c ∷ e))) ≡ None
unfolding token_of keys signs
variable_stops ds c e h = no_word_then 118 ds c e (word (118 ∷ (ds ++ (c ∷ e)))) h

pub lex_variable : (n : ℕ) → Lexed true (variable_text n) (variable n)
lex_variable n = lex_stopped 118 (decimal_text n) (word (variable_text n)) refl refl (variable_token (decimal_text n) (digits_go_on (decimal_text n) (all_digits n))) refl (variable_stops (decimal_text n))

-- the value of digits
same_value : (ds : List ℕ) (acc : ℕ) → AllDigits 10 ds → fold (λ n d. n * 10 + (d - 48)) acc ds ≡ digits_value_after 10 acc ds
same_value [] acc h = refl
same_value (d ∷ ds) acc h =
    let e : d - 48 ≡ digit_value d = omega (arith, digit_value_digit d (digit_from_value d h.0)) in
    same_value ds (acc * 10 + (d - 48)) h.1 ∙ ap (λ k. digits_value_after 10 (acc * 10 + k) ds) e

pub value_of : (n : ℕ) → n < 10 ^ 64 → decimal (decimal_text n) ≡ n
value_of n h = let k = decimal_is_IsNumeral_wide n h in same_value (decimal_text n) 0 k.0.1 ∙ k.1

digit_ends : (c : ℕ) → is_word_byte c ≡ false → is_digit c ≡ false
digit_ends c h = grind (arith, nat_tests, h)

-- digits that write a number
number_here : (ds : List ℕ) (n : ℕ) → list_all is_digit ds ≡ true → 0 < length ds → decimal ds ≡ n → n ≤ 2 ^ 63 → Lexed true ds (λ r. number n ∷ r)
number_here [] n h i e k = absurd (omega arith)
number_here (d ∷ ds) n h i e k =
    let parts = and_halves (is_digit d) (list_all is_digit ds) h in
    let apart = apart_digit d parts.0 in
    let token : token_of printed (d ∷ ds) ≡ Some (integer n) = digits_only d ds parts.0 ∙ ap (λ t. option_or (only_if t (integer (decimal (d ∷ ds)))) None) h ∙ ap (λ m. Some (integer m)) e in
    lex_stopped d ds (integer n) apart.blank apart.slash token (le-ltb (2 ^ 63) n k)
    (λ c z g. digits_only d (ds ++ (c ∷ z)) parts.0 ∙ ap (λ t. option_or (only_if t (integer (decimal (d ∷ (ds ++ (c ∷ z)))))) None) (run_stops is_digit (d ∷ ds) c z (digit_ends c g)))

lex_number : (n : ℕ) → n ≤ 2 ^ 63 → Lexed true (decimal_text n) (λ r. number n ∷ r)
lex_number n k =
    let h : n < 10 ^ 64 = omega arith in
    number_here (decimal_text n) n (all_digits n) (decimal_is_IsNumeral_wide n h).0.0 (value_of n h) k

-- a minus before a digit
minus_stops : (c : ℕ) (e : List ℕ) → nat_eq 45 c ≡ false → token_of printed (45 ∷ (c ∷ e)) ≡ None
unfolding token_of keys signs
minus_stops c e h = rw h refl

minus_before : (ds : List ℕ) {p : Piece} → list_all is_digit ds ≡ true → 0 < length ds → Lexed true ds p → Lexed true (45 ∷ ds) (λ r. mark marks.Minus ∷ p r)
unfolding token_of keys signs
minus_before [] h i l = absurd (omega arith)
minus_before (d ∷ ds) {p} h i l =
    let parts = and_halves (is_digit d) (list_all is_digit ds) h in
    record { scans = λ rest ts n s. scan 45 [] (d ∷ (ds ++ rest)) (sign (codes "-")) (p ts) refl refl refl refl (λ e. minus_stops d e (apart_digit d parts.0).dash) (l.scans rest ts n s) }

above : (n : ℕ) → pos n <ℤ pos (2 ^ 63) → n ≤ 2 ^ 63
above n h = omega (arith, ints, h)

below : (n : ℕ) → neg_ℤ (pos (2 ^ 63)) ≤ℤ negsuc n → suc n ≤ 2 ^ 63
below n h = omega (arith, ints, h)

-- an Int
pub lex_int : (z : ℤ) → (neg_ℤ (pos (2 ^ 63)) ≤ℤ z) × (z <ℤ pos (2 ^ 63)) → Lexed true (int_text z) (int_piece z)
lex_int (pos n) h = lex_number n (above n h.1)
lex_int (negsuc n) h =
    let k = below n h.0 in
    let small : suc n < 10 ^ 64 = omega arith in
    minus_before (decimal_text (suc n)) (all_digits (suc n)) (decimal_is_IsNumeral_wide (suc n) small).0.0 (lex_number (suc n) k)
