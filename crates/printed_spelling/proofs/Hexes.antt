-- Fresh names and byte arrays of printed texts.
use Rattle.std.proofs.Common.{◌≡◌, ◌<◌, ℕ, ◌+◌, ◌-◌, ◌*◌, ◌/◌, ◌%◌, Bool, true, false, cond, ◌&&◌, leb, List, [], ◌∷◌, ◌++◌, length, refl, ap, subst, arith, mod-lt, length-append}
use Rattle.std.specs.Prelude.{◌==◌, Some, None, codes}
use Rattle.std.specs.List.{list_all}
use Rattle.std.proofs.lemmas.Bool.{le-leb, lt-leb, leb-true, leb-false, ne_eqb}
use Rattle.std.proofs.lemmas.Bool.Decides.{nat_tests}
use Rattle.std.proofs.lemmas.Nat.{div-add-mod'}
use Rattle.std.proofs.lemmas.List.Elements.{All-head, All-tail}
use Rattle.calculus.specs.Form.{IsBytes, IsDigest}
use Rattle.calculus.specs.Texts.{digit, from_hex, hex_digit, to_hex}
use Rattle.tokens.specs.Bytes.{is_hex_digit, is_word_byte}
use Rattle.tokens.specs.Spelling.{token_of, only_if}
use Rattle.tokens.specs.Tables.{keys, signs}
use Rattle.tokens.specs.Token.{printed, Token, fresh_name, byte_array}
use Rattle.grammar.specs.Terminals.{text, of_digits, a_fresh_name, a_byte_array}
use Rattle.printed_spelling.proofs.Scanning.{Lexed}
use Rattle.printed_spelling.proofs.Signs.{whole}
use Rattle.printed_spelling.proofs.Words.{run_stops, lex_stopped}

-- a digit of a number below 16
glyph_back : (n : ℕ) (b : Bool) → leb n 9 ≡ b → n < 16 → digit (cond b (n + 0x30) (n + 0x57)) ≡ Some n
glyph_back n true e h =
    let k = leb-true n 9 e in
    let back : n + 0x30 - 0x30 ≡ n = omega arith in
    rw (le-leb 0x30 (n + 0x30) (omega arith), le-leb (n + 0x30) 0x39 (omega arith)) (ap (λ m. Some m) back)
glyph_back n false e h =
    let k = leb-false n 9 e in
    let back : n + 0x57 - 0x57 ≡ n = omega arith in
    rw (le-leb 0x30 (n + 0x57) (omega arith), lt-leb (n + 0x57) 0x39 (omega arith), le-leb 0x61 (n + 0x57) (omega arith), le-leb (n + 0x57) 0x66 (omega arith)) (ap (λ m. Some m) back)

digit_back : (n : ℕ) → n < 16 → digit (hex_digit n) ≡ Some n
digit_back n h = glyph_back n (leb n 9) refl h

glyph_hex : (n : ℕ) (b : Bool) → leb n 9 ≡ b → n < 16 → is_hex_digit (cond b (n + 0x30) (n + 0x57)) ≡ true
glyph_hex n true e h =
    let k = leb-true n 9 e in
    rw (le-leb 0x30 (n + 0x30) (omega arith), le-leb (n + 0x30) 0x39 (omega arith)) refl
glyph_hex n false e h =
    let k = leb-false n 9 e in
    rw (le-leb 0x30 (n + 0x57) (omega arith), lt-leb (n + 0x57) 0x39 (omega arith), le-leb 0x61 (n + 0x57) (omega arith), le-leb (n + 0x57) 0x66 (omega arith)) refl

high_half : (b : ℕ) → b < 256 → b / 16 < 16
high_half b h = omega (arith, h, div-add-mod' b 16)

low_half : (b : ℕ) → b % 16 < 16
low_half b = let some : 0 < 16 = omega arith in mod-lt b some

-- the digits of bytes spell them
pub hex_back : (bs : List ℕ) → IsBytes bs → from_hex (to_hex bs) ≡ Some bs
hex_back [] h = refl
hex_back (b ∷ bs) h =
    let small = All-head (λ x. x < 256) b bs h in
    let whole : b / 16 * 16 + b % 16 ≡ b = div-add-mod' b 16 in
    rw (digit_back (b / 16) (high_half b small), digit_back (b % 16) (low_half b), hex_back bs (All-tail (λ x. x < 256) b bs h)) (ap (λ x. Some (x ∷ bs)) whole)

pub all_hex : (bs : List ℕ) → IsBytes bs → list_all is_hex_digit (to_hex bs) ≡ true
all_hex [] h = refl
all_hex (b ∷ bs) h =
    let small = All-head (λ x. x < 256) b bs h in
    rw (glyph_hex (b / 16) (leb (b / 16) 9) refl (high_half b small), glyph_hex (b % 16) (leb (b % 16) 9) refl (low_half b), all_hex bs (All-tail (λ x. x < 256) b bs h)) refl

pub length_hex : (bs : List ℕ) → length (to_hex bs) ≡ 2 * length bs
length_hex [] = refl
length_hex (b ∷ bs) = omega (arith, length_hex bs)

-- a fresh name
fresh_token : (ds : List ℕ) → length ds ≡ 64 → list_all is_hex_digit ds ≡ true → token_of printed (36 ∷ ds) ≡ Some (fresh_name ds)
unfolding token_of keys signs
fresh_token ds e h = rw (e, h) refl

fresh_stops : (ds : List ℕ) (c : ℕ) (z : List ℕ) → length ds ≡ 64 → token_of printed (36 ∷ (ds ++ (c ∷ z))) ≡ None
unfolding token_of keys signs
fresh_stops ds c z e =
    let other : (length (ds ++ (c ∷ z)) == 64) ≡ false = ne_eqb (length (ds ++ (c ∷ z))) 64 (λ f. omega (arith, f, e, length-append ds (c ∷ z))) in
    rw other refl

pub lex_fresh : (x : List ℕ) → IsDigest x → Lexed false (codes "$" ++ to_hex x) (λ r. text a_fresh_name x ∷ r)
lex_fresh x h =
    let e : length (to_hex x) ≡ 64 = omega (arith, length_hex x, h.0) in
    subst (λ t. Lexed false (36 ∷ to_hex x) (λ r. t ∷ r)) (ap (of_digits a_fresh_name) (hex_back x h.1))
    (whole 36 (to_hex x) (fresh_name (to_hex x)) refl refl (fresh_token (to_hex x) e (all_hex x h.1)) refl (λ c z. fresh_stops (to_hex x) c z e))

-- a byte array
even : (ds bs : List ℕ) → length ds ≡ 2 * length bs → (length ds % 2 == 0) ≡ true
even ds bs e = let z : length ds % 2 ≡ 0 = omega (arith, e) in rw z refl

bytes_token : (ds : List ℕ) → (length ds % 2 == 0) ≡ true → list_all is_hex_digit ds ≡ true → token_of printed (35 ∷ ds) ≡ Some (byte_array ds)
unfolding token_of keys signs
bytes_token ds e h = rw (e, h) refl

hex_ends : (c : ℕ) → is_word_byte c ≡ false → is_hex_digit c ≡ false
hex_ends c h = grind (arith, nat_tests, h)

none_of : (a : Bool) {b : Bool} (u : Token) → b ≡ false → only_if (a && b) u ≡ None
none_of true u h = rw h refl
none_of false u h = refl

bytes_stop : (ds : List ℕ) (c : ℕ) (z : List ℕ) → is_word_byte c ≡ false → token_of printed (35 ∷ (ds ++ (c ∷ z))) ≡ None
unfolding token_of keys signs
bytes_stop ds c z h = none_of (length (ds ++ (c ∷ z)) % 2 == 0) (byte_array (ds ++ (c ∷ z))) (run_stops is_hex_digit ds c z (hex_ends c h))

pub lex_bytes : (x : List ℕ) → IsBytes x → Lexed true (codes "#" ++ to_hex x) (λ r. text a_byte_array x ∷ r)
lex_bytes x h =
    subst (λ t. Lexed true (35 ∷ to_hex x) (λ r. t ∷ r)) (ap (of_digits a_byte_array) (hex_back x h))
    (lex_stopped 35 (to_hex x) (byte_array (to_hex x)) refl refl (bytes_token (to_hex x) (even (to_hex x) x (length_hex x)) (all_hex x h)) refl (bytes_stop (to_hex x)))
