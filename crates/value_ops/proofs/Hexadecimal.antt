-- The digits of the calculus are those of the library for hexadecimal text.
use Rattle.std.proofs.Common.{◌≡◌, ◌<◌, ◌+◌, ◌*◌, ◌/◌, ◌%◌, ℕ, suc, Bool, true, false, eqb, List, [], ◌∷◌, ◌==◌, length, get_or, Option, Some, None, Result, Ok, Err, ◌⊎◌, inl, inr, cond, refl, sym, ap, ◌∙◌, subst, arith}
use Rattle.std.specs.Bool.{⊤}
use Rattle.std.proofs.lemmas.Bool.{agree_below_at, eqb-true, eqb-false, eq-eqb, cond_both, both_ways}
use Rattle.calculus.specs.declared.fault.FaultKind.TheVariants.{WrongType}
use Rattle.calculus.specs.Outcome.{gives, fails}
use Rattle.calculus.specs.Operators.{of_bytes}
use Rattle.calculus.specs.Methods.{hex_answer}
use Rattle.calculus.specs.Texts.{digit, with_digits, from_hex, hex_digit, to_hex}
use Rattle.hex.specs.declared.error.FromHexError.{FromHexError}
use Rattle.hex.specs.declared.error.FromHexError.TheVariants.{InvalidHexCharacter, OddLength, InvalidStringLength, OutOfMemory}
use Rattle.hex.specs.Hex.{lower_digits, encode_with, encode_lower, hex_digit_value, digit_or_error, decode_pairs, decode_of, IsBytes, ◌>>=◌}
use Rattle.value_ops.specs.Answers.{AnswersGround, hex_stop}
use Rattle.hex.proofs.HexLemmas.{decode_pairs-ok}

-- ---- reading

digit_is : (c : ℕ) → digit c ≡ hex_digit_value c
digit_is c = grind (arith)

-- the bytes that a text spells are those that are read, and a text that spells none is refused
abbrev pub Reads : Option (List ℕ) → Result (List ℕ) FromHexError → Type 0
Reads (Some bs) r = r ≡ Ok bs
Reads None (Ok bs) = ⊥
Reads None (Err e) = ⊤

-- two digits and what follows them
abbrev pair_read : ℕ → ℕ → ℕ → Option ℕ → Option ℕ → Result (List ℕ) FromHexError → Result (List ℕ) FromHexError
pair_read i a b x y r =
    (digit_or_error a i x >>= (λ h. digit_or_error b (i + 1) y >>= (λ l. Ok (h * 16 + l)))) >>= (λ byte. r >>= (λ bytes. Ok (byte ∷ bytes)))

reads-pair : (i a b : ℕ) (x y : Option ℕ) (z : Option (List ℕ)) (r : Result (List ℕ) FromHexError) → Reads z r → Reads (with_digits x y z) (pair_read i a b x y r)
reads-pair i a b (Some x) (Some y) (Some z) r h = rw h refl
reads-pair i a b (Some x) (Some y) None (Ok bs) h = absurd h
reads-pair i a b (Some x) (Some y) None (Err e) h = tt
reads-pair i a b (Some x) None z r h = tt
reads-pair i a b None y z r h = tt

reads-pairs : (i : ℕ) (s : List ℕ) → Reads (from_hex s) (decode_pairs i s)
unfolding decode_pairs
reads-pairs i [] = refl
reads-pairs i (a ∷ []) = tt
reads-pairs i (a ∷ b ∷ cs) =
    let P : Option ℕ → Option ℕ → Type 0 = λ x y. Reads (with_digits x y (from_hex cs)) (decode_pairs i (a ∷ b ∷ cs)) in
    let whole : P (hex_digit_value a) (hex_digit_value b) = reads-pair i a b (hex_digit_value a) (hex_digit_value b) (from_hex cs) (decode_pairs (i + 2) cs) (reads-pairs (i + 2) cs) in
    subst (λ x. P x (digit b)) (sym (digit_is a)) (subst (λ y. P (hex_digit_value a) y) (sym (digit_is b)) whole)

odd_spells_none : (s : List ℕ) (o : Option (List ℕ)) (e : FromHexError) → length s % 2 ≡ 1 → Reads o (decode_pairs 0 s) → Reads o (Err e)
odd_spells_none s (Some bs) e h r = absurd (let l = (decode_pairs-ok 0 s bs r).1 in omega (arith, l))
odd_spells_none s None e h r = tt

-- what the library reads is what the text spells
pub reads_hex : (s : List ℕ) → Reads (from_hex s) (decode_of s)
reads_hex s =
    cond_both (length s % 2 == 1) (Err OddLength) (decode_pairs 0 s) (Reads (from_hex s))
    (λ h. odd_spells_none s (from_hex s) OddLength (eqb-true (length s % 2) 1 h) (reads-pairs 0 s))
    (λ h. reads-pairs 0 s)

-- ---- writing

digit_written : (n : ℕ) → n < 16 → hex_digit n ≡ get_or lower_digits n 0
digit_written n h = eqb-true (hex_digit n) (get_or lower_digits n 0) (agree_below_at (λ d. eqb (hex_digit d) (get_or lower_digits d 0)) (λ d. true) 16 n refl h)

-- the library writes the digits of the calculus
pub written_hex : (s : List ℕ) → IsBytes s → to_hex s ≡ encode_lower s
unfolding encode_with
written_hex [] h = refl
written_hex (b ∷ bs) h =
    let fits : b < 256 = h 0 in
    let high = digit_written (b / 16) (omega arith) in
    let low = digit_written (b % 16) (omega arith) in
    let rest = written_hex bs (λ k. h (suc k)) in
    rw (high, low, rest) refl

-- ---- answers of `hexToBytes`

spelled-as : (bs : List ℕ) (o : Option (List ℕ)) (r : Result (List ℕ) FromHexError) → Reads o r → r ≡ Ok bs → hex_answer o ≡ gives (of_bytes bs)
spelled-as bs (Some cs) r k e =
    let p : cs ≡ bs = cc in
    ap (λ x. gives (of_bytes x)) p
spelled-as bs None (Ok cs) k e = absurd k
spelled-as bs None (Err x) k e = cc

pub spelled : (s bs : List ℕ) → decode_of s ≡ Ok bs → hex_answer (from_hex s) ≡ gives (of_bytes bs)
spelled s bs h = spelled-as bs (from_hex s) (decode_of s) (reads_hex s) h

refused-as : (x : FromHexError) (o : Option (List ℕ)) (r : Result (List ℕ) FromHexError) → Reads o r → r ≡ Err x → hex_answer o ≡ fails WrongType
refused-as x (Some cs) r k e = cc
refused-as x None r k e = refl

pub refused : (s : List ℕ) (x : FromHexError) → decode_of s ≡ Err x → hex_answer (from_hex s) ≡ fails WrongType
refused s x h = refused-as x (from_hex s) (decode_of s) (reads_hex s) h

pub hex_stops : (s : List ℕ) (x : FromHexError) → (x ≡ OutOfMemory) ⊎ (decode_of s ≡ Err x) → AnswersGround (hex_answer (from_hex s)) (Err (hex_stop x))
hex_stops s OutOfMemory h = tt
hex_stops s x (inl h) = cc
hex_stops s OddLength (inr h) = refused s OddLength h
hex_stops s InvalidStringLength (inr h) = refused s InvalidStringLength h
hex_stops s (InvalidHexCharacter c i) (inr h) = refused s (InvalidHexCharacter c i) h
