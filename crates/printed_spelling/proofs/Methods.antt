-- Method calls of printed texts: the name of a method is a word before a parenthesis.
use Rattle.std.proofs.Common.{◌≡◌, ℕ, Bool, true, false, not, ◌&&◌, ◌||◌, leb, List, [], ◌∷◌, ◌++◌, refl, ap, ◌∙◌, arith}
use Rattle.std.specs.Prelude.{◌==◌, nat_eq, codes, Some, None, IsTrue, Contains}
use Rattle.std.specs.List.{list_all}
use Rattle.std.specs.Str.{bytes_eq}
use Rattle.std.proofs.lemmas.List.Elements.{Contains-append_right}
use Rattle.std.proofs.lemmas.List.Folds.{list_any-append}
use Rattle.std.proofs.lemmas.Slice.Eq.{bytes_eq-Decides}
use Rattle.calculus.specs.Form.{is_letter, goes_on_word, all_go_on, is_word, keys as word_keys}
use Rattle.tokens.specs.Bytes.{is_word_start, is_word_byte}
use Rattle.tokens.specs.Spelling.{token_of, key_of, is_word as is_word_token}
use Rattle.tokens.specs.Tables.{keys, signs, is_among}
use Rattle.tokens.specs.Token.{printed, word, sign}
use Rattle.grammar.specs.declared.mark.Mark.TheVariants as marks
use Rattle.grammar.specs.Terminals.{text, mark, a_word}
use Rattle.printed_spelling.proofs.Pieces.{Piece}
use Rattle.printed_spelling.proofs.Heads.{not_among, no_integer, no_string, no_uri, no_hex, apart_head}
use Rattle.printed_spelling.proofs.Scanning.{Lexed, put}
use Rattle.printed_spelling.proofs.Signs.{until, lex_close}
use Rattle.printed_spelling.proofs.Words.{run_stops, word_stops}

or-assoc : (a b c : Bool) → (a || b) || c ≡ a || (b || c)
or-assoc true b c = refl
or-assoc false b c = refl

-- both ways to say what a word is made of
start-letter : (b : ℕ) → is_word_start b ≡ is_letter b
start-letter b = or-assoc (leb 65 b && leb b 90) (leb 97 b && leb b 122) (b == 39)

byte-goes-on : (b : ℕ) → is_word_byte b ≡ goes_on_word b
byte-goes-on b = ap (λ q. (q || (leb 48 b && leb b 57)) || b == 95) (start-letter b) ∙ or-assoc (is_letter b) (leb 48 b && leb b 57) (b == 95)

bytes-go-on : (bs : List ℕ) → list_all is_word_byte bs ≡ all_go_on bs
bytes-go-on [] = refl
bytes-go-on (b ∷ bs) = ap (λ q. q && list_all is_word_byte bs) (byte-goes-on b) ∙ ap (λ q. goes_on_word b && q) (bytes-go-on bs)

or_left : (a b : Bool) → a ≡ true → (a && true) || b ≡ true
or_left true b e = refl
or_left false b e = cc

either_way : (a b c : Bool) → (a || b) && c ≡ true → (a && c) || (b && c) ≡ true
either_way true b true e = refl
either_way true b false e = cc
either_way false true c e = e
either_way false false c e = cc

first_half : (a b : Bool) → a && b ≡ true → a ≡ true
first_half true b e = refl
first_half false b e = cc

pub word_token : (w : List ℕ) → IsTrue (is_word w) → is_word_token w ≡ true
word_token [] h = h
word_token (b ∷ []) h = or_left (is_word_start b) (b == 95 && false) (start-letter b ∙ h)
word_token (b ∷ c ∷ cs) h =
    let e : (is_word_start b || b == 95) && list_all is_word_byte (c ∷ cs) ≡ true =
    ap (λ q. (q || b == 95) && list_all is_word_byte (c ∷ cs)) (start-letter b) ∙ ap (λ q. (is_letter b || b == 95) && q) (bytes-go-on (c ∷ cs)) ∙ h in
    either_way (is_word_start b) (b == 95) (list_all is_word_byte (c ∷ cs)) e

word_head : (b : ℕ) (bs : List ℕ) → IsTrue (is_word (b ∷ bs)) → (is_word_start b || b == 95) ≡ true
word_head b [] h = let e : is_word_start b ≡ true = start-letter b ∙ h in rw e refl
word_head b (c ∷ cs) h = ap (λ q. q || b == 95) (start-letter b) ∙ first_half (is_letter b || b == 95) (all_go_on (c ∷ cs)) h

-- a word that is none of the keys with the form of one is no key
among_contains : (table : List (List ℕ)) (w : List ℕ) → is_among table w ≡ true → Contains table w
among_contains [] w e = cc
among_contains (row ∷ rows) w e = by_row (bytes_eq row w) refl e (λ g. among_contains rows w g)
  where
    by_row : (t : Bool) → bytes_eq row w ≡ t → (t || is_among rows w) ≡ true → (is_among rows w ≡ true → Contains rows w) → Contains (row ∷ rows) w
    by_row true f g more = (0, omega arith, (bytes_eq-Decides row w).0 f)
    by_row false f g more = Contains-append_right (row ∷ []) rows w (more g)

other_keys : List (List ℕ)
other_keys = codes "bundle+" ∷ codes "bundle-" ∷ []

keys_split : keys ≡ word_keys ++ other_keys
unfolding keys other_keys
keys_split = refl

no_words : list_all (λ row. not (is_word_token row)) other_keys ≡ true
unfolding other_keys
no_words = refl

false_unless : (b : Bool) → (b ≡ true → ⊥) → b ≡ false
false_unless true h = absurd (h refl)
false_unless false h = refl

no_key_word : (w : List ℕ) → IsTrue (is_word w) → (Contains word_keys w → ⊥) → is_among keys w ≡ false
no_key_word w h n =
    let a : is_among word_keys w ≡ false = false_unless _ (λ e. n (among_contains word_keys w e)) in
    let b : is_among other_keys w ≡ false = not_among (λ row. not (is_word_token row)) other_keys w no_words (ap not (word_token w h)) in
    ap (λ table. is_among table w) keys_split ∙ list_any-append (λ row. bytes_eq row w) word_keys other_keys ∙ rw (a, b) refl

-- a word's token
method_token : (w : List ℕ) → IsTrue (is_word w) → (Contains word_keys w → ⊥) → token_of printed w ≡ Some (word w)
unfolding token_of
method_token w h n =
    let a = no_key_word w h n in
    let b = word_token w h in
    rw (a, b) refl

-- with a parenthesis behind them the bytes of a word spell nothing
key_byte : ℕ → Bool
key_byte b = is_word_byte b || (b == 43 || b == 45)

keys_made : list_all (list_all key_byte) keys ≡ true
unfolding keys key_byte
keys_made = refl

open_ends : key_byte 40 ≡ false
unfolding key_byte
open_ends = refl

no_key_then : (b : ℕ) (bs e : List ℕ) → key_of (b ∷ (bs ++ (40 ∷ e))) ≡ None
no_key_then b bs e =
    let h : is_among keys (b ∷ (bs ++ (40 ∷ e))) ≡ false = not_among (list_all key_byte) keys (b ∷ (bs ++ (40 ∷ e))) keys_made (run_stops key_byte (b ∷ bs) 40 e open_ends) in
    rw h refl

-- a byte that a word begins with, and another byte
abbrev long_head : List ℕ → Bool
long_head [] = false
long_head (b ∷ []) = false
long_head (b ∷ c ∷ cs) = is_word_start b || b == 95

signs_short : list_all (λ row. not (long_head row)) signs ≡ true
unfolding signs
signs_short = refl

long : (b : ℕ) (bs : List ℕ) (c : ℕ) (e : List ℕ) → (is_word_start b || b == 95) ≡ true → long_head (b ∷ (bs ++ (c ∷ e))) ≡ true
long b [] c e h = h
long b (x ∷ xs) c e h = h

method_ends : (b : ℕ) (bs e : List ℕ) → (is_word_start b || b == 95) ≡ true → token_of printed (b ∷ (bs ++ (40 ∷ e))) ≡ None
unfolding token_of
method_ends b bs e h =
    let head = apart_head b h in
    let s : is_among signs (b ∷ (bs ++ (40 ∷ e))) ≡ false = not_among (λ row. not (long_head row)) signs (b ∷ (bs ++ (40 ∷ e))) signs_short (ap not (long b bs 40 e h)) in
    let w = word_stops b bs 40 e refl in
    let xs = bs ++ (40 ∷ e) in
    rw (no_key_then b bs e, w, s, no_integer b xs head.digit, no_string b xs head.quote, no_uri b xs head.back_quote, no_hex b xs head.dollar head.hash) refl

dot_ends : (b : ℕ) (e : List ℕ) → nat_eq 46 b ≡ false → token_of printed (46 ∷ (b ∷ e)) ≡ None
unfolding token_of keys signs
dot_ends b e h = rw h refl

-- a parenthesis, the call of a method, and its own parenthesis
pub lex_call : (m : List ℕ) {k : Bool} {y : List ℕ} {q : Piece} → IsTrue (is_word m) → (Contains word_keys m → ⊥) → Lexed k (40 ∷ y) q → Lexed k (codes ")." ++ (m ++ (40 ∷ y))) (λ r. mark marks.Close ∷ mark marks.Dot ∷ text a_word m ∷ q r)
unfolding token_of keys signs
lex_call [] h n l = cc
lex_call (b ∷ bs) h n l =
    let head = word_head b bs h in
    let apart = apart_head b head in
    put lex_close (until 46 [] (sign (codes ".")) b refl refl refl refl (λ e. dot_ends b e apart.dot)
    (until b bs (word (b ∷ bs)) 40 apart.blank apart.slash (method_token (b ∷ bs) h n) refl (λ e. method_ends b bs e head) l))
