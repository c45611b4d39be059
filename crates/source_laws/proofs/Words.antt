-- Tokens of their forms hold texts in range.
use Rattle.std.proofs.Common.{◌≡◌, ℕ, List, [], ◌∷◌, Bool, true, false, refl, sym, ap, ◌∙◌}
use Rattle.std.specs.Prelude.{◌&&◌, ◌||◌, ◌==◌, leb, IsTrue}
use Rattle.std.specs.List.{list_all}
use Rattle.calculus.specs.Form.{is_letter, goes_on_word, all_go_on, is_word}
use Rattle.tokens.specs.Bytes.{is_word_start, is_word_byte}
use Rattle.tokens.specs.Spelling.{is_word as is_word_token}

or-assoc : (a b c : Bool) → (a || b) || c ≡ a || (b || c)
or-assoc true b c = refl
or-assoc false b c = refl

start-letter : (b : ℕ) → is_word_start b ≡ is_letter b
start-letter b = or-assoc (leb 65 b && leb b 90) (leb 97 b && leb b 122) (b == 39)

byte-goes-on : (b : ℕ) → is_word_byte b ≡ goes_on_word b
byte-goes-on b = ap (λ q. (q || (leb 48 b && leb b 57)) || b == 95) (start-letter b) ∙ or-assoc (is_letter b) (leb 48 b && leb b 57) (b == 95)

bytes-go-on : (bs : List ℕ) → list_all is_word_byte bs ≡ all_go_on bs
bytes-go-on [] = refl
bytes-go-on (b ∷ bs) = ap (λ q. q && list_all is_word_byte bs) (byte-goes-on b) ∙ ap (λ q. goes_on_word b && q) (bytes-go-on bs)

lone : (a b : Bool) → (a && true) || (b && false) ≡ true → a ≡ true
lone true b h = refl
lone false true h = h
lone false false h = h

either-way : (a b c : Bool) → (a && c) || (b && c) ≡ true → (a || b) && c ≡ true
either-way true b true h = refl
either-way true true false h = h
either-way true false false h = h
either-way false true c h = h
either-way false false c h = h

pub word-sound : (w : List ℕ) → is_word_token w ≡ true → IsTrue (is_word w)
word-sound [] h = h
word-sound (b ∷ []) h = sym (start-letter b) ∙ lone (is_word_start b) (b == 95) h
word-sound (b ∷ c ∷ cs) h =
    ap (λ q. (q || b == 95) && all_go_on (c ∷ cs)) (sym (start-letter b)) ∙ ap (λ q. (is_word_start b || b == 95) && q) (sym (bytes-go-on (c ∷ cs))) ∙ either-way (is_word_start b) (b == 95) (list_all is_word_byte (c ∷ cs)) h
