-- Signs.
use Rattle.std.proofs.Common.{◌≡◌, ◌≤◌, ◌<◌, ℕ, zero, suc, Bool, true, false, List, [], ◌∷◌, length, take, get_or, refl, sym, ◌∙◌, ap, subst, arith}
use Rattle.std.specs.Prelude.{◌==◌, nat_le, None}
use Rattle.std.specs.List.{list_all}
use Rattle.std.specs.Option.{option_or}
use Rattle.std.proofs.lemmas.Bool.{eqb-true, lt-leb}
use Rattle.std.proofs.lemmas.List.{length-take-le}
use Rattle.tokens.specs.Bytes.{is_digit, is_word_start, is_word_byte}
use Rattle.tokens.specs.Fronts.{longest_front}
use Rattle.tokens.specs.Reading.{token_step, takes, refuses, no_token}
use Rattle.tokens.specs.Spelling.{token_of, word_of, sign_of}
use Rattle.tokens.specs.Tables.{signs, is_among}
use Rattle.tokens.specs.Token.{source, sign, bad_byte, refusal}
use Rattle.tokens.proofs.Fronts.{IsLongest, longest_front-IsLongest}
use Rattle.rho_lexer.specs.Meaning.{begins_word}
use Rattle.rho_lexer.proofs.Heads.{not_among, is_other_head, underscores_only, signs_only}
use Rattle.rho_lexer.proofs.Steps.{takes_is, none_is}

-- a text that no other form begins
pub record IsSignText (text : List ℕ) : Type 0 where
  pub some : 0 < length text
  pub digit : is_digit (get_or text 0 0) ≡ false
  pub quote : (get_or text 0 0 == 34) ≡ false
  pub back_quote : (get_or text 0 0 == 96) ≡ false
  pub word : begins_word text ≡ false

signs_are_short : list_all (λ row. nat_le (length row) 3) signs ≡ true
unfolding signs
signs_are_short = refl

-- no sign has more than three bytes
pub no_long_sign : (text : List ℕ) (k : ℕ) → 3 < k → k ≤ length text → is_among signs (take k text) ≡ false
no_long_sign text k p q =
    let len : length (take k text) ≡ k = length-take-le k text q in
    let fails : nat_le (length (take k text)) 3 ≡ false = rw len (lt-leb k 3 p) in
    not_among (λ row. nat_le (length row) 3) signs (take k text) signs_are_short fails

underscore_front : (bs : List ℕ) → word_of (95 ∷ bs) ≡ None → token_of source (95 ∷ bs) ≡ option_or (sign_of (95 ∷ bs)) None
underscore_front bs e = underscores_only bs ∙ rw e refl

by_head : (b : ℕ) (bs : List ℕ) (test : Bool) → (b == 95) ≡ test → is_digit b ≡ false → (b == 34) ≡ false → (b == 96) ≡ false
    → (test ≡ false → is_word_start b ≡ false) → (test ≡ true → word_of (95 ∷ bs) ≡ None) → token_of source (b ∷ bs) ≡ option_or (sign_of (b ∷ bs)) None
by_head b bs false e digit quotes backs start word =
    let begins = start refl in
    let other : is_other_head b ≡ false = rw (begins, digit, quotes, backs) refl in
    signs_only b bs other e
by_head b bs true e digit quotes backs start word =
    let same : 95 ≡ b = sym (eqb-true b 95 e) in
    let P : ℕ → Type 0 = λ x. token_of source (x ∷ bs) ≡ option_or (sign_of (x ∷ bs)) None in
    subst P same (underscore_front bs (word refl))

-- its fronts are signs or nothing
pub sign_front : (text : List ℕ) (k : ℕ) → IsSignText text → 0 < k → token_of source (take k text) ≡ option_or (sign_of (take k text)) None
sign_front [] k h p = let some = h.some in absurd (omega arith)
sign_front (b ∷ bs) zero h p = absurd (omega arith)
sign_front (b ∷ []) (suc zero) h p = by_head b [] (b == 95) refl h.digit h.quote h.back_quote (λ _. h.word) (λ _. refl)
sign_front (b ∷ []) (suc (suc j)) h p = by_head b [] (b == 95) refl h.digit h.quote h.back_quote (λ _. h.word) (λ _. refl)
sign_front (b ∷ c ∷ cs) (suc zero) h p = by_head b [] (b == 95) refl h.digit h.quote h.back_quote
    (λ e. let word = h.word in rw e at word) (λ _. refl)
sign_front (b ∷ c ∷ cs) (suc (suc j)) h p = by_head b (c ∷ take j cs) (b == 95) refl h.digit h.quote h.back_quote
    (λ e. let word = h.word in rw e at word)
    (λ e. let word = h.word in let no_byte : is_word_byte c ≡ false = rw e at word in rw no_byte refl)

-- what the length of the longest sign is
pub longest_sign : (text : List ℕ) (n : ℕ) → n ≡ longest_front (is_among signs) text → IsLongest (is_among signs) text (length text) n
longest_sign text n e = subst (IsLongest (is_among signs) text (length text)) (sym e) (longest_front-IsLongest (is_among signs) text)

-- what stands there
pub reads_sign : (at : ℕ) (text : List ℕ) (n : ℕ) (name : List ℕ) → IsSignText text → n ≡ longest_front (is_among signs) text → 0 < n → name ≡ take n text
    → token_step source at text ≡ takes (sign name) n
reads_sign at text n name h len some is =
    let most = longest_sign text n len in
    let found : is_among signs (take n text) ≡ true = most.passes some in
    rw is (takes_is at text n (sign (take n text)) (sign_front text n h some ∙ rw found refl) most.within
    (λ k p q. sign_front text k h (omega arith) ∙ (let none : is_among signs (take k text) ≡ false = most.longer k p q in rw none refl)))

no_mark : (at b : ℕ) (bs : List ℕ) → (b == 34) ≡ false → (b == 96) ≡ false → no_token at (b ∷ bs) ≡ refusal bad_byte at
no_mark at b bs e f = rw (e, f) refl

no_token_there : (at : ℕ) (text : List ℕ) → IsSignText text → no_token at text ≡ refusal bad_byte at
no_token_there at [] h = refl
no_token_there at (b ∷ bs) h = no_mark at b bs h.quote h.back_quote

pub reads_none : (at : ℕ) (text : List ℕ) (n : ℕ) → IsSignText text → n ≡ longest_front (is_among signs) text → n ≡ 0
    → token_step source at text ≡ refuses (refusal bad_byte at)
reads_none at text n h len none =
    let most = longest_sign text n len in
    none_is at text (λ k p q. sign_front text k h p ∙ (let no : is_among signs (take k text) ≡ false = most.longer k (omega arith) q in rw no refl))
    ∙ ap refuses (no_token_there at text h)
