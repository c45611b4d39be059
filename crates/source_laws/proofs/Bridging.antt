-- A text in which no fresh name and no byte array can stand has the same tokens as a source and as a printed text.
use Rattle.std.proofs.Common.{◌≡◌, ℕ, zero, suc, Bool, true, false, not, ◌&&◌, cond, List, [], ◌∷◌, length, take, drop, refl, ap, ◌∙◌}
use Rattle.std.specs.Prelude.{◌==◌, Some, None, Option, is_some}
use Rattle.std.specs.List.{list_all}
use Rattle.tokens.specs.Fronts.{longest_front, front_up_to}
use Rattle.tokens.specs.Reading.{step, token_step, longest, Outcome, Reads, at_end, over_gap, over_token, refused}
use Rattle.tokens.specs.Spelling.{token_of, spells}
use Rattle.tokens.specs.Token.{source, printed, Token, word, key, sign, integer, string, uri, fresh_name, byte_array, end_of_text}
use Rattle.grammar.specs.Terminals.{Terminal, text, number, mark, stranger, Holding, a_word, a_string, a_uri, a_fresh_name, a_byte_array, terminal, terminals, of_digits}
use Rattle.calculus.specs.Texts.{from_hex}
use Rattle.printed_spelling.proofs.Heads.{and_halves, no_hex}

-- neither a dollar sign nor a number sign
abbrev pub is_plain : ℕ → Bool
is_plain b = not (b == 36) && not (b == 35)

not-false : (b : Bool) → not b ≡ true → b ≡ false
not-false true e = cc
not-false false e = refl

same-token : (bs : List ℕ) → list_all is_plain bs ≡ true → token_of source bs ≡ token_of printed bs
unfolding token_of
same-token [] h = refl
same-token (b ∷ bs) h =
    let k = and_halves (is_plain b) (list_all is_plain bs) h in
    let l = and_halves (not (b == 36)) (not (b == 35)) k.0 in
    rw (no_hex b bs (not-false (b == 36) l.0) (not-false (b == 35) l.1)) refl

plain-take : (n : ℕ) (bs : List ℕ) → list_all is_plain bs ≡ true → list_all is_plain (take n bs) ≡ true
plain-take zero bs h = refl
plain-take (suc n) [] h = refl
plain-take (suc n) (b ∷ bs) h = let k = and_halves (is_plain b) (list_all is_plain bs) h in rw (k.0, plain-take n bs k.1) refl

plain-drop : (n : ℕ) (bs : List ℕ) → list_all is_plain bs ≡ true → list_all is_plain (drop n bs) ≡ true
plain-drop zero bs h = h
plain-drop (suc n) [] h = refl
plain-drop (suc n) (b ∷ bs) h = plain-drop n bs (and_halves (is_plain b) (list_all is_plain bs) h).1

same-front : (n : ℕ) (bs : List ℕ) → list_all is_plain bs ≡ true → front_up_to (spells source) bs n ≡ front_up_to (spells printed) bs n
same-front zero bs h = refl
same-front (suc n) bs h =
    ap (λ t. cond (is_some t) (suc n) (front_up_to (spells source) bs n)) (same-token (take (suc n) bs) (plain-take (suc n) bs h))
    ∙ ap (λ m. cond (is_some (token_of printed (take (suc n) bs))) (suc n) m) (same-front n bs h)

same-token-step : (at : ℕ) (bs : List ℕ) → list_all is_plain bs ≡ true → token_step source at bs ≡ token_step printed at bs
unfolding token_step longest_front
same-token-step at bs h =
    ap (λ n. longest at bs n (token_of source (take n bs))) (same-front (length bs) bs h)
    ∙ ap (λ t. longest at bs (front_up_to (spells printed) bs (length bs)) t) (same-token (take (front_up_to (spells printed) bs (length bs)) bs) (plain-take (front_up_to (spells printed) bs (length bs)) bs h))

same-step : (at : ℕ) (bs : List ℕ) → list_all is_plain bs ≡ true → step source at bs ≡ step printed at bs
unfolding step
same-step at [] h = refl
same-step at (b ∷ bs) h = rw (same-token-step at (b ∷ bs) h) refl

-- so it is read as a source
pub as-source : {at : ℕ} {bs : List ℕ} {o : Outcome} → list_all is_plain bs ≡ true → Reads printed at bs o → Reads source at bs o
as-source h (at_end {at = at} {text = bs} e) = at_end (same-step at bs h ∙ e)
as-source h (over_gap {at = at} {len = len} {text = bs} e r) = over_gap (same-step at bs h ∙ e) (as-source (plain-drop len bs h) r)
as-source h (over_token {at = at} {len = len} {text = bs} e r w) = over_token (same-step at bs h ∙ e) (as-source (plain-drop len bs h) r) w
as-source h (refused {at = at} {text = bs} e) = refused (same-step at bs h ∙ e)

-- a terminal that both have
abbrev pub is_common : Terminal → Bool
is_common (text a_word w) = true
is_common (text a_string w) = true
is_common (text a_uri w) = true
is_common (text _ w) = false
is_common (number n) = true
is_common (mark m) = true
is_common stranger = false

no-digits : (k : Holding) (o : Option (List ℕ)) → is_common (text k []) ≡ false → is_common (of_digits k o) ≡ false
no-digits a_fresh_name (Some x) e = refl
no-digits a_byte_array (Some x) e = refl
no-digits a_word (Some x) e = cc
no-digits a_string (Some x) e = cc
no-digits a_uri (Some x) e = cc
no-digits k None e = refl

both-ways : (b : Bool) → b ≡ false → b ≡ true → ⊥
both-ways b e h = cc

same-terminal : (u : Token) → is_common (terminal printed u) ≡ true → terminal source u ≡ terminal printed u
same-terminal (word w) h = refl
same-terminal (key w) h = refl
same-terminal (sign w) h = refl
same-terminal (integer n) h = refl
same-terminal (string w) h = refl
same-terminal (uri w) h = refl
same-terminal (fresh_name d) h = absurd (both-ways _ (no-digits a_fresh_name (from_hex d) refl) h)
same-terminal (byte_array d) h = absurd (both-ways _ (no-digits a_byte_array (from_hex d) refl) h)
same-terminal end_of_text h = refl

pub same-terminals : (us : List Token) → list_all is_common (terminals printed us) ≡ true → terminals source us ≡ terminals printed us
same-terminals [] h = refl
same-terminals (u ∷ us) h =
    let k = and_halves (is_common (terminal printed u)) (list_all is_common (terminals printed us)) h in
    ap (λ t. t ∷ terminals source us) (same-terminal u k.0) ∙ ap (λ ts. terminal printed u ∷ ts) (same-terminals us k.1)
