-- Tokens before a place, and the terminals that they are.
use Rattle.std.proofs.Common.{◌≡◌, ℕ, ◌+◌, ◌-◌, List, [], ◌∷◌, ◌++◌, true, false, cond, sym, refl, ap, ◌∙◌, arith, take, get_or, length, append_assoc, length-append}
use Rattle.std.proofs.lemmas.List.{length-map}
use Rattle.std.proofs.Math.Seq.{take-append_seam}
use Rattle.std.specs.List.{take-map}
use Rattle.std.specs.Prelude.{Option, Some, None}
use Rattle.calculus.specs.Texts.{from_hex}
use Rattle.std.specs.Str.{bytes_eq}
use Rattle.tokens.specs.Token.{Notation, source, printed, Token, word, key, sign, integer, string, uri, fresh_name, byte_array, end_of_text}
use Rattle.grammar.specs.declared.mark.Mark.{Mark}
use Rattle.grammar.specs.Terminals.{a_fresh_name, a_byte_array, of_digits, mark_bytes, Terminal, text, mark, key_marks, sign_marks, mark_among, terminal, terminals}

-- so many tokens stand before
pub count : (n : Notation) (tokens : List Token) (pre us : List Terminal) → terminals n tokens ≡ pre ++ us → length tokens - length us ≡ length pre
count n tokens pre us e =
    let a = ap length e in
    let b = length-append pre us in
    let c = length-map tokens (terminal n) in
    omega (arith, a, b, c)

-- their terminals
pub front : (n : Notation) (tokens : List Token) (pre us : List Terminal) (k : ℕ) → terminals n tokens ≡ pre ++ us → k ≡ length pre → terminals n (take k tokens) ≡ pre
front n tokens pre us k e l = sym (take-map (terminal n) k tokens) ∙ (ap (take k) e ∙ (ap (λ z. take z (pre ++ us)) l ∙ take-append_seam pre us))

-- and with the one at the place
pub up_to : (n : Notation) (tokens : List Token) (pre us : List Terminal) (x : Terminal) (k : ℕ) → terminals n tokens ≡ pre ++ (x ∷ us) → k ≡ length pre
    → terminals n (take (k + 1) tokens) ≡ pre ++ (x ∷ [])
up_to n tokens pre us x k e l =
    let a = length-append pre (x ∷ []) in
    front n tokens (pre ++ (x ∷ [])) us (k + 1) (e ∙ sym (append_assoc pre (x ∷ []) us)) (omega (arith, a, l))

-- a key or a sign is no text
marks_only : (ms : List Mark) (bytes w : List ℕ) → mark_among ms bytes ≡ text a_fresh_name w → ⊥
marks_only [] bytes w e = absurd (cc (e))
marks_only (m ∷ ms) bytes w e = elim (bytes_eq (mark_bytes m) bytes) as (λ b. cond b (mark m) (mark_among ms bytes) ≡ text a_fresh_name w → ⊥) [
  | true ↦ λ g. absurd (cc (g))
  | false ↦ λ g. marks_only ms bytes w g
] e

bytes_no : (o : Option (List ℕ)) (w : List ℕ) → of_digits a_byte_array o ≡ text a_fresh_name w → ⊥
bytes_no (Some b) w e = absurd (cc (e))
bytes_no None w e = absurd (cc (e))

-- a fresh name is the token of a fresh name, and stands in a printed text
fresh_token : (n : Notation) (t : Token) (w : List ℕ) → terminal n t ≡ text a_fresh_name w → (n ≡ printed) × (digits : List ℕ) × (t ≡ fresh_name digits)
fresh_token n (word bytes) w e = absurd (cc (e))
fresh_token n (key bytes) w e = absurd (marks_only key_marks bytes w e)
fresh_token n (sign bytes) w e = absurd (marks_only sign_marks bytes w e)
fresh_token n (integer i) w e = absurd (cc (e))
fresh_token n (string bytes) w e = absurd (cc (e))
fresh_token n (uri bytes) w e = absurd (cc (e))
fresh_token source (fresh_name digits) w e = absurd (cc (e))
fresh_token printed (fresh_name digits) w e = (refl, digits, refl)
fresh_token source (byte_array digits) w e = absurd (cc (e))
fresh_token printed (byte_array digits) w e = absurd (bytes_no (from_hex digits) w e)
fresh_token n end_of_text w e = absurd (cc (e))

-- a source has none
pub no_fresh : (tokens : List Token) (pre rest : List Terminal) (w : List ℕ) → terminals source tokens ≡ pre ++ (text a_fresh_name w ∷ rest) → ⊥
no_fresh [] [] rest w e = absurd (cc (e))
no_fresh [] (x ∷ pre) rest w e = absurd (cc (e))
no_fresh (t ∷ tokens) [] rest w e =
    let a : terminal source t ≡ text a_fresh_name w = cc (e) in
    let b = fresh_token source t w a in
    let c : source ≡ printed = b.0 in absurd (cc (c))
no_fresh (t ∷ tokens) (x ∷ pre) rest w e =
    let a : terminals source tokens ≡ pre ++ (text a_fresh_name w ∷ rest) = cc (e) in no_fresh tokens pre rest w a

-- the token of a fresh name
pub name_at : (n : Notation) (tokens : List Token) (pre us : List Terminal) (w : List ℕ) → terminals n tokens ≡ pre ++ (text a_fresh_name w ∷ us)
    → (digits : List ℕ) × (get_or tokens (length pre) end_of_text ≡ fresh_name digits)
name_at n [] [] us w e = absurd (cc (e))
name_at n [] (x ∷ pre) us w e = absurd (cc (e))
name_at n (t ∷ tokens) [] us w e =
    let a : terminal n t ≡ text a_fresh_name w = cc (e) in
    let b = fresh_token n t w a in (b.1, b.2)
name_at n (t ∷ tokens) (x ∷ pre) us w e =
    let a : terminals n tokens ≡ pre ++ (text a_fresh_name w ∷ us) = cc (e) in name_at n tokens pre us w a
