-- Tokens of their forms are terminals whose texts are in range.
use Rattle.std.proofs.Common.{◌≡◌, ℕ, List, [], ◌∷◌, Bool, true, false, refl, arith, map}
use Rattle.std.specs.Prelude.{Option, Some, None, if◌then◌else◌}
use Rattle.std.specs.Str.{bytes_eq}
use Rattle.calculus.specs.Texts.{from_hex}
use Rattle.tokens.specs.Token.{Notation, source, printed, Token, word, key, sign, integer, string, uri, fresh_name, byte_array, end_of_text, Spanned, spanned}
use Rattle.tokens.specs.Spelling.{HasForm}
use Rattle.tokens.specs.Reading.{AreInOrder}
use Rattle.grammar.specs.declared.mark.Mark.{Mark}
use Rattle.grammar.specs.Terminals.{Holding, a_fresh_name, a_byte_array, Terminal, mark, mark_bytes, mark_among, key_marks, sign_marks, of_digits, terminal, terminals}
use Rattle.source_laws.specs.Texts.{IsSoundText, IsSound, AreSound, IsFormed, AreFormed}
use Rattle.source_laws.proofs.Words.{word-sound}
use Rattle.source_laws.proofs.Contents.{utf8-bytes, no-back-quote, hex-bytes, no-key}

-- a mark holds no text
mark-or : (b : Bool) (m : Mark) (t : Terminal) → IsSound t → IsSound (if b then mark m else t)
mark-or true m t h = tt
mark-or false m t h = h

mark-sound : (ms : List Mark) (bs : List ℕ) → IsSound (mark_among ms bs)
mark-sound [] bs = tt
mark-sound (m ∷ ms) bs = mark-or (bytes_eq (mark_bytes m) bs) m (mark_among ms bs) (mark-sound ms bs)

digits-sound : (k : Holding) (o : Option (List ℕ)) → ((bs : List ℕ) → o ≡ Some bs → IsSoundText k bs) → IsSound (of_digits k o)
digits-sound k None f = tt
digits-sound k (Some bs) f = f bs refl

pub token-sound : (n : Notation) (t : Token) → IsFormed t → IsSound (terminal n t)
token-sound n (word w) h = (word-sound w h.0, no-key w h.1)
token-sound n (key w) h = mark-sound key_marks w
token-sound n (sign w) h = mark-sound sign_marks w
token-sound n (integer i) h = tt
token-sound n (string s) h = (h, utf8-bytes s h)
token-sound n (uri u) h = (h.0, (utf8-bytes u h.0, no-back-quote u h.1))
token-sound source (fresh_name ds) h = tt
token-sound printed (fresh_name ds) h = digits-sound a_fresh_name (from_hex ds) (λ bs e. let k = hex-bytes ds bs e in (omega (arith, k.1, h.0), k.0))
token-sound source (byte_array ds) h = tt
token-sound printed (byte_array ds) h = digits-sound a_byte_array (from_hex ds) (λ bs e. (hex-bytes ds bs e).0)
token-sound n end_of_text h = tt

pub tokens-sound : (n : Notation) (ts : List Token) → AreFormed ts → AreSound (terminals n ts)
tokens-sound n [] h = tt
tokens-sound n (t ∷ ts) h = (token-sound n t h.0, tokens-sound n ts h.1)

-- the last token is the end, and each other has its form
end-formed : (t : Spanned) (last : ℕ) → t ≡ spanned end_of_text last last → IsFormed t.token
end-formed t last e = rw e tt

formed : (t : Token) → HasForm t → IsFormed t
formed end_of_text h = tt
formed (word w) h = h
formed _ h = h

pub in-order-formed : (at last : ℕ) (ts : List Spanned) → AreInOrder at last ts → AreFormed (map (λ t. t.token) ts)
in-order-formed at last [] h = tt
in-order-formed at last (t ∷ []) h = (end-formed t last h.1, tt)
in-order-formed at last (t ∷ u ∷ ts) h = (formed t.token h.2, in-order-formed t.end last (u ∷ ts) h.3)
