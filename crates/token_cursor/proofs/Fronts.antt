-- What the first token says of the terminals.
use Rattle.std.proofs.Common.{string_bytes, ◌≡◌, ◌⊎◌, ℕ, ◌||◌, true, false, List, [], ◌∷◌, refl, sym, ap, ◌∙◌, inl, inr}
use Rattle.std.specs.List.{IsFirstAndRest}
use Rattle.std.specs.declared.alloc.Global.{Global}
use Rattle.std.specs.declared.string.String.{String}
use Rattle.rho_lexer.specs.declared.token.Token.{Token}
use Rattle.rho_lexer.specs.declared.token.TokenKind.{TokenKind}
use Rattle.rho_lexer.specs.declared.token.TokenKind.TheVariants as kinds
use Rattle.grammar.specs.declared.mark.Mark.{Mark}
use Rattle.grammar.specs.declared.mark.Mark.TheVariants as marks
use Rattle.grammar.specs.Choice.{sees_text, sees_number}
use Rattle.grammar.specs.Descent.{sees_integer, shows, Takes}
use Rattle.grammar.specs.Grammar.{begins_operand}
use Rattle.grammar.specs.Terminals.{Holding, Terminal, a_word, a_string, a_uri, a_fresh_name, a_byte_array, text, number, mark, stranger, key_marks, sign_marks, mark_among, sees}
use Rattle.token_cursor.specs.Meaning.{kind_terminal, sees_key_operand, sees_sign_operand, sees_text_operand, view}
use Rattle.token_cursor.proofs.Marks.{plain, seen}

no_text : (k : Holding) (ms : List Mark) (bs : List ℕ) (ts : List Terminal) → sees_text k (mark_among ms bs ∷ ts) ≡ false
no_text k ms bs ts = pick (plain ms bs)
  where
    pick : (mark_among ms bs ≡ stranger) ⊎ ((m : Mark) × (mark_among ms bs ≡ mark m)) → sees_text k (mark_among ms bs ∷ ts) ≡ false
    pick (inl e) = rw e refl
    pick (inr (m, e)) = rw e refl

no_number : (most : ℕ) (ms : List Mark) (bs : List ℕ) (ts : List Terminal) → (sees_integer most (mark_among ms bs ∷ ts) ≡ false) × (sees_number (mark_among ms bs ∷ ts) ≡ false)
no_number most ms bs ts = pick (plain ms bs)
  where
    pick : (mark_among ms bs ≡ stranger) ⊎ ((m : Mark) × (mark_among ms bs ≡ mark m)) → (sees_integer most (mark_among ms bs ∷ ts) ≡ false) × (sees_number (mark_among ms bs ∷ ts) ≡ false)
    pick (inl e) = rw e (refl, refl)
    pick (inr (m, e)) = rw e (refl, refl)

no_word_kind : (k : TokenKind) → ((w : String Global) → k ≡ kinds.Word w → ⊥) → (ts : List Terminal) → sees_text a_word (kind_terminal k ∷ ts) ≡ false
no_word_kind (kinds.Word w) n ts = absurd (n w refl)
no_word_kind (kinds.Key w) n ts = no_text a_word key_marks (string_bytes w) ts
no_word_kind (kinds.Sign w) n ts = no_text a_word sign_marks (string_bytes w) ts
no_word_kind (kinds.Int w) n ts = refl
no_word_kind (kinds.Str w) n ts = refl
no_word_kind (kinds.Uri w) n ts = refl
no_word_kind kinds.End n ts = refl

-- a word isn't next where the first token is none
pub no_word : (xs : List Token) (t : Token) (us : List Token) → IsFirstAndRest xs t us → ((w : String Global) → t.kind ≡ kinds.Word w → ⊥) → sees_text a_word (view xs) ≡ false
no_word xs t us e n = ap (λ ts. sees_text a_word (view ts)) e.0 ∙ no_word_kind t.kind n (view us)

no_string_kind : (k : TokenKind) → ((w : String Global) → k ≡ kinds.Str w → ⊥) → (ts : List Terminal) → sees_text a_string (kind_terminal k ∷ ts) ≡ false
no_string_kind (kinds.Word w) n ts = refl
no_string_kind (kinds.Key w) n ts = no_text a_string key_marks (string_bytes w) ts
no_string_kind (kinds.Sign w) n ts = no_text a_string sign_marks (string_bytes w) ts
no_string_kind (kinds.Int w) n ts = refl
no_string_kind (kinds.Str w) n ts = absurd (n w refl)
no_string_kind (kinds.Uri w) n ts = refl
no_string_kind kinds.End n ts = refl

-- a string isn't next where the first token is none
pub no_string : (xs : List Token) (t : Token) (us : List Token) → IsFirstAndRest xs t us → ((w : String Global) → t.kind ≡ kinds.Str w → ⊥) → sees_text a_string (view xs) ≡ false
no_string xs t us e n = ap (λ ts. sees_text a_string (view ts)) e.0 ∙ no_string_kind t.kind n (view us)

no_uri_kind : (k : TokenKind) → ((w : String Global) → k ≡ kinds.Uri w → ⊥) → (ts : List Terminal) → sees_text a_uri (kind_terminal k ∷ ts) ≡ false
no_uri_kind (kinds.Word w) n ts = refl
no_uri_kind (kinds.Key w) n ts = no_text a_uri key_marks (string_bytes w) ts
no_uri_kind (kinds.Sign w) n ts = no_text a_uri sign_marks (string_bytes w) ts
no_uri_kind (kinds.Int w) n ts = refl
no_uri_kind (kinds.Str w) n ts = refl
no_uri_kind (kinds.Uri w) n ts = absurd (n w refl)
no_uri_kind kinds.End n ts = refl

-- a URI isn't next where the first token is none
pub no_uri : (xs : List Token) (t : Token) (us : List Token) → IsFirstAndRest xs t us → ((w : String Global) → t.kind ≡ kinds.Uri w → ⊥) → sees_text a_uri (view xs) ≡ false
no_uri xs t us e n = ap (λ ts. sees_text a_uri (view ts)) e.0 ∙ no_uri_kind t.kind n (view us)

no_integer_kind : (most : ℕ) (k : TokenKind) → ((n : ℕ) → k ≡ kinds.Int n → ⊥) → (ts : List Terminal) → (sees_integer most (kind_terminal k ∷ ts) ≡ false) × (sees_number (kind_terminal k ∷ ts) ≡ false)
no_integer_kind most (kinds.Word w) n ts = (refl, refl)
no_integer_kind most (kinds.Key w) n ts = no_number most key_marks (string_bytes w) ts
no_integer_kind most (kinds.Sign w) n ts = no_number most sign_marks (string_bytes w) ts
no_integer_kind most (kinds.Int w) n ts = absurd (n w refl)
no_integer_kind most (kinds.Str w) n ts = (refl, refl)
no_integer_kind most (kinds.Uri w) n ts = (refl, refl)
no_integer_kind most kinds.End n ts = (refl, refl)

-- an integer isn't next where the first token is none
pub no_integer : (most : ℕ) (xs : List Token) (t : Token) (us : List Token) → IsFirstAndRest xs t us → ((n : ℕ) → t.kind ≡ kinds.Int n → ⊥) → (sees_integer most (view xs) ≡ false) × (sees_number (view xs) ≡ false)
no_integer most xs t us e n = (ap (λ ts. sees_integer most (view ts)) e.0 ∙ (no_integer_kind most t.kind n (view us)).0, ap (λ ts. sees_number (view ts)) e.0 ∙ (no_integer_kind most t.kind n (view us)).1)

same_front : (m : Mark) (t : Terminal) (ts us : List Terminal) → sees m (t ∷ ts) ≡ sees m (t ∷ us)
same_front m (text k w) ts us = refl
same_front m (number n) ts us = refl
same_front m (mark k) ts us = refl
same_front m stranger ts us = refl

-- the first token alone says which mark is next
pub first_sees : (m : Mark) (xs : List Token) (t : Token) (us : List Token) → IsFirstAndRest xs t us → sees m (kind_terminal t.kind ∷ []) ≡ sees m (view xs)
first_sees m xs t us e = same_front m (kind_terminal t.kind) [] (view us) ∙ ap (λ ts. sees m (view ts)) (sym e.0)

-- where it is the mark, it is taken
pub first_takes : (m : Mark) (xs : List Token) (t : Token) (us : List Token) → IsFirstAndRest xs t us → sees m (kind_terminal t.kind ∷ []) ≡ true → Takes m (view xs) (view us)
first_takes m xs t us e s = record { is = ap view e.0 ∙ ap (λ k. k ∷ view us) (seen m (kind_terminal t.kind) s) }

operand_mark : (m : Mark) (ts : List Terminal) → begins_operand (mark m) ≡ (sees_text_operand (mark m ∷ ts) || (sees_key_operand (mark m ∷ ts) || sees_sign_operand (mark m ∷ ts)))
operand_mark marks.Nil ts = refl
operand_mark marks.New ts = refl
operand_mark marks.In ts = refl
operand_mark marks.For ts = refl
operand_mark marks.Contract ts = refl
operand_mark marks.Match ts = refl
operand_mark marks.If ts = refl
operand_mark marks.Else ts = refl
operand_mark marks.True ts = refl
operand_mark marks.False ts = refl
operand_mark marks.Not ts = refl
operand_mark marks.And ts = refl
operand_mark marks.Or ts = refl
operand_mark marks.Set ts = refl
operand_mark marks.Bool ts = refl
operand_mark marks.Int ts = refl
operand_mark marks.String ts = refl
operand_mark marks.Uri ts = refl
operand_mark marks.ByteArray ts = refl
operand_mark marks.Bundle ts = refl
operand_mark marks.BundleNeither ts = refl
operand_mark marks.BundleWrite ts = refl
operand_mark marks.BundleRead ts = refl
operand_mark marks.Ellipsis ts = refl
operand_mark marks.PeekArrow ts = refl
operand_mark marks.DoubleBang ts = refl
operand_mark marks.Unequal ts = refl
operand_mark marks.Arrow ts = refl
operand_mark marks.LessEqual ts = refl
operand_mark marks.GreaterEqual ts = refl
operand_mark marks.Equal ts = refl
operand_mark marks.FatArrow ts = refl
operand_mark marks.DoublePlus ts = refl
operand_mark marks.DoubleMinus ts = refl
operand_mark marks.Both ts = refl
operand_mark marks.Either ts = refl
operand_mark marks.Bar ts = refl
operand_mark marks.Bang ts = refl
operand_mark marks.Open ts = refl
operand_mark marks.Close ts = refl
operand_mark marks.OpenBrace ts = refl
operand_mark marks.CloseBrace ts = refl
operand_mark marks.OpenSquare ts = refl
operand_mark marks.CloseSquare ts = refl
operand_mark marks.Comma ts = refl
operand_mark marks.Semicolon ts = refl
operand_mark marks.Ampersand ts = refl
operand_mark marks.Colon ts = refl
operand_mark marks.Dot ts = refl
operand_mark marks.At ts = refl
operand_mark marks.Star ts = refl
operand_mark marks.Less ts = refl
operand_mark marks.Greater ts = refl
operand_mark marks.Assign ts = refl
operand_mark marks.Plus ts = refl
operand_mark marks.Minus ts = refl
operand_mark marks.Slash ts = refl
operand_mark marks.Percent ts = refl
operand_mark marks.Tilde ts = refl
operand_mark marks.Underscore ts = refl
operand_mark marks.End ts = refl

operand_among : (ms : List Mark) (bs : List ℕ) (ts : List Terminal)
    → begins_operand (mark_among ms bs) ≡ (sees_text_operand (mark_among ms bs ∷ ts) || (sees_key_operand (mark_among ms bs ∷ ts) || sees_sign_operand (mark_among ms bs ∷ ts)))
operand_among ms bs ts = pick (plain ms bs)
  where
    pick : (mark_among ms bs ≡ stranger) ⊎ ((m : Mark) × (mark_among ms bs ≡ mark m))
        → begins_operand (mark_among ms bs) ≡ (sees_text_operand (mark_among ms bs ∷ ts) || (sees_key_operand (mark_among ms bs ∷ ts) || sees_sign_operand (mark_among ms bs ∷ ts)))
    pick (inl e) = rw e refl
    pick (inr (m, e)) = rw e (operand_mark m ts)

operand_kind : (k : TokenKind) (ts : List Terminal)
    → begins_operand (kind_terminal k) ≡ (sees_text_operand (kind_terminal k ∷ ts) || (sees_key_operand (kind_terminal k ∷ ts) || sees_sign_operand (kind_terminal k ∷ ts)))
operand_kind (kinds.Word w) ts = refl
operand_kind (kinds.Key w) ts = operand_among key_marks (string_bytes w) ts
operand_kind (kinds.Sign w) ts = operand_among sign_marks (string_bytes w) ts
operand_kind (kinds.Int w) ts = refl
operand_kind (kinds.Str w) ts = refl
operand_kind (kinds.Uri w) ts = refl
operand_kind kinds.End ts = refl

-- what begins an operand of a prefix "-" in a source
pub operand : (xs : List Token) → shows begins_operand (view xs) ≡ (sees_text_operand (view xs) || (sees_key_operand (view xs) || sees_sign_operand (view xs)))
operand [] = refl
operand (t ∷ ts) = operand_kind t.kind (view ts)

no_fresh_kind : (k : TokenKind) (ts : List Terminal) → sees_text a_fresh_name (kind_terminal k ∷ ts) ≡ false
no_fresh_kind (kinds.Word w) ts = refl
no_fresh_kind (kinds.Key w) ts = no_text a_fresh_name key_marks (string_bytes w) ts
no_fresh_kind (kinds.Sign w) ts = no_text a_fresh_name sign_marks (string_bytes w) ts
no_fresh_kind (kinds.Int w) ts = refl
no_fresh_kind (kinds.Str w) ts = refl
no_fresh_kind (kinds.Uri w) ts = refl
no_fresh_kind kinds.End ts = refl

-- no source has a fresh name
pub no_fresh : (xs : List Token) → sees_text a_fresh_name (view xs) ≡ false
no_fresh [] = refl
no_fresh (x ∷ xs) = no_fresh_kind x.kind (view xs)

no_bytes_kind : (k : TokenKind) (ts : List Terminal) → sees_text a_byte_array (kind_terminal k ∷ ts) ≡ false
no_bytes_kind (kinds.Word w) ts = refl
no_bytes_kind (kinds.Key w) ts = no_text a_byte_array key_marks (string_bytes w) ts
no_bytes_kind (kinds.Sign w) ts = no_text a_byte_array sign_marks (string_bytes w) ts
no_bytes_kind (kinds.Int w) ts = refl
no_bytes_kind (kinds.Str w) ts = refl
no_bytes_kind (kinds.Uri w) ts = refl
no_bytes_kind kinds.End ts = refl

-- no source has a byte array
pub no_bytes : (xs : List Token) → sees_text a_byte_array (view xs) ≡ false
no_bytes [] = refl
no_bytes (x ∷ xs) = no_bytes_kind x.kind (view xs)
