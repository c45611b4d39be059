-- Texts and the terminals of their tokens, put together piece by piece.
use Rattle.std.proofs.Common.{◌≡◌, ◌≤◌, ◌<◌, ℕ, suc, ◌+◌, ◌-◌, Bool, true, false, List, [], ◌∷◌, ◌++◌, length, take, map as each, refl, sym, ap, ◌∙◌, subst, arith, length-append}
use Rattle.std.specs.Prelude.{⊤, nat_eq, Some, None, Ok, is_some}
use Rattle.std.proofs.lemmas.List.{append_assoc}
use Rattle.std.proofs.Math.Seq.{take-append_seam, take-append-add, drop-append_seam}
use Rattle.tokens.specs.Bytes.{is_blank, is_word_byte}
use Rattle.tokens.specs.Fronts.{longest_front}
use Rattle.tokens.specs.Reading.{takes, step, token_step, is_too_large, Reads, at_end, over_gap, over_token}
use Rattle.tokens.specs.Spelling.{token_of, spells}
use Rattle.tokens.specs.Token.{printed, Token, Spanned, spanned}
use Rattle.tokens.proofs.Fronts.{longest_front_is}
use Rattle.grammar.specs.declared.mark.Mark.TheVariants as marks
use Rattle.grammar.specs.Terminals.{Terminal, mark, terminal, terminals}
use Rattle.printed_spelling.proofs.Pieces.{Piece}

-- the text has tokens of these terminals, from any place on
pub record Scanned (at : ℕ) (text : List ℕ) (ts : List Terminal) : Type 0 where
  pub tokens : List Spanned
  pub has : Reads printed at text (Ok tokens)
  pub are : terminals printed (each (λ x. x.token) tokens) ≡ ts

abbrev pub Scans : List ℕ → List Terminal → Type 0
Scans text ts = (at : ℕ) → Scanned at text ts

pub scan_end : Scans [] (mark marks.End ∷ [])
unfolding step
scan_end at = record { tokens = _; has = at_end refl; are = refl }

-- a blank more
pub scan_blank : (b : ℕ) (text : List ℕ) (ts : List Terminal) → is_blank b ≡ true → Scans text ts → Scans (b ∷ text) ts
unfolding step
scan_blank b text ts e s at =
    let m = s (at + 1) in
    record { tokens = m.tokens; has = over_gap (rw e refl) m.has; are = m.are }

-- a token more
pub scan_token : (w text : List ℕ) (u : Token) (ts : List Terminal) → ((at : ℕ) → step printed at (w ++ text) ≡ takes u (length w)) → Scans text ts → Scans (w ++ text) (terminal printed u ∷ ts)
scan_token w text u ts e s at =
    let m = s (at + length w) in
    record {
      tokens = spanned u at (at + length w) ∷ m.tokens;
      has = over_token (e at) (subst (λ bs. Reads printed (at + length w) bs (Ok m.tokens)) (sym (drop-append_seam w text)) m.has) refl;
      are = ap (λ us. terminal printed u ∷ us) m.are;
    }

-- no front of the text that is longer than these bytes spells a token
abbrev pub Ends : List ℕ → List ℕ → Type 0
Ends w [] = ⊤
Ends w (c ∷ cs) = (e : List ℕ) → token_of printed (w ++ (c ∷ e)) ≡ None

longer : (w text : List ℕ) → Ends w text → (k : ℕ) → length w < k → k ≤ length (w ++ text) → token_of printed (take k (w ++ text)) ≡ None
longer w [] h k p q = absurd (omega (arith, length-append w []))
longer w (c ∷ cs) h k p q =
    let j = k - length w - 1 in
    let e : length w + suc j ≡ k = omega arith in
    ap (λ i. token_of printed (take i (w ++ (c ∷ cs)))) (sym e) ∙ ap (token_of printed) (take-append-add w (c ∷ cs) (suc j)) ∙ h (take j cs)

pub token_here : (at : ℕ) (w text : List ℕ) (u : Token) → token_of printed w ≡ Some u → is_too_large u ≡ false → Ends w text → token_step printed at (w ++ text) ≡ takes u (length w)
unfolding token_step
token_here at w text u e small h =
    let front : token_of printed (take (length w) (w ++ text)) ≡ Some u = ap (token_of printed) (take-append_seam w text) ∙ e in
    let len : longest_front (spells printed) (w ++ text) ≡ length w = longest_front_is (spells printed) (w ++ text) (length w)
    (record { within = omega (arith, length-append w text); passes = λ _. ap is_some front; longer = λ k p q. ap is_some (longer w text h k p q) }) in
    rw (len, front, small) refl

-- where neither a blank nor a comment begins
step_here : (at b : ℕ) (bs : List ℕ) → is_blank b ≡ false → nat_eq 47 b ≡ false → step printed at (b ∷ bs) ≡ token_step printed at (b ∷ bs)
unfolding step
step_here at b bs e f = rw (e, f) refl

-- a token whose first byte is neither a blank nor a slash, before what ends it
pub scan : (b : ℕ) (bs text : List ℕ) (u : Token) (ts : List Terminal) → is_blank b ≡ false → nat_eq 47 b ≡ false → token_of printed (b ∷ bs) ≡ Some u → is_too_large u ≡ false → Ends (b ∷ bs) text
    → Scans text ts → Scans (b ∷ (bs ++ text)) (terminal printed u ∷ ts)
scan b bs text u ts e f g small h s = scan_token (b ∷ bs) text u ts (λ at. step_here at b (bs ++ text) e f ∙ token_here at (b ∷ bs) text u g small h) s

-- the text begins with a byte that goes on with no word
abbrev pub Shut : List ℕ → Type 0
Shut [] = ⊥
Shut (c ∷ cs) = is_word_byte c ≡ false

-- it does, or is empty
abbrev pub Stops : List ℕ → Type 0
Stops [] = ⊤
Stops (c ∷ cs) = is_word_byte c ≡ false

-- what is asked of what follows
abbrev pub Needs : Bool → List ℕ → Type 0
Needs true text = Stops text
Needs false text = ⊤

-- the text has the tokens of the piece, where what follows needs to stop a word, or whatever follows
pub record Lexed (b : Bool) (x : List ℕ) (p : Piece) : Type 0 where
  pub scans : (text : List ℕ) (ts : List Terminal) → Needs b text → Scans text ts → Scans (x ++ text) (p ts)

shut-stops : (x text : List ℕ) → Shut x → Stops (x ++ text)
shut-stops [] text h = absurd h
shut-stops (c ∷ cs) text h = h

pub shut-append : (x y : List ℕ) → Shut x → Shut (x ++ y)
shut-append [] y h = absurd h
shut-append (c ∷ cs) y h = h

-- what asks nothing serves where something may be asked
pub loose : {x : List ℕ} {p : Piece} → Lexed false x p → Lexed true x p
loose h = record { scans = λ text ts n s. h.scans text ts tt s }

pub lex_nothing : Lexed true [] (λ r. r)
lex_nothing = record { scans = λ text ts n s. s }

-- two pieces side by side
pub put : {b : Bool} {x y : List ℕ} {p q : Piece} → Lexed false x p → Lexed b y q → Lexed b (x ++ y) (λ r. p (q r))
put {b} {x} {y} {p} {q} h k = record {
  scans = λ text ts n s. subst (λ us. Scans us (p (q ts))) (sym (append_assoc x y text)) (h.scans (y ++ text) (q ts) tt (k.scans text ts n s));
}

pub join : {b : Bool} {x y : List ℕ} {p q : Piece} → Lexed true x p → Shut y → Lexed b y q → Lexed b (x ++ y) (λ r. p (q r))
join {b} {x} {y} {p} {q} h e k = record {
  scans = λ text ts n s. subst (λ us. Scans us (p (q ts))) (sym (append_assoc x y text)) (h.scans (y ++ text) (q ts) (shut-stops y text e) (k.scans text ts n s));
}
