-- Keys and signs of printed texts, each with what stands beside it there.
use Rattle.std.proofs.Common.{◌≡◌, ℕ, Bool, true, false, List, [], ◌∷◌, ◌++◌, refl, sym, subst}
use Rattle.std.proofs.lemmas.List.{append_assoc}
use Rattle.std.specs.Prelude.{nat_eq, Some, None, codes}
use Rattle.calculus.specs.declared.plain.Rights.{Rights}
use Rattle.calculus.specs.declared.plain.Rights.TheVariants as rights
use Rattle.calculus.specs.declared.plain.Kind.{Kind}
use Rattle.calculus.specs.declared.plain.Kind.TheVariants as kinds
use Rattle.calculus.specs.Printed.{rights_text, arrow_text, marks as send_marks}
use Rattle.tokens.specs.Bytes.{is_blank}
use Rattle.tokens.specs.Reading.{is_too_large}
use Rattle.tokens.specs.Spelling.{token_of}
use Rattle.tokens.specs.Tables.{keys, signs}
use Rattle.tokens.specs.Token.{printed, Token, key, sign}
use Rattle.grammar.specs.declared.mark.Mark.TheVariants as marks
use Rattle.grammar.specs.Grammar.{bang, bundle_mark, arrow_mark}
use Rattle.grammar.specs.Terminals.{mark, terminal}
use Rattle.printed_spelling.proofs.Pieces.{Piece, nothing, marked}
use Rattle.printed_spelling.proofs.Scanning.{Scans, Ends, scan, scan_blank, Lexed, put}

-- a token that no byte goes on with
always : (w : List ℕ) → ((c : ℕ) (e : List ℕ) → token_of printed (w ++ (c ∷ e)) ≡ None) → (text : List ℕ) → Ends w text
always w h [] = tt
always w h (c ∷ cs) = λ e. h c e

pub whole : (b : ℕ) (bs : List ℕ) (u : Token) → is_blank b ≡ false → nat_eq 47 b ≡ false → token_of printed (b ∷ bs) ≡ Some u → is_too_large u ≡ false
    → ((c : ℕ) (e : List ℕ) → token_of printed (b ∷ (bs ++ (c ∷ e))) ≡ None) → Lexed false (b ∷ bs) (λ r. terminal printed u ∷ r)
whole b bs u e f g small h = record { scans = λ text ts n s. scan b bs text u ts e f g small (always (b ∷ bs) h text) s }

-- one that this byte doesn't go on with
pub until : {k : Bool} {x : List ℕ} {p : Piece} (b : ℕ) (bs : List ℕ) (u : Token) (c : ℕ) → is_blank b ≡ false → nat_eq 47 b ≡ false → token_of printed (b ∷ bs) ≡ Some u → is_too_large u ≡ false
    → ((e : List ℕ) → token_of printed (b ∷ (bs ++ (c ∷ e))) ≡ None) → Lexed k (c ∷ x) p → Lexed k ((b ∷ bs) ++ (c ∷ x)) (λ r. terminal printed u ∷ p r)
until {k} {x} {p} b bs u c e f g small h l = record {
  scans = λ text ts n s. subst (λ us. Scans us (terminal printed u ∷ p ts)) (sym (append_assoc (b ∷ bs) (c ∷ x) text)) (scan b bs (c ∷ (x ++ text)) u (p ts) e f g small h (l.scans text ts n s));
}

pub lex_space : Lexed false (codes " ") nothing
lex_space = record { scans = λ text ts n s. scan_blank 32 text ts refl s }

-- a blank before a piece
pub spaced : {k : Bool} {x : List ℕ} {p : Piece} → Lexed k x p → Lexed k (32 ∷ x) p
spaced h = put lex_space h

pub lex_open : Lexed false (codes "(") (marked marks.Open)
unfolding token_of keys signs
lex_open = whole 40 [] (sign (codes "(")) refl refl refl refl (λ c e. refl)

pub lex_close : Lexed false (codes ")") (marked marks.Close)
unfolding token_of keys signs
lex_close = whole 41 [] (sign (codes ")")) refl refl refl refl (λ c e. refl)

pub lex_open_brace : Lexed false (codes "{") (marked marks.OpenBrace)
unfolding token_of keys signs
lex_open_brace = whole 123 [] (sign (codes "{")) refl refl refl refl (λ c e. refl)

pub lex_close_brace : Lexed false (codes "}") (marked marks.CloseBrace)
unfolding token_of keys signs
lex_close_brace = whole 125 [] (sign (codes "}")) refl refl refl refl (λ c e. refl)

pub lex_open_square : Lexed false (codes "[") (marked marks.OpenSquare)
unfolding token_of keys signs
lex_open_square = whole 91 [] (sign (codes "[")) refl refl refl refl (λ c e. refl)

pub lex_close_square : Lexed false (codes "]") (marked marks.CloseSquare)
unfolding token_of keys signs
lex_close_square = whole 93 [] (sign (codes "]")) refl refl refl refl (λ c e. refl)

pub lex_comma : Lexed false (codes ",") (marked marks.Comma)
unfolding token_of keys signs
lex_comma = whole 44 [] (sign (codes ",")) refl refl refl refl (λ c e. refl)

lex_colon : Lexed false (codes ":") (marked marks.Colon)
unfolding token_of keys signs
lex_colon = whole 58 [] (sign (codes ":")) refl refl refl refl (λ c e. refl)

lex_bar : Lexed false (codes "|") (marked marks.Bar)
unfolding token_of keys signs
lex_bar = whole 124 [] (sign (codes "|")) refl refl refl refl (λ c e. refl)

lex_ampersand : Lexed false (codes "&") (marked marks.Ampersand)
unfolding token_of keys signs
lex_ampersand = whole 38 [] (sign (codes "&")) refl refl refl refl (λ c e. refl)

pub lex_at : Lexed false (codes "@") (marked marks.At)
unfolding token_of keys signs
lex_at = whole 64 [] (sign (codes "@")) refl refl refl refl (λ c e. refl)

pub lex_star : Lexed false (codes "*") (marked marks.Star)
unfolding token_of keys signs
lex_star = whole 42 [] (sign (codes "*")) refl refl refl refl (λ c e. refl)

pub lex_tilde : Lexed false (codes "~") (marked marks.Tilde)
unfolding token_of keys signs
lex_tilde = whole 126 [] (sign (codes "~")) refl refl refl refl (λ c e. refl)

pub lex_ellipsis : Lexed false (codes "...") (marked marks.Ellipsis)
unfolding token_of keys signs
lex_ellipsis = whole 46 (46 ∷ 46 ∷ []) (sign (codes "...")) refl refl refl refl (λ c e. refl)

-- separators
pub lex_commas : Lexed false (codes ", ") (marked marks.Comma)
lex_commas = put lex_comma lex_space

pub lex_bars : Lexed false (codes " | ") (marked marks.Bar)
lex_bars = spaced (put lex_bar lex_space)

pub lex_ampersands : Lexed false (codes " & ") (marked marks.Ampersand)
lex_ampersands = spaced (put lex_ampersand lex_space)

pub lex_colons : Lexed false (codes ": ") (marked marks.Colon)
lex_colons = put lex_colon lex_space

pub lex_wrapped : Lexed false (codes ") ") (marked marks.Close)
lex_wrapped = put lex_close lex_space

pub lex_begin : Lexed false (codes "{ ") (marked marks.OpenBrace)
lex_begin = put lex_open_brace lex_space

pub lex_end : Lexed false (codes " }") (marked marks.CloseBrace)
lex_end = spaced lex_close_brace

fat_arrow : Lexed false (codes "=>") (marked marks.FatArrow)
unfolding token_of keys signs
fat_arrow = whole 61 (62 ∷ []) (sign (codes "=>")) refl refl refl refl (λ c e. refl)

pub lex_case : Lexed false (codes ") => ") (λ r. mark marks.Close ∷ mark marks.FatArrow ∷ r)
lex_case = put lex_close (spaced (put fat_arrow lex_space))

double_bang : Lexed false (codes "!!") (marked marks.DoubleBang)
unfolding token_of keys signs
double_bang = whole 33 (33 ∷ []) (sign (codes "!!")) refl refl refl refl (λ c e. refl)

-- what stands between a channel and what is sent
pub lex_marks : (q : Bool) → Lexed false (send_marks q) (λ r. mark (bang q) ∷ mark marks.Open ∷ r)
unfolding token_of keys signs
lex_marks false = until 33 [] (sign (codes "!")) 40 refl refl refl refl (λ e. refl) lex_open
lex_marks true = put double_bang lex_open

-- what stands before the process of a pattern
pub lex_same : Lexed false (codes "={") (λ r. mark marks.Assign ∷ mark marks.OpenBrace ∷ r)
unfolding token_of keys signs
lex_same = until 61 [] (sign (codes "=")) 123 refl refl refl refl (λ e. refl) lex_open_brace

pub lex_minus : Lexed false (codes "(-{") (λ r. mark marks.Open ∷ mark marks.Minus ∷ mark marks.OpenBrace ∷ r)
unfolding token_of keys signs
lex_minus = put lex_open (until 45 [] (sign (codes "-")) 123 refl refl refl refl (λ e. refl) lex_open_brace)

pub lex_not : Lexed false (codes "(not ") (λ r. mark marks.Open ∷ mark marks.Not ∷ r)
unfolding token_of keys signs
lex_not = put lex_open (until 110 (111 ∷ 116 ∷ []) (key (codes "not")) 32 refl refl refl refl (λ e. refl) lex_space)

pub lex_set : Lexed false (codes "Set(") (λ r. mark marks.Set ∷ mark marks.Open ∷ r)
unfolding token_of keys signs
lex_set = until 83 (101 ∷ 116 ∷ []) (key (codes "Set")) 40 refl refl refl refl (λ e. refl) lex_open

pub lex_for : Lexed false (codes "for (") (λ r. mark marks.For ∷ mark marks.Open ∷ r)
unfolding token_of keys signs
lex_for = until 102 (111 ∷ 114 ∷ []) (key (codes "for")) 32 refl refl refl refl (λ e. refl) (spaced lex_open)

pub lex_match : Lexed false (codes "match (") (λ r. mark marks.Match ∷ mark marks.Open ∷ r)
unfolding token_of keys signs
lex_match = until 109 (97 ∷ 116 ∷ 99 ∷ 104 ∷ []) (key (codes "match")) 32 refl refl refl refl (λ e. refl) (spaced lex_open)

pub lex_new : Lexed false (codes "new ") (marked marks.New)
unfolding token_of keys signs
lex_new = until 110 (101 ∷ 119 ∷ []) (key (codes "new")) 32 refl refl refl refl (λ e. refl) lex_space

pub lex_in : Lexed false (codes " in ") (marked marks.In)
unfolding token_of keys signs
lex_in = spaced (until 105 (110 ∷ []) (key (codes "in")) 32 refl refl refl refl (λ e. refl) lex_space)

-- the words of bundles
pub lex_rights : (k : Rights) → Lexed false (rights_text k) (marked (bundle_mark k))
unfolding token_of keys signs
lex_rights rights.Neither = until 98 (117 ∷ 110 ∷ 100 ∷ 108 ∷ 101 ∷ 48 ∷ []) (key (codes "bundle0")) 32 refl refl refl refl (λ e. refl) lex_space
lex_rights rights.Write = until 98 (117 ∷ 110 ∷ 100 ∷ 108 ∷ 101 ∷ 43 ∷ []) (key (codes "bundle+")) 32 refl refl refl refl (λ e. refl) lex_space
lex_rights rights.Read = until 98 (117 ∷ 110 ∷ 100 ∷ 108 ∷ 101 ∷ 45 ∷ []) (key (codes "bundle-")) 32 refl refl refl refl (λ e. refl) lex_space
lex_rights rights.Both = until 98 (117 ∷ 110 ∷ 100 ∷ 108 ∷ 101 ∷ []) (key (codes "bundle")) 32 refl refl refl refl (λ e. refl) lex_space

-- the arrows of receives
pub lex_arrow : (k : Kind) → Lexed false (arrow_text k) (marked (arrow_mark k))
unfolding token_of keys signs
lex_arrow kinds.Linear = until 60 (45 ∷ []) (sign (codes "<-")) 32 refl refl refl refl (λ e. refl) lex_space
lex_arrow kinds.Persistent = until 60 (61 ∷ []) (sign (codes "<=")) 32 refl refl refl refl (λ e. refl) lex_space
lex_arrow kinds.Peek = until 60 (60 ∷ 45 ∷ []) (sign (codes "<<-")) 32 refl refl refl refl (λ e. refl) lex_space

-- a remainder behind the name patterns of a bind, and behind the members of a pattern
pub lex_hung : Lexed false (codes "...@") (λ r. mark marks.Ellipsis ∷ mark marks.At ∷ r)
lex_hung = put lex_ellipsis lex_at

pub lex_rest : Lexed false (codes " ...") (marked marks.Ellipsis)
lex_rest = spaced lex_ellipsis
