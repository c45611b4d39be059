-- The tokens of a made input.
use Rattle.std.proofs.Common.{◌≡◌, ◌<◌, ℕ, zero, suc, get_or, ◌^◌, Bool, true, false, ◌&&◌, List, [], ◌∷◌, ◌++◌, refl, ap, ◌∙◌, arith}
use Rattle.std.specs.Prelude.{codes, decimal, pos}
use Rattle.std.specs.List.{list_all}
use Rattle.std.proofs.lemmas.Bool.Decides.{nat_tests}
use Rattle.std.proofs.lemmas.Int.{ints}
use Rattle.std.proofs.lemmas.List.Folds.{list_all-append}
use Rattle.std.proofs.lemmas.Str.{IsUtf8-from_ascii}
use Rattle.calculus.specs.declared.plain.Kind.TheVariants as kinds
use Rattle.tokens.specs.Bytes.{is_digit}
use Rattle.tokens.specs.Spelling.{token_of}
use Rattle.tokens.specs.Tables.{keys, signs}
use Rattle.tokens.specs.Token.{word, key, sign}
use Rattle.grammar.specs.declared.mark.Mark.TheVariants as marks
use Rattle.grammar.specs.Terminals.{text, number, mark, a_string}
use Rattle.printed_spelling.proofs.Heads.{and_halves}
use Rattle.printed_spelling.proofs.Numbers.{all_digits, lex_int}
use Rattle.printed_spelling.proofs.Pieces.{Piece, worded}
use Rattle.printed_spelling.proofs.Scanning.{Lexed, put, join, Shut}
use Rattle.printed_spelling.proofs.Signs.{lex_space, spaced, lex_at, lex_open, lex_open_square, lex_close_square, lex_commas, lex_arrow, whole, until}
use Rattle.printed_spelling.proofs.Strings.{lex_str}
use Rattle.printed_spelling.proofs.Words.{lex_stopped, no_word_then}
use Rattle.made_input.specs.MadeInput.{count_channel, step_channel, sum_channel}
use Rattle.source_laws.proofs.Bridging.{is_plain}

-- the words of a lane
pub lex_k : Lexed true (codes "k") (worded (codes "k"))
unfolding token_of keys signs
lex_k = lex_stopped 107 [] (word (codes "k")) refl refl refl refl (λ c e n. no_word_then 107 [] c e (word (107 ∷ c ∷ e)) n)

pub lex_s : Lexed true (codes "s") (worded (codes "s"))
unfolding token_of keys signs
lex_s = lex_stopped 115 [] (word (codes "s")) refl refl refl refl (λ c e n. no_word_then 115 [] c e (word (115 ∷ c ∷ e)) n)

pub lex_v : Lexed true (codes "v") (worded (codes "v"))
unfolding token_of keys signs
lex_v = lex_stopped 118 [] (word (codes "v")) refl refl refl refl (λ c e n. no_word_then 118 [] c e (word (118 ∷ c ∷ e)) n)

-- its keys and signs that no printed text has
pub lex_if : Lexed false (codes "if (") (λ r. mark marks.If ∷ mark marks.Open ∷ r)
unfolding token_of keys signs
lex_if = until 105 (102 ∷ []) (key (codes "if")) 32 refl refl refl refl (λ e. refl) (spaced lex_open)

pub lex_else : Lexed false (codes " else ") (λ r. mark marks.Else ∷ r)
unfolding token_of keys signs
lex_else = spaced (until 101 (108 ∷ 115 ∷ 101 ∷ []) (key (codes "else")) 32 refl refl refl refl (λ e. refl) lex_space)

pub lex_semicolon : Lexed false (codes "; ") (λ r. mark marks.Semicolon ∷ r)
unfolding token_of keys signs
lex_semicolon = put (whole 59 [] (sign (codes ";")) refl refl refl refl (λ c e. refl)) lex_space

pub lex_to : Lexed false (codes " <= ") (λ r. mark marks.LessEqual ∷ r)
lex_to = spaced (lex_arrow kinds.Persistent)

-- a number
lex_number : (n : ℕ) → n < 2 ^ 63 → Lexed true (decimal n) (λ r. number n ∷ r)
lex_number n h = lex_int (pos n) (omega (arith, ints, h), omega (arith, ints, h))

-- the text has the tokens of the piece, and no fresh name and no byte array can stand in it
pub record Lined (b : Bool) (x : List ℕ) (p : Piece) : Type 0 where
  pub lexed : Lexed b x p
  pub plain : list_all is_plain x ≡ true

pub lined : {b : Bool} {x : List ℕ} {p : Piece} → Lexed b x p → list_all is_plain x ≡ true → Lined b x p
lined h e = record { lexed = h; plain = e }

both : (x y : List ℕ) → list_all is_plain x ≡ true → list_all is_plain y ≡ true → list_all is_plain (x ++ y) ≡ true
both x y h k = list_all-append is_plain x y ∙ (ap (λ b. b && list_all is_plain y) h ∙ k)

infixr 5 ◌>>◌
-- one after another
pub ◌>>◌ : {b : Bool} {x y : List ℕ} {p q : Piece} → Lined false x p → Lined b y q → Lined b (x ++ y) (λ r. p (q r))
◌>>◌ {x = x} {y = y} h k = record { lexed = put h.lexed k.lexed; plain = both x y h.plain k.plain }

-- the same after what a word's byte goes on with
pub then : {b : Bool} {x y : List ℕ} {p q : Piece} → Lined true x p → Shut y → Lined b y q → Lined b (x ++ y) (λ r. p (q r))
then {x = x} {y = y} h e k = record { lexed = join h.lexed e k.lexed; plain = both x y h.plain k.plain }

plain-digit : (d : ℕ) → is_digit d ≡ true → is_plain d ≡ true
plain-digit d h = grind (arith, nat_tests, h)

plain-digits : (ds : List ℕ) → list_all is_digit ds ≡ true → list_all is_plain ds ≡ true
plain-digits [] h = refl
plain-digits (d ∷ ds) h =
    let k = and_halves (is_digit d) (list_all is_digit ds) h in
    ap (λ b. b && list_all is_plain ds) (plain-digit d k.0) ∙ plain-digits ds k.1

pub a-number : (n : ℕ) → n < 2 ^ 63 → Lined true (decimal n) (λ r. number n ∷ r)
a-number n h = lined (lex_number n h) (plain-digits (decimal n) (all_digits n))

-- a channel, from the text of its word
abbrev pub channel-piece : List ℕ → ℕ → Piece
channel-piece w lane r = mark marks.At ∷ mark marks.OpenSquare ∷ text a_string w ∷ mark marks.Comma ∷ number lane ∷ mark marks.CloseSquare ∷ r

at-channel : {x : List ℕ} {p : Piece} → Lined false x p → (lane : ℕ) → lane < 2 ^ 63
    → Lined false (codes "@" ++ (codes "[" ++ (x ++ (codes ", " ++ (decimal lane ++ codes "]"))))) (λ r. mark marks.At ∷ mark marks.OpenSquare ∷ p (mark marks.Comma ∷ number lane ∷ mark marks.CloseSquare ∷ r))
at-channel h lane k =
    lined lex_at refl >> lined lex_open_square refl >> h >> lined lex_commas refl >> then (a-number lane k) refl (lined lex_close_square refl)

one-small : (a : ℕ) → a < 128 → (i : ℕ) → get_or (a ∷ []) i 0 < 128
one-small a h zero = h
one-small a h (suc i) = omega arith

three-small : (a b c : ℕ) → a < 128 → b < 128 → c < 128 → (i : ℕ) → get_or (a ∷ b ∷ c ∷ []) i 0 < 128
three-small a b c h j k zero = h
three-small a b c h j k (suc zero) = j
three-small a b c h j k (suc (suc zero)) = k
three-small a b c h j k (suc (suc (suc i))) = omega arith

module _ (lane : ℕ) (small : lane < 2 ^ 63) where
  pub count : Lined false (count_channel lane) (channel-piece (codes "t") lane)
  count = at-channel (lined (lex_str (codes "t") (IsUtf8-from_ascii (codes "t") (one-small 116 (omega arith)))) refl) lane small

  pub step : Lined false (step_channel lane) (channel-piece (codes "v") lane)
  step = at-channel (lined (lex_str (codes "v") (IsUtf8-from_ascii (codes "v") (one-small 118 (omega arith)))) refl) lane small

  pub sum : Lined false (sum_channel lane) (channel-piece (codes "sum") lane)
  sum = at-channel (lined (lex_str (codes "sum") (IsUtf8-from_ascii (codes "sum") (three-small 115 117 109 (omega arith) (omega arith) (omega arith)))) refl) lane small
