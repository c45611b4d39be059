-- What the tokens and faults of the lexer mean.
use Rattle.std.specs.Str.{IsUtf8, IsValidUpTo}
use Rattle.std.specs.Prelude.{◌≡◌, ◌≤◌, ◌<◌, ℕ, ◌+◌, Bool, false, not, ◌&&◌, ◌==◌, if◌then◌else◌, List, [], ◌∷◌, length, drop, map, string_bytes, Result, Ok, Err, Option, Some, None}
use Rattle.tokens.specs.Bytes.{is_word_start, is_word_byte, underscore, quote, back_quote, backslash}
use Rattle.tokens.specs.Token as tokens
use Rattle.tokens.specs.Token.{source, refusal}
use Rattle.tokens.specs.Reading.{Step, Outcome, Reads, takes, refuses, step, token_step}
use Rattle.rho_lexer.specs.declared.token.Token.{Token}
use Rattle.rho_lexer.specs.declared.token.TokenKind.{TokenKind}
use Rattle.rho_lexer.specs.declared.token.TokenKind.TheVariants as kinds
use Rattle.rho_lexer.specs.declared.token.LexFault.{LexFault}
use Rattle.rho_lexer.specs.declared.token.LexFault.TheVariants as faults

-- the token that a kind is
abbrev pub kind_token : TokenKind → tokens.Token
kind_token (kinds.Word text) = tokens.word (string_bytes text)
kind_token (kinds.Key text) = tokens.key (string_bytes text)
kind_token (kinds.Sign text) = tokens.sign (string_bytes text)
kind_token (kinds.Int value) = tokens.integer value
kind_token (kinds.Str text) = tokens.string (string_bytes text)
kind_token (kinds.Uri text) = tokens.uri (string_bytes text)
kind_token kinds.End = tokens.end_of_text

-- the token with its span
abbrev pub spanned_token : Token → tokens.Spanned
spanned_token t = record { token = kind_token t.kind; start = t.start; end = t.end }

-- the tokens with their spans
abbrev pub spanned_tokens : List Token → List tokens.Spanned
spanned_tokens ts = map spanned_token ts

-- the refusal that a fault is, unless memory ran out
abbrev pub refusal_of : LexFault → Option tokens.Refusal
refusal_of (faults.BadByte at) = Some (refusal tokens.bad_byte at)
refusal_of (faults.OpenString at) = Some (refusal tokens.open_string at)
refusal_of (faults.OpenComment at) = Some (refusal tokens.open_comment at)
refusal_of (faults.LiteralTooLarge at) = Some (refusal tokens.literal_too_large at)
refusal_of faults.NoMemory = None

-- the fault is what the step refuses, unless memory ran out
abbrev pub IsFault : Step → LexFault → Type 0
IsFault s faults.NoMemory = Unit {0}
IsFault s (faults.BadByte at) = s ≡ refuses (refusal tokens.bad_byte at)
IsFault s (faults.OpenString at) = s ≡ refuses (refusal tokens.open_string at)
IsFault s (faults.OpenComment at) = s ≡ refuses (refusal tokens.open_comment at)
IsFault s (faults.LiteralTooLarge at) = s ≡ refuses (refusal tokens.literal_too_large at)

-- a kind of token and its number of bytes, or a fault, as the step has them
abbrev pub IsRead : Step → Result (TokenKind × ℕ) LexFault → Type 0
IsRead s (Ok read) = s ≡ takes (kind_token read.0) read.1
IsRead s (Err fault) = IsFault s fault

-- whether a word begins the text: an underscore does only before another byte of the word
abbrev pub begins_word : List ℕ → Bool
begins_word [] = false
begins_word (b ∷ []) = is_word_start b
begins_word (b ∷ c ∷ bs) = if b == underscore then is_word_byte c else is_word_start b

-- so many bytes at this place are gaps: what the text comes to behind them it comes to from here on
pub record AreGaps (at : ℕ) (text : List ℕ) (len : ℕ) : Type 0 where
  pub some : 0 < len
  pub within : len ≤ length text
  pub passed : (outcome : Outcome) → Reads source (at + len) (drop len text) outcome → Reads source at text outcome

-- the bytes of gaps that a text begins with at this place, where one does, or a fault, as the step has
-- them
abbrev pub IsGap : ℕ → List ℕ → Result (Option ℕ) LexFault → Type 0
IsGap at text (Ok None) = step source at text ≡ token_step source at text
IsGap at text (Ok (Some len)) = AreGaps at text len
IsGap at text (Err fault) = IsFault (step source at text) fault

-- a byte that stands for itself in a string
abbrev pub is_plain : ℕ → Bool
is_plain b = not (b == quote) && not (b == backslash)

-- a byte that may stand in a Uri
abbrev pub is_inside : ℕ → Bool
is_inside b = not (b == back_quote)

-- the fault is that the bytes stop being UTF-8 so many bytes after this place
abbrev pub IsIllFormed : List ℕ → ℕ → LexFault → Type 0
IsIllFormed bytes at fault =
    (len : ℕ) × (fault ≡ faults.BadByte (at + len)) × IsValidUpTo bytes len × ¬ (IsUtf8 bytes)

-- the fault is this refusal
abbrev pub IsRefusal : LexFault → tokens.Refusal → Type 0
IsRefusal fault refusal = refusal_of fault ≡ Some refusal
