-- Tokens, where they stand, and why a text has none.
use Rattle.std.specs.Prelude.{ℕ, List}

-- which texts are meant: sources, or printed terms
pub data Notation : Type 0 where
  source : Notation
  printed : Notation

-- a token: a word, key or sign with its bytes, an integer with its value, a string or Uri with what it
-- means, and in printed terms a fresh name or a byte array with its hexadecimal digits; last, the end
pub data Token : Type 0 where
  word : List ℕ → Token
  key : List ℕ → Token
  sign : List ℕ → Token
  integer : ℕ → Token
  string : List ℕ → Token
  uri : List ℕ → Token
  fresh_name : List ℕ → Token
  byte_array : List ℕ → Token
  end_of_text : Token

-- a token with the place of its first byte and the place after its last one
pub record Spanned : Type 0 where
  pub token : Token
  pub start : ℕ
  pub end : ℕ

-- a token with its span
abbrev pub spanned : Token → ℕ → ℕ → Spanned
spanned token start end = record { token = token; start = start; end = end }

-- why a text has no tokens
pub data Cause : Type 0 where
  bad_byte : Cause
  open_string : Cause
  open_comment : Cause
  literal_too_large : Cause

-- a cause, and its place
pub record Refusal : Type 0 where
  pub cause : Cause
  pub at : ℕ

-- a refusal for this cause at this place
abbrev pub refusal : Cause → ℕ → Refusal
refusal cause at = record { cause = cause; at = at }
