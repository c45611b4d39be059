-- The tokens of a text, or the place and the cause for which it has none.
use Rattle.std.specs.Prelude.{◌≡◌, ◌≤◌, ◌<◌, ℕ, ◌+◌, ◌^◌, Bool, false, ◌==◌, nat_lt, nat_eq, if◌then◌else◌, List, [], ◌∷◌, ◌++◌, length, take, drop, Option, Some, None, Result, Ok, Err, codes}
use Rattle.std.specs.List.{starts_with, position_or_len}
use Rattle.tokens.specs.Bytes.{line_feed, quote, back_quote, is_blank}
use Rattle.tokens.specs.Fronts.{longest_front, place_of}
use Rattle.tokens.specs.Quoted.{quoted_refusal, string_contents, uri_contents}
use Rattle.tokens.specs.Spelling.{token_of, spells, HasForm}
use Rattle.tokens.specs.Token.{Notation, Token, integer, end_of_text, Spanned, bad_byte, open_comment, literal_too_large, Refusal, refusal, spanned}

-- what stands at a place of a text: its end, so many bytes between tokens, a token of so many bytes,
-- or what refuses it
pub data Step : Type 0 where
  finish : Step
  gap : ℕ → Step
  takes : Token → ℕ → Step
  refuses : Refusal → Step

-- an integer above 2^63
abbrev pub is_too_large : Token → Bool
is_too_large (integer n) = nat_lt (2 ^ 63) n
is_too_large _ = false

-- why no token begins at this place: a string or Uri that begins there goes wrong, or no token
-- begins with that byte
abbrev pub no_token : ℕ → List ℕ → Refusal
no_token at [] = refusal bad_byte at
no_token at (b ∷ bs) =
    if b == quote then quoted_refusal string_contents at bs
    else (if b == back_quote then quoted_refusal uri_contents at bs else refusal bad_byte at)

-- what stands where the longest front that spells a token has this length and spells this one
abbrev pub longest : ℕ → List ℕ → ℕ → Option Token → Step
longest at text len None = refuses (no_token at text)
longest at text len (Some token) =
    if is_too_large token then refuses (refusal literal_too_large at) else takes token len

-- where neither a blank nor a comment begins: the longest token
unfoldable pub token_step : Notation → ℕ → List ℕ → Step
token_step notation at text =
    let len = longest_front (spells notation) text in
    longest at text len (token_of notation (take len text))

-- a comment from its opening mark, by the place of the closing one among the bytes between
abbrev pub block_comment : ℕ → Option ℕ → Step
block_comment at None = refuses (refusal open_comment at)
block_comment at (Some n) = gap (n + 4)

-- what stands at this place, where the text goes on so: a blank, a comment up to the next line feed
-- or the end, a comment up to the next closing mark, or else the longest token
unfoldable pub step : Notation → ℕ → List ℕ → Step
step notation at [] = finish
step notation at (b ∷ bs) = let text = b ∷ bs in
    if is_blank b then gap 1
    else (if starts_with nat_eq text (codes "//") then gap (position_or_len (λ c. c == line_feed) text)
    else (if starts_with nat_eq text (codes "/*") then block_comment at (place_of (codes "*/") (drop 2 text))
    else token_step notation at text))

-- what a text comes to: its tokens, or its refusal
abbrev pub Outcome : Type 0
Outcome = Result (List Spanned) Refusal

-- these tokens, and then what follows
abbrev pub after_tokens : List Spanned → Outcome → Outcome
after_tokens tokens (Ok more) = Ok (tokens ++ more)
after_tokens tokens (Err refusal) = Err refusal

-- what the text comes to from this place on, cut from the left into gaps and longest tokens
pub data Reads (notation : Notation) : ℕ → List ℕ → Outcome → Type 0 where
  at_end : {at : ℕ} {text : List ℕ} → step notation at text ≡ finish
      → Reads notation at text (Ok (spanned end_of_text at at ∷ []))
  over_gap : {at len : ℕ} {text : List ℕ} {outcome : Outcome} → step notation at text ≡ gap len
      → Reads notation (at + len) (drop len text) outcome → Reads notation at text outcome
  over_token : {at len : ℕ} {text : List ℕ} {token : Token} {outcome whole : Outcome}
      → step notation at text ≡ takes token len
      → Reads notation (at + len) (drop len text) outcome
      → whole ≡ after_tokens (spanned token at (at + len) ∷ []) outcome
      → Reads notation at text whole
  refused : {at : ℕ} {text : List ℕ} {refusal : Refusal} → step notation at text ≡ refuses refusal
      → Reads notation at text (Err refusal)

-- the text is these tokens, with gaps between them, and the end
abbrev pub HasTokens : Notation → List ℕ → List Spanned → Type 0
HasTokens notation text tokens = Reads notation 0 text (Ok tokens)

-- the text has no tokens, first of all for this cause at this place
abbrev pub IsRefused : Notation → List ℕ → Refusal → Type 0
IsRefused notation text refusal = Reads notation 0 text (Err refusal)

-- the tokens stand in order from this place on: each but the last has bytes and its form, and the
-- last is the end, with its span at `last`
abbrev pub AreInOrder : ℕ → ℕ → List Spanned → Type 0
AreInOrder at last [] = ⊥
AreInOrder at last (t ∷ []) = (at ≤ last) × (t ≡ spanned end_of_text last last)
AreInOrder at last (t ∷ u ∷ ts) =
    (at ≤ t.start) × (t.start < t.end) × HasForm t.token × AreInOrder t.end last (u ∷ ts)

-- the token is the one that this many bytes at the front of the text spell, and no longer front
-- spells any
pub record IsLongestToken (notation : Notation) (text : List ℕ) (token : Token) (len : ℕ) : Type 0 where
  pub spelt : token_of notation (take len text) ≡ Some token
  pub longer : (k : ℕ) → len < k → k ≤ length text → token_of notation (take k text) ≡ None
