-- Which token a list of bytes spells.
use Rattle.std.specs.Prelude.{◌≡◌, ◌≤◌, ◌^◌, ℕ, ◌+◌, ◌-◌, ◌*◌, ◌%◌, Bool, true, false, ◌&&◌, ◌||◌, ◌==◌, if◌then◌else◌, List, [], ◌∷◌, length, is_some, Option, Some, None, fold}
use Rattle.std.specs.Option.{option_map, option_and_then, option_or}
use Rattle.std.specs.List.{list_all, list_any}
use Rattle.std.specs.Str.{IsUtf8}
use Rattle.tokens.specs.Bytes.{quote, back_quote, underscore, is_digit, is_hex_digit, is_word_start, is_word_byte}
use Rattle.tokens.specs.Quoted.{between_marks, string_contents, uri_contents}
use Rattle.tokens.specs.Tables.{keys, signs, is_among}
use Rattle.tokens.specs.Token.{Notation, source, printed, Token, word, key, sign, integer, string, uri, fresh_name, byte_array, end_of_text}

-- this token, where the test passes
abbrev pub only_if : Bool → Token → Option Token
only_if test token = if test then Some token else None

-- whether there are bytes, each of which passes the test
abbrev pub some_all : (ℕ → Bool) → List ℕ → Bool
some_all test [] = false
some_all test (b ∷ bs) = list_all test (b ∷ bs)

-- a letter or an apostrophe, then letters, digits, underscores and apostrophes; or an underscore,
-- then at least one of these
abbrev pub is_word : List ℕ → Bool
is_word [] = false
is_word (b ∷ bs) =
    (is_word_start b && list_all is_word_byte bs) || (b == underscore && some_all is_word_byte bs)

-- the number that digits spell
abbrev pub decimal : List ℕ → ℕ
decimal digits = fold (λ n digit. n * 10 + (digit - 48)) 0 digits

-- a dollar sign and 64 hexadecimal digits
abbrev pub fresh_name_of : List ℕ → Option Token
fresh_name_of [] = None
fresh_name_of (b ∷ bs) =
    only_if (b == 36 && length bs == 64 && list_all is_hex_digit bs) (fresh_name bs)

-- a number sign and an even number of hexadecimal digits
abbrev pub byte_array_of : List ℕ → Option Token
byte_array_of [] = None
byte_array_of (b ∷ bs) =
    only_if (b == 35 && length bs % 2 == 0 && list_all is_hex_digit bs) (byte_array bs)

-- the forms that printed terms have beside those of sources
abbrev pub printed_form_of : Notation → List ℕ → Option Token
printed_form_of source bytes = None
printed_form_of printed bytes = option_or (fresh_name_of bytes) (byte_array_of bytes)

-- a key
abbrev pub key_of : List ℕ → Option Token
key_of bytes = only_if (is_among keys bytes) (key bytes)

-- a word
abbrev pub word_of : List ℕ → Option Token
word_of bytes = only_if (is_word bytes) (word bytes)

-- a sign
abbrev pub sign_of : List ℕ → Option Token
sign_of bytes = only_if (is_among signs bytes) (sign bytes)

-- one or more digits
abbrev pub integer_of : List ℕ → Option Token
integer_of bytes = only_if (some_all is_digit bytes) (integer (decimal bytes))

-- a string between its quotes
abbrev pub string_of : List ℕ → Option Token
string_of bytes = option_map string (option_and_then string_contents (between_marks quote bytes))

-- a Uri between its back quotes
abbrev pub uri_of : List ℕ → Option Token
uri_of bytes = option_map uri (option_and_then uri_contents (between_marks back_quote bytes))

-- the token that the bytes spell, if they spell one; what is a key is no word, and an integer may be
-- of any size here
unfoldable pub token_of : Notation → List ℕ → Option Token
token_of notation bytes =
    option_or (key_of bytes) (option_or (word_of bytes) (option_or (sign_of bytes) (option_or (integer_of bytes)
    (option_or (string_of bytes) (option_or (uri_of bytes) (printed_form_of notation bytes))))))

-- whether the bytes spell a token
abbrev pub spells : Notation → List ℕ → Bool
spells notation bytes = is_some (token_of notation bytes)

-- the content of a token, other than the end, is of its form
abbrev pub HasForm : Token → Type 0
HasForm (word bytes) = (is_word bytes ≡ true) × (is_among keys bytes ≡ false)
HasForm (key bytes) = is_among keys bytes ≡ true
HasForm (sign bytes) = is_among signs bytes ≡ true
HasForm (integer n) = n ≤ 2 ^ 63
HasForm (string text) = IsUtf8 text
HasForm (uri text) = IsUtf8 text × (list_any (λ b. b == back_quote) text ≡ false)
HasForm (fresh_name digits) = (length digits ≡ 64) × (list_all is_hex_digit digits ≡ true)
HasForm (byte_array digits) = (length digits % 2 ≡ 0) × (list_all is_hex_digit digits ≡ true)
HasForm end_of_text = ⊥
