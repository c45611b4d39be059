-- The kinds of bytes that tokens are made of, in ASCII.
use Rattle.std.specs.Prelude.{ℕ, Bool, ◌||◌, ◌&&◌, ◌==◌, nat_le}

-- a line feed
abbrev pub line_feed : ℕ
line_feed = 10

-- the mark before and after a string
abbrev pub quote : ℕ
quote = 34

-- the mark before and after a Uri
abbrev pub back_quote : ℕ
back_quote = 96

-- the mark before an escape
abbrev pub backslash : ℕ
backslash = 92

-- an underscore
abbrev pub underscore : ℕ
underscore = 95

-- an apostrophe
abbrev pub apostrophe : ℕ
apostrophe = 39

-- a space, a tab, a line feed or a carriage return
abbrev pub is_blank : ℕ → Bool
is_blank b = b == 32 || b == 9 || b == line_feed || b == 13

-- one of these bytes or between them
abbrev pub is_between : ℕ → ℕ → ℕ → Bool
is_between least most b = nat_le least b && nat_le b most

-- '0' to '9'
abbrev pub is_digit : ℕ → Bool
is_digit b = is_between 48 57 b

-- a digit or 'a' to 'f'
abbrev pub is_hex_digit : ℕ → Bool
is_hex_digit b = is_digit b || is_between 97 102 b

-- 'A' to 'Z' or 'a' to 'z'
abbrev pub is_letter : ℕ → Bool
is_letter b = is_between 65 90 b || is_between 97 122 b

-- what a word may begin with, other than an underscore
abbrev pub is_word_start : ℕ → Bool
is_word_start b = is_letter b || b == apostrophe

-- what a word may go on with
abbrev pub is_word_byte : ℕ → Bool
is_word_byte b = is_word_start b || is_digit b || b == underscore
