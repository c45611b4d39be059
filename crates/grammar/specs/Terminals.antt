-- Keys and signs, and the terminals of the grammar.
use Rattle.std.specs.Prelude.{ℕ, Bool, false, nat_eq, List, [], ◌∷◌, if◌then◌else◌, codes, Option, Some, None, map as each}
use Rattle.std.specs.Str.{bytes_eq}
use Rattle.calculus.specs.Texts.{from_hex}
use Rattle.tokens.specs.Token.{Notation, source, printed, Token, word, key, sign, integer, string, uri, fresh_name, byte_array, end_of_text}
use Rattle.grammar.specs.declared.mark.Mark.{Mark}
use Rattle.grammar.specs.declared.mark.Mark.TheVariants as marks

-- the bytes of a key or a sign; the end has none
abbrev pub mark_bytes : Mark → List ℕ
mark_bytes marks.Nil = codes "Nil"
mark_bytes marks.New = codes "new"
mark_bytes marks.In = codes "in"
mark_bytes marks.For = codes "for"
mark_bytes marks.Contract = codes "contract"
mark_bytes marks.Match = codes "match"
mark_bytes marks.If = codes "if"
mark_bytes marks.Else = codes "else"
mark_bytes marks.True = codes "true"
mark_bytes marks.False = codes "false"
mark_bytes marks.Not = codes "not"
mark_bytes marks.And = codes "and"
mark_bytes marks.Or = codes "or"
mark_bytes marks.Set = codes "Set"
mark_bytes marks.Bool = codes "Bool"
mark_bytes marks.Int = codes "Int"
mark_bytes marks.String = codes "String"
mark_bytes marks.Uri = codes "Uri"
mark_bytes marks.ByteArray = codes "ByteArray"
mark_bytes marks.Bundle = codes "bundle"
mark_bytes marks.BundleNeither = codes "bundle0"
mark_bytes marks.BundleWrite = codes "bundle+"
mark_bytes marks.BundleRead = codes "bundle-"
mark_bytes marks.Ellipsis = codes "..."
mark_bytes marks.PeekArrow = codes "<<-"
mark_bytes marks.DoubleBang = codes "!!"
mark_bytes marks.Unequal = codes "!="
mark_bytes marks.Arrow = codes "<-"
mark_bytes marks.LessEqual = codes "<="
mark_bytes marks.GreaterEqual = codes ">="
mark_bytes marks.Equal = codes "=="
mark_bytes marks.FatArrow = codes "=>"
mark_bytes marks.DoublePlus = codes "++"
mark_bytes marks.DoubleMinus = codes "--"
mark_bytes marks.Both = codes "/\\"
mark_bytes marks.Either = codes "\\/"
mark_bytes marks.Bar = codes "|"
mark_bytes marks.Bang = codes "!"
mark_bytes marks.Open = codes "("
mark_bytes marks.Close = codes ")"
mark_bytes marks.OpenBrace = codes "{"
mark_bytes marks.CloseBrace = codes "}"
mark_bytes marks.OpenSquare = codes "["
mark_bytes marks.CloseSquare = codes "]"
mark_bytes marks.Comma = codes ","
mark_bytes marks.Semicolon = codes ";"
mark_bytes marks.Ampersand = codes "&"
mark_bytes marks.Colon = codes ":"
mark_bytes marks.Dot = codes "."
mark_bytes marks.At = codes "@"
mark_bytes marks.Star = codes "*"
mark_bytes marks.Less = codes "<"
mark_bytes marks.Greater = codes ">"
mark_bytes marks.Assign = codes "="
mark_bytes marks.Plus = codes "+"
mark_bytes marks.Minus = codes "-"
mark_bytes marks.Slash = codes "/"
mark_bytes marks.Percent = codes "%"
mark_bytes marks.Tilde = codes "~"
mark_bytes marks.Underscore = codes "_"
mark_bytes marks.End = []

-- a number for each mark
abbrev pub code : Mark → ℕ
code marks.Nil = 0
code marks.New = 1
code marks.In = 2
code marks.For = 3
code marks.Contract = 4
code marks.Match = 5
code marks.If = 6
code marks.Else = 7
code marks.True = 8
code marks.False = 9
code marks.Not = 10
code marks.And = 11
code marks.Or = 12
code marks.Set = 13
code marks.Bool = 14
code marks.Int = 15
code marks.String = 16
code marks.Uri = 17
code marks.ByteArray = 18
code marks.Bundle = 19
code marks.BundleNeither = 20
code marks.BundleWrite = 21
code marks.BundleRead = 22
code marks.Ellipsis = 23
code marks.PeekArrow = 24
code marks.DoubleBang = 25
code marks.Unequal = 26
code marks.Arrow = 27
code marks.LessEqual = 28
code marks.GreaterEqual = 29
code marks.Equal = 30
code marks.FatArrow = 31
code marks.DoublePlus = 32
code marks.DoubleMinus = 33
code marks.Both = 34
code marks.Either = 35
code marks.Bar = 36
code marks.Bang = 37
code marks.Open = 38
code marks.Close = 39
code marks.OpenBrace = 40
code marks.CloseBrace = 41
code marks.OpenSquare = 42
code marks.CloseSquare = 43
code marks.Comma = 44
code marks.Semicolon = 45
code marks.Ampersand = 46
code marks.Colon = 47
code marks.Dot = 48
code marks.At = 49
code marks.Star = 50
code marks.Less = 51
code marks.Greater = 52
code marks.Assign = 53
code marks.Plus = 54
code marks.Minus = 55
code marks.Slash = 56
code marks.Percent = 57
code marks.Tilde = 58
code marks.Underscore = 59
code marks.End = 60

-- the keys
abbrev pub key_marks : List Mark
key_marks =
    marks.Nil ∷ marks.New ∷ marks.In ∷ marks.For ∷ marks.Contract ∷ marks.Match ∷ marks.If ∷ marks.Else ∷
    marks.True ∷ marks.False ∷ marks.Not ∷ marks.And ∷ marks.Or ∷ marks.Set ∷ marks.Bool ∷ marks.Int ∷
    marks.String ∷ marks.Uri ∷ marks.ByteArray ∷ marks.Bundle ∷ marks.BundleNeither ∷ marks.BundleWrite ∷
    marks.BundleRead ∷ []

-- the signs
abbrev pub sign_marks : List Mark
sign_marks =
    marks.Ellipsis ∷ marks.PeekArrow ∷ marks.DoubleBang ∷ marks.Unequal ∷ marks.Arrow ∷ marks.LessEqual ∷
    marks.GreaterEqual ∷ marks.Equal ∷ marks.FatArrow ∷ marks.DoublePlus ∷ marks.DoubleMinus ∷ marks.Both ∷
    marks.Either ∷ marks.Bar ∷ marks.Bang ∷ marks.Open ∷ marks.Close ∷ marks.OpenBrace ∷ marks.CloseBrace ∷
    marks.OpenSquare ∷ marks.CloseSquare ∷ marks.Comma ∷ marks.Semicolon ∷ marks.Ampersand ∷ marks.Colon ∷
    marks.Dot ∷ marks.At ∷ marks.Star ∷ marks.Less ∷ marks.Greater ∷ marks.Assign ∷ marks.Plus ∷
    marks.Minus ∷ marks.Slash ∷ marks.Percent ∷ marks.Tilde ∷ marks.Underscore ∷ []

-- which text a token holds
pub data Holding : Type 0 where
  a_word : Holding
  a_string : Holding
  a_uri : Holding
  a_fresh_name : Holding
  a_byte_array : Holding

-- what the grammar tells apart in a token: a text of some kind, a number, a mark, or what no text of the grammar has
pub data Terminal : Type 0 where
  text : Holding → List ℕ → Terminal
  number : ℕ → Terminal
  mark : Mark → Terminal
  stranger : Terminal

-- the first of these marks that has the bytes
abbrev pub mark_among : List Mark → List ℕ → Terminal
mark_among [] bytes = stranger
mark_among (m ∷ ms) bytes = if bytes_eq (mark_bytes m) bytes then mark m else mark_among ms bytes

-- the bytes that digits spell
abbrev pub of_digits : Holding → Option (List ℕ) → Terminal
of_digits holding (Some bytes) = text holding bytes
of_digits holding None = stranger

-- the terminal of a token; a source has no fresh names and no byte arrays
abbrev pub terminal : Notation → Token → Terminal
terminal notation (word bytes) = text a_word bytes
terminal notation (key bytes) = mark_among key_marks bytes
terminal notation (sign bytes) = mark_among sign_marks bytes
terminal notation (integer n) = number n
terminal notation (string bytes) = text a_string bytes
terminal notation (uri bytes) = text a_uri bytes
terminal source (fresh_name digits) = stranger
terminal printed (fresh_name digits) = of_digits a_fresh_name (from_hex digits)
terminal source (byte_array digits) = stranger
terminal printed (byte_array digits) = of_digits a_byte_array (from_hex digits)
terminal notation end_of_text = mark marks.End

-- the terminals of tokens
abbrev pub terminals : Notation → List Token → List Terminal
terminals notation = each (terminal notation)

-- the next terminal is this mark
abbrev pub sees : Mark → List Terminal → Bool
sees m (mark k ∷ ts) = nat_eq (code k) (code m)
sees m _ = false
