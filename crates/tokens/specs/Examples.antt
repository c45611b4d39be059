-- Worked examples of the definitions.
use Rattle.std.specs.Prelude.{[], ◌∷◌, replicate, codes}
use Rattle.tokens.specs.Reading.{HasTokens, IsRefused}
use Rattle.tokens.specs.Token.{source, printed, word, key, sign, integer, string, uri, fresh_name, byte_array, end_of_text, bad_byte, open_string, open_comment, literal_too_large, refusal, spanned}

-- x!(1)
abbrev pub SendsOne : Type 0
SendsOne = HasTokens source (codes "x!(1)")
    (spanned (word (codes "x")) 0 1 ∷ spanned (sign (codes "!")) 1 2
    ∷ spanned (sign (codes "(")) 2 3 ∷ spanned (integer 1) 3 4 ∷ spanned (sign (codes ")")) 4 5 ∷ spanned end_of_text 5 5 ∷ [])

-- a ? b
abbrev pub BadByteAlone : Type 0
BadByteAlone = IsRefused source (codes "a ? b") (refusal bad_byte 2)

-- "ab
abbrev pub OpenAtTheEnd : Type 0
OpenAtTheEnd = IsRefused source (codes "\"ab") (refusal open_string 0)

-- "a\q: the fault of a string comes before its missing mark
abbrev pub BadEscape : Type 0
BadEscape = IsRefused source (codes "\"a\\q") (refusal bad_byte 2)

-- 1 /* x
abbrev pub OpenComment : Type 0
OpenComment = IsRefused source (codes "1 /* x") (refusal open_comment 2)

-- /*/
abbrev pub ShortComment : Type 0
ShortComment = IsRefused source (codes "/*/") (refusal open_comment 0)

-- 9223372036854775809
abbrev pub TooLarge : Type 0
TooLarge = IsRefused source (codes "9223372036854775809") (refusal literal_too_large 0)

-- 9223372036854775808
abbrev pub Greatest : Type 0
Greatest = HasTokens source (codes "9223372036854775808")
    (spanned (integer 9223372036854775808) 0 19 ∷ spanned end_of_text 19 19 ∷ [])

-- "\, with no closing mark
abbrev pub LoneBackslash : Type 0
LoneBackslash = IsRefused source (codes "\"\\") (refusal open_string 0)

-- "\\", which means one backslash
abbrev pub TwoBackslashes : Type 0
TwoBackslashes = HasTokens source (codes "\"\\\\\"")
    (spanned (string (codes "\\")) 0 4 ∷ spanned end_of_text 4 4 ∷ [])

-- a backslash before a byte that begins no character
abbrev pub BackslashBeforeBadByte : Type 0
BackslashBeforeBadByte = IsRefused source (34 ∷ 92 ∷ 255 ∷ []) (refusal bad_byte 2)

-- a character that the end of the text cuts off
abbrev pub CutCharacter : Type 0
CutCharacter = IsRefused source (34 ∷ 97 ∷ 195 ∷ []) (refusal bad_byte 2)

-- `\é`, in which the backslash stands for itself
abbrev pub UriHolds : Type 0
UriHolds = HasTokens source (96 ∷ 92 ∷ 195 ∷ 169 ∷ 96 ∷ [])
    (spanned (uri (92 ∷ 195 ∷ 169 ∷ [])) 0 5 ∷ spanned end_of_text 5 5 ∷ [])

-- bundle+_
abbrev pub KeyThenSign : Type 0
KeyThenSign = HasTokens source (codes "bundle+_")
    (spanned (key (codes "bundle+")) 0 7 ∷ spanned (sign (codes "_")) 7 8 ∷ spanned end_of_text 8 8 ∷ [])

-- bundle +
abbrev pub KeyApartFromSign : Type 0
KeyApartFromSign = HasTokens source (codes "bundle +")
    (spanned (key (codes "bundle")) 0 6 ∷ spanned (sign (codes "+")) 7 8 ∷ spanned end_of_text 8 8 ∷ [])

-- 12ab
abbrev pub NumberThenWord : Type 0
NumberThenWord = HasTokens source (codes "12ab")
    (spanned (integer 12) 0 2 ∷ spanned (word (codes "ab")) 2 4 ∷ spanned end_of_text 4 4 ∷ [])

-- _a'_<<-<-in inn//
abbrev pub Prefixes : Type 0
Prefixes = HasTokens source (codes "_a'_<<-<-in inn//")
    (spanned (word (codes "_a'_")) 0 4 ∷ spanned (sign (codes "<<-")) 4 7
    ∷ spanned (sign (codes "<-")) 7 9 ∷ spanned (key (codes "in")) 9 11 ∷ spanned (word (codes "inn")) 12 15 ∷ spanned end_of_text 17 17 ∷ [])

-- #0aff of a printed term
abbrev pub PrintedBytes : Type 0
PrintedBytes = HasTokens printed (codes "#0aff")
    (spanned (byte_array (codes "0aff")) 0 5 ∷ spanned end_of_text 5 5 ∷ [])

-- #0aff of a source
abbrev pub SourceHasNoBytes : Type 0
SourceHasNoBytes = IsRefused source (codes "#0aff") (refusal bad_byte 0)

-- a dollar sign and 64 zeros, of a printed term
abbrev pub PrintedName : Type 0
PrintedName = HasTokens printed (36 ∷ replicate 64 48)
    (spanned (fresh_name (replicate 64 48)) 0 65 ∷ spanned end_of_text 65 65 ∷ [])
