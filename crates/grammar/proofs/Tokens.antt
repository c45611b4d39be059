-- Tokens that the terminals of a text are of, in each notation.
use Rattle.std.proofs.Common.{◌≡◌, List, ◌++◌, refl}
use Rattle.std.proofs.lemmas.List.{map-append}
use Rattle.tokens.specs.Token.{Notation, Token, key, sign, end_of_text}
use Rattle.grammar.specs.declared.mark.Mark.{Mark}
use Rattle.grammar.specs.declared.mark.Mark.TheVariants as marks
use Rattle.grammar.specs.Terminals.{mark, mark_bytes, terminal, terminals}

-- the token of a mark
abbrev pub token_of : Mark → Token
token_of marks.Nil = key (mark_bytes marks.Nil)
token_of marks.New = key (mark_bytes marks.New)
token_of marks.In = key (mark_bytes marks.In)
token_of marks.For = key (mark_bytes marks.For)
token_of marks.Contract = key (mark_bytes marks.Contract)
token_of marks.Match = key (mark_bytes marks.Match)
token_of marks.If = key (mark_bytes marks.If)
token_of marks.Else = key (mark_bytes marks.Else)
token_of marks.True = key (mark_bytes marks.True)
token_of marks.False = key (mark_bytes marks.False)
token_of marks.Not = key (mark_bytes marks.Not)
token_of marks.And = key (mark_bytes marks.And)
token_of marks.Or = key (mark_bytes marks.Or)
token_of marks.Set = key (mark_bytes marks.Set)
token_of marks.Bool = key (mark_bytes marks.Bool)
token_of marks.Int = key (mark_bytes marks.Int)
token_of marks.String = key (mark_bytes marks.String)
token_of marks.Uri = key (mark_bytes marks.Uri)
token_of marks.ByteArray = key (mark_bytes marks.ByteArray)
token_of marks.Bundle = key (mark_bytes marks.Bundle)
token_of marks.BundleNeither = key (mark_bytes marks.BundleNeither)
token_of marks.BundleWrite = key (mark_bytes marks.BundleWrite)
token_of marks.BundleRead = key (mark_bytes marks.BundleRead)
token_of marks.End = end_of_text
token_of m = sign (mark_bytes m)

pub token_mark : (n : Notation) (m : Mark) → terminal n (token_of m) ≡ mark m
token_mark n marks.Nil = refl
token_mark n marks.New = refl
token_mark n marks.In = refl
token_mark n marks.For = refl
token_mark n marks.Contract = refl
token_mark n marks.Match = refl
token_mark n marks.If = refl
token_mark n marks.Else = refl
token_mark n marks.True = refl
token_mark n marks.False = refl
token_mark n marks.Not = refl
token_mark n marks.And = refl
token_mark n marks.Or = refl
token_mark n marks.Set = refl
token_mark n marks.Bool = refl
token_mark n marks.Int = refl
token_mark n marks.String = refl
token_mark n marks.Uri = refl
token_mark n marks.ByteArray = refl
token_mark n marks.Bundle = refl
token_mark n marks.BundleNeither = refl
token_mark n marks.BundleWrite = refl
token_mark n marks.BundleRead = refl
token_mark n marks.Ellipsis = refl
token_mark n marks.PeekArrow = refl
token_mark n marks.DoubleBang = refl
token_mark n marks.Unequal = refl
token_mark n marks.Arrow = refl
token_mark n marks.LessEqual = refl
token_mark n marks.GreaterEqual = refl
token_mark n marks.Equal = refl
token_mark n marks.FatArrow = refl
token_mark n marks.DoublePlus = refl
token_mark n marks.DoubleMinus = refl
token_mark n marks.Both = refl
token_mark n marks.Either = refl
token_mark n marks.Bar = refl
token_mark n marks.Bang = refl
token_mark n marks.Open = refl
token_mark n marks.Close = refl
token_mark n marks.OpenBrace = refl
token_mark n marks.CloseBrace = refl
token_mark n marks.OpenSquare = refl
token_mark n marks.CloseSquare = refl
token_mark n marks.Comma = refl
token_mark n marks.Semicolon = refl
token_mark n marks.Ampersand = refl
token_mark n marks.Colon = refl
token_mark n marks.Dot = refl
token_mark n marks.At = refl
token_mark n marks.Star = refl
token_mark n marks.Less = refl
token_mark n marks.Greater = refl
token_mark n marks.Assign = refl
token_mark n marks.Plus = refl
token_mark n marks.Minus = refl
token_mark n marks.Slash = refl
token_mark n marks.Percent = refl
token_mark n marks.Tilde = refl
token_mark n marks.Underscore = refl
token_mark n marks.End = refl

pub both_terminals : (n : Notation) (a b : List Token) → terminals n (a ++ b) ≡ terminals n a ++ terminals n b
both_terminals n a b = map-append (terminal n) a b
