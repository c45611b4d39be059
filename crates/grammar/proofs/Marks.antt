-- No two marks have one number.
use Rattle.std.proofs.Common.{◌≡◌, ℕ, [], ◌∷◌, true, nat_eq, sym, refl, ap, ◌∙◌, arith}
use Rattle.calculus.specs.Kinds.{pick}
use Rattle.grammar.specs.declared.mark.Mark.{Mark}
use Rattle.grammar.specs.declared.mark.Mark.TheVariants as marks
use Rattle.grammar.specs.Terminals.{code}

-- the mark of a number
abbrev pub mark_of : ℕ → Mark
mark_of = pick marks.Nil (
    marks.Nil ∷ marks.New ∷ marks.In ∷ marks.For ∷ marks.Contract ∷ marks.Match ∷ marks.If ∷ marks.Else ∷
    marks.True ∷ marks.False ∷ marks.Not ∷ marks.And ∷ marks.Or ∷ marks.Set ∷ marks.Bool ∷ marks.Int ∷
    marks.String ∷ marks.Uri ∷ marks.ByteArray ∷ marks.Bundle ∷ marks.BundleNeither ∷ marks.BundleWrite ∷
    marks.BundleRead ∷ marks.Ellipsis ∷ marks.PeekArrow ∷ marks.DoubleBang ∷ marks.Unequal ∷ marks.Arrow ∷
    marks.LessEqual ∷ marks.GreaterEqual ∷ marks.Equal ∷ marks.FatArrow ∷ marks.DoublePlus ∷
    marks.DoubleMinus ∷ marks.Both ∷ marks.Either ∷ marks.Bar ∷ marks.Bang ∷ marks.Open ∷ marks.Close ∷
    marks.OpenBrace ∷ marks.CloseBrace ∷ marks.OpenSquare ∷ marks.CloseSquare ∷ marks.Comma ∷
    marks.Semicolon ∷ marks.Ampersand ∷ marks.Colon ∷ marks.Dot ∷ marks.At ∷ marks.Star ∷ marks.Less ∷
    marks.Greater ∷ marks.Assign ∷ marks.Plus ∷ marks.Minus ∷ marks.Slash ∷ marks.Percent ∷ marks.Tilde ∷
    marks.Underscore ∷ marks.End ∷ [])

back : (m : Mark) → mark_of (code m) ≡ m
back marks.Nil = refl
back marks.New = refl
back marks.In = refl
back marks.For = refl
back marks.Contract = refl
back marks.Match = refl
back marks.If = refl
back marks.Else = refl
back marks.True = refl
back marks.False = refl
back marks.Not = refl
back marks.And = refl
back marks.Or = refl
back marks.Set = refl
back marks.Bool = refl
back marks.Int = refl
back marks.String = refl
back marks.Uri = refl
back marks.ByteArray = refl
back marks.Bundle = refl
back marks.BundleNeither = refl
back marks.BundleWrite = refl
back marks.BundleRead = refl
back marks.Ellipsis = refl
back marks.PeekArrow = refl
back marks.DoubleBang = refl
back marks.Unequal = refl
back marks.Arrow = refl
back marks.LessEqual = refl
back marks.GreaterEqual = refl
back marks.Equal = refl
back marks.FatArrow = refl
back marks.DoublePlus = refl
back marks.DoubleMinus = refl
back marks.Both = refl
back marks.Either = refl
back marks.Bar = refl
back marks.Bang = refl
back marks.Open = refl
back marks.Close = refl
back marks.OpenBrace = refl
back marks.CloseBrace = refl
back marks.OpenSquare = refl
back marks.CloseSquare = refl
back marks.Comma = refl
back marks.Semicolon = refl
back marks.Ampersand = refl
back marks.Colon = refl
back marks.Dot = refl
back marks.At = refl
back marks.Star = refl
back marks.Less = refl
back marks.Greater = refl
back marks.Assign = refl
back marks.Plus = refl
back marks.Minus = refl
back marks.Slash = refl
back marks.Percent = refl
back marks.Tilde = refl
back marks.Underscore = refl
back marks.End = refl

pub same_code : (k m : Mark) → nat_eq (code k) (code m) ≡ true → k ≡ m
same_code k m h =
    let e : code k ≡ code m = grind (arith, h) in
    sym (back k) ∙ ap mark_of e ∙ back m
