-- Which terminals begin a text of a sort, and which go on with one.
use Rattle.std.proofs.Common.{◌≡◌, ℕ, ◌<◌, List, [], ◌∷◌, true, false, nat_eq, refl, ap, arith}
use Rattle.grammar.specs.declared.mark.Mark.{Mark}
use Rattle.grammar.specs.declared.mark.Mark.TheVariants as marks
use Rattle.grammar.specs.Choice.{holding_code, sees_text}
use Rattle.grammar.specs.Rules.{Sort}
use Rattle.grammar.specs.Terminals.{Holding, a_word, a_fresh_name, Terminal, text, number, mark, stranger, code, sees}
use Rattle.grammar.proofs.Marks.{same_code}

-- how tightly a mark goes on with what stands before it
abbrev pub hold : Mark → ℕ
hold marks.Else = 3
hold marks.And = 6
hold marks.Or = 5
hold marks.DoubleBang = 4
hold marks.Unequal = 7
hold marks.LessEqual = 8
hold marks.GreaterEqual = 8
hold marks.Equal = 7
hold marks.DoublePlus = 9
hold marks.DoubleMinus = 9
hold marks.Both = 13
hold marks.Either = 12
hold marks.Bar = 2
hold marks.Bang = 4
hold marks.Dot = 11
hold marks.Star = 10
hold marks.Less = 8
hold marks.Greater = 8
hold marks.Plus = 9
hold marks.Minus = 9
hold marks.Slash = 10
hold marks.Percent = 10
hold _ = 0

-- what begins a pattern of a name, or goes on with such patterns
abbrev pub tie : Mark → ℕ
tie marks.Underscore = 1
tie marks.At = 1
tie marks.Ellipsis = 1
tie marks.Comma = 1
tie _ = 0

-- the class of sorts that a mark begins: 2 `not`, 3 `*`, 4 an atom, 5 a pattern atom, 6 `~`, 7 what begins a Two or a PName, 8 what begins a One, 9 nothing
abbrev pub begin : Mark → ℕ
begin marks.Nil = 4
begin marks.New = 8
begin marks.For = 7
begin marks.Contract = 8
begin marks.Match = 7
begin marks.If = 8
begin marks.True = 4
begin marks.False = 4
begin marks.Not = 2
begin marks.Set = 4
begin marks.Bool = 5
begin marks.Int = 5
begin marks.String = 5
begin marks.Uri = 5
begin marks.ByteArray = 5
begin marks.Bundle = 7
begin marks.BundleNeither = 7
begin marks.BundleWrite = 7
begin marks.BundleRead = 7
begin marks.Open = 4
begin marks.OpenBrace = 4
begin marks.OpenSquare = 4
begin marks.At = 7
begin marks.Star = 3
begin marks.Assign = 5
begin marks.Minus = 4
begin marks.Tilde = 6
begin marks.Underscore = 5
begin _ = 9

-- the same of a text
abbrev pub begin_text : Holding → ℕ
begin_text a_fresh_name = 7
begin_text _ = 4

-- a word begins a pattern of a name
abbrev pub tie_text : Holding → ℕ
tie_text a_word = 1
tie_text _ = 0

-- these of the next terminal
abbrev pub grip : List Terminal → ℕ
grip (mark m ∷ ts) = hold m
grip (text k w ∷ ts) = 0
grip (number n ∷ ts) = 0
grip (stranger ∷ ts) = 0
grip [] = 0

abbrev pub ties : List Terminal → ℕ
ties (mark m ∷ ts) = tie m
ties (text k w ∷ ts) = tie_text k
ties (number n ∷ ts) = 0
ties (stranger ∷ ts) = 0
ties [] = 0

abbrev pub opener : List Terminal → ℕ
opener (mark m ∷ ts) = begin m
opener (text k w ∷ ts) = begin_text k
opener (number n ∷ ts) = 4
opener (stranger ∷ ts) = 9
opener [] = 9

-- a sort ends before what holds less tightly than this
abbrev pub level : Sort → ℕ
level (Sort.Par side) = 2
level (Sort.ParTail side ps h) = 2
level Sort.One = 3
level Sort.New = 3
level (Sort.Decl ds) = 3
level (Sort.DeclUri ds w) = 3
level (Sort.DeclTail ds) = 3
level Sort.If = 3
level (Sort.IfTail e p) = 3
level Sort.Contract = 3
level Sort.Two = 4
level Sort.Left = 12
level (Sort.LeftTail ps h) = 12
level (Sort.LeftNext ps h) = 12
level Sort.Or = 5
level (Sort.OrTail a) = 5
level Sort.And = 6
level (Sort.AndTail a) = 6
level Sort.Eq = 7
level (Sort.EqTail a) = 7
level Sort.Cmp = 8
level (Sort.CmpTail a) = 8
level Sort.Sum = 9
level (Sort.SumTail a) = 9
level Sort.Mul = 10
level (Sort.MulTail a) = 10
level Sort.Pre = 11
level Sort.Meth = 11
level (Sort.MethTail a) = 11
level Sort.POne = 3
level Sort.PAlt = 12
level (Sort.PAltTail a) = 12
level Sort.PAnd = 13
level (Sort.PAndTail a) = 13
level Sort.PNot = 14
level Sort.PName = 12
level _ = 15

-- and before what ties less than this
abbrev pub strict : Sort → ℕ
strict Sort.Left = 1
strict (Sort.LeftTail ps h) = 1
strict (Sort.LeftNext ps h) = 1
strict _ = 2

-- the least and the greatest class of what begins it
abbrev pub low : Sort → ℕ
low (Sort.Par side) = 2
low Sort.One = 2
low Sort.New = 8
low Sort.If = 8
low Sort.Contract = 8
low Sort.Two = 2
low (Sort.Bundle side) = 7
low Sort.For = 7
low Sort.Remainder = 4
low Sort.Match = 7
low (Sort.Case t cs h) = 4
low Sort.Or = 2
low Sort.And = 2
low Sort.Eq = 2
low Sort.Cmp = 2
low Sort.Sum = 2
low Sort.Mul = 2
low Sort.Pre = 2
low Sort.Meth = 3
low Sort.Drop = 3
low Sort.Name = 4
low Sort.Atom = 4
low (Sort.Ground side) = 4
low Sort.POne = 4
low Sort.PAlt = 4
low Sort.PAnd = 4
low Sort.PNot = 4
low Sort.PName = 4
low Sort.PAtom = 4
low _ = 0

-- the greatest class of what begins it
abbrev pub high : Sort → ℕ
high (Sort.Par side) = 8
high Sort.One = 8
high Sort.New = 8
high Sort.If = 8
high Sort.Contract = 8
high Sort.Two = 7
high (Sort.Bundle side) = 7
high Sort.For = 7
high Sort.Remainder = 5
high Sort.Match = 7
high (Sort.Case t cs h) = 8
high Sort.Or = 4
high Sort.And = 4
high Sort.Eq = 4
high Sort.Cmp = 4
high Sort.Sum = 4
high Sort.Mul = 4
high Sort.Pre = 4
high Sort.Meth = 4
high Sort.Drop = 4
high Sort.Name = 7
high Sort.Atom = 4
high (Sort.Ground side) = 4
high Sort.POne = 8
high Sort.PAlt = 6
high Sort.PAnd = 6
high Sort.PNot = 6
high Sort.PName = 7
high Sort.PAtom = 5
high _ = 9

-- how tightly the first terminal of a sort that goes on holds
abbrev pub top : Sort → ℕ
top (Sort.ParTail side ps h) = 2
top (Sort.IfTail e p) = 3
top (Sort.SentTail side n) = 4
top (Sort.Arrow l) = 8
top (Sort.LeftTail ps h) = 0
top (Sort.CaseTail t cs h) = 2
top (Sort.OrTail a) = 5
top (Sort.AndTail a) = 6
top (Sort.EqTail a) = 7
top (Sort.CmpTail a) = 8
top (Sort.SumTail a) = 9
top (Sort.MulTail a) = 10
top (Sort.MethTail a) = 11
top (Sort.Group side p) = 0
top (Sort.BraceTail p) = 0
top (Sort.Pairs ps h) = 0
top (Sort.RowTail side c ps h) = 0
top (Sort.PAltTail a) = 12
top (Sort.PAndTail a) = 13
top (Sort.SeqTail c ps h) = 0
top (Sort.PBraceTail p) = 0
top (Sort.PPairs ps h) = 0
top _ = 14

-- and how much it ties
abbrev pub bound : Sort → ℕ
bound (Sort.Arrow l) = 0
bound _ = 1

-- a number that counts only where a text of the sort may be empty
abbrev pub kept : Sort → ℕ → ℕ
kept (Sort.SentTail side a) n = 0
kept (Sort.Arrow l) n = 0
kept (Sort.CaseTail t cs i) n = 0
kept (Sort.Group side p) n = 0
kept (Sort.BraceTail p) n = 0
kept (Sort.Pairs ps i) n = 0
kept (Sort.RowTail side c ps i) n = 0
kept (Sort.SeqTail c ps i) n = 0
kept (Sort.PBraceTail p) n = 0
kept (Sort.PPairs ps i) n = 0
kept _ n = n

-- a text is ended by what follows it
abbrev pub Ends : Sort → List Terminal → Type 0
Ends s ts = (grip ts < level s) × (ties ts < strict s)

-- a mark that isn't next
pub unseen : (m : Mark) (ts : List Terminal) → ((us : List Terminal) → ts ≡ mark m ∷ us → ⊥) → sees m ts ≡ false
unseen m [] h = refl
unseen m (text k w ∷ ts) h = refl
unseen m (number n ∷ ts) h = refl
unseen m (stranger ∷ ts) h = refl
unseen m (mark k ∷ ts) h = elim (nat_eq (code k) (code m)) as (λ b. nat_eq (code k) (code m) ≡ b → b ≡ false) [
  | true ↦ λ e. absurd (h ts (ap (λ x. mark x ∷ ts) (same_code k m e)))
  | false ↦ λ e. refl
] refl

pub unheld : (m : Mark) (ts : List Terminal) → grip ts < hold m → sees m ts ≡ false
unheld m ts h = unseen m ts (λ us e. let g : grip ts ≡ hold m = ap grip e in omega (arith, h, g))

pub untied : (m : Mark) (ts : List Terminal) → ties ts < tie m → sees m ts ≡ false
untied m ts h = unseen m ts (λ us e. let g : ties ts ≡ tie m = ap ties e in omega (arith, h, g))

pub below : (m : Mark) (ts : List Terminal) → opener ts < begin m → sees m ts ≡ false
below m ts h = unseen m ts (λ us e. let g : opener ts ≡ begin m = ap opener e in omega (arith, h, g))

pub above : (m : Mark) (ts : List Terminal) → begin m < opener ts → sees m ts ≡ false
above m ts h = unseen m ts (λ us e. let g : opener ts ≡ begin m = ap opener e in omega (arith, h, g))

-- a text that isn't next
pub no_text : (k : Holding) (ts : List Terminal) → ((w : List ℕ) (us : List Terminal) → ts ≡ text k w ∷ us → ⊥) → sees_text k ts ≡ false
no_text k [] h = refl
no_text k (mark m ∷ ts) h = refl
no_text k (number n ∷ ts) h = refl
no_text k (stranger ∷ ts) h = refl
no_text k (text j w ∷ ts) h = elim (nat_eq (holding_code j) (holding_code k)) as (λ b. nat_eq (holding_code j) (holding_code k) ≡ b → b ≡ false) [
  | true ↦ λ e. let g : j ≡ k = grind (arith, e) in absurd (h w ts (ap (λ x. text x w ∷ ts) g))
  | false ↦ λ e. refl
] refl

pub untied_text : (ts : List Terminal) → ties ts < 1 → sees_text a_word ts ≡ false
untied_text ts h = no_text a_word ts (λ w us e. let g : ties ts ≡ 1 = ap ties e in omega (arith, h, g))

pub below_fresh : (ts : List Terminal) → opener ts < 7 → sees_text a_fresh_name ts ≡ false
below_fresh ts h = no_text a_fresh_name ts (λ w us e. let g : opener ts ≡ 7 = ap opener e in omega (arith, h, g))
