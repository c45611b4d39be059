-- What rules make is no larger than what they read allows.
use Rattle.std.proofs.Common.{ℕ, ◌≤◌, ◌+◌, List, length}
use Rattle.calculus.specs.Written.{writtens}
use Rattle.grammar.specs.Rules.{Sort, Rule, done, sign, opens, next, opens_next, holds, integer, at, under, last}
use Rattle.grammar.specs.Values.{Spelt}
use Rattle.source_laws.proofs.Sizes.{size, sizes}

-- the size of what was read before a sort that goes on with a form
abbrev pub given : Sort → ℕ
given (Sort.ParTail side ps h) = sizes (writtens ps)
given (Sort.Decl ds) = length ds
given (Sort.DeclUri ds w) = length ds
given (Sort.DeclTail ds) = length ds
given (Sort.IfTail e p) = size e.tree + size p.tree
given (Sort.Sent side n) = size n.tree
given (Sort.SentTail side n) = size n.tree
given (Sort.Arrow l) = size l.tree
given (Sort.FirstTail k b) = size b.tree
given (Sort.Binds k m left bs h) = sizes (writtens bs)
given (Sort.BindsTail k m left bs h) = sizes (writtens bs)
given (Sort.Body k bs h) = sizes (writtens bs)
given (Sort.LeftTail ps h) = sizes (writtens ps)
given (Sort.LeftNext ps h) = sizes (writtens ps)
given (Sort.Case t cs h) = size t.tree + sizes (writtens cs)
given (Sort.CaseTail t cs h) = size t.tree + sizes (writtens cs)
given (Sort.OrTail a) = size a.tree
given (Sort.AndTail a) = size a.tree
given (Sort.EqTail a) = size a.tree
given (Sort.CmpTail a) = size a.tree
given (Sort.SumTail a) = size a.tree
given (Sort.MulTail a) = size a.tree
given (Sort.MethTail a) = size a.tree
given (Sort.Group side p) = size p.tree
given (Sort.BraceTail p) = size p.tree
given (Sort.Pairs ps h) = sizes (writtens ps)
given (Sort.RowTail side c ps h) = sizes (writtens ps)
given (Sort.PAltTail a) = size a.tree
given (Sort.PAndTail a) = size a.tree
given (Sort.SeqTail c ps h) = sizes (writtens ps)
given (Sort.SeqNext c ps h) = sizes (writtens ps)
given (Sort.PBraceTail p) = size p.tree
given (Sort.PPairs ps h) = sizes (writtens ps)
given (Sort.PPairsNext ps h) = sizes (writtens ps)
given _ = 0

-- how much larger than that a value may be where nothing is read
abbrev pub lead : Sort → ℕ
lead (Sort.Par side) = 1
lead (Sort.ParTail side ps h) = 1
lead (Sort.DeclUri ds w) = 1
lead (Sort.IfTail e p) = 8
lead Sort.Bind = 3
lead Sort.Left = 3
lead (Sort.LeftTail ps h) = 3
lead (Sort.LeftNext ps h) = 3
lead Sort.Brace = 1
lead (Sort.Row side c) = 1
lead (Sort.Seq c) = 1
lead (Sort.SeqNext c ps h) = 1
lead Sort.PBrace = 1
lead (Sort.PPairsNext ps h) = 1
lead _ = 0

-- how much smaller a value is than what is read allows
abbrev pub slack : Sort → ℕ
slack Sort.New = 1
slack Sort.If = 1
slack Sort.Contract = 1
slack Sort.For = 1
slack Sort.Match = 1
slack _ = 0

-- the value of a rule, and d more, is at most n and 32 for each terminal that is read
abbrev pub Costs : ℕ → ℕ → Rule → Type 0
Costs d n (done v) = size v.tree + d ≤ n
Costs d n (sign m r) = Costs d (n + 32) r
Costs d n (opens m h r) = Costs d (n + 32) r
Costs d n (next test r) = Costs d n r
Costs d n (opens_next test r) = Costs d n r
Costs d n (holds k f) = (w : List ℕ) → Costs d (n + 32) (f w)
Costs d n (integer most f) = (i : ℕ) → Costs d (n + 32) (f i)
Costs d n (at s f) = (a : Spelt) (k : ℕ) → size a.tree + slack s ≤ (given s + lead s) + k → Costs d (n + k) (f a)
Costs d n (under s f) = (a : Spelt) (k : ℕ) → size a.tree + slack s ≤ (given s + lead s) + k → Costs d (n + k) (f a)
Costs d n (last s) = (given s + lead s) + d ≤ n + slack s
