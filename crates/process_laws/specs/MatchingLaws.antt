-- Laws of matches. Each stands in the contract of a public function that does nothing.
use Rattle.std.specs.Prelude.{List, Option, Some, None, ⊤, ◌⊎◌, IsTrue}
use Rattle.std.specs.List.{AllZip}
use Rattle.calculus.specs.Tree.{Tree}
use Rattle.calculus.specs.Form.{pat, name_pat, a_bind, Scope, Fits, IsClosed}
use Rattle.calculus.specs.Congruence.{congruent}
use Rattle.calculus.specs.CodeLaws.{IsShort}
use Rattle.calculus.specs.CongruenceLaws.{AreCongruent}
use Rattle.calculus.specs.Matching.{Bindings, all_matches, bind_matches, first_of_all, first_match}

-- a closed process whose code has room in four bytes
abbrev pub IsTarget : Tree → Type 0
IsTarget t = IsClosed t × IsShort t

-- two of these that are congruent
abbrev pub AreTargets : Tree → Tree → Type 0
AreTargets t u = IsTarget t × IsTarget u × IsTrue (congruent t u)

-- a pattern of processes or of names, in any scope, and one that is congruent to it
abbrev pub ArePatterns : Tree → Tree → Type 0
ArePatterns p q = ((v : Scope) × (Fits pat v p ⊎ Fits name_pat v p)) × IsTrue (congruent p q)

-- a bind, in any scope, and one that is congruent to it
abbrev pub AreBinds : Tree → Tree → Type 0
AreBinds b c = ((v : Scope) × Fits a_bind v b) × IsTrue (congruent b c)

-- as many matches on both sides, whose bindings are congruent one by one
abbrev pub AreAlike : List Bindings → List Bindings → Type 0
AreAlike bs cs = AllZip AreCongruent bs cs

-- no match on both sides, or congruent bindings
abbrev pub IsSameMatch : Option Bindings → Option Bindings → Type 0
IsSameMatch None None = ⊤
IsSameMatch (Some b) (Some c) = AreCongruent b c
IsSameMatch _ _ = ⊥

-- congruent patterns match congruent processes alike, and the match that counts is the same
abbrev pub MatchesAreAlike : Type 0
MatchesAreAlike = (p q t u : Tree) → ArePatterns p q → AreTargets t u
    → AreAlike (all_matches p t) (all_matches q u) × IsSameMatch (first_match p t) (first_match q u)

-- congruent binds match congruent data alike, and the match that counts is the same
abbrev pub BindsMatchAlike : Type 0
BindsMatchAlike = (b c : Tree) (xs ys : List Tree) → AreBinds b c → AllZip AreTargets xs ys
    → AreAlike (bind_matches b xs) (bind_matches c ys) × IsSameMatch (first_of_all (bind_matches b xs)) (first_of_all (bind_matches c ys))
