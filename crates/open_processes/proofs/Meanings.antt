-- What maps and remainders stand for.
use Rattle.std.proofs.Common.{◌≡◌, List, [], ◌∷◌, map, ap, refl, false}
use Rattle.calculus.specs.declared.process.Proc.{Proc}
use Rattle.calculus.specs.declared.process.Pat.{Pat}
use Rattle.calculus.specs.declared.plain.Rest.{Rest}
use Rattle.calculus.specs.declared.plain.Rest.TheVariants as rests
use Rattle.calculus.specs.Meaning.{pair_of, proc_written, pat_written, rest_written}
use Rattle.scope.specs.Binding.{Scope, uses_more}
use Rattle.scope.specs.Rules.{Reading, breaks}
use Rattle.open_processes.specs.Pairs.{proc_pair, pat_pair}

pub proc-pairs : (ps : List (Proc × Proc)) → map pair_of (map (λ q. (proc_written q.0, proc_written q.1)) ps) ≡ map proc_pair ps
proc-pairs [] = refl
proc-pairs (p ∷ ps) = ap (λ xs. proc_pair p ∷ xs) (proc-pairs ps)

pub pat-pairs : (ps : List (Pat × Pat)) → map pair_of (map (λ q. (pat_written q.0, pat_written q.1)) ps) ≡ map pat_pair ps
pat-pairs [] = refl
pat-pairs (p ∷ ps) = ap (λ xs. pat_pair p ∷ xs) (pat-pairs ps)

-- a remainder uses no name
pub rest-uses : (r : Rest) (v : Scope) → uses_more (rest_written r) v ≡ false
rest-uses rests.No v = refl
rest-uses rests.Wild v = refl
rest-uses (rests.Var x) v = refl

-- the scope makes no difference to a remainder
pub rest-breaks : (r : Rest) (v w : Scope) (a : Reading) → breaks (rest_written r) v a ≡ breaks (rest_written r) w a
rest-breaks rests.No v w a = refl
rest-breaks rests.Wild v w a = refl
rest-breaks (rests.Var x) v w a = refl
