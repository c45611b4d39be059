-- Processes and names bind no name for what is around them.
use Rattle.std.proofs.Common.{◌≡◌, [], ◌++◌, refl, ap, subst, ◌∙◌}
use Rattle.calculus.specs.Written.{Written}
use Rattle.calculus.specs.Bare.{names}
use Rattle.calculus.specs.Meaning.{name_step, name_pat_step, pat_step, proc_step, bind_step, case_step, name_written, name_pat_written, pat_written, proc_written, bind_written, case_written}
use Rattle.calculus.specs.declared.process.Name.{Name}
use Rattle.calculus.specs.declared.process.NamePat.{NamePat}
use Rattle.calculus.specs.declared.process.Pat.{Pat}
use Rattle.calculus.specs.declared.process.Proc.{Proc}
use Rattle.calculus.specs.declared.process.Bind.{Bind}
use Rattle.calculus.specs.declared.process.Case.{Case}
use Rattle.calculus.specs.declared.process.Name.TheOpen.{Name-F, Proc-F}
use Rattle.calculus.specs.declared.process.Name.TheFolds.{map-Name, map-Proc, fold-roll-Name, fold-roll-Proc, ind-Name, ind-Proc}

abbrev NameBindsNone : Name → Type 0
NameBindsNone n = names (name_written n) ≡ []

abbrev ProcBindsNone : Proc → Type 0
ProcBindsNone p = names (proc_written p) ≡ []

-- a value of which no more is said
abbrev Any : Type 0 → Type 0
Any A = A × Unit {0}

-- one level, in which names and processes are beside their proofs
abbrev NameLevel : Type 0
NameLevel = Name-F ((n : Name) × NameBindsNone n) (Any NamePat) (Any Pat) ((p : Proc) × ProcBindsNone p) (Any Bind) (Any Case)

abbrev ProcLevel : Type 0
ProcLevel = Proc-F ((n : Name) × NameBindsNone n) (Any NamePat) (Any Pat) ((p : Proc) × ProcBindsNone p) (Any Bind) (Any Case)

-- what a level of trees comes to
abbrev name_level : Name-F Name NamePat Pat Proc Bind Case → Written
name_level x = name_step (map-Name Name NamePat Pat Proc Bind Case Written Written Written Written Written Written name_written name_pat_written pat_written proc_written bind_written case_written x)

abbrev proc_level : Proc-F Name NamePat Pat Proc Bind Case → Written
proc_level x = proc_step (map-Proc Name NamePat Pat Proc Bind Case Written Written Written Written Written Written name_written name_pat_written pat_written proc_written bind_written case_written x)

-- a level without the proofs
abbrev bare_name : NameLevel → Name-F Name NamePat Pat Proc Bind Case
bare_name y = map-Name ((n : Name) × NameBindsNone n) (Any NamePat) (Any Pat) ((p : Proc) × ProcBindsNone p) (Any Bind) (Any Case) Name NamePat Pat Proc Bind Case (λ e. e.0) (λ e. e.0) (λ e. e.0) (λ e. e.0) (λ e. e.0) (λ e. e.0) y

abbrev bare_proc : ProcLevel → Proc-F Name NamePat Pat Proc Bind Case
bare_proc y = map-Proc ((n : Name) × NameBindsNone n) (Any NamePat) (Any Pat) ((p : Proc) × ProcBindsNone p) (Any Bind) (Any Case) Name NamePat Pat Proc Bind Case (λ e. e.0) (λ e. e.0) (λ e. e.0) (λ e. e.0) (λ e. e.0) (λ e. e.0) y

name-level : (y : NameLevel) → names (name_level (bare_name y)) ≡ []
name-level (Name-F.Name::Var x) = refl
name-level (Name-F.Fresh d) = refl
name-level (Name-F.Name::Quote p) = ap (λ z. z ++ []) p.value.1

proc-level : (y : ProcLevel) → names (proc_level (bare_proc y)) ≡ []
proc-level (Proc-F.Drop n) = ap (λ z. z ++ []) n.1
proc-level (Proc-F.New ds body) = ap (λ z. z ++ []) body.value.1
proc-level _ = refl

name-one : (x : Name-F Name NamePat Pat Proc Bind Case) (y : NameLevel) → bare_name y ≡ x → names (name_level x) ≡ []
name-one x y is = subst (λ z. names (name_level z) ≡ []) is (name-level y)

proc-one : (x : Proc-F Name NamePat Pat Proc Bind Case) (y : ProcLevel) → bare_proc y ≡ x → names (proc_level x) ≡ []
proc-one x y is = subst (λ z. names (proc_level z) ≡ []) is (proc-level y)

pub name-binds-none : (n : Name) → names (name_written n) ≡ []
name-binds-none = ind-Name NameBindsNone (λ q. Unit {0}) (λ q. Unit {0}) ProcBindsNone (λ q. Unit {0}) (λ q. Unit {0})
    (λ x y is. ap names (fold-roll-Name Written Written Written Written Written Written name_step name_pat_step pat_step proc_step bind_step case_step x) ∙ name-one x y is)
    (λ x y is. tt)
    (λ x y is. tt)
    (λ x y is. ap names (fold-roll-Proc Written Written Written Written Written Written name_step name_pat_step pat_step proc_step bind_step case_step x) ∙ proc-one x y is)
    (λ x y is. tt)
    (λ x y is. tt)

pub proc-binds-none : (p : Proc) → names (proc_written p) ≡ []
proc-binds-none = ind-Proc NameBindsNone (λ q. Unit {0}) (λ q. Unit {0}) ProcBindsNone (λ q. Unit {0}) (λ q. Unit {0})
    (λ x y is. ap names (fold-roll-Name Written Written Written Written Written Written name_step name_pat_step pat_step proc_step bind_step case_step x) ∙ name-one x y is)
    (λ x y is. tt)
    (λ x y is. tt)
    (λ x y is. ap names (fold-roll-Proc Written Written Written Written Written Written name_step name_pat_step pat_step proc_step bind_step case_step x) ∙ proc-one x y is)
    (λ x y is. tt)
    (λ x y is. tt)
