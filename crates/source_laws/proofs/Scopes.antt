-- Names in scope and their senses.
use Rattle.std.proofs.Common.{◌≡◌, ℕ, suc, ◌+◌, List, [], ◌∷◌, ◌++◌, map, Bool, true, false, subst, refl, arith}
use Rattle.std.specs.Prelude.{Option, Some, None, cond}
use Rattle.std.specs.Str.{bytes_eq}
use Rattle.calculus.specs.Bare.{Names, index}
use Rattle.calculus.specs.Variables.{Sense, a_process, a_name}
use Rattle.calculus.specs.Form.{HasVariable}
use Rattle.calculus.specs.Form.{Scope as Senses}
use Rattle.scope.specs.Binding.{Variable, Scope, sense_of}
use Rattle.scope.specs.Rules.{process_use, name_use}

-- the names of variables
abbrev pub names_of : List Variable → Names
names_of v = map (λ x. x.0) v

-- what variables stand for
abbrev pub senses : List Variable → Senses
senses v = map (λ x. x.1) v

-- neither of two lists has a member where both have none together
pub left-none : {A : Type 0} (xs ys : List A) → xs ++ ys ≡ [] → xs ≡ []
left-none [] ys h = refl
left-none (x ∷ xs) ys h = cc

pub right-none : {A : Type 0} (xs ys : List A) → xs ++ ys ≡ [] → ys ≡ []
right-none [] ys h = h
right-none (x ∷ xs) ys h = cc

found : (q : Bool) (s t : Sense) (o : Option Sense) (v : Senses) (i : ℕ) → cond q (Some t) o ≡ Some s → (o ≡ Some s → HasVariable v i s) → HasVariable (t ∷ v) (cond q 0 (i + 1)) s
found true s t o v i h f = cc
found false s t o v i h f =
    let e : suc i ≡ i + 1 = omega arith in
    subst (λ (k : ℕ). HasVariable (t ∷ v) k s) e (f h)

-- a name that stands for something has a variable of that sense, whatever is in scope outside
pub has-variable : (x : List ℕ) (v : Scope) (w : Names) (s : Sense) → sense_of x v ≡ Some s → HasVariable (senses v) (index x (names_of v ++ w)) s
has-variable x [] w s h = cc
has-variable x (y ∷ ys) w s h = found (bytes_eq x y.0) s y.1 (sense_of x ys) (senses ys) (index x (names_of ys ++ w)) h (has-variable x ys w s)

process-found : (x : List ℕ) (o : Option Sense) → process_use x o ≡ [] → o ≡ Some a_process
process-found x None h = cc
process-found x (Some a_process) h = refl
process-found x (Some a_name) h = cc

name-found : (x : List ℕ) (o : Option Sense) → name_use x o ≡ [] → o ≡ Some a_name
name-found x None h = cc
name-found x (Some a_process) h = cc
name-found x (Some a_name) h = refl

pub process-variable : (x : List ℕ) (v : Scope) (w : Names) → process_use x (sense_of x v) ≡ [] → HasVariable (senses v) (index x (names_of v ++ w)) a_process
process-variable x v w h = has-variable x v w a_process (process-found x (sense_of x v) h)

pub name-variable : (x : List ℕ) (v : Scope) (w : Names) → name_use x (sense_of x v) ≡ [] → HasVariable (senses v) (index x (names_of v ++ w)) a_name
name-variable x v w h = has-variable x v w a_name (name-found x (sense_of x v) h)
