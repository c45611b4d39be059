-- The size of what is written: its forms, and the names that they declare.
use Rattle.std.proofs.Common.{◌≡◌, ℕ, ◌≤◌, ◌+◌, List, [], ◌∷◌, ◌++◌, length, refl, arith}
use Rattle.std.specs.Prelude.{Option}
use Rattle.calculus.specs.Tree.{Label}
use Rattle.calculus.specs.Written.{Form, in_process, in_pattern, around, declare, Written, form, Writtens, no_more, more, writtens}
use Rattle.grammar.specs.Values.{Side, processes, patterns, on, with_form, with_first, par_of}
use Rattle.events.specs.Numbers.{name_count}

-- how many names a written form declares
abbrev pub names_of : Form → ℕ
names_of (in_process l) = name_count l
names_of (in_pattern l) = name_count l
names_of (around l) = name_count l
names_of (declare ds) = length ds
names_of _ = 0

abbrev mutual
  -- the number of forms of what is written, and of the names that they declare
  pub size : Written → ℕ
  size (form f ts) = 1 + (names_of f + sizes ts)

  -- the same of these
  pub sizes : Writtens → ℕ
  sizes no_more = 0
  sizes (more t ts) = size t + sizes ts

pub sizes-more : (ps : List Written) (p : Written) → sizes (writtens (ps ++ (p ∷ []))) ≡ sizes (writtens ps) + size p
sizes-more [] p = omega arith
sizes-more (q ∷ ps) p = omega (arith, sizes-more ps p)

pub size-first : (t u : Written) → size (with_first t u) ≡ size t + size u
size-first t (form f ts) = omega arith

pub size-form : (f : Form) (t : Written) → size (with_form f t) ≤ names_of f + size t
size-form f (form g ts) = omega arith

pub names-on : (side : Side) (l : Label) → names_of (on side l) ≡ name_count l
names-on processes l = refl
names-on patterns l = refl

pub size-par : (side : Side) (ps : List Written) → size (par_of side ps) ≤ 1 + sizes (writtens ps)
size-par processes [] = omega arith
size-par patterns [] = omega arith
size-par side (p ∷ []) = omega arith
size-par processes (p ∷ q ∷ ps) = omega arith
size-par patterns (p ∷ q ∷ ps) = omega arith

pub names-more : (ds : List (List ℕ × Option (List ℕ))) (x : List ℕ × Option (List ℕ)) → length (ds ++ (x ∷ [])) ≡ length ds + 1
names-more [] x = omega arith
names-more (d ∷ ds) x = omega (arith, names-more ds x)
