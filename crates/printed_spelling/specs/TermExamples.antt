-- Examples of what printed texts spell.
use Rattle.std.specs.Prelude.{◌≡◌, false, List, [], ◌∷◌, codes}
use Rattle.calculus.specs.declared.plain.TermRest.TheVariants as rests
use Rattle.calculus.specs.declared.plain.Origin.TheVariants as origins
use Rattle.calculus.specs.declared.plain.BinaryOp.TheVariants as op
use Rattle.calculus.specs.Tree.{row, set, dict, bind, match, case, fresh, new, rest, same, not_this, map_pattern, send, Tree}
use Rattle.calculus.specs.Shape.{leaf, one, two, three, many, process, only}
use Rattle.calculus.specs.Examples.{whole, num, nil, the_var, the_name, set_of, map_of, entry, op_on, sent, heard, on, thin, a_var, a_name, zeros}
use Rattle.calculus.specs.Bare.{bare}
use Rattle.printed_spelling.specs.Spelled.{written}
use Rattle.printed_spelling.specs.Ordered.{ordered}

-- the bare form of what the text spells is the process with its parts in order
abbrev pub ComesBack : Tree → Type 0
ComesBack t = bare (written t) ≡ ordered t

-- `match 1 { x => x y => y }`
abbrev pub two_cases : Tree
two_cases = only (two match (num 1) (many row (two case a_var (the_var 0) ∷ two case a_var (the_var 0) ∷ [])))

-- processes whose texts spell them
pub record SpelledExamples : Type 0 where
  -- `2 | Set(3, 1) | {2: 3, 1: 4}`
  pub parts_and_members : ComesBack (process (whole 2 ∷ many set (num 3 ∷ num 1 ∷ []) ∷ many dict (entry (num 2) (num 3) ∷ entry (num 1) (num 4) ∷ []) ∷ []))
  -- `for (a <- @1) { for (b <- @2) { new c in { a!(*b, *c) } } }`
  pub nested_variables : ComesBack (only (heard (on (num 1) (a_name ∷ []) ∷ []) (only (heard (on (num 2) (a_name ∷ []) ∷ []) (only (one (new (origins.Plain ∷ [])) (only (sent (the_name 2) (the_name 1 ∷ the_name 0 ∷ [])))))))))
  -- `for (@x, ...@r <- @1 & @y <- @2) { @2!(x, r, y) }`
  pub two_binds : ComesBack (only (heard (three bind (num 1) (many row (a_var ∷ [])) (leaf (rest rests.Var)) ∷ on (num 2) (a_var ∷ []) ∷ []) (only (sent (num 2) (the_var 2 ∷ the_var 1 ∷ the_var 0 ∷ [])))))
  -- `for (y <- @1) { for (@{~{for (@x <- @1) { x }}}, @z, @=*y <- @2) { z } }`
  pub closed_form : ComesBack (only (heard (on (num 1) (a_name ∷ []) ∷ []) (only (heard (on (num 2) (thin (one not_this (thin (heard (on (num 1) (a_var ∷ []) ∷ []) (the_var 0)))) ∷ a_var ∷ thin (one same (the_name 0)) ∷ []) ∷ []) (the_var 0)))))
  -- two cases that bind a variable each
  pub cases : ComesBack two_cases
  -- a send on a fresh name
  pub a_fresh_name : ComesBack (only (two (send false) (only (leaf (fresh zeros))) (many row [])))
