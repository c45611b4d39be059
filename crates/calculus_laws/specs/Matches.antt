-- Examples of matches of binds against arguments.
use Rattle.std.specs.Prelude.{◌≡◌, true, false, List, [], ◌∷◌, Some, None, codes}
use Rattle.calculus.specs.declared.plain.Rights.TheVariants as rights
use Rattle.calculus.specs.declared.plain.TermRest.TheVariants as rests
use Rattle.calculus.specs.declared.plain.Simple.TheVariants as simples
use Rattle.calculus.specs.Tree.{row, str, var, list, send, bind, bundle, rest, some_process, simple, same, both, not_this, list_pattern, set_pattern, map_pattern, Tree}
use Rattle.calculus.specs.Shape.{leaf, one, two, three, many, process, only}
use Rattle.calculus.specs.Examples.{whole, num, word, nil, list_of, set_of, map_of, entry, sent, heard, on, thin, parts, a_var, a_name}
use Rattle.calculus.specs.Matching.{first_of_all, bind_matches, all_matches}

-- the first match of a bind against these arguments binds this
abbrev pub Takes : Tree → List Tree → List Tree → Type 0
Takes b xs vs = first_of_all (bind_matches b xs) ≡ Some vs

-- a bind does not match these arguments
abbrev pub TakesNot : Tree → List Tree → Type 0
TakesNot b xs = first_of_all (bind_matches b xs) ≡ None

-- first matches, and all of them
pub record MatchExamples : Type 0 where
  -- `@{x | 1}` matches `3 | 1 | 2`
  pub thin_takes_its_part : Takes (on (num 0) (parts (leaf some_process ∷ whole 1 ∷ []) ∷ [])) (process (whole 3 ∷ whole 1 ∷ whole 2 ∷ []) ∷ []) (process (whole 2 ∷ whole 3 ∷ []) ∷ [])
  -- `@{1 | x | 2}` matches `3 | 2 | 1 | 3`
  pub wide_part_in_the_middle : Takes (on (num 0) (parts (whole 1 ∷ leaf some_process ∷ whole 2 ∷ []) ∷ [])) (process (whole 3 ∷ whole 2 ∷ whole 1 ∷ whole 3 ∷ []) ∷ []) (process (whole 3 ∷ whole 3 ∷ []) ∷ [])
  -- `@{[x] | r | [y]}` matches `[2] | [1] | 7`
  pub bindings_in_written_order : Takes (on (num 0) (parts (two list_pattern (many row (a_var ∷ [])) (leaf (rest rests.No)) ∷ leaf some_process ∷ two list_pattern (many row (a_var ∷ [])) (leaf (rest rests.No)) ∷ []) ∷ [])) (process (many list (num 2 ∷ []) ∷ many list (num 1 ∷ []) ∷ whole 7 ∷ []) ∷ []) (num 1 ∷ num 7 ∷ num 2 ∷ [])
  -- `@{[x ...r] | [y]}` matches `[2] | [1, 5]`
  pub thin_parts_try_again : Takes (on (num 0) (parts (two list_pattern (many row (a_var ∷ [])) (leaf (rest rests.Var)) ∷ two list_pattern (many row (a_var ∷ [])) (leaf (rest rests.No)) ∷ []) ∷ [])) (process (many list (num 2 ∷ []) ∷ many list (num 1 ∷ num 5 ∷ []) ∷ []) ∷ []) (num 1 ∷ list_of (num 5 ∷ []) ∷ num 2 ∷ [])
  -- `@{Int | ~2 }` matches `1 | 2`
  pub wide_part_takes_what_is_left : Takes (on (num 0) (parts (leaf (simple simples.Int) ∷ one not_this (thin (whole 2)) ∷ []) ∷ [])) (process (whole 1 ∷ whole 2 ∷ []) ∷ []) []
  -- `@{@1!(x /\ ~1) | r}` matches `@1!(1) | @1!(2)`
  pub thin_part_in_a_send : Takes (on (num 0) (parts (sent (thin (whole 1)) (thin (two both a_var (thin (one not_this (thin (whole 1))))) ∷ []) ∷ leaf some_process ∷ []) ∷ [])) (process (sent (num 1) (num 1 ∷ []) ∷ sent (num 1) (num 2 ∷ []) ∷ []) ∷ []) (num 2 ∷ only (sent (num 1) (num 1 ∷ [])) ∷ [])
  -- `@Set(2, x ...r)` matches `Set(1, 2, 3)`
  pub set_with_remainder : Takes (on (num 0) (thin (two set_pattern (many row (thin (whole 2) ∷ a_var ∷ [])) (leaf (rest rests.Var))) ∷ [])) (set_of (num 1 ∷ num 2 ∷ num 3 ∷ []) ∷ []) (num 1 ∷ set_of (num 3 ∷ []) ∷ [])
  -- `@{k: 2 ...r}` matches `{1: 1, 2: 2, 3: 3}`
  pub map_by_value : Takes (on (num 0) (thin (two map_pattern (many row (entry a_var (thin (whole 2)) ∷ [])) (leaf (rest rests.Var))) ∷ [])) (map_of (entry (num 1) (num 1) ∷ entry (num 2) (num 2) ∷ entry (num 3) (num 3) ∷ []) ∷ []) (num 2 ∷ map_of (entry (num 1) (num 1) ∷ entry (num 3) (num 3) ∷ []) ∷ [])
  -- `@{~{1 | 2}}` does not match `2 | 1`
  pub not_a_congruent_process : TakesNot (on (num 0) (thin (one not_this (parts (whole 1 ∷ whole 2 ∷ []))) ∷ [])) (process (whole 2 ∷ whole 1 ∷ []) ∷ [])
  -- `@{x /\ {1 | y}}` matches `2 | 1`
  pub both_match : Takes (on (num 0) (thin (two both a_var (parts (whole 1 ∷ leaf some_process ∷ []))) ∷ [])) (process (whole 2 ∷ whole 1 ∷ []) ∷ []) (process (whole 1 ∷ whole 2 ∷ []) ∷ num 2 ∷ [])
  -- `@{={1 | 2}}` matches `2 | 1`
  pub same_up_to_congruence : Takes (on (num 0) (thin (one same (process (whole 1 ∷ whole 2 ∷ []))) ∷ [])) (process (whole 2 ∷ whole 1 ∷ []) ∷ []) []
  -- `@{for (@a, @b <- @1) { a | b }}` matches `for (@b, @a <- @1) { a | b }`
  pub closed_form_without_names : Takes (on (num 0) (thin (heard (on (num 1) (a_var ∷ a_var ∷ []) ∷ []) (process (leaf (var 1) ∷ leaf (var 0) ∷ []))) ∷ [])) (only (heard (on (num 1) (a_var ∷ a_var ∷ []) ∷ []) (process (leaf (var 0) ∷ leaf (var 1) ∷ []))) ∷ []) []
  -- `x, y ...@r` matches `1 | 2, Nil, 3`
  pub remainder_of_arguments : Takes (three bind (num 0) (many row (a_name ∷ a_name ∷ [])) (leaf (rest rests.Var))) (process (whole 1 ∷ whole 2 ∷ []) ∷ nil ∷ num 3 ∷ []) (process (whole 1 ∷ whole 2 ∷ []) ∷ nil ∷ list_of (num 3 ∷ []) ∷ [])
  -- `@x, @y` does not match `1`
  pub numbers_must_agree : TakesNot (on (num 0) (a_var ∷ a_var ∷ [])) (num 1 ∷ [])
  -- `@{bundle+ {1}}` does not match `bundle {1}`
  pub rights_must_agree : TakesNot (on (num 0) (thin (one (bundle rights.Write) (thin (whole 1))) ∷ [])) (only (one (bundle rights.Both) (num 1)) ∷ [])
  -- `@{@1!(x)}` does not match `@1!!(5)`
  pub persistence_must_agree : TakesNot (on (num 0) (thin (sent (thin (whole 1)) (a_var ∷ [])) ∷ [])) (only (two (send true) (num 1) (many row (num 5 ∷ []))) ∷ [])
  -- `@{@{Int | z}!(x)}` matches `@{1 | "a"}!(2)`
  pub name_pattern_inside : Takes (on (num 0) (thin (sent (parts (leaf (simple simples.Int) ∷ leaf some_process ∷ [])) (a_var ∷ [])) ∷ [])) (only (sent (process (whole 1 ∷ leaf (str (codes "a")) ∷ [])) (num 2 ∷ [])) ∷ []) (word (codes "a") ∷ num 2 ∷ [])
  -- all matches of `@1!(x) | r` against `@1!(6) | @1!(5)`
  pub all_matches_in_order : all_matches (parts (two (send false) (thin (whole 1)) (many row (a_var ∷ [])) ∷ leaf some_process ∷ [])) (process (sent (num 1) (num 6 ∷ []) ∷ sent (num 1) (num 5 ∷ []) ∷ [])) ≡ (num 5 ∷ only (sent (num 1) (num 6 ∷ [])) ∷ []) ∷ (num 6 ∷ only (sent (num 1) (num 5 ∷ [])) ∷ []) ∷ []
  -- `@[x ..._]` matches `[1, 2]`
  pub wild_remainder_of_a_list : Takes (on (num 0) (thin (two list_pattern (many row (a_var ∷ [])) (leaf (rest rests.Wild))) ∷ [])) (list_of (num 1 ∷ num 2 ∷ []) ∷ []) (num 1 ∷ [])
  -- `@Set(1 ..._)` matches `Set(2, 1)`
  pub wild_remainder_of_a_set : Takes (on (num 0) (thin (two set_pattern (many row (thin (whole 1) ∷ [])) (leaf (rest rests.Wild))) ∷ [])) (set_of (num 2 ∷ num 1 ∷ []) ∷ []) []
  -- `@x, ...@_` matches `1, 2`
  pub wild_remainder_of_arguments : Takes (three bind (num 0) (many row (a_var ∷ [])) (leaf (rest rests.Wild))) (num 1 ∷ num 2 ∷ []) (num 1 ∷ [])
  -- all matches of `Set(x, y)` against `Set(2, 1)`
  pub set_in_two_ways : all_matches (thin (two set_pattern (many row (a_var ∷ a_var ∷ [])) (leaf (rest rests.No)))) (set_of (num 2 ∷ num 1 ∷ [])) ≡ (num 1 ∷ num 2 ∷ []) ∷ (num 2 ∷ num 1 ∷ []) ∷ []
  -- all matches of `{k: 5 ...r}` against `{2: 5, 1: 5}`
  pub map_in_two_ways : all_matches (thin (two map_pattern (many row (entry a_var (thin (whole 5)) ∷ [])) (leaf (rest rests.Var)))) (map_of (entry (num 2) (num 5) ∷ entry (num 1) (num 5) ∷ [])) ≡ (num 1 ∷ map_of (entry (num 2) (num 5) ∷ []) ∷ []) ∷ (num 2 ∷ map_of (entry (num 1) (num 5) ∷ []) ∷ []) ∷ []
  -- `@{bundle0 {Int}}` matches `bundle0 {1}`
  pub bundle_without_rights : Takes (on (num 0) (thin (one (bundle rights.Neither) (thin (leaf (simple simples.Int)))) ∷ [])) (only (one (bundle rights.Neither) (num 1)) ∷ []) []
