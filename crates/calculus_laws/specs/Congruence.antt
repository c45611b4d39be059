-- Examples of congruence, codes and substitution.
use Rattle.std.specs.Prelude.{◌≡◌, true, false, [], ◌∷◌, codes}
use Rattle.calculus.specs.declared.plain.Origin.TheVariants as origins
use Rattle.calculus.specs.declared.plain.Rights.TheVariants as rights
use Rattle.calculus.specs.declared.plain.Simple.TheVariants as simples
use Rattle.calculus.specs.Tree.{set, new, bundle, var, same, simple, Tree}
use Rattle.calculus.specs.Shape.{leaf, one, many, process, only}
use Rattle.calculus.specs.Size.{height}
use Rattle.calculus.specs.Congruence.{congruent}
use Rattle.calculus.specs.Code.{code}
use Rattle.calculus.specs.Substitution.{put}
use Rattle.calculus.specs.Examples.{whole, num, word, nil, the_var, the_name, list_of, set_of, map_of, entry, sent, heard, on, thin, parts, a_var, hex, one_two, two_one}

-- `for (P <- @1) { Nil }` of this name pattern
abbrev pub hears : Tree → Tree
hears p = only (heard (on (num 1) (p ∷ []) ∷ []) nil)

-- which processes are congruent
pub record CongruenceExamples : Type 0 where
  -- parts stand in any order, and so do members of a set: `1 | Set(2, 3)` and `Set(3, 2) | 1`
  pub parts_in_any_order : congruent (process (whole 1 ∷ many set (num 2 ∷ num 3 ∷ []) ∷ [])) (process (many set (num 3 ∷ num 2 ∷ []) ∷ whole 1 ∷ [])) ≡ true
  -- sets in sets: `Set(Set(1, 2), 3)` and `Set(3, Set(2, 1))`
  pub sets_in_sets : congruent (set_of (set_of (num 1 ∷ num 2 ∷ []) ∷ num 3 ∷ [])) (set_of (num 3 ∷ set_of (num 2 ∷ num 1 ∷ []) ∷ [])) ≡ true
  -- pairs of a map: `{1: 2, 3: 4}` and `{3: 4, 1: 2}`
  pub pairs_in_any_order : congruent (map_of (entry (num 1) (num 2) ∷ entry (num 3) (num 4) ∷ [])) (map_of (entry (num 3) (num 4) ∷ entry (num 1) (num 2) ∷ [])) ≡ true
  -- repeats count: `Set(1, 1)` and `Set(1)`
  pub members_with_repeats : congruent (set_of (num 1 ∷ num 1 ∷ [])) (set_of (num 1 ∷ [])) ≡ false
  -- repeats count: `1 | 1 | 2` and `1 | 2 | 2`
  pub parts_with_repeats : congruent (process (whole 1 ∷ whole 1 ∷ whole 2 ∷ [])) (process (whole 1 ∷ whole 2 ∷ whole 2 ∷ [])) ≡ false
  -- items of a list stand in order: `[1, 2]` and `[2, 1]`
  pub lists_in_order : congruent (list_of (num 1 ∷ num 2 ∷ [])) (list_of (num 2 ∷ num 1 ∷ [])) ≡ false
  -- channels are compared as processes: `@{1 | 2}!(3)` and `@{2 | 1}!(3)`
  pub channels_are_processes : congruent (only (sent one_two (num 3 ∷ []))) (only (sent two_one (num 3 ∷ []))) ≡ true
  -- binds stand in order: `for (@a <- @1 & @b <- @2) { Nil }` and `for (@a <- @2 & @b <- @1) { Nil }`
  pub binds_in_order : congruent (only (heard (on (num 1) (a_var ∷ []) ∷ on (num 2) (a_var ∷ []) ∷ []) nil)) (only (heard (on (num 2) (a_var ∷ []) ∷ on (num 1) (a_var ∷ []) ∷ []) nil)) ≡ false
  -- parts of a pattern stand in order: `for (@{1 | Int} <- @1) { Nil }` and `for (@{Int | 1} <- @1) { Nil }`
  pub patterns_in_order : congruent (hears (parts (whole 1 ∷ leaf (simple simples.Int) ∷ []))) (hears (parts (leaf (simple simples.Int) ∷ whole 1 ∷ []))) ≡ false
  -- a process in a pattern is a process: `for (@={1 | 2} <- @1) { Nil }` and `for (@={2 | 1} <- @1) { Nil }`
  pub same_holds_a_process : congruent (hears (thin (one same one_two))) (hears (thin (one same two_one))) ≡ true
  -- and so is a closed form: `for (@{new a in { 1 | 2 }} <- @1) { Nil }` and the same with `2 | 1`
  pub closed_forms_are_processes : congruent (hears (thin (one (new (origins.Plain ∷ [])) one_two))) (hears (thin (one (new (origins.Plain ∷ [])) two_one))) ≡ true
  -- an Int and a String: `1` and `"1"`
  pub kinds_differ : congruent (num 1) (word (codes "1")) ≡ false

-- codes, heights, and values put in for variables
pub record CodeExamples : Type 0 where
  -- the code of `@1!(3)`
  pub code_of_a_send : code (only (sent (num 1) (num 3 ∷ []))) ≡ hex (codes "000000013000000000011180000000000000010000000100000001118000000000000003")
  -- the code of `bundle0 {1}`
  pub code_of_a_bundle : code (only (one (bundle rights.Neither) (num 1))) ≡ hex (codes "00000001340000000001118000000000000001")
  -- the codes of `2 | 1` and `1 | 2` are one
  pub parts_ascend : code two_one ≡ code one_two
  -- and so are those of `Set(2, 1)` and `Set(1, 2)`
  pub members_ascend : code (set_of (num 2 ∷ num 1 ∷ [])) ≡ code (set_of (num 1 ∷ num 2 ∷ []))
  -- `Nil` has height 0
  pub height_of_nil : height nil ≡ 0
  -- `[]` has height 1
  pub height_of_an_empty_list : height (list_of []) ≡ 1
  -- `{1: @2!(3)}` has height 2: a pair adds nothing
  pub height_of_a_map : height (map_of (entry (num 1) (only (sent (num 2) (num 3 ∷ []))) ∷ [])) ≡ 2
  -- the parts of a value join those around the variable: `x | 3` with `1 | 4` for x
  pub parts_of_a_value_join : put (process (whole 1 ∷ whole 4 ∷ []) ∷ []) (process (leaf (var 0) ∷ whole 3 ∷ [])) ≡ process (whole 1 ∷ whole 3 ∷ whole 4 ∷ [])
  -- the first value is that of the first variable bound: `[x, y]` with 7 for x and 8 for y
  pub values_in_order : put (num 7 ∷ num 8 ∷ []) (list_of (the_var 1 ∷ the_var 0 ∷ [])) ≡ list_of (num 7 ∷ num 8 ∷ [])
  -- a bound variable is not touched: `for (@y <- @1) { [x, y] }` with 7 for x
  pub inner_variables_stay : put (num 7 ∷ []) (only (heard (on (num 1) (a_var ∷ []) ∷ []) (list_of (the_var 1 ∷ the_var 0 ∷ [])))) ≡ only (heard (on (num 1) (a_var ∷ []) ∷ []) (list_of (num 7 ∷ the_var 0 ∷ [])))
  -- ={P} is reached under a binder: `for (@={x}, @y <- @1) { y }` with 7 for x
  pub same_is_reached : put (num 7 ∷ []) (only (heard (on (num 1) (thin (one same (the_var 0)) ∷ a_var ∷ []) ∷ []) (the_var 0))) ≡ only (heard (on (num 1) (thin (one same (num 7)) ∷ a_var ∷ []) ∷ []) (the_var 0))
  -- the drop of a name variable becomes the process: `n!(*n)` with `@{1 | 2}` for n
  pub drops_and_channels : put (one_two ∷ []) (only (sent (the_name 0) (the_name 0 ∷ []))) ≡ only (sent one_two (one_two ∷ []))
  -- what is made is put in order: `[x | 1]` with 0 for x
  pub made_in_order : put (num 0 ∷ []) (list_of (process (whole 1 ∷ leaf (var 0) ∷ []) ∷ [])) ≡ list_of (process (whole 0 ∷ whole 1 ∷ []) ∷ [])
