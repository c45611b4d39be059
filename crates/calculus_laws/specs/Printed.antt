-- Examples of printed texts.
use Rattle.std.specs.Prelude.{◌≡◌, ℕ, true, false, List, [], ◌∷◌, codes}
use Rattle.calculus.specs.declared.plain.BinaryOp.TheVariants as op
use Rattle.calculus.specs.declared.plain.TermRest.TheVariants as rests
use Rattle.calculus.specs.declared.plain.Origin.TheVariants as origins
use Rattle.calculus.specs.declared.plain.Rights.TheVariants as rights
use Rattle.calculus.specs.declared.plain.Simple.TheVariants as simples
use Rattle.calculus.specs.declared.plain.UnaryOp.TheVariants as unary_op
use Rattle.calculus.specs.Tree.{row, bool, bytes, fresh, send, bind, new, match, case, bundle, unary, rest, simple, same, both, not_this, list_pattern, map_pattern, Tree}
use Rattle.calculus.specs.Shape.{leaf, one, two, three, many, process, only}
use Rattle.calculus.specs.Examples.{whole, num, minus, word, nil, the_var, the_name, list_of, tuple_of, set_of, map_of, entry, op_on, call, sent, heard, on, thin, a_var, a_name, zeros}
use Rattle.calculus.specs.Printed.{printed_text}

-- a closed process prints this text
abbrev pub Prints : Tree → List ℕ → Type 0
Prints t s = printed_text t ≡ s

-- processes and their texts
pub record PrintedExamples : Type 0 where
  -- the text of `Nil`
  pub empty : Prints nil (codes "Nil")
  -- the text of `2 | 1`
  pub parts_ascend : Prints (process (whole 2 ∷ whole 1 ∷ [])) (codes "1 | 2")
  -- the text of `-9223372036854775808`
  pub below_zero : Prints (minus 9223372036854775808) (codes "-9223372036854775808")
  -- the text of `"a\"b\n\t\\"`
  pub string_with_escapes : Prints (word (97 ∷ 34 ∷ 98 ∷ 10 ∷ 9 ∷ 92 ∷ [])) (codes "\"a\\\"b\\n\\t\\\\\"")
  -- the text of `Set(3, 1, 2, 1)`
  pub set_with_repeats : Prints (set_of (num 3 ∷ num 1 ∷ num 2 ∷ num 1 ∷ [])) (codes "Set(1, 1, 2, 3)")
  -- the text of `(1,)`
  pub one_tuple : Prints (tuple_of (num 1 ∷ [])) (codes "(1,)")
  -- the text of ``new x(`rho:io:stdout`) in { x!("hi") }``
  pub fixed_name : Prints (only (one (new (origins.Stdout ∷ [])) (only (sent (the_name 0) (word (codes "hi") ∷ []))))) (codes "new v0(`rho:io:stdout`) in { v0!(\"hi\") }")
  -- the text of `for (a <- @1) { for (b <- @2) { new c in { a!(*b, *c) } } }`
  pub nested_variables : Prints (only (heard (on (num 1) (a_name ∷ []) ∷ []) (only (heard (on (num 2) (a_name ∷ []) ∷ []) (only (one (new (origins.Plain ∷ [])) (only (sent (the_name 2) (the_name 1 ∷ the_name 0 ∷ []))))))))) (codes "for (v0 <- @1) { for (v1 <- @2) { new v2 in { v0!(*v1, *v2) } } }")
  -- the text of `for (@x, ...@r <- @1) { @2!(x, r) }`
  pub remainder_of_a_bind : Prints (only (heard (three bind (num 1) (many row (a_var ∷ [])) (leaf (rest rests.Var)) ∷ []) (only (sent (num 2) (the_var 1 ∷ the_var 0 ∷ []))))) (codes "for (@v0, ...@v1 <- @1) { @2!(v0, v1) }")
  -- the text of `for (<- @1) { Nil }`
  pub empty_bind : Prints (only (heard (on (num 1) [] ∷ []) nil)) (codes "for (<- @1) { Nil }")
  -- the text of `for (@{1: x, y: 2 ...r} <- @1) { Nil }`
  pub map_pattern : Prints (only (heard (on (num 1) (thin (two map_pattern (many row (entry (thin (whole 1)) a_var ∷ entry a_var (thin (whole 2)) ∷ [])) (leaf (rest rests.Var))) ∷ []) ∷ []) nil)) (codes "for (@{1: v0, v1: 2 ...v2} <- @1) { Nil }")
  -- the text of `for (@{x /\ Int} <- @1) { Nil }`
  pub both_in_braces : Prints (only (heard (on (num 1) (thin (two both a_var (thin (leaf (simple simples.Int)))) ∷ []) ∷ []) nil)) (codes "for (@{(v0 /\\ Int)} <- @1) { Nil }")
  -- the text of `for (y <- @1) { for (@=*y <- @2) { Nil } }`
  pub same_process : Prints (only (heard (on (num 1) (a_name ∷ []) ∷ []) (only (heard (on (num 2) (thin (one same (the_name 0)) ∷ []) ∷ []) nil)))) (codes "for (v0 <- @1) { for (@={*v0} <- @2) { Nil } }")
  -- the text of `for (@{~{for (@x <- @1) { Nil }}} <- @1) { Nil }`
  pub closed_form : Prints (only (heard (on (num 1) (thin (one not_this (thin (heard (on (num 1) (a_var ∷ []) ∷ []) nil))) ∷ []) ∷ []) nil)) (codes "for (@{~{for (@v0 <- @1) { Nil }}} <- @1) { Nil }")
  -- the text of `if (1 == 2) @1!(1) else @1!(2)`
  pub match_of_an_operator : Prints (only (two match (op_on op.Eq (num 1) (num 2)) (many row (two case (thin (leaf (bool true))) (only (sent (num 1) (num 1 ∷ []))) ∷ two case (thin (leaf (bool false))) (only (sent (num 1) (num 2 ∷ []))) ∷ [])))) (codes "match ((1 == 2)) { (true) => { @1!(1) } (false) => { @1!(2) } }")
  -- the text of `match 0 { x => @1!(x) y => @2!(y) }`
  pub cases_count_afresh : Prints (only (two match (num 0) (many row (two case a_var (only (sent (num 1) (the_var 0 ∷ []))) ∷ two case a_var (only (sent (num 2) (the_var 0 ∷ []))) ∷ [])))) (codes "match (0) { (v0) => { @1!(v0) } (v0) => { @2!(v0) } }")
  -- the text of `[1].nth(0).foo(1, 2)`
  pub method_on_a_method : Prints (call (codes "foo") (call (codes "nth") (list_of (num 1 ∷ [])) (num 0 ∷ [])) (num 1 ∷ num 2 ∷ [])) (codes "({([1]).nth(0)}).foo(1, 2)")
  -- the text of `- - 5`
  pub negation : Prints (only (one (unary unary_op.Neg) (minus 5))) (codes "(-{-5})")
  -- the text of `@[1, Set(2), {3: 4}]!(({5}), (6,))`
  pub names : Prints (only (sent (list_of (num 1 ∷ set_of (num 2 ∷ []) ∷ map_of (entry (num 3) (num 4) ∷ []) ∷ [])) (num 5 ∷ tuple_of (num 6 ∷ []) ∷ []))) (codes "@[1, Set(2), {3: 4}]!(5, (6,))")
  -- a fresh name and a ByteArray, which no source spells
  pub a_fresh_name_and_bytes : Prints (only (two (send false) (only (leaf (fresh zeros))) (many row (only (leaf (bytes (1 ∷ 255 ∷ []))) ∷ [])))) (codes "$0000000000000000000000000000000000000000000000000000000000000000!(#01ff)")
  -- the text of `bundle0 {1}`
  pub bundle_without_rights : Prints (only (one (bundle rights.Neither) (num 1))) (codes "bundle0 { 1 }")
  -- the text of `for (@[..._] <- @1) { Nil }`
  pub wild_remainder : Prints (only (heard (on (num 1) (thin (two list_pattern (many row []) (leaf (rest rests.Wild))) ∷ []) ∷ []) nil)) (codes "for (@[..._] <- @1) { Nil }")
  -- the text of `for (@x ...@_ <- @1) { @2!(x) }`
  pub wild_remainder_of_a_bind : Prints (only (heard (three bind (num 1) (many row (a_var ∷ [])) (leaf (rest rests.Wild)) ∷ []) (only (sent (num 2) (the_var 0 ∷ []))))) (codes "for (@v0, ...@_ <- @1) { @2!(v0) }")
