-- Examples of printed texts that spell processes.
use Rattle.std.specs.Prelude.{◌≡◌, ℕ, true, List, [], ◌∷◌, ◌++◌, replicate, codes}
use Rattle.calculus.specs.declared.plain.Simple.TheVariants as simples
use Rattle.calculus.specs.declared.plain.Rights.TheVariants as rights
use Rattle.calculus.specs.declared.plain.TermRest.TheVariants as rests
use Rattle.calculus.specs.declared.plain.Origin.TheVariants as origins
use Rattle.calculus.specs.declared.plain.UnaryOp.TheVariants as unary_op
use Rattle.calculus.specs.declared.plain.BinaryOp.TheVariants as op
use Rattle.calculus.specs.Tree.{row, bool, bytes, uri, fresh, tuple, send, bind, new, match, case, bundle, unary, binary, method, rest, any, simple, same, both, either, not_this, list_pattern, set_pattern, map_pattern, Tree}
use Rattle.calculus.specs.Shape.{leaf, one, two, three, many, process, only}
use Rattle.calculus.specs.CodeLaws.{IsShort}
use Rattle.calculus.specs.Form.{IsClosed}
use Rattle.calculus.specs.Examples.{whole, num, minus, word, yes, nil, the_var, the_name, list_of, tuple_of, set_of, map_of, entry, sent, heard, on, thin, parts, a_var, a_name, zeros}
use Rattle.calculus.specs.Printed.{printed_text}

-- a tree meets what the laws ask, and its text is this one
abbrev pub IsShown : Tree → List ℕ → Type 0
IsShown t x = IsClosed t × IsShort t × (printed_text t ≡ x)

-- `1 + -5`, `not - 5` and others beside each other
abbrev pub operators : Tree
operators = process (two (binary op.Add) (num 1) (minus 5) ∷ one (unary unary_op.Not) (only (one (unary unary_op.Neg) (num 5))) ∷ two (method (codes "foo")) nil (many row (num 2 ∷ yes ∷ [])) ∷ one (bundle rights.Write) nil ∷ [])

-- a send of ground values on a fresh name, and one of collections on an Int
abbrev pub values : Tree
values = process (two (send true) (only (leaf (fresh zeros))) (many row (only (leaf (bytes (1 ∷ 255 ∷ []))) ∷ only (leaf (uri (codes "a:b"))) ∷ word (codes "a\"b") ∷ [])) ∷ sent (minus 5) (map_of [] ∷ map_of (entry (num 1) nil ∷ []) ∷ tuple_of (nil ∷ []) ∷ set_of [] ∷ list_of [] ∷ []) ∷ [])

-- a receive with patterns of many forms
abbrev pub patterns : Tree
patterns = only (heard (three bind (num 1)
    (many row (thin (two list_pattern (many row (a_var ∷ thin (leaf any) ∷ [])) (leaf (rest rests.Var)))
    ∷ thin (two map_pattern (many row (entry (thin (whole 1)) a_var ∷ [])) (leaf (rest rests.Wild)))
    ∷ thin (two set_pattern (many row []) (leaf (rest rests.Wild)))
    ∷ thin (many tuple (thin (whole 1) ∷ [])) ∷ a_name ∷ []))
    (leaf (rest rests.Var)) ∷ on nil [] ∷ []) (only (sent (the_name 1) (the_var 4 ∷ the_var 3 ∷ the_var 2 ∷ the_var 0 ∷ []))))

-- a `match` with patterns of other forms
abbrev pub cases : Tree
cases = only (two match nil (many row (two case (thin (two both (thin (leaf (simple simples.Int))) (thin (one not_this (thin (whole 3)))))) nil
    ∷ two case (thin (two either (thin (leaf (bool true))) (parts []))) nil
    ∷ two case (thin (one same nil)) nil
    ∷ two case (parts (one (new (origins.Stdout ∷ [])) (only (sent (the_name 0) [])) ∷ one (bundle rights.Read) (thin (leaf any)) ∷ two (send true) a_name (many row (a_var ∷ [])) ∷ [])) (only (sent (the_name 1) (the_var 0 ∷ []))) ∷ [])))

-- processes and their texts
pub record SpellingExamples : Type 0 where
  pub operators_are : IsShown operators (codes "bundle+ { Nil } | (not {(-{5})}) | (1 + -5) | ({Nil}).foo(2, true)")
  pub values_are : IsShown values (codes "@-5!({}, {1: Nil}, (Nil,), Set(), []) | $" ++ (replicate 64 48 ++ codes "!!(#01ff, `a:b`, \"a\\\"b\")"))
  pub patterns_are : IsShown patterns (codes "for (@[v0, _ ...v1], @{1: v2 ..._}, @Set(..._), @(1,), v3, ...@v4 <- @1 & <- @{Nil}) { v3!(v0, v1, v2, v4) }")
  pub cases_are : IsShown cases (codes "match (Nil) { ((Int /\\ {~3})) => { Nil } ((true \\/ {Nil})) => { Nil } (={Nil}) => { Nil } (new v0(`rho:io:stdout`) in { v0!() } | bundle- { _ } | v0!!(v1)) => { v0!(v1) } }")
