-- Examples of the order of processes, which is the order of their codes.
use Rattle.std.specs.Prelude.{◌≡◌, true, [], ◌∷◌, codes}
use Rattle.std.specs.declared.cmp.Ordering.TheVariants.{Less, Equal}
use Rattle.calculus.specs.declared.plain.Kind.TheVariants as kinds
use Rattle.calculus.specs.declared.plain.Rights.{Rights}
use Rattle.calculus.specs.declared.plain.Rights.TheVariants as rights
use Rattle.calculus.specs.declared.plain.TermRest.TheVariants as rests
use Rattle.calculus.specs.declared.plain.Origin.TheVariants as origins
use Rattle.calculus.specs.Tree.{row, send, receive, new, match, case, bundle, rest, list_pattern, any, Tree}
use Rattle.calculus.specs.Shape.{leaf, one, two, many, process, only}
use Rattle.calculus.specs.Order.{byte_cmp}
use Rattle.calculus.specs.Code.{code}
use Rattle.calculus.specs.Examples.{whole, num, minus, word, yes, no, nil, list_of, set_of, map_of, entry, sent, heard, on, thin, a_var}

-- the one process stands before the other
abbrev pub IsLess : Tree → Tree → Type 0
IsLess t u = byte_cmp (code t) (code u) ≡ Less

-- a persistent send of these processes
abbrev pub sent_for_ever : Tree → Tree
sent_for_ever x = two (send true) (num 0) (many row (x ∷ []))

-- a bundle with these rights round a process
abbrev pub bundled : Rights → Tree → Tree
bundled r t = only (one (bundle r) t)

-- which of two processes stands first
pub record OrderExamples : Type 0 where
  -- `false`, `true`
  pub false_first : IsLess no yes
  -- `-1`, `1`: numbers stand as signed ones
  pub signed : IsLess (minus 1) (num 1)
  -- `2`, `256`: by their sizes, and not by their last bytes
  pub large_numbers : IsLess (num 2) (num 256)
  -- `"b"`, `"aa"`: the shorter text first
  pub short_text_first : IsLess (word (codes "b")) (word (codes "aa"))
  -- `"ab"`, `"ba"`: texts of one length by their bytes
  pub texts_by_bytes : IsLess (word (codes "ab")) (word (codes "ba"))
  -- `true`, `-1`: kinds by their tags
  pub kinds_by_tags : IsLess yes (minus 1)
  -- `3`, `1 | 2`: fewer parts first
  pub fewer_parts_first : IsLess (num 3) (process (whole 1 ∷ whole 2 ∷ []))
  -- `Nil` stands before all
  pub nil_first : IsLess nil no
  -- `[9]`, `[1, 1]`: the shorter list first
  pub short_list_first : IsLess (list_of (num 9 ∷ [])) (list_of (num 1 ∷ num 1 ∷ []))
  -- `[1, 9]`, `[2, 1]`: by the first members that differ
  pub first_members : IsLess (list_of (num 1 ∷ num 9 ∷ [])) (list_of (num 2 ∷ num 1 ∷ []))
  -- `Set(2, 1)`, `Set(1, 2)`: a set has no order of its own
  pub sets_are_one : byte_cmp (code (set_of (num 2 ∷ num 1 ∷ []))) (code (set_of (num 1 ∷ num 2 ∷ []))) ≡ Equal
  -- `{1: 9}`, `{2: 1}`: keys before values
  pub keys_first : IsLess (map_of (entry (num 1) (num 9) ∷ [])) (map_of (entry (num 2) (num 1) ∷ []))
  -- `@9!(9)`, `@0!!(0)`: persistence before the channel
  pub persistence_first : IsLess (only (sent (num 9) (num 9 ∷ []))) (only (sent_for_ever (num 0)))
  -- `@0!(1, 1)`, `@1!(0)`: the channel before the data
  pub channel_first : IsLess (only (sent (num 0) (num 1 ∷ num 1 ∷ []))) (only (sent (num 1) (num 0 ∷ [])))
  -- `bundle0 {9}`, `bundle+ {0}`
  pub rights_first : IsLess (bundled rights.Neither (num 9)) (bundled rights.Write (num 0))
  -- `for (@x <- @0) {9}`, `for (@x <- @1) {0}`: binds before the body
  pub binds_first : IsLess (only (heard (on (num 0) (a_var ∷ []) ∷ []) (num 9))) (only (heard (on (num 1) (a_var ∷ []) ∷ []) (num 0)))
  -- `for (@x <- @0) {0}`, `for (@_ <- @0) {0}`: patterns after the channel
  pub patterns_differ : IsLess (only (heard (on (num 0) (a_var ∷ []) ∷ []) (num 0))) (only (heard (on (num 0) (thin (leaf any) ∷ []) ∷ []) (num 0)))
  -- `for (@x <- @9) {9}`, `for (@x <= @0) {0}`: the kind before the binds
  pub kind_first : IsLess (only (heard (on (num 9) (a_var ∷ []) ∷ []) (num 9))) (only (two (receive kinds.Persistent) (many row (on (num 0) (a_var ∷ []) ∷ [])) (num 0)))
  -- `new x in {9}`, `new x, y in {0}`: fewer names first
  pub fewer_names_first : IsLess (only (one (new (origins.Plain ∷ [])) (num 9))) (only (one (new (origins.Plain ∷ origins.Plain ∷ [])) (num 0)))
  -- `match 0 {x => 9}`, `match 1 {x => 0}`: the target before the cases
  pub target_first : IsLess (only (two match (num 0) (many row (two case a_var (num 9) ∷ [])))) (only (two match (num 1) (many row (two case a_var (num 0) ∷ []))))
  -- `match 0 {[x] => 0}`, `match 0 {[x ..._] => 0}`: the remainder of a list last
  pub remainder_last : IsLess
      (only (two match (num 0) (many row (two case (thin (two list_pattern (many row (a_var ∷ [])) (leaf (rest rests.No)))) (num 0) ∷ []))))
      (only (two match (num 0) (many row (two case (thin (two list_pattern (many row (a_var ∷ [])) (leaf (rest rests.Wild)))) (num 0) ∷ []))))
