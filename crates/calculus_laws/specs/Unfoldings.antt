-- Examples of unfoldings, with prices and faults.
use Rattle.std.specs.Prelude.{◌≡◌, ℕ, true, false, List, [], ◌∷◌, length, Some, codes, map as each}
use Rattle.calculus.specs.declared.plain.BinaryOp.TheVariants as op
use Rattle.calculus.specs.declared.fault.FaultKind.TheVariants as fault
use Rattle.calculus.specs.declared.plain.Rights.TheVariants as rights
use Rattle.calculus.specs.Tree.{row, bool, var, match, case, bundle, binary, same, both, Tree}
use Rattle.calculus.specs.Shape.{leaf, one, two, many, process, only}
use Rattle.calculus.specs.Examples.{whole, num, word, nil, the_var, list_of, map_of, entry, op_on, call, sent, heard, on, thin, a_var, prices, sends_around}
use Rattle.calculus.specs.declared.fault.FaultKind.{FaultKind}
use Rattle.calculus.specs.Outcome.{gives, fails, unknown, pure, after, over, within, capped}
use Rattle.calculus.specs.Seeds.{digest_of, Split}
use Rattle.calculus.specs.Unfolding.{a_row, rows_of, unfold_in}

-- a process with the empty list as its seed offers these parts at this price
abbrev pub Offers : Tree → ℕ → List Tree → Type 0
Offers t n ps = after (unfold_in prices 9 t []) (λ ts. pure (each (λ r. r.part) (rows_of ts))) ≡ record { price = n; answer = gives ps }

-- the unfolding of a process ends at this price with this fault
abbrev pub Stops : Tree → ℕ → FaultKind → Type 0
Stops t n f = unfold_in prices 9 t [] ≡ record { price = n; answer = fails f }

-- what processes offer, prices and faults
pub record UnfoldingExamples : Type 0 where
  -- `Nil`
  pub nothing : Offers nil 0 []
  -- `[@1!(2)]`
  pub list_offers_nothing : Offers ((list_of (only (sent (num 1) (num 2 ∷ [])) ∷ []))) 0 []
  -- `for (@b <- @2; @a <- @1) { for (@c <- @1) { @3!(a, b, c) } }`
  pub binds_are_sorted : Offers ((only (heard (on (num 2) (a_var ∷ []) ∷ on (num 1) (a_var ∷ []) ∷ []) (only (heard (on (num 1) (a_var ∷ []) ∷ []) (only (sent (num 3) (the_var 1 ∷ the_var 2 ∷ the_var 0 ∷ [])))))))) 4 (heard (on (num 1) (a_var ∷ []) ∷ on (num 2) (a_var ∷ []) ∷ []) (only (heard (on (num 1) (a_var ∷ []) ∷ []) (only (sent (num 3) (the_var 2 ∷ the_var 1 ∷ the_var 0 ∷ []))))) ∷ [])
  -- `for (@x <- @2; @y <- @1) { for (@=x <- @x; @{={x | y} /\ z} <- @y) { @z!(x, y) } }`: in ={P} too the variables are numbered anew
  pub same_under_binders : Offers ((only (heard (on (num 2) (a_var ∷ []) ∷ on (num 1) (a_var ∷ []) ∷ []) (only (heard (on (the_var 1) (thin (one same (the_var 1)) ∷ []) ∷ on (the_var 0) (thin (two both (thin (one same (process (leaf (var 1) ∷ leaf (var 0) ∷ [])))) a_var) ∷ []) ∷ []) (only (sent (the_var 0) (the_var 2 ∷ the_var 1 ∷ [])))))))) 4 (heard (on (num 1) (a_var ∷ []) ∷ on (num 2) (a_var ∷ []) ∷ []) (only (heard (on (the_var 0) (thin (one same (the_var 0)) ∷ []) ∷ on (the_var 1) (thin (two both (thin (one same (process (leaf (var 0) ∷ leaf (var 1) ∷ [])))) a_var) ∷ []) ∷ []) (only (sent (the_var 0) (the_var 1 ∷ the_var 2 ∷ []))))) ∷ [])
  -- `if (1 == 2) { @1!(1) } else { @2!(2) }`
  pub second_case : Offers ((only (two match (op_on op.Eq (num 1) (num 2)) (many row (two case (thin (leaf (bool true))) (only (sent (num 1) (num 1 ∷ []))) ∷ two case (thin (leaf (bool false))) (only (sent (num 2) (num 2 ∷ []))) ∷ []))))) 6 (sent (num 2) (num 2 ∷ []) ∷ [])
  -- `match {match 1 { y => @9!(y) }} { x => { x | x } }`
  pub matched_code_runs_twice : Offers ((only (two match (only (two match (num 1) (many row (two case a_var (only (sent (num 9) (the_var 0 ∷ []))) ∷ [])))) (many row (two case a_var (process (leaf (var 0) ∷ leaf (var 0) ∷ [])) ∷ []))))) 9 (sent (num 9) (num 1 ∷ []) ∷ sent (num 9) (num 1 ∷ []) ∷ [])
  -- `{1: {@5!(6) | @7!(1 + 1)}}.get(1)`
  pub value_is_unfolded : Offers ((call (codes "get") (map_of (entry (num 1) (process (sent (num 5) (num 6 ∷ []) ∷ sent (num 7) (op_on op.Add (num 1) (num 1) ∷ []) ∷ [])) ∷ [])) (num 1 ∷ []))) 8 (sent (num 5) (num 6 ∷ []) ∷ sent (num 7) (num 2 ∷ []) ∷ [])
  -- `@{bundle+ {bundle {1}}}!(2)`
  pub bundles_on_a_channel : Offers ((only (sent (only (one (bundle rights.Write) (only (one (bundle rights.Both) (num 1))))) (num 2 ∷ [])))) 3 (sent (num 1) (num 2 ∷ []) ∷ [])
  -- `@{bundle+ {bundle- {1}}}!(2)`
  pub not_writable : Stops ((only (sent (only (one (bundle rights.Write) (only (one (bundle rights.Read) (num 1))))) (num 2 ∷ [])))) 3 fault.NotWritable
  -- `@{bundle0 {1}}!(2)`
  pub no_rights_to_write : Stops (only (sent (only (one (bundle rights.Neither) (num 1))) (num 2 ∷ []))) 3 fault.NotWritable
  -- `for (@x <- @{bundle0 {1}}) { Nil }`
  pub no_rights_to_read : Stops (only (heard (on (only (one (bundle rights.Neither) (num 1))) (a_var ∷ []) ∷ []) nil)) 4 fault.NotReadable
  -- `bundle0 {@1!(2)}`
  pub bundle_is_unfolded : Offers (only (one (bundle rights.Neither) (only (sent (num 1) (num 2 ∷ []))))) 3 (sent (num 1) (num 2 ∷ []) ∷ [])
  -- `for (@x <- @{bundle+ {1}}) { Nil }`
  pub not_readable : Stops ((only (heard (on (only (one (bundle rights.Write) (num 1))) (a_var ∷ []) ∷ []) nil))) 4 fault.NotReadable
  -- `for (@a <- @{1 + 1}; @b <- @2) { Nil }`
  pub same_channel : Stops ((only (heard (on (op_on op.Add (num 1) (num 1)) (a_var ∷ []) ∷ on (num 2) (a_var ∷ []) ∷ []) nil))) 5 fault.SameChannel
  -- `for (@a <- @1; @b <- @{bundle+ {1}}) { Nil }`
  pub not_readable_before_same_channel : Stops (only (heard (on (num 1) (a_var ∷ []) ∷ on (only (one (bundle rights.Write) (num 1))) (a_var ∷ []) ∷ []) nil)) 4 fault.NotReadable
  -- `for (@a <- @1; @b <- @{bundle {1}}) { Nil }`
  pub same_channel_in_a_bundle : Stops (only (heard (on (num 1) (a_var ∷ []) ∷ on (only (one (bundle rights.Both) (num 1))) (a_var ∷ []) ∷ []) nil)) 4 fault.SameChannel
  -- 400 sends inside one another, the greatest height
  pub deepest_send : Offers (sends_around 400 nil) 3 (sent nil (sends_around 399 nil ∷ []) ∷ [])
  -- and one more
  pub send_too_deep : Stops (sends_around 401 nil) 3 fault.TooDeep
  -- `@{bundle- {1}}!(x)` with 400 sends inside one another for x
  pub not_writable_before_too_deep : Stops (only (sent (only (one (bundle rights.Read) (num 1))) (sends_around 400 nil ∷ []))) 3 fault.NotWritable
  -- `match x { y => @Nil!(y) }` with 399 of them for x
  pub deepest_body : Offers (only (two match (sends_around 399 nil) (many row (two case a_var (only (sent nil (the_var 0 ∷ []))) ∷ [])))) 4 (sent nil (sends_around 399 nil ∷ []) ∷ [])
  -- and with 400: the body is too deep before its send has a price
  pub body_too_deep : Stops (only (two match (sends_around 400 nil) (many row (two case a_var (only (sent nil (the_var 0 ∷ []))) ∷ [])))) 1 fault.TooDeep
  -- `@Nil!(s)` of a String of 1,048,525 bytes, whose row's code has 51 more: the greatest length
  pub longest_send : (s : List ℕ) → length s ≡ 1048525 → Offers (only (sent nil (word s ∷ []))) 3 (sent nil (word s ∷ []) ∷ [])
  -- and one more
  pub send_too_big : (s : List ℕ) → length s ≡ 1048526 → Stops (only (sent nil (word s ∷ []))) 3 fault.TooBig
  -- `@{bundle- {1}}!(s)` of that String
  pub not_writable_before_too_big : (s : List ℕ) → length s ≡ 1048526 → Stops (only (sent (only (one (bundle rights.Read) (num 1))) (word s ∷ []))) 3 fault.NotWritable
  -- 401 sends inside one another around a String of 1,042,967 bytes: the row is too deep and too big, what it sends is neither
  pub too_deep_before_too_big : (s : List ℕ) → length s ≡ 1042967 → Stops (sends_around 401 (word s)) 3 fault.TooDeep
  -- `match s { x => bundle {x} }` of a String of 1,048,561 bytes: the code of the body with it has 15 more
  pub longest_body : (s : List ℕ) → length s ≡ 1048561 → Offers (only (two match (word s) (many row (two case a_var (only (one (bundle rights.Both) (the_var 0))) ∷ [])))) 1 []
  -- and one more: the fault has no price
  pub body_too_big : (s : List ℕ) → length s ≡ 1048562 → Stops (only (two match (word s) (many row (two case a_var (only (one (bundle rights.Both) (the_var 0))) ∷ [])))) 1 fault.TooBig
  -- `@1!(2) | 1 / 0`
  pub fault_keeps_the_price_before : Stops ((process (sent (num 1) (num 2 ∷ []) ∷ two (binary op.Div) (num 1) (num 0) ∷ []))) 4 fault.DivZero
  -- `match 1 { 2 => Nil 1 => 1 / 0 }`
  pub case_bodies_fault : Stops ((only (two match (num 1) (many row (two case (thin (whole 2)) nil ∷ two case (thin (whole 1)) (op_on op.Div (num 1) (num 0)) ∷ []))))) 3 fault.DivZero
  -- no room
  pub unknown_without_room : unfold_in prices 0 nil [] ≡ record { price = 0; answer = unknown }
  -- `@1!(3)` under a cap of 2
  pub over_the_cap : capped 2 (unfold_in prices 1 (only (sent (num 1) (num 3 ∷ []))) []) ≡ Some over
  -- `@1!(3)` under a cap of 3
  pub within_the_cap : capped 3 (unfold_in prices 1 (only (sent (num 1) (num 3 ∷ []))) []) ≡ Some (within (record { price = 3; answer = gives (a_row (record { id = digest_of (Split [] 0); part = sent (num 1) (num 3 ∷ []) }) ∷ []) }))
  -- `1 / 0` under a cap of 0 passes the cap before its fault
  pub over_before_the_fault : capped 0 (unfold_in prices 1 (op_on op.Div (num 1) (num 0)) []) ≡ Some over
