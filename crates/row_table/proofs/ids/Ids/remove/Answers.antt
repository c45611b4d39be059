use Rattle.std.proofs.Common.{◌≡◌, ◌<◌, ◌≤◌, ◌+◌, List, ℕ, ◌-◌, arith, length, get_or, sym, ◌∙◌, ap, subst}
use Rattle.std.specs.Vec.{vec_len}
use Rattle.calculus.specs.Steps.{is_one_of}
use Rattle.row_table.specs.Ids.{bytes_of, StandsAt}
use Rattle.row_table.proofs.Standing.{last-gone, last-moved, left-there}
use Rattle.row_table.proofs.ids.Ids.remove.Goals as goal

pub invariant_of-self : goal.invariant_of-self
invariant_of-self c =
    let i = c.self.inside in
    let ls = i.list.items in
    let ns = c.swap_remove.new.self.items in
    let p = c.in-Some.place in
    let id = c.args.id.now.0 in
    let m = c.index.result.now in
    let at = subst (λ (xs : List (List ℕ)). StandsAt xs p id) (sym c.self.view_is) c.in-Some.ensures in
    let e : p < length ns = omega (arith, c.len.ensures, c.if-place-len.true) in
    let len : length ns + 1 ≡ length ls = omega (arith, c.swap_remove.ensures.len) in
    let v : vec_len i.list ≡ length ls = omega arith in
    last-moved ls ns p id at len (λ k d n l. c.swap_remove.ensures.by_index.1 k d n (omega (arith, l))) i.places c.remove.new.self c.note_place.new.places m c.remove.ensures.updates c.note_place.ensures c.self.invariant e
    c.index.ensures (c.swap_remove.ensures.by_index.0 m (omega (arith, e, len)) ∙ ap (λ z. get_or ls (z - 1) m) v)

pub invariant_of-self-else-place-len : goal.invariant_of-self-else-place-len
invariant_of-self-else-place-len c =
    let i = c.self.inside in
    let ls = i.list.items in
    let ns = c.swap_remove.new.self.items in
    let p = c.in-Some.place in
    let id = c.args.id.now.0 in
    let at = subst (λ (xs : List (List ℕ)). StandsAt xs p id) (sym c.self.view_is) c.in-Some.ensures in
    let len : length ns + 1 ≡ length ls = omega (arith, c.swap_remove.ensures.len) in
    let e : length ns ≤ p = omega (arith, c.len.ensures, c.if-place-len.false) in
    last-gone ls ns p id at len (λ k d n l. c.swap_remove.ensures.by_index.1 k d n (omega (arith, l))) i.places c.remove.new.self c.remove.ensures.updates c.self.invariant e

pub returns-then-place-len : goal.returns-then-place-len
returns-then-place-len c =
    let ls = c.self.inside.list.items in
    let p = c.in-Some.place in
    let id = c.args.id.now.0 in
    let at = subst (λ (xs : List (List ℕ)). StandsAt xs p id) (sym c.self.view_is) c.in-Some.ensures in
    λ x n h. ap (λ ds. is_one_of x (bytes_of ds)) c.swap_remove.ensures.items ∙ left-there ls p c.swap_remove.result id at c.swap_remove.ensures.value x n (ap (is_one_of x) c.self.view_is ∙ h)

pub returns-else-place-len : goal.returns-else-place-len
returns-else-place-len c =
    let ls = c.self.inside.list.items in
    let p = c.in-Some.place in
    let id = c.args.id.now.0 in
    let at = subst (λ (xs : List (List ℕ)). StandsAt xs p id) (sym c.self.view_is) c.in-Some.ensures in
    λ x n h. ap (λ ds. is_one_of x (bytes_of ds)) c.swap_remove.ensures.items ∙ left-there ls p c.swap_remove.result id at c.swap_remove.ensures.value x n (ap (is_one_of x) c.self.view_is ∙ h)
