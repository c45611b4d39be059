use Rattle.std.proofs.Common.{◌≡◌, ◌≤◌, ◌==◌, true, false, ℕ, List, length, rules, arith, subst, map, sym, ap, ◌∙◌, vec_len}
use Rattle.std.proofs.lemmas.Bool.Decides.{nat_tests}
use Rattle.std.proofs.lemmas.Cmp.{nat_list_cmp_total}
use Rattle.std.proofs.lemmas.List.Sorted.{answers_always, ranks_by}
use Rattle.std.specs.List.Sorted.{IsSortedBy}
use Rattle.std.specs.Borrow.{Bor}
use Rattle.calculus.proofs.Permutations.{each-moved}
use Rattle.radix_root.specs.Leaves.{group_digest}
use Rattle.radix_root.specs.Groups.{given}
use Rattle.checkpoint.proofs.Sorting.{low, ascending}
use Rattle.checkpoint.proofs.Adding.{closed, apart-closed, closed-nothing}
use Rattle.checkpoint.proofs.Apart.{without-length, with-length, each-nothing}
use Rattle.checkpoint.proofs.groups.Groups.close.Goals as goal

pub returns-then-is_empty-clause-closed : goal.returns-then-is_empty-clause-closed
returns-then-is_empty-clause-closed g c = λ rows h.
    let code : Bor (List ℕ) → List ℕ = λ s. s.now in
    let same : vec_len c.args.self.now.codes ≡ length c.args.self.now.codes.items = search rules in
    let test : (vec_len c.args.self.now.codes == 0) ≡ true = sym c.is_empty.ensures ∙ c.if-is_empty.true in
    let none : length c.args.self.now.codes.items ≡ 0 = grind (arith, nat_tests) in
    closed-nothing c.args.self.now.closed.items c.args.self.now.key.0 rows (sym h.codes ∙ ap (map code) (without-length c.args.self.now.codes.items none)) h.closed

pub returns-then-is_empty-clause-apart : goal.returns-then-is_empty-clause-apart
returns-then-is_empty-clause-apart g c = λ rows h. h.apart

pub returns-then-is_empty-clause-codes : goal.returns-then-is_empty-clause-codes
returns-then-is_empty-clause-codes g c =
    let same : vec_len c.args.self.now.codes ≡ length c.args.self.now.codes.items = search rules in
    let test : (vec_len c.args.self.now.codes == 0) ≡ true = sym c.is_empty.ensures ∙ c.if-is_empty.true in
    let none : length c.args.self.now.codes.items ≡ 0 = grind (arith, nat_tests) in
    without-length c.args.self.now.codes.items none

pub returns-clause-apart : goal.returns-clause-apart
returns-clause-apart g c = λ rows h.
    let code : Bor (List ℕ) → List ℕ = λ s. s.now in
    let same : vec_len c.args.self.now.codes ≡ length c.args.self.now.codes.items = search rules in
    let test : (vec_len c.args.self.now.codes == 0) ≡ false = sym c.is_empty.ensures ∙ c.if-is_empty.false in
    let some : 1 ≤ length c.args.self.now.codes.items = grind (arith, nat_tests) in
    apart-closed c.args.self.now.closed.items c.push.new.self.items c.of-group.result c.args.self.now.key.0 rows c.in_ok-push.ensures.items c.of-group.ensures.key
    (λ e. with-length c.args.self.now.codes.items some (each-nothing code c.args.self.now.codes.items (h.codes ∙ e)))
    h.last h.apart

pub returns-clause-closed : goal.returns-clause-closed
returns-clause-closed g c = λ rows h.
    let code : Bor (List ℕ) → List ℕ = λ s. s.now in
    let up : IsSortedBy (low code) c.sort_by.new.self.items = c.in_ok-sort_by.ensures.sorted (low code) (ranks_by nat_list_cmp_total code) (answers_always _ _ _ (λ f a r h e. search rules)) in
    closed c.args.self.now.closed.items c.push.new.self.items c.of-group.result c.args.self.now.key.0 rows (map code c.args.self.now.codes.items) (map code c.sort_by.new.self.items)
    c.in_ok-push.ensures.items c.of-group.ensures.key
    (subst (λ (xs : List (Bor (List ℕ))). given c.of-group.result.digest ≡ group_digest c.args.self.now.key.0 (map code xs)) c.as_slice.ensures.value c.of-group.ensures.digest)
    h.codes (each-moved code c.in_ok-sort_by.ensures.permutation) (ascending code _ up) h.closed
