use Rattle.std.proofs.Common.{ℕ, List, rules, subst, map}
use Rattle.std.specs.Prelude.{IsPermutation}
use Rattle.std.proofs.lemmas.Cmp.{nat_list_cmp_total}
use Rattle.std.proofs.lemmas.List.Sorted.{answers_always, ranks_by}
use Rattle.std.specs.List.Sorted.{IsSortedBy}
use Rattle.calculus.proofs.Permutations.{each-moved}
use Rattle.calculus.specs.Rows.{Row}
use Rattle.checkpoint.proofs.Adding.{all-moved}
use Rattle.checkpoint.proofs.Sorting.{low, ascending}
use Rattle.next_states.specs.declared.walk.Coded.{Coded}
use Rattle.next_states.specs.Walks.{row_of, IsCoded}
use Rattle.next_states.proofs.walk.rows_by_code.Goals as goal

pub returns-clause-rows : goal.returns-clause-rows
returns-clause-rows c = subst (λ (rs : List Row). IsPermutation rs (map row_of c.sort_by.new.self.items)) c.in_ok-coded.ensures.rows (each-moved row_of c.in_ok-sort_by.ensures.permutation)

pub returns-clause-coded : goal.returns-clause-coded
returns-clause-coded c = all-moved IsCoded c.in_ok-sort_by.ensures.permutation c.in_ok-coded.ensures.coded

pub returns-clause-order : goal.returns-clause-order
returns-clause-order c =
    let code : Coded → List ℕ = λ r. r.code.items in
    let up : IsSortedBy (low code) c.sort_by.new.self.items = c.in_ok-sort_by.ensures.sorted (low code) (ranks_by nat_list_cmp_total code) (answers_always _ _ _ (λ f a r h e. search rules)) in
    ascending code _ up
