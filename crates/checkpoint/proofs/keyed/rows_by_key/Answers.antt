use Rattle.std.proofs.Common.{ℕ, List, rules, subst, map}
use Rattle.std.specs.Prelude.{IsPermutation}
use Rattle.std.proofs.lemmas.Cmp.{nat_list_cmp_total}
use Rattle.std.proofs.lemmas.List.Sorted.{answers_always, ranks_by}
use Rattle.std.specs.List.Sorted.{IsSortedBy}
use Rattle.calculus.proofs.Permutations.{each-moved}
use Rattle.calculus.specs.Rows.{Row}
use Rattle.checkpoint.specs.declared.keyed.KeyedRow.{KeyedRow}
use Rattle.checkpoint.specs.Groups.{row_of, IsKeyed}
use Rattle.checkpoint.proofs.Adding.{all-moved}
use Rattle.checkpoint.proofs.Sorting.{low, ascending}
use Rattle.checkpoint.proofs.keyed.rows_by_key.Goals as goal

pub returns-clause-rows : goal.returns-clause-rows
returns-clause-rows c = subst (λ (rs : List Row). IsPermutation rs (map row_of c.sort_by.new.self.items)) c.in_ok-keyed.ensures.rows (each-moved row_of c.in_ok-sort_by.ensures.permutation)

pub returns-clause-order : goal.returns-clause-order
returns-clause-order c =
    let code : KeyedRow → List ℕ = λ k. k.key.now.0 in
    let up : IsSortedBy (low code) c.sort_by.new.self.items = c.in_ok-sort_by.ensures.sorted (low code) (ranks_by nat_list_cmp_total code) (answers_always _ _ _ (λ f a r h e. search rules)) in
    record { keyed = all-moved IsKeyed c.in_ok-sort_by.ensures.permutation c.in_ok-keyed.ensures.keyed; ascending = ascending code _ up }
