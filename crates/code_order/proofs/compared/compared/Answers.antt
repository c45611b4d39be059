use Rattle.std.proofs.Common.{◌≡◌, ℕ, List, ap, subst}
use Rattle.std.specs.Prelude.{IfOk}
use Rattle.std.proofs.lemmas.Cmp.{nat_list_cmp_total}
use Rattle.std.proofs.lemmas.List.Sorted.{answers_always, ranks_by}
use Rattle.std.specs.List.Sorted.{IsSortedBy, IsStableBy}
use Rattle.std.specs.Ordering.{is_lt}
use Rattle.code_order.proofs.Unique.{low}
use Rattle.code_order.proofs.Made.{sorted-stably}
use Rattle.code_order.proofs.compared.compared.Goals as goal

pub returns : goal.returns
returns g c =
    let k : g.row.T.Denot → List ℕ = g.T.HasCode.bytes in
    let up : IsSortedBy (low k) c.sort_by.new.self.items = c.in_ok-sort_by.ensures.sorted (low k) (ranks_by nat_list_cmp_total k) (answers_always _ _ _ (λ f a r h e. ap is_lt e.met)) in
    let stable : IsStableBy (low k) c.in_ok-suited.suited.items c.sort_by.new.self.items = c.in_ok-sort_by.ensures.stable (low k) (ranks_by nat_list_cmp_total k) (answers_always _ _ _ (λ f a r h e. ap is_lt e.met)) in
    let ordered = sorted-stably k c.args.items.items c.in_ok-suited.suited.items c.sort_by.new.self.items c.in_ok-suited.ensures up stable in
    subst (λ xs. IfOk c.unwrapped.result (λ v. v.items ≡ xs)) ordered c.unwrapped.ensures
