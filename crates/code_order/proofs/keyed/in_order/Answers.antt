use Rattle.std.proofs.Common.{◌≡◌, ℕ, List, rules, subst}
use Rattle.std.specs.Prelude.{Vec, IfOk}
use Rattle.std.specs.declared.alloc.Global.{Global}
use Rattle.std.proofs.lemmas.Cmp.{nat_list_cmp_total}
use Rattle.std.proofs.lemmas.List.Sorted.{answers_always, ranks_by}
use Rattle.std.specs.List.Sorted.{IsSortedBy, IsStableBy}
use Rattle.code_order.proofs.Unique.{low, arranged}
use Rattle.code_order.proofs.keyed.in_order.Goals as goal

pub returns : goal.returns
returns g c =
    let key : Vec ℕ Global × g.row.T.Denot → List ℕ = λ p. p.0.items in
    let item : Vec ℕ Global × g.row.T.Denot → g.row.T.Denot = λ p. p.1 in
    let up : IsSortedBy (low key) c.sort_by.new.self.items = c.in_ok-sort_by.ensures.sorted (low key) (ranks_by nat_list_cmp_total key) (answers_always _ _ _ (λ f a r h e. search rules)) in
    let stable : IsStableBy (low key) c.args.keyed.items c.sort_by.new.self.items = c.in_ok-sort_by.ensures.stable (low key) (ranks_by nat_list_cmp_total key) (answers_always _ _ _ (λ f a r h e. search rules)) in
    let ordered = arranged key item c.args.keyed.items c.sort_by.new.self.items up stable in
    subst (λ xs. IfOk c.without_keys.result (λ v. v.items ≡ xs)) ordered c.without_keys.ensures
