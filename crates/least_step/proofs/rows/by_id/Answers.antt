use Rattle.std.proofs.Common.{◌++◌, List, map, rules, ap, ◌∙◌, Bor}
use Rattle.std.proofs.lemmas.Cmp.{nat_list_cmp_total}
use Rattle.std.proofs.lemmas.List.Sorted.{answers_always, ranks_by}
use Rattle.calculus.specs.Rows.{Row}
use Rattle.least_step.specs.Orders.{referred}
use Rattle.least_step.proofs.Ordering.{id_at, low, moved-rows, sorted}
use Rattle.least_step.proofs.rows.by_id.Goals as goal

pub returns-clause-all : goal.returns-clause-all
returns-clause-all c =
    let e = c.in_ok-refer-2.ensures ∙ ap (λ l. l ++ c.args.others.now) (c.in_ok-refer.ensures ∙ ap (λ (xs : List (Bor Row)). map referred xs ++ c.args.rows.now) c.new-all.ensures.items) in
    moved-rows c.refer-2.new.all.items c.sort_by.new.self.items (c.args.rows.now ++ c.args.others.now) e c.in_ok-sort_by.ensures.permutation

pub returns-clause-ascending : goal.returns-clause-ascending
returns-clause-ascending c =
    let e = c.in_ok-refer-2.ensures ∙ ap (λ l. l ++ c.args.others.now) (c.in_ok-refer.ensures ∙ ap (λ (xs : List (Bor Row)). map referred xs ++ c.args.rows.now) c.new-all.ensures.items) in
    let up = c.in_ok-sort_by.ensures.sorted low (ranks_by nat_list_cmp_total id_at) (answers_always _ _ _ (λ f a r h g. search rules)) in
    λ d. sorted c.refer-2.new.all.items c.sort_by.new.self.items (c.args.rows.now ++ c.args.others.now) e c.in_ok-sort_by.ensures.permutation up d
