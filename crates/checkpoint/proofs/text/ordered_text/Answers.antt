use Rattle.std.proofs.Common.{ℕ, List, rules, sym, ap, ◌∙◌}
use Rattle.std.proofs.lemmas.Cmp.{nat_list_cmp_total}
use Rattle.std.proofs.lemmas.List.Sorted.{answers_always, ranks_by}
use Rattle.std.proofs.lemmas.Result.{IfOk-weaker}
use Rattle.std.specs.List.Sorted.{IsSortedBy}
use Rattle.std.specs.declared.alloc.Global.{Global}
use Rattle.std.specs.declared.vec.Vec.{Vec}
use Rattle.calculus.proofs.Permutations.{each-moved}
use Rattle.events.proofs.Groups.{sorted-moved}
use Rattle.calculus.proofs.ListCodes.{sorted-ascending}
use Rattle.checkpoint.specs.Texts.{text_with}
use Rattle.checkpoint.proofs.Sorting.{low, ascending}
use Rattle.checkpoint.proofs.text.ordered_text.Goals as goal

pub returns : goal.returns
returns c =
    let code : Vec ℕ Global → List ℕ = λ v. v.items in
    let up : IsSortedBy (low code) c.sort_by.new.self.items = c.in_ok-sort_by.ensures.sorted (low code) (ranks_by nat_list_cmp_total code) (answers_always _ _ _ (λ f a r h e. search rules)) in
    IfOk-weaker c.text_of_codes.result _ _
    (λ v e. e ∙ ap (text_with c.args.root.now.0) (sym (sorted-ascending _ (ascending code _ up)) ∙ sym (sorted-moved (each-moved code c.in_ok-sort_by.ensures.permutation))))
    c.text_of_codes.ensures
