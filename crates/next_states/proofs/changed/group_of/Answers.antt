use Rattle.std.proofs.Common.{ℕ, List, rules, sym, ◌∙◌, ap, map}
use Rattle.std.proofs.lemmas.Cmp.{nat_list_cmp_total}
use Rattle.std.proofs.lemmas.List.Sorted.{answers_always, ranks_by}
use Rattle.std.specs.List.Sorted.{IsSortedBy}
use Rattle.std.specs.Borrow.{Bor}
use Rattle.std.specs.declared.alloc.Global.{Global}
use Rattle.std.specs.declared.vec.Vec.{Vec}
use Rattle.calculus.proofs.Permutations.{each-moved}
use Rattle.radix_root.specs.Leaves.{group_digest}
use Rattle.events.proofs.Groups.{sorted-moved}
use Rattle.calculus.proofs.ListCodes.{sorted-ascending}
use Rattle.checkpoint.proofs.Sorting.{low, ascending}
use Rattle.next_states.proofs.changed.group_of.Goals as goal

pub returns-clause-digest : goal.returns-clause-digest
returns-clause-digest g c =
    let code : Vec ℕ Global → List ℕ = λ v. v.items in
    let up : IsSortedBy (low code) c.sort_by.new.self.items = c.in_ok-sort_by.ensures.sorted (low code) (ranks_by nat_list_cmp_total code) (answers_always _ _ _ (λ f a r h e. search rules)) in
    let same = ap (λ (ss : List (Bor (List ℕ))). map (λ s. s.now) ss) c.as_slice-2.ensures.value ∙ c.in_ok-slices.ensures ∙ ap (λ (vs : List (Vec ℕ Global)). map code vs) c.as_slice.ensures.value in
    c.of.ensures.digest ∙ ap (group_digest c.args.key.now.0) same
    ∙ ap (group_digest c.args.key.now.0) (sym (sorted-ascending _ (ascending code _ up)) ∙ sym (sorted-moved (each-moved code c.in_ok-sort_by.ensures.permutation)))
