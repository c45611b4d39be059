use Rattle.std.proofs.Common.{◌+◌, List, sym, ap, ◌∙◌, subst}
use Rattle.calculus.specs.Tree.{Tree}
use Rattle.rho_term.specs.Parts.{pair_tree}
use Rattle.free_places.specs.Places.{has}
use Rattle.match_targets.proofs.Keeping.{Kept, kept-used, kept-free}
use Rattle.free_places.proofs.Counting.{is-free, is-used}
use Rattle.match_targets.proofs.left.left_pairs.Goals as goal
use Rattle.match_targets.proofs.left.left_pairs.Goals.{then-is_free+in_ok-pair+in_ok-push, else-is_free}

pub loop-j-preserved : goal.loop-j-preserved
loop-j-preserved c =
    let us = c.args.used.now in
    let ps = c.args.pairs.now in
    let j = c.loop-j.j in
    elim c.if-is_free.branch [
      | then-is_free+in_ok-pair+in_ok-push w ↦
          let k = kept-free pair_tree us ps c.loop-j.left.items j w.in_ok-pair.pair w.index-pairs-j.result c.loop-j-test.true
          (is-free (has us j) (sym w.if-is_free.true ∙ c.is_free.ensures)) (w.in_ok-pair.ensures ∙ ap pair_tree w.index-pairs-j.is) c.loop-j.invariant in
          subst (λ (vs : List (Tree × Tree)). Kept pair_tree us ps vs (j + 1)) (sym (ap (λ v. v.items) w.left-is ∙ w.in_ok-push.ensures.items)) k
      | else-is_free w ↦
          let k = kept-used pair_tree us ps c.loop-j.left.items j c.loop-j-test.true (is-used (has us j) (sym w.if-is_free.false ∙ c.is_free.ensures)) c.loop-j.invariant in
          subst (λ (vs : List (Tree × Tree)). Kept pair_tree us ps vs (j + 1)) (sym (ap (λ v. v.items) w.left-is)) k
    ]
