use Rattle.std.proofs.Common.{◌+◌, List, map, sym, ap, ◌∙◌, subst}
use Rattle.calculus.specs.Tree.{Tree, trees, par}
use Rattle.calculus.specs.Shape.{many}
use Rattle.calculus.specs.Order.{IsAscending}
use Rattle.calculus.specs.Code.{codes}
use Rattle.rho_term.specs.Parts.{part_tree}
use Rattle.rho_term.specs.declared.term.Part.{Part}
use Rattle.free_places.specs.Places.{has, left_from}
use Rattle.match_targets.proofs.Keeping.{Kept, kept-used, kept-free, kept-end}
use Rattle.free_places.proofs.Counting.{is-free, is-used}
use Rattle.match_targets.proofs.Leaving.{left-ascends}
use Rattle.match_targets.proofs.Readying.{left-ordered}
use Rattle.match_targets.proofs.Holding.{term-held, term-normal, term-ascends}
use Rattle.match_targets.proofs.left.left_term.Goals as goal
use Rattle.match_targets.proofs.left.left_term.Goals.{then-is_free+in_ok-part+in_ok-push, else-is_free}

pub loop-j-preserved : goal.loop-j-preserved
loop-j-preserved c =
    let us = c.args.used.now in
    let ps = c.parts-parts.result.now in
    let j = c.loop-j.j in
    elim c.if-is_free.branch [
      | then-is_free+in_ok-part+in_ok-push w ↦
          let k = kept-free part_tree us ps c.loop-j.left.items j w.in_ok-part.part w.index-parts-j.result c.loop-j-test.true
          (is-free (has us j) (sym w.if-is_free.true ∙ c.is_free.ensures)) (w.in_ok-part.ensures ∙ ap part_tree w.index-parts-j.is) c.loop-j.invariant in
          subst (λ (vs : List Part). Kept part_tree us ps vs (j + 1)) (sym (ap (λ v. v.items) w.left-is ∙ w.in_ok-push.ensures.items)) k
      | else-is_free w ↦
          let k = kept-used part_tree us ps c.loop-j.left.items j c.loop-j-test.true (is-used (has us j) (sym w.if-is_free.false ∙ c.is_free.ensures)) c.loop-j.invariant in
          subst (λ (vs : List Part). Kept part_tree us ps vs (j + 1)) (sym (ap (λ v. v.items) w.left-is)) k
    ]

pub from_sorted-requires-clause-parts : goal.from_sorted-requires-clause-parts
from_sorted-requires-clause-parts c =
    let us = c.args.used.now in
    let ps = c.parts-parts.result.now in
    let e = kept-end part_tree us ps c.loop-j.left.items c.loop-j.j c.loop-j-test.false c.loop-j.invariant in
    let h = subst (λ (ts : List Tree). IsAscending (codes (trees ts))) (term-held c.args.target.now ps c.parts-parts.ensures.parts) (term-ascends c.args.target.now ps c.parts-parts.ensures.parts c.parts-parts.ensures.normal) in
    subst (λ (ts : List Tree). IsAscending (codes (trees ts))) (sym e) (left-ascends 0 us (map part_tree ps) h)

pub from_sorted-requires-clause-members : goal.from_sorted-requires-clause-members
from_sorted-requires-clause-members c =
    let us = c.args.used.now in
    let ps = c.parts-parts.result.now in
    let e = kept-end part_tree us ps c.loop-j.left.items c.loop-j.j c.loop-j-test.false c.loop-j.invariant in
    left-ordered us ps c.loop-j.left.items (term-normal c.args.target.now ps c.parts-parts.ensures.parts c.parts-parts.ensures.normal) e

pub returns : goal.returns
returns c =
    let us = c.args.used.now in
    let ps = c.parts-parts.result.now in
    let e = kept-end part_tree us ps c.loop-j.left.items c.loop-j.j c.loop-j-test.false c.loop-j.invariant in
    c.from_sorted.ensures ∙ ap (many par) e ∙ ap (λ ts. many par (left_from 0 us ts)) (sym (term-held c.args.target.now ps c.parts-parts.ensures.parts))
