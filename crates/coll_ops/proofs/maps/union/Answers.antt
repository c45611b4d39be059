use Rattle.std.proofs.Common.{◌++◌, map, sym, ap, ◌∙◌}
use Rattle.std.proofs.lemmas.List.{map-append}
use Rattle.std.proofs.lemmas.List.Elements.{All-append}
use Rattle.calculus.specs.Operators.{of_map}
use Rattle.calculus.specs.Shape.{many, only}
use Rattle.calculus.specs.Tree.{dict}
use Rattle.rho_term.specs.Parts.{pair_tree}
use Rattle.value_ops.specs.Answers.{IsOperand}
use Rattle.coll_ops.proofs.Members.{all-each, map-once, map-ordered}
use Rattle.coll_ops.proofs.Viewing.{pairs-ascend}
use Rattle.coll_ops.proofs.maps.union.Goals as goal

pub value-requires : goal.value-requires
value-requires c = λ h.
    let e = c.merged-pairs.ensures h in
    let p = c.requires e.0 in
    let both = c.args.left.now ++ c.args.right.now in
    let k = all-each (λ p. IsOperand p.0) both (All-append (λ p. IsOperand p.0) c.args.left.now c.args.right.now p.0.keys p.1.keys) in
    map-ordered both c.merged-pairs.result.items k (e.1 (pairs-ascend c.args.left.now p.0) (pairs-ascend c.args.right.now p.1))

pub returns : goal.returns
returns c = λ h.
    let v = c.value.ensures h in
    let e = c.merged-pairs.ensures v.0 in
    let p = c.requires e.0 in
    let both = c.args.left.now ++ c.args.right.now in
    let k = all-each (λ p. IsOperand p.0) both (All-append (λ p. IsOperand p.0) c.args.left.now c.args.right.now p.0.keys p.1.keys) in
    let s = e.1 (pairs-ascend c.args.left.now p.0) (pairs-ascend c.args.right.now p.1) in
    (e.0, v.1 ∙ ap (λ l. only (many dict (map pair_tree l))) s ∙ sym (map-once both k) ∙ ap of_map (map-append pair_tree c.args.left.now c.args.right.now))
