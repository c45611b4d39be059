use Rattle.std.proofs.Common.{[], ◌∷◌, ◌++◌, map, sym, ap, ◌∙◌, subst}
use Rattle.calculus.specs.Operators.{of_map}
use Rattle.calculus.specs.Shape.{two}
use Rattle.calculus.specs.Tree.{pair}
use Rattle.rho_term.specs.Parts.{pair_tree}
use Rattle.value_ops.specs.Answers.{IsOperand}
use Rattle.coll_ops.proofs.Viewing.{one-pair}
use Rattle.coll_ops.proofs.maps.set_pair.Goals as goal

pub union-requires : goal.union-requires
union-requires c = λ h.
    let b = c.copy-value.ensures h in
    let a = c.copy-key.ensures b.0 in
    (c.requires.0, one-pair (c.copy-key.result, c.copy-value.result) c.from_ref.result.now c.from_ref.ensures.value (subst IsOperand (sym a.1) c.requires.1))

pub returns : goal.returns
returns c = λ h.
    let u = c.union.ensures h in
    let b = c.copy-value.ensures u.0 in
    let a = c.copy-key.ensures b.0 in
    u.1 ∙ ap (λ l. of_map (map pair_tree c.args.pairs.now ++ map pair_tree l)) c.from_ref.ensures.value
    ∙ ap (λ t. of_map (map pair_tree c.args.pairs.now ++ two pair t c.copy-value.result ∷ [])) a.1
    ∙ ap (λ t. of_map (map pair_tree c.args.pairs.now ++ two pair c.args.key.now t ∷ [])) b.1
