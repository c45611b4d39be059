use Rattle.std.proofs.Common.{[], ◌∷◌, ◌++◌, ap, ◌∙◌}
use Rattle.calculus.specs.Shape.{many, only}
use Rattle.calculus.specs.Tree.{tuple}
use Rattle.coll_ops.proofs.maps.tuple_of.Goals as goal

pub returns : goal.returns
returns c = λ h.
    let v = c.value.ensures h in
    let d = c.add-2.ensures v.0 in
    let b = c.copy-value.ensures d.0 in
    let e = c.add.ensures b.0 in
    let a = c.copy-key.ensures e.0 in (
      a.0,
      v.1 ∙ ap (λ l. only (many tuple l)) (
          d.1 ∙ ap (λ l. l ++ c.copy-value.result ∷ []) (e.1 ∙ ap (λ l. l ++ c.copy-key.result ∷ []) c.new-members.ensures.items)
          ∙ ap (λ t. t ∷ c.copy-value.result ∷ []) a.1 ∙ ap (λ t. c.args.pair.now.0 ∷ t ∷ []) b.1
          ),
    )
