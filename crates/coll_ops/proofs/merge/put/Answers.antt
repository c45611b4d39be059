use Rattle.std.proofs.Common.{◌-◌, [], ◌∷◌, ◌++◌, take, sym, ap, ◌∙◌, subst, All}
use Rattle.calculus.specs.Code.{code}
use Rattle.value_ops.specs.Answers.{IsOperand}
use Rattle.coll_ops.specs.Merging.{ends}
use Rattle.coll_ops.proofs.Finding.{last-added, put-popped}
use Rattle.coll_ops.proofs.merge.put.Goals as goal
use Rattle.coll_ops.proofs.merge.put.Goals.{then-ends_with+in-None-1, then-ends_with+in-Some-1, else-ends_with}

pub returns : goal.returns
returns g c = λ h.
    let k = λ (x : g.row.T.Denot). code (g.T.Keyed.key_tree x) in
    let zs = c.args.kept.now.items in
    let x = c.args.item in
    let e = c.add.ensures h in (
      e.0,
      λ a o.
          let t = c.ends_with.ensures (subst (All (λ x. IsOperand (g.T.Keyed.key_tree x))) (sym c.as_slice.ensures.value) a) (subst IsOperand (sym c.key.ensures) o)
          ∙ ap (λ t. ends k (code t) c.as_slice.result.now) c.key.ensures ∙ ap (ends k (k x)) c.as_slice.ensures.value in
          e.1 ∙ elim c.if-ends_with.branch [
            | then-ends_with+in-None-1 w ↦
                put-popped k zs c.if-ends_with.kept.items x (sym t ∙ w.if-ends_with.true) (ap (λ v. v.items) w.kept-is ∙ w.pop-last.ensures.rest ∙ ap (λ n. take (n - 1) zs) c.args.kept.now.ok.0)
            | then-ends_with+in-Some-1 w ↦
                put-popped k zs c.if-ends_with.kept.items x (sym t ∙ w.if-ends_with.true) (ap (λ v. v.items) w.kept-is ∙ w.pop-last.ensures.rest ∙ ap (λ n. take (n - 1) zs) c.args.kept.now.ok.0)
            | else-ends_with w ↦
                ap (λ v. v.items ++ x ∷ []) w.kept-is ∙ last-added k zs x (sym t ∙ w.if-ends_with.false)
          ],
    )
