use Rattle.std.proofs.Common.{sym, ap, ◌∙◌, subst}
use Rattle.calculus.specs.Code.{code}
use Rattle.value_ops.specs.Answers.{IsOperand}
use Rattle.coll_ops.specs.Merging.{put_last}
use Rattle.coll_ops.proofs.merge.put_copy.Goals as goal

pub returns : goal.returns
returns g c = λ h.
    let k = λ (x : g.row.T.Denot). code (g.T.Keyed.key_tree x) in
    let e = c.put.ensures h in
    let d = c.copied-copy.ensures e.0 in
    (d.0, λ a o. e.1 a (subst (λ x. IsOperand (g.T.Keyed.key_tree x)) (sym d.1) o) ∙ ap (put_last k c.args.kept.now.items) d.1)
