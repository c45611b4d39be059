use Rattle.std.proofs.Common.{sym, ◌∙◌}
use Rattle.std.proofs.lemmas.Bool.{cond-true, cond-false}
use Rattle.calculus.specs.Code.{code}
use Rattle.coll_ops.specs.Merging.{put_last}
use Rattle.coll_ops.proofs.merge.put_unless.Goals as goal

pub returns-then-gone : goal.returns-then-gone
returns-then-gone g c = λ h.
    let k = λ (x : g.row.T.Denot). code (g.T.Keyed.key_tree x) in
    let zs = c.args.kept.now.items in
    (h, λ a o. sym (cond-true c.args.gone zs (put_last k zs c.args.item.now) c.if-gone.true))

pub returns : goal.returns
returns g c = λ h.
    let k = λ (x : g.row.T.Denot). code (g.T.Keyed.key_tree x) in
    let zs = c.args.kept.now.items in
    let e = c.put_copy.ensures h in
    (e.0, λ a o. e.1 a o ∙ sym (cond-false c.args.gone zs (put_last k zs c.args.item.now) c.if-gone.false))
