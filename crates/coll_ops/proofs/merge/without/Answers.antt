use Rattle.std.proofs.Common.{[], cond, not, drop, filter, sym, ap, ◌∙◌, subst}
use Rattle.std.proofs.lemmas.List.Elements.{All-nil, All-same}
use Rattle.calculus.specs.Code.{code}
use Rattle.value_ops.specs.Answers.{IsOperand}
use Rattle.coll_ops.specs.Keys.{has_key}
use Rattle.coll_ops.specs.Merging.{starts, high, put_last as puts_last, put_all}
use Rattle.coll_ops.proofs.Comparing.{read}
use Rattle.coll_ops.proofs.Merging.{steady-self}
use Rattle.coll_ops.proofs.Members.{asc-up}
use Rattle.coll_ops.proofs.Steps.{filtered, steady-next, filter-end, unless-all}
use Rattle.coll_ops.proofs.merge.without.Goals as goal

pub loop-item-init : goal.loop-item-init
loop-item-init g c = λ h.
    let k = λ (x : g.row.T.Denot). code (g.T.Keyed.key_tree x) in
    let P = λ (x : g.row.T.Denot). IsOperand (g.T.Keyed.key_tree x) in (
      h,
      λ a d. (
        ap (λ l. put_all k l (filter (λ x. not (has_key code (k x) c.args.gone.now)) c.args.items.now)) c.new-kept.ensures.items,
        All-same P c.new-kept.result.items [] c.new-kept.ensures.items (All-nil P),
        steady-self k code c.args.gone.now c.args.items.now,
      ),
    )

pub loop-item-preserved : goal.loop-item-preserved
loop-item-preserved g c = λ h.
    let k = λ (x : g.row.T.Denot). code (g.T.Keyed.key_tree x) in
    let P = λ (x : g.row.T.Denot). IsOperand (g.T.Keyed.key_tree x) in
    let zs = c.loop-item.kept.items in
    let gs = c.args.gone.now in
    let xs = c.args.items.now in
    let i = c.loop-item.item-index in
    let n = c.loop-item.next in
    let m = c.find_key-place.result.0 in
    let b = c.find_key-place.result.1 in
    let x = c.item-item.result in
    let u = c.put_unless.ensures h in
    let w = c.loop-item.invariant u.0 in (
      w.0,
      λ a d.
          let v = w.1 a d in
          let p = read P xs i x c.loop-item-test.true c.item-item.is a.keys in
          let s = c.find_key-place.ensures d.keys (subst IsOperand (sym c.key.ensures) p) in
          let f = s.rest ∙ ap (λ t. high code (code t) (drop n gs)) c.key.ensures in
          let e = s.has ∙ ap (λ t. starts code (code t) (drop m gs)) c.key.ensures in
          let l = u.1 v.1 p in (
            filtered k code zs xs gs i n m x c.loop-item-test.true c.item-item.is v.2 f b c.put_unless.new.kept.items e (asc-up code gs d.up) l ∙ v.0,
            All-same P c.put_unless.new.kept.items (cond b zs (puts_last k zs x)) l (unless-all k P b zs x v.1 p),
            steady-next k code zs xs gs i n m x c.loop-item-test.true c.item-item.is v.2 f (asc-up k xs a.up),
          ),
    )

pub returns : goal.returns
returns g c = λ h.
    let k = λ (x : g.row.T.Denot). code (g.T.Keyed.key_tree x) in
    let w = c.loop-item.invariant h in (
      w.0,
      λ a d. filter-end k (λ x. not (has_key code (k x) c.args.gone.now)) c.loop-item.kept.items c.args.items.now c.loop-item.item-index c.loop-item-test.false (w.1 a d).0 (asc-up k c.args.items.now a.up),
    )
