use Rattle.std.proofs.Common.{[], drop, sym, ap, ◌∙◌, subst}
use Rattle.std.proofs.lemmas.List.Elements.{All-nil, All-same}
use Rattle.calculus.specs.Code.{code}
use Rattle.value_ops.specs.Answers.{IsOperand}
use Rattle.coll_ops.specs.Merging.{low, high, put_last as puts_last, put_all}
use Rattle.coll_ops.proofs.Comparing.{read}
use Rattle.coll_ops.proofs.Merging.{merge}
use Rattle.coll_ops.proofs.Members.{asc-up}
use Rattle.coll_ops.proofs.Steps.{merge-step, merge-end, put-all}
use Rattle.coll_ops.proofs.merge.merged.Goals as goal

pub loop-item-init : goal.loop-item-init
loop-item-init g c = λ h.
    let k = λ (x : g.row.T.Denot). code (g.T.Keyed.key_tree x) in
    let P = λ (x : g.row.T.Denot). IsOperand (g.T.Keyed.key_tree x) in
    (h, λ l r. (ap (λ z. put_all k z (merge k c.args.left.now c.args.right.now)) c.new-all.ensures.items, All-same P c.new-all.result.items [] c.new-all.ensures.items (All-nil P)))

pub loop-item-preserved : goal.loop-item-preserved
loop-item-preserved g c = λ h.
    let k = λ (x : g.row.T.Denot). code (g.T.Keyed.key_tree x) in
    let P = λ (x : g.row.T.Denot). IsOperand (g.T.Keyed.key_tree x) in
    let a = c.loop-item.all.items in
    let b = c.put_below-next.new.all.items in
    let d = c.put_copy.new.kept.items in
    let ys = c.args.right.now in
    let n = c.loop-item.next in
    let x = c.item-item.result in
    let e = c.put_copy.ensures h in
    let f = c.put_below-next.ensures e.0 in
    let i = c.loop-item.invariant f.0 in (
      i.0,
      λ l r.
          let v = i.1 l r in
          let p = read P c.args.left.now c.loop-item.item-index x c.loop-item-test.true c.item-item.is l.keys in
          let q = f.1 v.1 r.keys (subst IsOperand (sym c.key.ensures) p) in
          let s = e.1 q.keys p in (
            merge-step k a b d c.args.left.now ys c.loop-item.item-index n c.put_below-next.result x c.loop-item-test.true c.item-item.is
                (q.items ∙ ap (λ t. put_all k a (low k (code t) (drop n ys))) c.key.ensures)
                (q.rest ∙ ap (λ t. high k (code t) (drop n ys)) c.key.ensures)
                s
                ∙ v.0,
            All-same P d (puts_last k b x) s (put-all k P b x q.keys p),
          ),
    )

pub returns : goal.returns
returns g c = λ h.
    let k = λ (x : g.row.T.Denot). code (g.T.Keyed.key_tree x) in
    let e = c.put_rest.ensures h in
    let i = c.loop-item.invariant e.0 in (
      i.0,
      λ l r.
          let v = i.1 l r in
          merge-end k c.loop-item.all.items c.put_rest.new.all.items c.args.left.now c.args.right.now c.loop-item.item-index c.loop-item.next c.loop-item-test.false
          v.0 (e.1 v.1 r.keys) (asc-up k c.args.left.now l.up) (asc-up k c.args.right.now r.up),
    )
