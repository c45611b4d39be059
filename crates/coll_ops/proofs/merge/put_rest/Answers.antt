use Rattle.std.proofs.Common.{◌+◌, [], drop, sym, ap, ◌∙◌}
use Rattle.std.proofs.lemmas.List.{at_drop_all}
use Rattle.std.proofs.lemmas.List.Elements.{All-same}
use Rattle.calculus.specs.Code.{code}
use Rattle.value_ops.specs.Answers.{IsOperand}
use Rattle.coll_ops.specs.Merging.{put_last as puts_last, put_all}
use Rattle.coll_ops.proofs.Comparing.{read}
use Rattle.coll_ops.proofs.Finding.{drop-read}
use Rattle.coll_ops.proofs.Steps.{put-all}
use Rattle.coll_ops.proofs.merge.put_rest.Goals as goal

pub loop-next-preserved : goal.loop-next-preserved
loop-next-preserved g c = λ h.
    let k = λ (x : g.row.T.Denot). code (g.T.Keyed.key_tree x) in
    let P = λ (x : g.row.T.Denot). IsOperand (g.T.Keyed.key_tree x) in
    let xs = c.args.items.now in
    let i = c.loop-next.next in
    let x = c.index-items-next.result in
    let zs = c.loop-next.all.items in
    let d = c.put_copy.ensures h in
    let n = c.loop-next.invariant d.0 in (
      n.0,
      λ a r.
          let v = n.1 a r in
          let p = read P xs i x c.loop-next-test.true c.index-items-next.is r in
          let s = d.1 v.1 p in (
            ap (λ l. put_all k l (drop (i + 1) xs)) s ∙ sym (ap (put_all k zs) (drop-read k [] xs i x c.loop-next-test.true c.index-items-next.is)) ∙ v.0,
            All-same P c.put_copy.new.kept.items (puts_last k zs x) s (put-all k P zs x v.1 p),
          ),
    )

pub returns : goal.returns
returns g c = λ h.
    let k = λ (x : g.row.T.Denot). code (g.T.Keyed.key_tree x) in
    let zs = c.loop-next.all.items in
    let n = c.loop-next.invariant h in
    (n.0, λ a r. sym (at_drop_all (put_all k zs) c.args.items.now c.loop-next.next c.loop-next-test.false) ∙ (n.1 a r).0)
