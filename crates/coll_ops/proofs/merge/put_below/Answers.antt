use Rattle.std.proofs.Common.{◌+◌, drop, sym, ap, ◌∙◌}
use Rattle.std.proofs.lemmas.List.Elements.{All-same}
use Rattle.calculus.specs.Code.{code}
use Rattle.value_ops.specs.Answers.{IsOperand}
use Rattle.coll_ops.specs.Merging.{low, put_last as puts_last, put_all}
use Rattle.coll_ops.proofs.Comparing.{not_less, read}
use Rattle.coll_ops.proofs.Finding.{low-here, low-none, low-past, high-here, high-none, high-past}
use Rattle.coll_ops.proofs.Steps.{put-all}
use Rattle.coll_ops.proofs.merge.put_below.Goals as goal

pub returns-then-is_ge : goal.returns-then-is_ge
returns-then-is_ge g c = λ h.
    let k = λ (x : g.row.T.Denot). code (g.T.Keyed.key_tree x) in
    let q = code c.args.key.now in
    let xs = c.args.items.now in
    let i = c.loop-next.next in
    let x = c.index-items-next.result in
    let n = c.loop-next.invariant h in (
      n.0,
      λ a r o.
          let v = n.1 a r o in
          let p = read (λ x. IsOperand (g.T.Keyed.key_tree x)) xs i x c.loop-next-test.true c.index-items-next.is r in
          let e = sym (not_less _ _ _ _ _ c.key.ensures c.cmp_terms.ensures c.is_ge.ensures p o) ∙ c.if-is_ge.true in
          record {
            items = low-here k q xs i x c.loop-next-test.true c.index-items-next.is c.loop-next.all.items e ∙ v.0;
            rest = high-here k q xs i x c.loop-next-test.true c.index-items-next.is e ∙ v.1;
            keys = v.2;
          },
    )

pub loop-next-preserved : goal.loop-next-preserved
loop-next-preserved g c = λ h.
    let k = λ (x : g.row.T.Denot). code (g.T.Keyed.key_tree x) in
    let P = λ (x : g.row.T.Denot). IsOperand (g.T.Keyed.key_tree x) in
    let q = code c.args.key.now in
    let xs = c.args.items.now in
    let i = c.loop-next.next in
    let x = c.index-items-next.result in
    let zs = c.loop-next.all.items in
    let d = c.put_copy.ensures h in
    let n = c.loop-next.invariant d.0 in (
      n.0,
      λ a r o.
          let v = n.1 a r o in
          let p = read P xs i x c.loop-next-test.true c.index-items-next.is r in
          let e = sym (not_less _ _ _ _ _ c.key.ensures c.cmp_terms.ensures c.is_ge.ensures p o) ∙ c.if-is_ge.false in
          let s = d.1 v.2 p in (
            ap (λ l. put_all k l (low k q (drop (i + 1) xs))) s ∙ low-past k q xs i x c.loop-next-test.true c.index-items-next.is zs e ∙ v.0,
            high-past k q xs i x c.loop-next-test.true c.index-items-next.is e ∙ v.1,
            All-same P c.put_copy.new.kept.items (puts_last k zs x) s (put-all k P zs x v.2 p),
          ),
    )

pub returns : goal.returns
returns g c = λ h.
    let k = λ (x : g.row.T.Denot). code (g.T.Keyed.key_tree x) in
    let q = code c.args.key.now in
    let n = c.loop-next.invariant h in (
      n.0,
      λ a r o.
          let v = n.1 a r o in
          record {
            items = low-none k q c.args.items.now c.loop-next.all.items c.loop-next.next c.loop-next-test.false ∙ v.0;
            rest = high-none k q c.args.items.now c.loop-next.next c.loop-next-test.false ∙ v.1;
            keys = v.2;
          },
    )
