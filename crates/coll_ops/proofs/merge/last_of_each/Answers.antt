use Rattle.std.proofs.Common.{sym, ap, ◌∙◌, subst, All}
use Rattle.std.proofs.lemmas.List.Elements.{All-head, All-same, All-tail}
use Rattle.calculus.specs.Code.{code}
use Rattle.value_ops.specs.Answers.{IsOperand}
use Rattle.coll_ops.specs.Merging.{put_last as puts_last, put_all}
use Rattle.coll_ops.proofs.Members.{asc-up}
use Rattle.coll_ops.proofs.Steps.{all-of, empty, put-all}
use Rattle.coll_ops.proofs.merge.last_of_each.Goals as goal

pub loop-item-preserved : goal.loop-item-preserved
loop-item-preserved g c = λ h.
    let k = λ (x : g.row.T.Denot). code (g.T.Keyed.key_tree x) in
    let P = λ (x : g.row.T.Denot). IsOperand (g.T.Keyed.key_tree x) in
    let s = c.in-Some.ensures.steps in
    let x = c.in-Some.item in
    let zs = c.loop-item.kept.items in
    let rest = c.next.new.self.rest.items in
    let e = c.put.ensures h in
    let n = c.loop-item.invariant e.0 in (
      n.0,
      λ a.
          let v = n.1 a in
          let w = subst (All P) s.0 v.2 in
          let p = All-head P x rest w in
          let d = e.1 v.1 p in (
            ap (λ l. put_all k l rest) d ∙ sym (ap (put_all k zs) s.0) ∙ v.0,
            All-same P c.put.new.kept.items (puts_last k zs x) d (put-all k P zs x v.1 p),
            All-tail P x rest w,
          ),
    )

pub returns : goal.returns
returns g c = λ h.
    let k = λ (x : g.row.T.Denot). code (g.T.Keyed.key_tree x) in
    let s = c.in-None.ensures.steps in
    let n = c.loop-item.invariant h in (
      n.0,
      λ a.
          all-of k c.loop-item.kept.items c.loop-item.item-iterator.rest.items c.args.items.items (empty c.loop-item.item-iterator.rest.items (sym c.loop-item.item-iterator.rest.ok.0 ∙ s.0))
          (n.1 a.keys).0 (asc-up k c.args.items.items a.up),
    )
