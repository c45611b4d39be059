use Rattle.std.proofs.Common.{map, sym, ap, ◌∙◌, subst}
use Rattle.std.proofs.lemmas.List.Elements.{All-map, All-same}
use Rattle.calculus.specs.Code.{code}
use Rattle.calculus.specs.Shape.{many, only}
use Rattle.calculus.specs.Tree.{set}
use Rattle.calculus.specs.Operators.{of_set}
use Rattle.value_ops.specs.Answers.{IsOperand}
use Rattle.coll_ops.specs.Merging.{put_last}
use Rattle.coll_ops.proofs.Comparing.{read}
use Rattle.coll_ops.proofs.Members.{all-each, asc-up, keys-ascend, keys-of, keys-up, set-once, set-ordered}
use Rattle.coll_ops.proofs.Steps.{mapped-end, mapped-step, put-all}
use Rattle.coll_ops.proofs.maps.keys.Goals as goal

pub loop-pair-preserved : goal.loop-pair-preserved
loop-pair-preserved c = λ h.
    let ps = c.args.pairs.now in
    let i = c.loop-pair.pair-index in
    let zs = c.loop-pair.kept.items in
    let x = c.pair-item.result in
    let e = c.put.ensures h in
    let d = c.copy-key.ensures e.0 in
    let v = c.loop-pair.invariant d.0 in
    let o = subst IsOperand (sym d.1) (read (λ p. IsOperand p.0) ps i x c.loop-pair-test.true c.pair-item.is c.requires.keys) in
    let s = e.1 v.1 o in (
      mapped-step code (λ p. p.0) zs c.put.new.kept.items ps i x c.loop-pair-test.true c.pair-item.is (s ∙ ap (put_last code zs) d.1) ∙ v.0,
      All-same IsOperand c.put.new.kept.items (put_last code zs c.copy-key.result) s (put-all code IsOperand zs c.copy-key.result v.1 o),
    )

pub value-requires : goal.value-requires
value-requires c = λ h.
    let ps = c.args.pairs.now in
    let u = asc-up code (map (λ p. p.0) ps) (keys-ascend ps (keys-up ps (all-each (λ p. IsOperand p.0) ps c.requires.keys) c.requires.up)) in
    set-ordered (map (λ p. p.0) ps) c.loop-pair.kept.items (mapped-end code (λ p. p.0) c.loop-pair.kept.items ps c.loop-pair.pair-index c.loop-pair-test.false (c.loop-pair.invariant h).0 u)

pub returns : goal.returns
returns c = λ h.
    let ps = c.args.pairs.now in
    let v = c.value.ensures h in
    let u = asc-up code (map (λ p. p.0) ps) (keys-ascend ps (keys-up ps (all-each (λ p. IsOperand p.0) ps c.requires.keys) c.requires.up)) in
    let e = mapped-end code (λ p. p.0) c.loop-pair.kept.items ps c.loop-pair.pair-index c.loop-pair-test.false (c.loop-pair.invariant v.0).0 u in
    let k = all-each IsOperand (map (λ p. p.0) ps) (All-map IsOperand (λ p. p.0) ps c.requires.keys) in
    v.1 ∙ ap (λ l. only (many set l)) e ∙ sym (set-once (map (λ p. p.0) ps) k) ∙ ap of_set (sym (keys-of ps))
