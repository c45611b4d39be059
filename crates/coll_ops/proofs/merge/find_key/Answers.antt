use Rattle.std.proofs.Common.{◌≤◌, length, sym, ◌∙◌, arith}
use Rattle.calculus.specs.Code.{code}
use Rattle.value_ops.specs.Answers.{IsOperand}
use Rattle.coll_ops.proofs.Comparing.{is_one, not_less, read}
use Rattle.coll_ops.proofs.Finding.{high-here, high-none, high-past, starts-here, starts-none}
use Rattle.coll_ops.proofs.merge.find_key.Goals as goal

pub returns-then-is_ge : goal.returns-then-is_ge
returns-then-is_ge g c = λ a o.
    let k = λ (x : g.row.T.Denot). code (g.T.Keyed.key_tree x) in
    let q = code c.args.key.now in
    let xs = c.args.items.now in
    let i = c.loop-next.next in
    let x = c.index-items-next.result in
    let p = read (λ x. IsOperand (g.T.Keyed.key_tree x)) xs i x c.loop-next-test.true c.index-items-next.is a in
    let b = not_less _ _ _ _ _ c.key.ensures c.cmp_terms-order.ensures c.is_ge.ensures p o in
    let e = is_one _ _ _ _ _ c.key.ensures c.cmp_terms-order.ensures c.is_eq.ensures p o in
    record {
      rest = high-here k q xs i x c.loop-next-test.true c.index-items-next.is (sym b ∙ c.if-is_ge.true) ∙ c.loop-next.invariant a o;
      has = e ∙ sym (starts-here k q xs i x c.loop-next-test.true c.index-items-next.is);
    }

pub loop-next-preserved : goal.loop-next-preserved
loop-next-preserved g c = λ a o.
    let k = λ (x : g.row.T.Denot). code (g.T.Keyed.key_tree x) in
    let p = read (λ x. IsOperand (g.T.Keyed.key_tree x)) c.args.items.now c.loop-next.next c.index-items-next.result c.loop-next-test.true c.index-items-next.is a in
    let b = not_less _ _ _ _ _ c.key.ensures c.cmp_terms-order.ensures c.is_ge.ensures p o in
    high-past k (code c.args.key.now) c.args.items.now c.loop-next.next c.index-items-next.result c.loop-next-test.true c.index-items-next.is (sym b ∙ c.if-is_ge.false) ∙ c.loop-next.invariant a o

pub returns : goal.returns
returns g c = λ a o.
    let k = λ (x : g.row.T.Denot). code (g.T.Keyed.key_tree x) in
    let n : length c.args.items.now ≤ length c.args.items.now = omega arith in
    record {
      rest = high-none k (code c.args.key.now) c.args.items.now c.loop-next.next c.loop-next-test.false ∙ c.loop-next.invariant a o;
      has = sym (starts-none k (code c.args.key.now) c.args.items.now (length c.args.items.now) n);
    }
