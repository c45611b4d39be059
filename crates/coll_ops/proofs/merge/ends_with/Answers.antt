use Rattle.std.proofs.Common.{◌≡◌, ◌≢◌, ◌+◌, ◌-◌, ◌<◌, length, ◌∙◌, arith}
use Rattle.std.proofs.lemmas.Bool.Decides.{nat_tests}
use Rattle.calculus.specs.Code.{code}
use Rattle.value_ops.specs.Answers.{IsOperand}
use Rattle.coll_ops.proofs.Comparing.{is_one, read}
use Rattle.coll_ops.proofs.Finding.{ends-at}
use Rattle.coll_ops.proofs.merge.ends_with.Goals as goal

pub returns : goal.returns
returns g c = λ a o.
    let k = λ (x : g.row.T.Denot). code (g.T.Keyed.key_tree x) in
    let n = length c.args.items.now - 1 in
    let full : length c.args.items.now ≢ 0 = grind (arith, nat_tests) in
    let some : n + 1 ≡ length c.args.items.now = omega arith in
    let below : n < length c.args.items.now = omega arith in
    let p = read (λ x. IsOperand (g.T.Keyed.key_tree x)) c.args.items.now n c.index-items-items.result below c.index-items-items.is a in
    is_one _ _ _ _ _ c.key.ensures c.cmp_terms.ensures c.is_eq.ensures p o ∙ ends-at k (code c.args.key.now) c.args.items.now n c.index-items-items.result some c.index-items-items.is
