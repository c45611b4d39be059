use Rattle.std.proofs.Common.{not, filter, map, sym, ap, ◌∙◌}
use Rattle.calculus.specs.Code.{code}
use Rattle.calculus.specs.Shape.{many, only}
use Rattle.calculus.specs.Tree.{dict}
use Rattle.rho_term.specs.Parts.{pair_tree}
use Rattle.value_ops.specs.Answers.{IsOperand}
use Rattle.coll_ops.specs.Keys.{has_key, once_each}
use Rattle.coll_ops.proofs.Members.{all-each, each-filter, key_code, map-ordered, map-without}
use Rattle.coll_ops.proofs.Viewing.{one-member, pairs-ascend}
use Rattle.coll_ops.proofs.maps.without_key.Goals as goal

pub value-requires : goal.value-requires
value-requires c = λ h.
    let ps = c.args.pairs.now in
    let e = c.without-others.ensures h in
    let k = each-filter (λ p. IsOperand p.0) (λ p. not (has_key code (code p.0) c.from_ref.result.now)) ps (all-each (λ p. IsOperand p.0) ps c.requires.0.keys) in
    map-ordered (filter (λ p. not (has_key code (code p.0) c.from_ref.result.now)) ps) c.without-others.result.items k
    (e.1 (pairs-ascend ps c.requires.0) (one-member c.args.key.now c.from_ref.result.now c.from_ref.ensures.value c.requires.1))

pub returns : goal.returns
returns c = λ h.
    let ps = c.args.pairs.now in
    let v = c.value.ensures h in
    let e = (c.without-others.ensures v.0).1 (pairs-ascend ps c.requires.0) (one-member c.args.key.now c.from_ref.result.now c.from_ref.ensures.value c.requires.1) in
    let f = e ∙ ap (λ us. once_each key_code (filter (λ p. not (has_key code (code p.0) us)) ps)) c.from_ref.ensures.value in
    v.1 ∙ ap (λ l. only (many dict (map pair_tree l))) f ∙ sym (map-without c.args.key.now ps c.requires.1 (all-each (λ p. IsOperand p.0) ps c.requires.0.keys))
