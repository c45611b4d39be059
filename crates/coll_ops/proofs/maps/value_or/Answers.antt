use Rattle.std.proofs.Common.{sym, ap, ◌∙◌}
use Rattle.calculus.specs.Code.{code}
use Rattle.value_ops.specs.Answers.{IsOperand}
use Rattle.coll_ops.proofs.Finding.{place-in}
use Rattle.coll_ops.proofs.Members.{all-each, asc-up, key_code, value-absent, value-found}
use Rattle.coll_ops.proofs.Viewing.{pairs-ascend}
use Rattle.coll_ops.proofs.maps.value_or.Goals as goal

pub bounds-pairs-place : goal.bounds-pairs-place
bounds-pairs-place c =
    let s = c.find_key-place.ensures c.requires.0.keys c.requires.1 in
    place-in key_code (code c.args.key.now) c.args.pairs.now c.find_key-place.result.0 (sym (sym c.if-has.true ∙ s.has))

pub returns-then-has : goal.returns-then-has
returns-then-has c = λ h.
    let ps = c.args.pairs.now in
    let a = pairs-ascend ps c.requires.0 in
    let s = c.find_key-place.ensures a.keys c.requires.1 in
    (c.copy.ensures h).1 ∙ ap (λ p. p.1) (sym c.index-pairs-place.is) ∙ sym (value-found c.args.key.now ps c.requires.1 (all-each (λ p. IsOperand p.0) ps a.keys) (asc-up key_code ps a.up) c.find_key-place.result.0 s.rest c.args.default.now c.index-pairs-place.result
    (place-in key_code (code c.args.key.now) ps c.find_key-place.result.0 (sym (sym c.if-has.true ∙ s.has))) c.index-pairs-place.is (sym c.if-has.true ∙ s.has))

pub returns-else-has : goal.returns-else-has
returns-else-has c = λ h.
    let ps = c.args.pairs.now in
    let a = pairs-ascend ps c.requires.0 in
    let s = c.find_key-place.ensures a.keys c.requires.1 in
    (c.copy-else-has.ensures h).1 ∙ sym (value-absent c.args.key.now ps c.requires.1 (all-each (λ p. IsOperand p.0) ps a.keys) (asc-up key_code ps a.up) c.find_key-place.result.0 s.rest c.args.default.now (sym c.if-has.false ∙ s.has))
