use Rattle.std.proofs.Common.{arith, ap, sym, ◌≡◌, ◌-◌, ◌∙◌, reverse}
use Rattle.calculus.specs.Shape.{at, held}
use Rattle.calculus.specs.Size.{heights}
use Rattle.calculus.specs.Tree.{trees}
use Rattle.rho_term.specs.Sizes.{sizes}
use Rattle.term_bounds.proofs.Filling.{value-read, value-past}
use Rattle.substituted_sizes.proofs.size.add_variable.Goals as goal

pub returns-then-place-values-clause-outer_height : goal.returns-then-place-values-clause-outer_height
returns-then-place-values-clause-outer_height c = λ h.
    let p : heights (trees (held (at (c.args.index - c.args.depth) (reverse c.args.values.now)))) ≡ 0 = ap (λ us. heights (trees us)) (value-past c.args.values.now (c.args.index - c.args.depth) c.if-place-values.true) in
    omega (arith, p)

pub returns-clause-outer_height : goal.returns-clause-outer_height
returns-clause-outer_height c = λ h.
    let k = c.args.index - c.args.depth in
    let r : at k (reverse c.args.values.now) ≡ c.index-values-values.result = value-read c.args.values.now k c.index-values-values.result c.if-place-values.false ∙ sym c.index-values-values.is in
    let p : heights (trees (held (at k (reverse c.args.values.now)))) ≡ heights (trees (held c.index-values-values.result)) = ap (λ t. heights (trees (held t))) r in
    omega (arith, p)

pub returns-then-place-values-clause-outer_length : goal.returns-then-place-values-clause-outer_length
returns-then-place-values-clause-outer_length c = λ h.
    let p : sizes (trees (held (at (c.args.index - c.args.depth) (reverse c.args.values.now)))) ≡ 0 = ap (λ us. sizes (trees us)) (value-past c.args.values.now (c.args.index - c.args.depth) c.if-place-values.true) in
    omega (arith, p)

pub returns-clause-outer_length : goal.returns-clause-outer_length
returns-clause-outer_length c = λ h.
    let k = c.args.index - c.args.depth in
    let r : at k (reverse c.args.values.now) ≡ c.index-values-values.result = value-read c.args.values.now k c.index-values-values.result c.if-place-values.false ∙ sym c.index-values-values.is in
    let p : sizes (trees (held (at k (reverse c.args.values.now)))) ≡ sizes (trees (held c.index-values-values.result)) = ap (λ t. sizes (trees (held t))) r in
    omega (arith, p)
