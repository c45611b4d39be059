use Rattle.std.proofs.Common.{arith, ap, sym, ◌≡◌, ◌∙◌, [], ◌++◌, map, reverse}
use Rattle.std.proofs.lemmas.List.{append-nil}
use Rattle.calculus.specs.Shape.{at, held}
use Rattle.rho_term.specs.Parts.{part_tree}
use Rattle.term_bounds.proofs.Filling.{value-read, value-past}
use Rattle.substitution.proofs.variable.put_value.Goals as goal

pub returns-then-place-values : goal.returns-then-place-values
returns-then-place-values c = λ h.
    let us = map part_tree c.args.out.now.items in
    let p : held (at c.args.place (reverse c.args.values.now)) ≡ [] = value-past c.args.values.now c.args.place (omega arith) in
    (h, (sym (ap (λ ts. us ++ ts) p ∙ append-nil us), λ a. a))

pub returns : goal.returns
returns c = λ h.
    let k = c.put_copies.ensures h in
    let r : at c.args.place (reverse c.args.values.now) ≡ c.index-values-values.result = value-read c.args.values.now c.args.place c.index-values-values.result c.if-place-values.false ∙ sym c.index-values-values.is in
    (k.0, (k.1.0 ∙ ap (λ ts. map part_tree c.args.out.now.items ++ ts) (ap held (sym r)), k.1.1))
