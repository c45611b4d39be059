use Rattle.std.proofs.Common.{[], ◌∷◌, ◌++◌, get_or, sym, ap, ◌∙◌}
use Rattle.std.proofs.lemmas.List.{take_more}
use Rattle.calculus.specs.Unfolding.{from_on}
use Rattle.offered_rows.proofs.Sorting.{from-zero}
use Rattle.offered_rows.proofs.receive.are_in_order.Goals as goal

pub loop-i-preserved : goal.loop-i-preserved
loop-i-preserved c =
    let xs = c.args.places.now in let i = c.loop-i.i in
    take_more xs i 0 c.loop-i-test.true ∙ (ap (λ ys. ys ++ get_or xs i 0 ∷ []) c.loop-i.invariant ∙ (ap (λ j. from_on 0 i ++ j ∷ []) c.if-places-i.false ∙ sym (from-zero i)))
