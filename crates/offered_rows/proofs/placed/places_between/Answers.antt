use Rattle.std.proofs.Common.{[], ◌∷◌, ◌++◌, sym, ap, ◌∙◌}
use Rattle.offered_rows.proofs.Sorting.{from-next}
use Rattle.offered_rows.proofs.placed.places_between.Goals as goal

pub loop-place-preserved : goal.loop-place-preserved
loop-place-preserved c =
    c.in_ok-push.ensures.items ∙ (ap (λ xs. xs ++ c.loop-place.place ∷ []) c.loop-place.invariant ∙ sym (from-next c.args.first c.loop-place.place c.loop-place.auto.place))
