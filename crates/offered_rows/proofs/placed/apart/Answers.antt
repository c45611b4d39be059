use Rattle.offered_rows.proofs.Sorting.{binds-pushed, places-pushed}
use Rattle.offered_rows.proofs.placed.apart.Goals as goal

pub loop-one-preserved : goal.loop-one-preserved
loop-one-preserved c =
    record {
      binds = binds-pushed c.loop-one.yielded c.in-Some.one c.loop-one.binds.items _ c.in_ok-push.ensures.items c.loop-one.invariant.binds;
      places = places-pushed c.loop-one.yielded c.in-Some.one c.loop-one.places.items _ _ c.in_ok-extend_from_slice.ensures.items c.as_slice.ensures.value c.loop-one.invariant.places;
    }
