-- A step that takes a row away was not made before.
use Rattle.std.proofs.Common.{List, [], ◌∷◌, refl, sym, ap, ◌∙◌}
use Rattle.calculus.proofs.Members.{Member, Every}
use Rattle.calculus.specs.Rows.{Row}
use Rattle.calculus.specs.Steps.{standing}
use Rattle.events.specs.Events.{Core}
use Rattle.events.specs.Found.{AreAtHand, is_lasting, step_of}
use Rattle.events.proofs.Making.{Met, met-joins, member}
use Rattle.events.proofs.Spent.{all-past, not-made}
use Rattle.events.proofs.EventFollowing.{operation-there}
use Rattle.events.specs.Entries.{rows_before, rows_after}
use Rattle.events.specs.Allowed.{core_of, rows_at_hand}
use Rattle.events.specs.EntryLaws.{LeavingStepsAreFirst}
use Rattle.events.proofs.EntryHolding.{Held, held}
use Rattle.events.proofs.Showing.{all-more, parts}

pub leaving_steps_are_first : LeavingStepsAreFirst
leaving_steps_are_first deploy source es space a f o there rows moved r sends hand m e l = not-made deploy c h.kept f (all-past deploy source c a.begins h.events f) (step_of space.made r sends) (r ∷ sends) j.joined refl (all (r ∷ sends) (all-more rows space.store o (r ∷ sends) moved hand)) j.joins (sym (ap is_lasting j.is) ∙ l)
  where
    h : Held deploy source es space
    h = held deploy source es space a f

    c : Core
    c = core_of space (source ∷ h.bodies)

    j : Met (r ∷ sends) m
    j = met-joins (r ∷ sends) m e

    all : (rs : List Row) → AreAtHand space.store o rs → Every (λ z. Member z (standing h.kept.state.bag)) rs
    all [] k = tt
    all (q ∷ rs) k = (
      operation-there deploy c h.kept f o (rows_before o.id space.pending) (rows_after o.id space.pending) (parts deploy source a.begins es space h f o there) q (member q (rows_at_hand space.store o) k.0),
      all rs k.1,
    )
