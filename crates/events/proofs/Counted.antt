-- The repeat number of a step is counted among the steps of its operation.
use Rattle.std.proofs.Common.{◌≡◌, true, List, [], ◌∷◌, map as each, sym, ap, ◌∙◌}
use Rattle.std.specs.Prelude.{count_by}
use Rattle.calculus.specs.Log.{Step}
use Rattle.calculus.specs.Rows.{Row}
use Rattle.calculus.specs.Steps.{same_meeting}
use Rattle.calculus.specs.Runs.{Deploy, Work}
use Rattle.events.specs.Events.{takes_part}
use Rattle.events.specs.Found.{Among, step_of}
use Rattle.events.proofs.Counts.{ids, member-times, times-one_of}
use Rattle.events.proofs.Making.{member}
use Rattle.events.specs.Entries.{Making, steps_of, entries_on}
use Rattle.events.specs.Allowed.{MakesStep}
use Rattle.events.specs.EntryLaws.{StepsOfAPendingRowAreItsOwn, OwnStepsAreAllowed}
use Rattle.events.proofs.Owning.{owned}
use Rattle.events.proofs.Showing.{step_entries_are_allowed}

pub steps_of_a_pending_row_are_its_own : StepsOfAPendingRowAreItsOwn
steps_of_a_pending_row_are_its_own deploy source es space a f o there s n = (owned deploy source es space a f).own o (member o space.pending there) s n

-- the step of rows, an operation among them, names the operation
names-it : (o r : Row) (sends : List Row) (made : List Step) → Among o (r ∷ sends) → takes_part o (step_of made r sends) ≡ true
names-it o r sends made m = times-one_of o.id (ids (r ∷ sends)) (member-times o (r ∷ sends) (member o (r ∷ sends) m))

-- a step of these rows without a repeat number
abbrev bare : Row → List Row → Step
bare r sends = record { receiver = r.id; data_ids = each (λ d. d.id) sends; repeat = 0 }

recounted : (deploy : Deploy) (rows : List Row) (made own : List Step) (o : Row) (a : Making) (w : Work) (k : MakesStep deploy rows own o a w)
    → count_by (same_meeting (bare k.receiver k.sends)) made ≡ count_by (same_meeting (bare k.receiver k.sends)) own → MakesStep deploy rows made o a w
recounted deploy rows made own o a w k e = record {
  receiver = k.receiver;
  sends = k.sends;
  at_hand = k.at_hand;
  part = k.part;
  differs = k.differs;
  found = k.found;
  meets = k.meets;
  step = k.step ∙ ap (λ n. record { receiver = k.receiver.id; data_ids = each (λ d. d.id) k.sends; repeat = n }) (sym e);
  gone = k.gone;
  line = k.line;
  room = k.room;
  work = k.work;
  offers = k.offers;
  price = k.price;
  fault = k.fault;
}

pub own_steps_are_allowed : OwnStepsAreAllowed
own_steps_are_allowed deploy source es space a o there rows m making w k f =
    step_entries_are_allowed deploy source es space a o there rows m making w
    (recounted deploy rows space.made (steps_of (entries_on o.id es)) o making w k (steps_of_a_pending_row_are_its_own deploy source es space a f o there (bare k.receiver k.sends) (names-it o k.receiver k.sends [] k.part))) f
