-- A step that takes a row away was not made before, under fresh digests.
use Rattle.std.proofs.Common.{◌≡◌, true, List, [], ◌∷◌, map as each, sym, ap, ◌∙◌}
use Rattle.std.specs.Prelude.{Option, Some, None, count_by}
use Rattle.calculus.specs.Log.{Step}
use Rattle.calculus.specs.Rows.{Row}
use Rattle.calculus.specs.Steps.{same_meeting}
use Rattle.calculus.specs.Runs.{Deploy, Work}
use Rattle.events.specs.Events.{AreFresh, takes_part}
use Rattle.events.specs.Found.{Among}
use Rattle.events.proofs.Counts.{ids, member-times, times-one_of}
use Rattle.events.proofs.Making.{member}
use Rattle.events.specs.Entries.{Space, Making, Entry, steps_of, entries_on}
use Rattle.events.specs.Allowed.{AreAmong, MakesStep, AreAllowed}
use Rattle.events.proofs.Counted.{steps_of_a_pending_row_are_its_own}
use Rattle.events.proofs.First.{leaving_steps_are_first}
use Rattle.events.specs.ShardLaws.{IsShownBy}
use Rattle.hub_scenes.specs.PlayScene.{IsFirst}

-- a step of these rows without a repeat number
abbrev bare : Row → List Row → Step
bare r sends = record { receiver = r.id; data_ids = each (λ d. d.id) sends; repeat = 0 }

-- it is the same step after other steps, among which it was made as often
recounted : (deploy : Deploy) (rows : List Row) (made others : List Step) (o : Row) (a : Making) (w : Work) (k : MakesStep deploy rows made o a w)
    → count_by (same_meeting (bare k.receiver k.sends)) made ≡ count_by (same_meeting (bare k.receiver k.sends)) others → MakesStep deploy rows others o a w
recounted deploy rows made others o a w k e = record {
  receiver = k.receiver;
  sends = k.sends;
  at_hand = k.at_hand;
  part = k.part;
  differs = k.differs;
  found = k.found;
  meets = k.meets;
  step = k.step ∙ ap (λ n. record { receiver = k.receiver.id; data_ids = each (λ d. d.id) k.sends; repeat = n }) e;
  gone = k.gone;
  line = k.line;
  room = k.room;
  work = k.work;
  offers = k.offers;
  price = k.price;
  fault = k.fault;
}

names-it : (o r : Row) (sends : List Row) → Among o (r ∷ sends) → takes_part o (bare r sends) ≡ true
names-it o r sends m = times-one_of o.id (ids (r ∷ sends)) (member-times o (r ∷ sends) (member o (r ∷ sends) m))

pub first-shown : (deploy : Deploy) (source : Work) (es : List Entry) (space : Space) → AreAllowed deploy source es space → AreFresh deploy space.made → (o : Row) → Among o space.pending
    → (rows : List Row) → AreAmong rows space.store → (x : Option Making) → IsFirst deploy rows o x → IsShownBy deploy rows (steps_of (entries_on o.id es)) o x
first-shown deploy source es space a f o there rows among None k = absurd k
first-shown deploy source es space a f o there rows among (Some x) (w, k, l) = (w, recounted deploy rows [] (steps_of (entries_on o.id es)) o x w k (sym none))
  where
    none : count_by (same_meeting (bare k.receiver k.sends)) (steps_of (entries_on o.id es)) ≡ 0
    none = sym (steps_of_a_pending_row_are_its_own deploy source es space a f o there (bare k.receiver k.sends) (names-it o k.receiver k.sends k.part))
        ∙ leaving_steps_are_first deploy source es space a f o there rows among k.receiver k.sends k.at_hand k.found k.meets l
