-- What a worker shows of an operation and the rows of a table tells that an entry is allowed.
use Rattle.std.proofs.Common.{◌≡◌, Bool, true, false, cond, List, [], ◌∷◌, ◌++◌, refl, sym, ap, subst, ◌∙◌, arith, inl, inr}
use Rattle.std.specs.Prelude.{◌⊎◌, Some, None}
use Rattle.std.specs.Str.{bytes_eq}
use Rattle.calculus.proofs.Members.{Member, member-split, member-left, member-right}
use Rattle.calculus.specs.Rows.{Row, stdout, stdout_ack}
use Rattle.calculus.specs.Runs.{Deploy, Work, body_work}
use Rattle.events.specs.Events.{Event, AreFresh}
use Rattle.events.specs.Found.{Among, AreAtHand, after_meeting, step_of}
use Rattle.events.specs.EventLaws.{Begins}
use Rattle.events.proofs.Counts.{ids, one_if, AreDistinct, same_bytes, member-times}
use Rattle.events.proofs.Lookups.{row_with, row_with-there}
use Rattle.events.proofs.Orders.{member-moved}
use Rattle.events.proofs.EventStanding.{ids-times}
use Rattle.events.proofs.EventFollowing.{all-distinct, operation-distinct}
use Rattle.events.proofs.Making.{among, member, lonely_operations_are_stored, meetings_are_steps}
use Rattle.events.specs.Entries.{Space, Making, Entry, rows_before, rows_after, space_after}
use Rattle.events.specs.Allowed.{core_of, AreAmong, IdsTell, rows_at_hand, MeetsNothing, MakesStep, IsEvent}
use Rattle.events.specs.EntryLaws.{LonelyEntriesAreAllowed, MovedRowsAreAmong, StepEntriesAreAllowed}
use Rattle.events.proofs.EntryHolding.{Held, held}
use Rattle.calculus.proofs.Permutations.{moved_so}

-- a row that is there once stands between those before it and those after it
parts_of : (o : Row) (rs : List Row) → AreDistinct (ids rs) → Member o rs → rs ≡ rows_before o.id rs ++ o ∷ rows_after o.id rs
parts_of o [] d m = absurd m
parts_of o (r ∷ rs) d m = go (parts_of o rs (λ x. omega (arith, d x))) (bytes_eq o.id r.id) refl m
  where
    go : (Member o rs → rs ≡ rows_before o.id rs ++ o ∷ rows_after o.id rs) → (b : Bool) → bytes_eq o.id r.id ≡ b → Member o (r ∷ rs)
        → r ∷ rs ≡ cond b [] (r ∷ rows_before o.id rs) ++ o ∷ cond b rs (rows_after o.id rs)
    go next true k (inl e) = ap (λ y. y ∷ rs) (sym e)
    go next true k (inr m) = absurd (omega (arith, d o.id, member-times o rs m, ap one_if k))
    go next false k (inl e) = cc (k, same_bytes o.id r.id (ap (λ y. y.id) e))
    go next false k (inr m) = ap (λ l. r ∷ l) (next m)

pub moved_rows_are_among : MovedRowsAreAmong
moved_rows_are_among rows others m = (λ r a. among r others (member-moved r m (member r rows a)), λ r a. among r rows (member-moved r (moved_so m) (member r others a)))

-- a row at hand beside some rows is at hand beside more
hand-more : (rows more : List Row) (o r : Row) → AreAmong rows more → Among r (rows_at_hand rows o) → Among r (rows_at_hand more o)
hand-more rows more o r h a = among r (rows_at_hand more o) (go (member-split r rows (stdout ∷ stdout_ack ∷ o ∷ []) (member r (rows_at_hand rows o) a)))
  where
    go : Member r rows ⊎ Member r (stdout ∷ stdout_ack ∷ o ∷ []) → Member r (rows_at_hand more o)
    go (inl m) = member-left r more (stdout ∷ stdout_ack ∷ o ∷ []) (member r more (h r (among r rows m)))
    go (inr m) = member-right r more (stdout ∷ stdout_ack ∷ o ∷ []) m

pub all-more : (rows more : List Row) (o : Row) (rs : List Row) → AreAmong rows more → AreAtHand rows o rs → AreAtHand more o rs
all-more rows more o [] m h = tt
all-more rows more o (r ∷ rs) m h = (hand-more rows more o r m h.0, all-more rows more o rs m h.1)

tell-fewer : (rows more : List Row) (o : Row) → AreAmong rows more → IdsTell (rows_at_hand more o) → IdsTell (rows_at_hand rows o)
tell-fewer rows more o m t q r a b = t q r (hand-more rows more o q m a) (hand-more rows more o r m b)

-- where an operation meets nothing among some rows, it meets nothing among fewer
nothing-fewer : (rows more : List Row) (o : Row) → AreAmong rows more → MeetsNothing more o → MeetsNothing rows o
nothing-fewer rows more o m h r sends a part d = h r sends (all-more rows more o (r ∷ sends) m a) part d

-- a step made with some rows is made with more
step-more : (deploy : Deploy) (rows : List Row) (space : Space) (o : Row) (a : Making) (w : Work) → AreAmong rows space.store → MakesStep deploy rows space.made o a w → MakesStep deploy space.store space.made o a w
step-more deploy rows space o a w m k = record {
  receiver = k.receiver;
  sends = k.sends;
  at_hand = all-more rows space.store o (k.receiver ∷ k.sends) m k.at_hand;
  part = k.part;
  differs = λ t. k.differs (tell-fewer rows space.store o m t);
  found = k.found;
  meets = k.meets;
  step = k.step;
  gone = k.gone;
  line = k.line;
  room = k.room;
  work = k.work;
  offers = k.offers;
  price = k.price;
  fault = k.fault;
}

-- rows of which no two have one id are told by their ids
distinct-tell : (rows : List Row) → AreDistinct (ids rows) → IdsTell rows
distinct-tell rows d q r a b e =
    let same : Some q ≡ Some r = sym (row_with-there q rows d (member q rows a)) ∙ ap (λ x. row_with x rows) e ∙ row_with-there r rows d (member r rows b) in
    cc same

-- an operation that is pending in a space that entries lead to
module _ (deploy : Deploy) (source : Work) (b : Begins deploy source) (es : List Entry) (space : Space) (h : Held deploy source es space) (f : AreFresh deploy space.made) (o : Row) (there : Among o space.pending) where
  pending-once : AreDistinct (ids space.pending)
  pending-once x = omega (arith, ids-times x space.store space.pending, h.kept.counts x, all-distinct deploy (core_of space (source ∷ h.bodies)) h.kept f x)

  pub parts : space.pending ≡ rows_before o.id space.pending ++ o ∷ rows_after o.id space.pending
  parts = parts_of o space.pending pending-once (member o space.pending there)

  pub put-event : MeetsNothing space.store o → IsEvent deploy space (record { operation = o; making = None })
  put-event lonely = record {
    reached = record { source = source; begins = b; works = source ∷ h.bodies; events = h.events; offered = h.offered };
    pending = there;
    works = source ∷ h.bodies;
    event = lonely_operations_are_stored deploy source (core_of space (source ∷ h.bodies)) b h.events f o (rows_before o.id space.pending) (rows_after o.id space.pending) parts lonely;
    right = refl;
  }

  -- rows at hand are told by their ids
  tell : IdsTell (rows_at_hand space.store o)
  tell = distinct-tell (rows_at_hand space.store o) (operation-distinct deploy (core_of space (source ∷ h.bodies)) h.kept f o (rows_before o.id space.pending) (rows_after o.id space.pending) parts)

  module _ (a : Making) (w : Work) (k : MakesStep deploy space.store space.made o a w) where
    core-is : after_meeting (core_of space (source ∷ h.bodies)) o (rows_before o.id space.pending) (rows_after o.id space.pending) (k.receiver ∷ k.sends) k.found (step_of space.made k.receiver k.sends) w
        ≡ core_of (space_after space o (Some a)) (source ∷ (h.bodies ++ w ∷ []))
    core-is = cc (k.gone, k.offers, k.step, k.line)

    event : Event deploy.prices deploy.limit (core_of space (source ∷ h.bodies)) (core_of (space_after space o (Some a)) (source ∷ (h.bodies ++ w ∷ [])))
    event = subst (Event deploy.prices deploy.limit (core_of space (source ∷ h.bodies))) core-is
        (meetings_are_steps deploy source (core_of space (source ∷ h.bodies)) b h.events f o (rows_before o.id space.pending) (rows_after o.id space.pending) parts k.receiver k.sends k.at_hand k.part (k.differs tell) k.found k.meets w k.room
        (subst (λ s. body_work deploy.prices deploy.limit k.room s k.found ≡ Some w) k.step k.work)).0

    pub step-event : IsEvent deploy space (record { operation = o; making = Some a })
    step-event = record {
      reached = record { source = source; begins = b; works = source ∷ h.bodies; events = h.events; offered = h.offered };
      pending = there;
      works = source ∷ (h.bodies ++ w ∷ []);
      event = event;
      right = (w, k, refl);
    }

pub lonely_entries_are_allowed : LonelyEntriesAreAllowed
lonely_entries_are_allowed deploy source es space a o there rows m lonely f = put-event deploy source a.begins es space (held deploy source es space a f) f o there (nothing-fewer space.store rows o m lonely)

pub step_entries_are_allowed : StepEntriesAreAllowed
step_entries_are_allowed deploy source es space a o there rows m making w k f = step-event deploy source a.begins es space (held deploy source es space a f) f o there making w (step-more deploy rows space o making w m k)
