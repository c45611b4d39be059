-- The shards in hand tell whether an entry is allowed.
use Rattle.std.proofs.Common.{◌≡◌, true, List, ◌∷◌, map as each, sym, ap, ◌∙◌, arith}
use Rattle.std.specs.Prelude.{◌↔◌, Some, None, count_by}
use Rattle.calculus.specs.Log.{Step}
use Rattle.calculus.specs.Rows.{Row}
use Rattle.calculus.specs.Steps.{same_meeting}
use Rattle.calculus.specs.Runs.{Deploy, Work}
use Rattle.events.specs.Events.{AreFresh, takes_part}
use Rattle.events.specs.Found.{Among}
use Rattle.events.proofs.Counts.{ids, AreDistinct, distinct-differ, member-times, times-one_of}
use Rattle.events.proofs.Lookups.{row_with, row_with-there}
use Rattle.events.proofs.EventStanding.{ids-times}
use Rattle.events.proofs.EventFollowing.{all-distinct, operation-distinct}
use Rattle.events.proofs.Making.{member}
use Rattle.events.specs.Entries.{Space, Making, Entry, rows_before, rows_after, steps_of, entries_on}
use Rattle.events.specs.Allowed.{core_of, IdsTell, rows_at_hand, MakesStep, AreAllowed}
use Rattle.events.proofs.EntryHolding.{Held, held}
use Rattle.events.proofs.Showing.{parts, lonely_entries_are_allowed}
use Rattle.events.proofs.Counted.{steps_of_a_pending_row_are_its_own, own_steps_are_allowed}
use Rattle.events.specs.ShardLaws.{IdsTellStoredRows, HeldShardsTellEntries, HeldShardsTellExactly}
use Rattle.events.proofs.ShardHolding.{nothing_in_hand_is_nothing_stored, steps_in_hand_are_steps}

-- rows of which no two have one id are told by their ids
distinct-tell : (rows : List Row) → AreDistinct (ids rows) → IdsTell rows
distinct-tell rows d q r a b e =
    let same : Some q ≡ Some r = sym (row_with-there q rows d (member q rows a)) ∙ ap (λ x. row_with x rows) e ∙ row_with-there r rows d (member r rows b) in
    cc same

module _ (deploy : Deploy) (source : Work) (es : List Entry) (space : Space) (a : AreAllowed deploy source es space) (f : AreFresh deploy space.made) where
  h : Held deploy source es space
  h = held deploy source es space a f

  store-distinct : AreDistinct (ids space.store)
  store-distinct x = omega (arith, ids-times x space.store space.pending, h.kept.counts x, all-distinct deploy (core_of space (source ∷ h.bodies)) h.kept f x)

  pub tell : (o : Row) → Among o space.pending → IdsTell (rows_at_hand space.store o)
  tell o there = distinct-tell (rows_at_hand space.store o)
      (operation-distinct deploy (core_of space (source ∷ h.bodies)) h.kept f o (rows_before o.id space.pending) (rows_after o.id space.pending) (parts deploy source a.begins es space h f o there))

pub ids_tell_stored_rows : IdsTellStoredRows
ids_tell_stored_rows deploy source es space a f = (distinct-differ (ids space.store) (store-distinct deploy source es space a f), tell deploy source es space a f)

pub held_shards_tell_entries : HeldShardsTellEntries
held_shards_tell_entries deploy source es space a o there held rows g s None n f =
    lonely_entries_are_allowed deploy source es space a o there space.store (λ r m. m) ((nothing_in_hand_is_nothing_stored space.store held rows o (g f) s).0 n) f
held_shards_tell_entries deploy source es space a o there held rows g s (Some x) k f = own_steps_are_allowed deploy source es space a o there rows (g f).stored x k.0 k.1 f

-- a step of these rows without a repeat number
abbrev bare : Row → List Row → Step
bare r sends = record { receiver = r.id; data_ids = each (λ d. d.id) sends; repeat = 0 }

-- it is the same step after these steps and after those, where it was made as often
recounted : (deploy : Deploy) (rows : List Row) (made others : List Step) (o : Row) (a : Making) (w : Work) (k : MakesStep deploy rows made o a w)
    → count_by (same_meeting (bare k.receiver k.sends)) made ≡ count_by (same_meeting (bare k.receiver k.sends)) others → MakesStep deploy rows others o a w
recounted deploy rows made others o a w k e = record {
  receiver = k.receiver;
  sends = k.sends;
  at_hand = k.at_hand;
  part = k.part;
  differs = k.differs;
  found = k.found;
  meets = k.meets;
  step = k.step ∙ ap (λ n. record { receiver = k.receiver.id; data_ids = each (λ d. d.id) k.sends; repeat = n }) e;
  gone = k.gone;
  line = k.line;
  room = k.room;
  work = k.work;
  offers = k.offers;
  price = k.price;
  fault = k.fault;
}

names-it : (o r : Row) (sends : List Row) → Among o (r ∷ sends) → takes_part o (bare r sends) ≡ true
names-it o r sends m = times-one_of o.id (ids (r ∷ sends)) (member-times o (r ∷ sends) (member o (r ∷ sends) m))

pub held_shards_tell_exactly : HeldShardsTellExactly
held_shards_tell_exactly deploy source es space a f o there held rows g s None = nothing_in_hand_is_nothing_stored space.store held rows o g s
held_shards_tell_exactly deploy source es space a f o there held rows g s (Some x) = (
  λ k. (k.0, (both k.0 space.made).0 (recounted deploy rows own space.made o x k.0 k.1 (sym (same k.1.receiver k.1.sends k.1.part)))),
  λ k. (k.0, recounted deploy rows space.made own o x k.0 ((both k.0 space.made).1 k.1) (same ((both k.0 space.made).1 k.1).receiver ((both k.0 space.made).1 k.1).sends ((both k.0 space.made).1 k.1).part)),
)
  where
    own : List Step
    own = steps_of (entries_on o.id es)

    both : (w : Work) (made : List Step) → MakesStep deploy rows made o x w ↔ MakesStep deploy space.store made o x w
    both w made = steps_in_hand_are_steps space.store held rows o g s (tell deploy source es space a f o there) deploy made x w

    same : (r : Row) (sends : List Row) → Among o (r ∷ sends) → count_by (same_meeting (bare r sends)) space.made ≡ count_by (same_meeting (bare r sends)) (steps_of (entries_on o.id es))
    same r sends m = steps_of_a_pending_row_are_its_own deploy source es space a f o there (bare r sends) (names-it o r sends m)
