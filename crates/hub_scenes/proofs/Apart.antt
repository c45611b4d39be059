-- A pending operation and the rows of a shard have no id twice, under fresh digests; and ids tell fewer rows where they tell more.
use Rattle.std.proofs.Common.{◌≡◌, ℕ, ◌+◌, ◌≤◌, ◌⊎◌, Bool, true, false, cond, List, [], ◌∷◌, ◌++◌, filter, refl, sym, subst, arith, inl, inr}
use Rattle.std.specs.Str.{bytes_eq}
use Rattle.calculus.specs.Rows.{Row}
use Rattle.calculus.specs.Steps.{differ}
use Rattle.calculus.specs.Runs.{Deploy, Work}
use Rattle.events.specs.Events.{AreFresh}
use Rattle.calculus.proofs.Members.{Member, member-left, member-right}
use Rattle.events.specs.Found.{Among, AreAtHand}
use Rattle.events.proofs.Counts.{ids, one_if, times, bytes_same, distinct-differ, member-times}
use Rattle.events.proofs.EventFollowing.{all-distinct}
use Rattle.events.proofs.Making.{among, member}
use Rattle.events.proofs.Orders.{times-moved}
use Rattle.events.proofs.EventStanding.{ids-times}
use Rattle.events.specs.Entries.{Space, Entry}
use Rattle.events.specs.Allowed.{core_of, AreAllowed, AreAmong, IdsTell, rows_at_hand}
use Rattle.events.proofs.EntryHolding.{Held, held}
use Rattle.events.specs.Shards.{stands_in, IsProjection}
use Rattle.events.proofs.ShardHolding.{beside, at-hand, of-hand}

-- fewer rows have an id no oftener
filter-times : (x : List ℕ) (f : Row → Bool) (rs : List Row) → times x (ids (filter f rs)) ≤ times x (ids rs)
filter-times x f [] = omega arith
filter-times x f (r ∷ rs) = go (f r) (filter-times x f rs)
  where
    go : (b : Bool) → times x (ids (filter f rs)) ≤ times x (ids rs) → times x (ids (cond b (r ∷ filter f rs) (filter f rs))) ≤ one_if (bytes_eq x r.id) + times x (ids rs)
    go true h = omega (arith, h)
    go false h = omega (arith, h)

-- a row of a list has its id among the list's
own-times : (x : List ℕ) (o : Row) (rs : List Row) → Among o rs → one_if (bytes_eq x o.id) ≤ times x (ids rs)
own-times x o rs m = go (bytes_eq x o.id) refl
  where
    go : (b : Bool) → bytes_eq x o.id ≡ b → one_if b ≤ times x (ids rs)
    go true e = subst (λ y. 1 ≤ times y (ids rs)) (sym (bytes_same x o.id e)) (member-times o rs (member o rs m))
    go false e = omega arith

pub apart-in : (deploy : Deploy) (source : Work) (es : List Entry) (space : Space) → AreAllowed deploy source es space → AreFresh deploy space.made
    → (o : Row) → Among o space.pending → (k : ℕ) (rows : List Row) → IsProjection space.store k rows → differ (ids (o ∷ rows)) ≡ true
apart-in deploy source es space a f o m k rows is = distinct-differ (ids (o ∷ rows)) once
  where
    h : Held deploy source es space
    h = held deploy source es space a f

    once : (x : List ℕ) → one_if (bytes_eq x o.id) + times x (ids rows) ≤ 1
    once x = omega (
      arith,
      own-times x o space.pending m,
      times-moved x is,
      filter-times x (stands_in k) space.store,
      ids-times x space.store space.pending,
      h.kept.counts x,
      all-distinct deploy (core_of space (source ∷ h.bodies)) h.kept f x,
    )

-- rows at hand among some are at hand among more
pub hand-more : (rows more : List Row) (o : Row) → AreAmong rows more → (qs : List Row) → AreAtHand rows o qs → AreAtHand more o qs
hand-more rows more o a qs h = at-hand more o qs (λ z m. go z (of-hand rows o qs h z m))
  where
    go : (z : Row) → Member z rows ⊎ Member z (beside o) → Member z (more ++ beside o)
    go z (inl k) = member-left z more (beside o) (member z more (a z (among z rows k)))
    go z (inr k) = member-right z more (beside o) k

pub tell-fewer : (rows more : List Row) (o : Row) → AreAmong rows more → IdsTell (rows_at_hand more o) → IdsTell (rows_at_hand rows o)
tell-fewer rows more o a t q r b c e = t q r (go q b) (go r c) e
  where
    go : (z : Row) → Among z (rows_at_hand rows o) → Among z (rows_at_hand more o)
    go z i = (hand-more rows more o a (z ∷ []) (i, tt)).0
