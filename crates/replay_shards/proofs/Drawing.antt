-- What the shards in hand show, as the draws of a replay's hub ask it.
use Rattle.std.proofs.Common.{◌≡◌, ◌<◌, ℕ, suc, ◌+◌, Bool, true, false, List, [], ◌∷◌, ◌++◌, length, refl, sym, ap, subst, ◌∙◌, inl, inr, arith, eqb, eqb-true}
use Rattle.std.specs.Prelude.{◌⊎◌, Option, Some, None, IsSome}
use Rattle.calculus.proofs.Members.{Member, member-split, member-left, member-right}
use Rattle.calculus.specs.Log.{Step}
use Rattle.calculus.specs.Storing.{shard}
use Rattle.hub_rule.specs.Counts.{count, one_if, Each}
use Rattle.events.specs.Shards.{stands_in, shards_of, Covers}
use Rattle.events.proofs.Meeting.{IsMet, met-on, its-shard}
use Rattle.events.proofs.ShardStanding.{stands, its-one}
use Rattle.events.specs.Found.{Among}
use Rattle.events.proofs.Making.{member}
use Rattle.hub_scenes.specs.Spaces.{SeenRow, Part, IndexTry, IsIn, bare}
use Rattle.hub_scenes.specs.Showing.{shown, HasShard, IdsTellSeen, IsIdle}
use Rattle.hub_scenes.proofs.Basics.{has, hold}
use Rattle.replay_rows.specs.Rows.{find_seen}
use Rattle.replay_shards.specs.declared.ready.Ready.{Ready}
use Rattle.replay_shards.specs.Ready.{IsReady}
use Rattle.replay_shards.specs.Taken.{FitsNothing}
use Rattle.replay_slots.specs.Hands.{InHand, shard_at, shown_at, all_shown}
use Rattle.replay_shards.proofs.Fitting.{some-found}
use Rattle.replay_slots.proofs.Placing.{shown-in}
use Rattle.replay_shards.proofs.Trying.{found-id, found-in}

-- what a shard in hand shows
record Shows (hand : InHand) (q : SeenRow) : Type 0 where
  pub number : ℕ
  pub shard : Part
  pub there : shard_at hand number ≡ Some shard
  pub member : Member q (shard.rows ++ shard.built)

who-shows : (hand : InHand) (q : SeenRow) → Member q (all_shown hand) → Shows hand q
who-shows [] q m = absurd m
who-shows (None ∷ hand) q m = let s = who-shows hand q m in record { number = suc s.number; shard = s.shard; there = s.there; member = s.member }
who-shows (Some x ∷ hand) q m = go (who-shows hand q) (member-split q (x.rows ++ x.built) (all_shown hand) m)
  where
    go : (Member q (all_shown hand) → Shows hand q) → Member q (x.rows ++ x.built) ⊎ Member q (all_shown hand) → Shows (Some x ∷ hand) q
    go next (inl k) = record { number = 0; shard = x; there = refl; member = k }
    go next (inr k) = let s = next k in record { number = suc s.number; shard = s.shard; there = s.there; member = s.member }

one : {A : Type 0} (x y : A) → Some x ≡ Some y → x ≡ y
one x y e = cc e

nothing : {A : Type 0} (x : A) → None ≡ Some x → ⊥
nothing x e = cc e

-- a list has all shards in hand as they are
pub record HasAll (hand : InHand) (before : List (ℕ × Part)) : Type 0 where
  pub are : Each (λ k y. shard_at hand k ≡ Some y) before
  pub whole : (k : ℕ) (y : Part) → shard_at hand k ≡ Some y → 0 < count k before

to-hand : (hand : InHand) (before : List (ℕ × Part)) → Each (λ k y. shard_at hand k ≡ Some y) before → (q : SeenRow) → Member q (shown before) → Member q (all_shown hand)
to-hand hand [] e q m = absurd m
to-hand hand (p ∷ ps) e q m = go (to-hand hand ps e.1 q) (member-split q (p.1.rows ++ p.1.built) (shown ps) m)
  where
    go : (Member q (shown ps) → Member q (all_shown hand)) → Member q (p.1.rows ++ p.1.built) ⊎ Member q (shown ps) → Member q (all_shown hand)
    go next (inl k) = shown-in hand p.0 q (subst (λ (o : Option Part). Member q (shown_at o)) (sym e.0) k)
    go next (inr k) = next k

from-list : (hand : InHand) (before : List (ℕ × Part)) → Each (λ k y. shard_at hand k ≡ Some y) before → (k : ℕ) (y : Part) → shard_at hand k ≡ Some y → 0 < count k before → (q : SeenRow) → Member q (y.rows ++ y.built) → Member q (shown before)
from-list hand [] e k y h lt q m = absurd (omega (arith, lt))
from-list hand (p ∷ ps) e k y h lt q m = go (λ n. from-list hand ps e.1 k y h n q m) (eqb p.0 k) refl lt
  where
    go : (0 < count k ps → Member q (shown ps)) → (b : Bool) → eqb p.0 k ≡ b → 0 < one_if b + count k ps → Member q ((p.1.rows ++ p.1.built) ++ shown ps)
    go next true f n =
        let same : y ≡ p.1 = one y p.1 (sym h ∙ ap (shard_at hand) (sym (eqb-true p.0 k f)) ∙ e.0) in
        member-left q (p.1.rows ++ p.1.built) (shown ps) (subst (λ (x : Part). Member q (x.rows ++ x.built)) same m)
    go next false f n = member-right q (p.1.rows ++ p.1.built) (shown ps) (next (omega (arith, n)))

pub from-hand : (hand : InHand) (before : List (ℕ × Part)) → HasAll hand before → (q : SeenRow) → Member q (all_shown hand) → Member q (shown before)
from-hand hand before a q m = let s = who-shows hand q m in from-list hand before a.are s.number s.shard s.there (a.whole s.number s.shard s.there) q s.member

in-list : (before : List (ℕ × Part)) (k : ℕ) → 0 < count k before → HasShard before k
in-list [] k lt = absurd (omega (arith, lt))
in-list (p ∷ ps) k lt = go (in-list ps k) (eqb p.0 k) refl lt
  where
    go : (0 < count k ps → HasShard ps k) → (b : Bool) → eqb p.0 k ≡ b → 0 < one_if b + count k ps → HasShard (p ∷ ps) k
    go next true f n = inl (sym (eqb-true p.0 k f))
    go next false f n = inr (next (omega (arith, n)))

some-at : (o : Option Part) → IsSome o → (y : Part) × (o ≡ Some y)
some-at None h = absurd (cc h)
some-at (Some y) h = (y, refl)

module _ (ss : List Step) (hand : InHand) (before : List (ℕ × Part)) (a : HasAll hand before) (t : IndexTry) (own : IsSome (shard_at hand (shard t.channel))) where
  its-own : HasShard before (shard t.channel)
  its-own = let y = some-at (shard_at hand (shard t.channel)) own in in-list before (shard t.channel) (a.whole (shard t.channel) y.0 y.1)

  tells : IdsTellSeen (shown before) → IdsTellSeen (all_shown hand)
  tells h q z m n e = h q z (hold q (shown before) (from-hand hand before a q (has q (all_shown hand) m))) (hold z (shown before) (from-hand hand before a z (has z (all_shown hand) n))) e

  shown-there : (q : SeenRow) → IsIn q (shown before) → IsIn q (all_shown hand)
  shown-there q m = hold q (all_shown hand) (to-hand hand before a.are q (has q (shown before) m))

  -- a try is shown to be idle where no row in hand is its step's receiver
  pub idle-unheard : ((b : List Step) (s : Step) (c : List Step) → ss ≡ b ++ s ∷ c → length b ≡ t.index → find_seen s.receiver (all_shown hand) ≡ None) → IsIdle ss before t
  idle-unheard none tell b s c log place = record {
    own = its-own;
    joined = λ r m e h k i. absurd (no r m e);
    none = λ r m e h ds i n f. no r m e;
  }
    where
      no : (r : SeenRow) → IsIn r (shown before) → r.row.id ≡ s.receiver → ⊥
      no r m e = let z = some-found s.receiver (all_shown hand) r (has r (all_shown hand) (shown-there r m)) (sym e) in nothing z.0 (sym (none b s c log place) ∙ z.1)

  -- and where all shards of the receiver are in hand and no rows there fit the step
  pub idle-unfit : ((b : List Step) (s : Step) (c : List Step) → ss ≡ b ++ s ∷ c → length b ≡ t.index → (r : SeenRow) × ((find_seen s.receiver (all_shown hand) ≡ Some r) × ((k : ℕ) → stands_in k r.row ≡ true → IsSome (shard_at hand k))))
      → ((b : List Step) (s : Step) (c : List Step) → ss ≡ b ++ s ∷ c → length b ≡ t.index → FitsNothing ss (all_shown hand) b s t.index) → IsIdle ss before t
  idle-unfit heard unfit tell b s c log place = record {
    own = its-own;
    joined = λ r m e h k i. reaches r m e k i;
    none = λ r m e h ds i n f. unfit b s c log place (tells tell) (r ∷ ds) n (λ q j. all-there r ds m i q j) f;
  }
    where
      reaches : (r : SeenRow) → IsIn r (shown before) → r.row.id ≡ s.receiver → (k : ℕ) → stands_in k r.row ≡ true → HasShard before k
      reaches r m e k i =
          let w = heard b s c log place in
          let same : r ≡ w.0 = tells tell r w.0 (shown-there r m) (hold w.0 (all_shown hand) (found-in s.receiver (all_shown hand) w.0 w.1.0)) (e ∙ found-id s.receiver (all_shown hand) w.0 w.1.0) in
          let y = some-at (shard_at hand k) (w.1.1 k (ap (λ (q : SeenRow). stands_in k q.row) (sym same) ∙ i)) in
          in-list before k (a.whole k y.0 y.1)

      all-there : (r : SeenRow) (ds : List SeenRow) → IsIn r (shown before) → ((d : SeenRow) → IsIn d ds → IsIn d (shown before)) → (q : SeenRow) → IsIn q (r ∷ ds) → IsIn q (all_shown hand)
      all-there r ds m i q (inl e) = subst (λ (z : SeenRow). IsIn z (all_shown hand)) (sym e) (shown-there r m)
      all-there r ds m i q (inr n) = shown-there q (i q n)

-- the shards of a receiver cover those of all rows that fit a step with it
pub ready-covers : (ss : List Step) (rows : List SeenRow) (before : List Step) (s : Step) (i : ℕ) (f : Ready) (y : IsReady ss rows before s i f) (touched : ℕ → Bool) → ((k : ℕ) → stands_in k y.receiver.row ≡ true → touched k ≡ true) → Covers touched (bare (y.receiver ∷ y.data_rows))
ready-covers ss rows before s i f y touched c r k m h = go m
  where
    on : IsMet y.receiver.row (bare y.data_rows)
    on = met-on y.receiver.row (bare y.data_rows) y.found.meeting y.found.meets

    only : (k n : ℕ) (ks : List ℕ) → ks ≡ n ∷ [] → Member k ks → k ≡ n
    only k n [] e j = absurd j
    only k n (z ∷ ks) e (inl w) = w ∙ cc e
    only k n (z ∷ ks) e (inr j) = absurd (none ks (cc e) j)
      where
        none : (ks : List ℕ) → ks ≡ [] → Member k ks → ⊥
        none [] w j = j
        none (x ∷ ks) w j = cc w

    go : Among r (bare (y.receiver ∷ y.data_rows)) → touched k ≡ true
    go (inl e) = c k (ap (stands_in k) (sym e) ∙ h)
    go (inr j) =
        let d = its-shard y.receiver.row r (on.on r (member r (bare y.data_rows) j)) in
        let same = only k d.0 (shards_of r) d.1 (its-one k r h) in
        c k (stands k y.receiver.row (subst (λ n. Member n (shards_of y.receiver.row)) (sym same) d.2))
