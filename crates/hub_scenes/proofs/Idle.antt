-- A try may end idle where shards in hand tell so.
use Rattle.std.proofs.Common.{◌≡◌, ℕ, ◌≤◌, arith, true, List, [], ◌∷◌, ◌++◌, length, refl, sym, ap, subst, ◌∙◌, inl, inr}
use Rattle.std.specs.Prelude.{count_by, slice_get, Some}
use Rattle.calculus.specs.Congruence.{congruent}
use Rattle.calculus.specs.Log.{Step}
use Rattle.calculus.proofs.Equivalence.{agree, symmetric}
use Rattle.calculus.specs.Rows.{Row, channels, stdout, stdout_ack}
use Rattle.calculus.specs.Storing.{shard}
use Rattle.calculus.specs.Steps.{Meeting, standing, is_one_of}
use Rattle.calculus.specs.Runs.{Deploy}
use Rattle.calculus.proofs.Members.{Member, Every, every-at, member-each}
use Rattle.events.specs.Events.{stored}
use Rattle.events.proofs.Counts.{ids, times, one_if, same_bytes, member-times, times-one_of}
use Rattle.events.proofs.Spent.{row-of-id}
use Rattle.events.proofs.Making.{member}
use Rattle.hub_rule.specs.Counts.{Each}
use Rattle.racing_replays.specs.Replaying.{names, is_due, ids_of, ids_before}
use Rattle.racing_replays.specs.Laws.{first_bag, IsFresh}
use Rattle.racing_replays.specs.Possible.{HaveArrived, Fits}
use Rattle.racing_replays.specs.Counted.{names_id, uses}
use Rattle.racing_replays.proofs.Due.{Due, due-parts, all-at, given-by}
use Rattle.events.specs.Shards.{shards_of, stands_in}
use Rattle.events.specs.Hands.{is_one_channel}
use Rattle.events.proofs.Alike.{congruent_channels_share_a_shard}
use Rattle.events.proofs.ShardStanding.{any-true, any-one, stands, channel-shard}
use Rattle.events.proofs.Meeting.{IsOn, met-on, its-shard}
use Rattle.hub_scenes.specs.Spaces.{SeenRow, IndexTry, Part, Space, bare, IsPart}
use Rattle.hub_scenes.specs.Showing.{shown, IdsTellSeen, IsLower, IsShownIdle, IsIdle}
use Rattle.hub_scenes.specs.ReplayScene.{IsReached}
use Rattle.hub_scenes.proofs.Basics.{hold, has, images-of}
use Rattle.hub_scenes.proofs.Good.{Good, GoodTry}
use Rattle.hub_scenes.proofs.Here.{once, turns, rows-here, all-in, comes-in, same-row, lower-given}
use Rattle.hub_scenes.proofs.Uses.{its-place}
use Rattle.hub_scenes.proofs.Hands.{shown-there, in-hand}

all-arrived : (store qs : List Row) → HaveArrived store qs → Every (λ r. Member r (standing (stored store))) qs
all-arrived store [] h = tt
all-arrived store (q ∷ qs) h = (member q (store ++ (stdout ∷ stdout_ack ∷ [])) h.0, all-arrived store qs h.1)

one-there : (y : SeenRow) (l : List SeenRow) (z : SeenRow) → Member z l → z.row.id ≡ y.row.id → 1 ≤ times y.row.id (ids (bare l))
one-there y l z m e = subst (λ x. 1 ≤ times x (ids (bare l))) e (member-times z.row (bare l) (member-each (λ w. w.row) z l m))

-- where no id stands twice, rows seen with one id are one
one-seen : (l : List SeenRow) → ((x : List ℕ) → times x (ids (bare l)) ≤ 1) → (q z : SeenRow) → Member q l → Member z l → q.row.id ≡ z.row.id → q ≡ z
one-seen [] d q z m n e = absurd m
one-seen (y ∷ l) d q z (inl s) (inl v) e = s ∙ sym v
one-seen (y ∷ l) d q z (inl s) (inr n) e = absurd (omega (arith, d y.row.id, one-there y l z n (sym e ∙ ap (λ w. w.row.id) s), ap one_if (same_bytes y.row.id y.row.id refl)))
one-seen (y ∷ l) d q z (inr m) (inl v) e = absurd (omega (arith, d y.row.id, one-there y l q m (e ∙ ap (λ w. w.row.id) v), ap one_if (same_bytes y.row.id y.row.id refl)))
one-seen (y ∷ l) d q z (inr m) (inr n) e = one-seen l (λ x. omega (arith, d x)) q z m n e

module _ (deploy : Deploy) (ss : List Step) (st : Space) (r : IsReached deploy ss st) (f : IsFresh deploy.rows st.work r.racing.done) (g : Good (first_bag deploy.rows st.work) st) where
  -- a row that a step names, when it is the step's turn
  module _ (before : List Step) (s : Step) (after : List Step) (log : ss ≡ before ++ s ∷ after) (due : is_due (first_bag deploy.rows st.work) r.racing.done before s ≡ true) (q : SeenRow) (there : Member q (st.store ++ st.built)) (named : names_id q.row.id s ≡ true) where
    parts : Due (first_bag deploy.rows st.work) r.racing.done before s
    parts = due-parts (first_bag deploy.rows st.work) r.racing.done before s due

    its-count : q.done ≡ count_by (names_id q.row.id) before
    its-count = g.counts q there ∙ (turns deploy ss st r f before s after log).0 (parts.not_done, parts.earlier) q.row.id named

    pub its-use : slice_get (uses q.row.id 0 ss) q.done ≡ Some (length before)
    its-use = ap (slice_get (uses q.row.id 0 ss)) its-count ∙ its-place q.row.id ss before s after log named

    pub its-lower : IsLower q.from (length before)
    its-lower = lower-given deploy ss st r f q.row q.from (length before) (g.origin q there)
        (given-by (first_bag deploy.rows st.work) (length before) r.racing.done q.row.id (all-at (names s) (ids_before (first_bag deploy.rows st.work) (length before) r.racing.done) q.row.id parts.given named))

  module _ (shards : List (ℕ × Part)) (each : Each (IsPart st) shards) (x : IndexTry) (good : GoodTry (first_bag deploy.rows st.work) ss st x) (tells : IsIdle ss shards x) where
    -- rows in hand with one id are one
    told-apart : IdsTellSeen (shown shards)
    told-apart q z m n e = one-seen (st.store ++ st.built) (λ y. omega (arith, ap (λ l. times y (ids l)) (rows-here deploy ss st r f), once deploy ss st r f y)) q z
        (shown-there st shards each q (has q (shown shards) m)) (shown-there st shards each z (has z (shown shards) n)) e

    module _ (before : List Step) (s : Step) (after : List Step) (log : ss ≡ before ++ s ∷ after) (place : length before ≡ x.index) (due : is_due (first_bag deploy.rows st.work) r.racing.done before s ≡ true) where
      -- rows seen that fit
      module _ (z : SeenRow) (zs : List SeenRow) (there : Every (λ q. Member q (st.store ++ st.built)) (z ∷ zs)) (m : Meeting) (fits : Fits r.racing.store before s (bare (z ∷ zs)) m) where
        is-receiver : z.row.id ≡ s.receiver
        is-receiver = let e : s.receiver ∷ s.data_ids ≡ z.row.id ∷ ids_of (bare zs) = fits.named in cc

        named-by : (q : SeenRow) → Member q (z ∷ zs) → names_id q.row.id s ≡ true
        named-by q i = ap (is_one_of q.row.id) fits.named ∙ times-one_of q.row.id (ids (bare (z ∷ zs))) (member-times q.row (bare (z ∷ zs)) (member-each (λ y. y.row) q (z ∷ zs) i))

        seen-in-all : (q : Row) → Member q (bare (z ∷ zs)) → Member q (standing (stored r.racing.store))
        seen-in-all q i = every-at (λ y. Member y (standing (stored r.racing.store))) (bare (z ∷ zs)) q (all-arrived r.racing.store (bare (z ∷ zs)) fits.arrived) i

        -- the try's row is one of them
        its-row : (q : Row) × Member q (bare (z ∷ zs)) × (good.row.id ≡ q.id)
        its-row = row-of-id good.row.id (bare (z ∷ zs)) (sym (ap (is_one_of good.row.id) fits.named) ∙ good.named before s after log place)

        its-same : good.row ≡ its-row.0
        its-same = same-row deploy ss st r f good.row its-row.0 (comes-in deploy ss st r f good.row good.from good.comes)
            (all-in deploy ss st r f its-row.0 (seen-in-all its-row.0 its-row.1)) its-row.2

        its-channel : Member x.channel (channels its-row.0.part)
        its-channel = subst (λ y. Member x.channel (channels y.part)) its-same good.channel

        -- so the receiver has the try's channel
        receiver-on : is_one_channel x.channel (channels z.row.part) ≡ true
        receiver-on = go its-row.1
          where
            one : (i : IsOn (channels z.row.part) its-row.0) → Member x.channel (i.channel ∷ []) → is_one_channel x.channel (channels z.row.part) ≡ true
            one i (inl e) = any-true (congruent x.channel) (channels z.row.part) i.other i.among (ap (λ c. congruent c i.other) e ∙ symmetric i.other i.channel i.same)
            one i (inr e) = absurd e

            go : Member its-row.0 (z.row ∷ bare zs) → is_one_channel x.channel (channels z.row.part) ≡ true
            go (inl e) = any-true (congruent x.channel) (channels z.row.part) x.channel (subst (λ y. Member x.channel (channels y.part)) e its-channel) ((agree x.channel x.channel).1 refl)
            go (inr i) = let w = (met-on z.row (bare zs) m fits.meets).on its-row.0 i in one w (subst (λ l. Member x.channel l) w.its its-channel)

        -- and stands in its shard
        receiver-there : stands_in (shard x.channel) z.row ≡ true
        receiver-there = let b = any-one (congruent x.channel) (channels z.row.part) receiver-on in stands (shard x.channel) z.row (subst (λ n. Member n (shards_of z.row)) (sym (congruent_channels_share_a_shard x.channel b.0 b.2)) (channel-shard b.0 z.row b.1))

        may_not : IsShownIdle ss shards x before s
        may_not = tells told-apart before s after log place

        receiver-shown : Member z (shown shards)
        receiver-shown = in-hand st shards each (shard x.channel) z (has (shard x.channel) _ may_not.own) there.0 receiver-there

        fact-shown : (q : SeenRow) → Member q zs → Member q (shown shards)
        fact-shown q i =
            let w = its-shard z.row q.row ((met-on z.row (bare zs) m fits.meets).on q.row (member-each (λ y. y.row) q zs i)) in
            in-hand st shards each w.0 q (has w.0 _ (may_not.joined z (hold z (shown shards) receiver-shown) is-receiver receiver-on w.0 (stands w.0 z.row w.2)))
            (every-at (λ y. Member y (st.store ++ st.built)) zs q there.1 i) (stands w.0 q.row (subst (λ l. Member w.0 l) (sym w.1) (inl refl)))

        pub clash : ⊥
        clash = may_not.none z (hold z (shown shards) receiver-shown) is-receiver receiver-on zs (λ d i. hold d (shown shards) (fact-shown d (has d zs i))) m (record {
          named = fits.named;
          differs = fits.differs;
          meets = fits.meets;
          turn = λ q i. (let n = has q (z ∷ zs) i in its-use before s after log due q (every-at (λ y. Member y (st.store ++ st.built)) (z ∷ zs) q there n) (named-by q n) ∙ ap (λ k. Some k) place);
          lower = λ q i. (let n = has q (z ∷ zs) i in subst (IsLower q.from) place (its-lower before s after log due q (every-at (λ y. Member y (st.store ++ st.built)) (z ∷ zs) q there n) (named-by q n)));
          repeats = fits.repeats;
        })

      -- no rows of the space fit
      pub none-fits : (qs : List Row) (m : Meeting) → Fits r.racing.store before s qs m → ⊥
      none-fits qs m fits =
          let zs = images-of (λ (q : SeenRow). q.row) qs (st.store ++ st.built)
          (subst (λ l. Every (λ y. Member y l) qs) (sym (rows-here deploy ss st r f)) (all-arrived r.racing.store qs fits.arrived)) in
          go zs.0 zs.1.0 (subst (λ l. Fits r.racing.store before s l m) zs.1.1 fits)
        where
          go : (zs : List SeenRow) → Every (λ q. Member q (st.store ++ st.built)) zs → Fits r.racing.store before s (bare zs) m → ⊥
          go [] there fits = let e : s.receiver ∷ s.data_ids ≡ [] = fits.named in cc
          go (z ∷ zs) there fits = clash z zs there m fits
