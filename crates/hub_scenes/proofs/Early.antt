-- Tries that end as soon as a step offers them.
use Rattle.std.proofs.Common.{◌≡◌, ℕ, arith, true, List, [], ◌∷◌, ◌++◌, length, map as each, refl, sym, ap, subst, ◌∙◌, inl, inr}
use Rattle.std.specs.Prelude.{◌⊎◌, Option, Some, None, option_map}
use Rattle.calculus.specs.Log.{Step}
use Rattle.calculus.specs.Rows.{Row}
use Rattle.calculus.specs.Steps.{Bag, Meeting, standing, meeting}
use Rattle.calculus.specs.Runs.{Deploy, Work}
use Rattle.calculus.proofs.Members.{Member, Every, every-at, member-split, member-left, member-right, member-each}
use Rattle.events.specs.Events.{stored}
use Rattle.events.specs.Found.{met, without}
use Rattle.events.proofs.Counts.{ids, AreDistinct}
use Rattle.events.proofs.Meetings.{made_by, Joined, join, meeting_with, meet_rows-of}
use Rattle.events.proofs.EventStanding.{built_ins, left-there, left-times, ids-times}
use Rattle.hub_rule.specs.Counts.{Each}
use Rattle.racing_replays.specs.Replaying.{DoneStep, is_due, done_steps}
use Rattle.racing_replays.specs.Racing.{RacingState, Races, idle_try}
use Rattle.racing_replays.specs.Laws.{first_bag, IsFresh}
use Rattle.racing_replays.proofs.Keeping.{one-row}
use Rattle.events.specs.Shards.{shards_of, stands_in}
use Rattle.events.proofs.ShardStanding.{stands}
use Rattle.events.proofs.Meeting.{met-on, its-shard}
use Rattle.hub_scenes.specs.Spaces.{SeenRow, Part, Space, IsIn, IsPart}
use Rattle.hub_scenes.specs.Showing.{shown, IsEarly}
use Rattle.hub_scenes.specs.ReplayScene.{EndIdle, IsReached}
use Rattle.hub_scenes.proofs.Basics.{has, hold, image-of}
use Rattle.hub_scenes.proofs.Here.{once, rows-here}
use Rattle.hub_scenes.proofs.Hands.{in-hand}

joined-met : (qs : List Row) (q : Joined) → join qs ≡ Some q → met qs ≡ Some (meeting_with (λ r. 0) qs q)
joined-met qs q j = meet_rows-of (λ r. 0) qs ∙ ap (option_map (meeting_with (λ r. 0) qs)) j

module _ (deploy : Deploy) (ss : List Step) (st : Space) (r : IsReached deploy ss st) (f : IsFresh deploy.rows st.work r.racing.done) where
  module _ (shards : List (ℕ × Part)) (each : Each (IsPart st) shards) (rows : List SeenRow) (there : (q : SeenRow) → Member q rows → Member q (st.store ++ st.built)) (gone : List (List ℕ)) where
    abbrev left : List Row
    left = without gone r.racing.store

    -- what is left stood there
    was-there : (z : Row) → Member z (standing (stored left)) → Member z (standing (stored r.racing.store))
    was-there z m = go (member-split z left built_ins m)
      where
        go : Member z left ⊎ Member z built_ins → Member z (standing (stored r.racing.store))
        go (inl i) = member-left z r.racing.store built_ins (left-there gone r.racing.store z i)
        go (inr i) = member-right z r.racing.store built_ins i

    left-once : AreDistinct (ids (standing (stored left)))
    left-once x = omega (arith, once deploy ss st r f x, ids-times x left built_ins, ids-times x r.racing.store built_ins, left-times x gone r.racing.store)

    module _ (s : Step) (e : IsEarly ss shards rows s) where
      seen-there : Member e.receiver.row (standing (stored r.racing.store))
      seen-there = subst (λ l. Member e.receiver.row l) (rows-here deploy ss st r f) (member-each (λ y. y.row) e.receiver (st.store ++ st.built) (there e.receiver (has e.receiver rows e.there)))

      clash : (zs : List Row) → s.receiver ∷ s.data_ids ≡ ids zs → Every (λ z. Member z (standing (stored left))) zs → (m : Meeting) → met zs ≡ Some m → ⊥
      clash [] n h m k = cc n
      clash (z ∷ zs) n h m k = e.none q.0 (hold q.0 (shown shards) in-it) (sym (wanted.1.1 ∙ ap (λ y. y.id) q.1.1))
        where
          same-receiver : s.receiver ≡ z.id
          same-receiver = cc n

          same-data : s.data_ids ≡ ids zs
          same-data = cc n

          is-receiver : e.receiver.row ≡ z
          is-receiver = one-row (standing (stored r.racing.store)) (once deploy ss st r f) e.receiver.row z seen-there (was-there z h.0) (e.named ∙ same-receiver)

          -- the row with the id that no row in hand has
          wanted : (y : Row) × (Member y zs × e.id ≡ y.id)
          wanted = image-of (λ (y : Row). y.id) e.id zs (subst (λ l. Member e.id l) same-data (has e.id s.data_ids e.wanted))

          q : (y : SeenRow) × (Member y (st.store ++ st.built) × wanted.0 ≡ y.row)
          q = image-of (λ (y : SeenRow). y.row) wanted.0 (st.store ++ st.built) (subst (λ l. Member wanted.0 l) (sym (rows-here deploy ss st r f))
              (was-there wanted.0 (every-at (λ y. Member y (standing (stored left))) zs wanted.0 h.1 wanted.1.0)))

          shard-of : (j : ℕ) × (shards_of wanted.0 ≡ j ∷ []) × Member j (shards_of z)
          shard-of = its-shard z wanted.0 ((met-on z zs m k).on wanted.0 wanted.1.0)

          in-it : Member q.0 (shown shards)
          in-it = in-hand st shards each shard-of.0 q.0
              (has shard-of.0 _ (e.joined shard-of.0 (subst (λ y. stands_in shard-of.0 y ≡ true) (sym is-receiver) (stands shard-of.0 z shard-of.2)))) q.1.0
              (stands shard-of.0 q.0.row (subst (λ y. Member shard-of.0 (shards_of y)) q.1.1 (subst (λ l. Member shard-of.0 l) (sym shard-of.1) (inl refl))))

      pub none-meet : (made : List Step) → meeting (stored left) made s ≡ None
      none-meet made = go (meeting (stored left) made s) refl
        where
          go : (o : Option Meeting) → meeting (stored left) made s ≡ o → o ≡ None
          go None g = refl
          go (Some m) g = let h = made_by (stored left) made s m left-once g in absurd (clash h.taken h.ids h.there _ (joined-met h.taken h.joined h.joins))

-- tries that may not be done end
module _ (b : Bag) (ss : List Step) (store arriving : List Row) (done : List DoneStep) where
  abbrev pub with-tries : List ℕ → RacingState
  with-tries ts = record { store = store; arriving = arriving; tries = ts; done = done }

  abbrev pub MayNot : ℕ → Type 0
  MayNot i = (before : List Step) (s : Step) (after : List Step) → ss ≡ before ++ s ∷ after → length before ≡ i → is_due b done before s ≡ true → meeting (stored store) (done_steps done) s ≡ None

  pub all-end : (early pre post : List ℕ) → ((i : ℕ) → IsIn i early → MayNot i) → EndIdle b ss early (with-tries (pre ++ (early ++ post))) (with-tries (pre ++ post))
  all-end [] pre post h = refl
  all-end (i ∷ early) pre post h = (with-tries (pre ++ (early ++ post)), record { index = i; pre = pre; post = early ++ post; tries = refl; may_not = h i (inl refl); is = refl }, all-end early pre post (λ j m. h j (inr m)))

-- so they are events
pub idle-races : (deploy : Deploy) (w : Work) (ss : List Step) (early : List ℕ) (c d : RacingState) → Races deploy w ss c → EndIdle (first_bag deploy.rows w) ss early c d → Races deploy w ss d
idle-races deploy w ss [] c d h e = subst (Races deploy w ss) e h
idle-races deploy w ss (i ∷ early) c d h e = idle-races deploy w ss early e.0 d (idle_try h e.1) e.2

-- and nothing more is done
pub same-done : (b : Bag) (ss : List Step) (early : List ℕ) (c d : RacingState) → EndIdle b ss early c d → d.done ≡ c.done
same-done b ss [] c d e = ap (λ y. y.done) (sym e)
same-done b ss (i ∷ early) c d e = same-done b ss early e.0 d e.2 ∙ ap (λ y. y.done) e.1.is
