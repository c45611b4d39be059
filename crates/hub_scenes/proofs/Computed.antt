-- Proofs of the examples.
use Rattle.std.proofs.Common.{◌≡◌, ℕ, ◌+◌, Bool, true, false, ◌||◌, ◌&&◌, List, [], ◌∷◌, ◌++◌, length, filter, refl, sym, ap, subst, ◌∙◌, arith, inl, inr, eqb, eq-eqb, eqb-true, nat_lt}
use Rattle.std.specs.Prelude.{None, Some, slice_get}
use Rattle.std.specs.Str.{bytes_eq}
use Rattle.std.proofs.lemmas.Bool.Decides.{nat_tests}
use Rattle.calculus.proofs.Opened.{hashing}
use Rattle.calculus.specs.declared.plain.Kind.TheVariants as kinds
use Rattle.calculus.specs.Tree.{Tree}
use Rattle.calculus.specs.Log.{Step}
use Rattle.calculus.specs.Examples.{num, step, datum, receiver}
use Rattle.calculus.specs.Rows.{stdout, stdout_ack}
use Rattle.calculus.specs.Storing.{shard}
use Rattle.calculus.proofs.Members.{Member}
use Rattle.calculus.proofs.Permutations.{unmoved}
use Rattle.events.specs.EventExamples.{no_work}
use Rattle.events.specs.EventLaws.{Begins}
use Rattle.events.proofs.Counts.{same_bytes}
use Rattle.hub_rule.specs.Counts.{one_if, count, once_below, Each}
use Rattle.hub_rule.specs.Meaning.{Meaning, ended, Pending, Allowed, Ran}
use Rattle.hub_rule.proofs.Draws.{allowed_more}
use Rattle.hub_rule.proofs.Offers.{count_numbered}
use Rattle.racing_replays.specs.Examples.{the_source, both_steps}
use Rattle.racing_replays.specs.Replaying.{Replay, ids_of}
use Rattle.racing_replays.specs.Laws.{FreshWalk}
use Rattle.racing_replays.specs.Counted.{names_id, uses}
use Rattle.racing_replays.proofs.Arriving.{same-place}
use Rattle.events.specs.Shards.{stands_in}
use Rattle.hub_scenes.specs.Spaces.{SeenRow, Job, Part, Space, new_row, arrived, first_space, bare, IsIn, seen_in, IsPart}
use Rattle.hub_scenes.specs.Entries.{Entry, job_of}
use Rattle.hub_scenes.specs.Showing.{shown, HasShard, IsLower, IsUse, IsShownIdle, Makes, IsIdle, TellsEntry}
use Rattle.hub_scenes.specs.ReplayScene.{Opens, replay}
use Rattle.hub_scenes.specs.Examples.{from_receiver, try_at, making_of, first_arrival, first_done, too_early, second_arrival, second_done, the_jobs, the_entries, SceneExamples}
use Rattle.hub_scenes.proofs.Basics.{has, hold}
use Rattle.hub_scenes.proofs.Hands.{shown-there, in-hand}
use Rattle.hub_scenes.proofs.Logs.{now}
use Rattle.hub_scenes.proofs.Lawful.{lawful}

-- what holds of one or of two holds of each of these
one-in : {A : Type 0} (P : A → Type 0) (x : A) → P x → (q : A) → IsIn q (x ∷ []) → P q
one-in P x h q (inl e) = subst P (sym e) h
one-in P x h q (inr i) = absurd i

two-in : {A : Type 0} (P : A → Type 0) (x y : A) → P x → P y → (q : A) → IsIn q (x ∷ y ∷ []) → P q
two-in P x y h k q (inl e) = subst P (sym e) h
two-in P x y h k q (inr i) = one-in P y k q i

abbrev first-step : Step
first-step = step (2 ∷ []) ((1 ∷ []) ∷ []) 0

abbrev second-step : Step
second-step = step (2 ∷ []) ((3 ∷ []) ∷ []) 0

-- the shard of the one channel, as it is in a space
abbrev its-part : Space → Part
its-part st = record { number = shard (num 1); rows = filter (seen_in (shard (num 1))) st.store; built = filter (seen_in (shard (num 1))) st.built }

abbrev hand : Space → List (ℕ × Part)
hand st = (shard (num 1), its-part st) ∷ []

hand-is : (st : Space) → Each (IsPart st) (hand st)
hand-is st = (record { number = refl; rows = unmoved (filter (seen_in (shard (num 1))) st.store); built = refl }, tt)

in-its-shard : eqb (shard (num 1)) (shard (num 1)) || false ≡ true
in-its-shard = ap (λ b. b || false) (eq-eqb (shard (num 1)) (shard (num 1)) refl)

there : (st : Space) (q : SeenRow) → Member q (st.store ++ st.built) → seen_in (shard (num 1)) q ≡ true → IsIn q (shown (hand st))
there st q m e = hold q (shown (hand st)) (in-hand st (hand st) (hand-is st) (shard (num 1)) q (inl refl) m e)

first-at : (x : List ℕ) → names_id x first-step ≡ true → (before : List Step) (s : Step) (after : List Step) → both_steps ≡ before ++ s ∷ after → length before ≡ 0 → names_id x s ≡ true
first-at x h before s after log place = subst (λ u. names_id x u ≡ true) (same-place [] first-step (second-step ∷ []) before s after log (sym place)) h

second-at : (before : List Step) (s : Step) (after : List Step) → both_steps ≡ before ++ s ∷ after → length before ≡ 1 → second-step ≡ s
second-at before s after log place = same-place (first-step ∷ []) second-step [] before s after log (sym place)

apart : (x y : List ℕ) → bytes_eq x y ≡ false → x ≡ y → ⊥
apart x y e f = no (sym (same_bytes x y f) ∙ e)
  where
    no : true ≡ false → ⊥
    no e = cc e

-- the ids of the built-in receivers are others
built-other : (bytes_eq stdout.id (3 ∷ []) ≡ false × bytes_eq stdout_ack.id (3 ∷ []) ≡ false) × (bytes_eq stdout.id (2 ∷ []) ≡ false × bytes_eq stdout_ack.id (2 ∷ []) ≡ false)
unfolding hashing
built-other = ((refl, refl), (refl, refl))

module _ (t : Tree) (source : List ℕ) (b : Begins (from_receiver t source) the_source) where
  -- the space before the first entry
  abbrev space-0 : Space
  space-0 = first_space (from_receiver t source) the_source

  abbrev scene : Meaning Space Entry Part Job
  scene = replay (from_receiver t source) both_steps

  abbrev space : List (ℕ × Entry) → Space
  space log = now (replay (from_receiver t source) both_steps) (first_space (from_receiver t source) the_source) the_jobs log

  opens : Opens (from_receiver t source) both_steps (first_space (from_receiver t source) the_source) the_jobs
  opens = record { work = the_source; begins = b; is = refl; are = refl }

  -- an entry that its shard tells to be allowed may follow
  next : (log : List (ℕ × Entry)) (q : ℕ × Entry) → Allowed (replay (from_receiver t source) both_steps) (first_space (from_receiver t source) the_source) the_jobs log
      → Pending (replay (from_receiver t source) both_steps) the_jobs log q.0 (job_of q.1.deed) → TellsEntry both_steps (from_receiver t source) (hand (now (replay (from_receiver t source) both_steps) (first_space (from_receiver t source) the_source) the_jobs log)) [] q.1
      → Allowed (replay (from_receiver t source) both_steps) (first_space (from_receiver t source) the_source) the_jobs (log ++ q ∷ [])
  next log q a p c = allowed_more scene space-0 the_jobs log q a (p, (lawful (from_receiver t source) both_steps).told space-0 the_jobs log (hand (space log)) q.0 q.1 opens a p ((λ f. (hand-is (space log)).0), tt) c)

  abbrev log-1 : List (ℕ × Entry)
  log-1 = (0, first_arrival) ∷ []

  abbrev log-2 : List (ℕ × Entry)
  log-2 = (0, first_arrival) ∷ (2, first_done) ∷ []

  abbrev log-3 : List (ℕ × Entry)
  log-3 = (0, first_arrival) ∷ (2, first_done) ∷ (3, too_early) ∷ []

  abbrev log-4 : List (ℕ × Entry)
  log-4 = (0, first_arrival) ∷ (2, first_done) ∷ (3, too_early) ∷ (1, second_arrival) ∷ []

  abbrev log-5 : List (ℕ × Entry)
  log-5 = (0, first_arrival) ∷ (2, first_done) ∷ (3, too_early) ∷ (1, second_arrival) ∷ (4, second_done) ∷ []

  allowed-1 : Allowed (replay (from_receiver t source) both_steps) (first_space (from_receiver t source) the_source) the_jobs log-1
  allowed-1 = next [] (0, first_arrival) tt (refl, refl) ((λ r k m h. refl), record { are = refl; uses_of = one-in (IsUse both_steps (datum (1 ∷ []) 5 ∷ [])) (try_at 0) (record { row = datum (1 ∷ []) 5; there = inl refl; channel = inl refl; named = first-at (1 ∷ []) refl }) })

  abbrev rows-first : List SeenRow
  rows-first = record { row = receiver (2 ∷ []) kinds.Persistent; from = None; done = 0 } ∷ arrived (new_row None (datum (1 ∷ []) 5)) ∷ []

  makes-first : Makes both_steps (from_receiver t source) (shown (hand (now (replay (from_receiver t source) both_steps) (first_space (from_receiver t source) the_source) the_jobs log-1))) 0 (λ k. true) (making_of first-step (1 ∷ [])) (try_at 1 ∷ [])
  unfolding hashing
  makes-first = record {
    before = [];
    after = second-step ∷ [];
    log = refl;
    place = refl;
    rows = rows-first;
    at_hand = two-in (λ q. IsIn q (shown (hand (space log-1)))) _ _ (there (space log-1) _ (inl refl) in-its-shard) (there (space log-1) _ (inr (inl refl)) in-its-shard);
    found = _;
    fits = record {
      named = refl;
      differs = refl;
      meets = refl;
      turn = two-in (λ q. slice_get (uses q.row.id 0 both_steps) q.done ≡ Some 0) _ _ refl refl;
      lower = two-in (λ q. IsLower q.from 0) _ _ tt tt;
      repeats = refl;
    };
    covers = λ r k m h. refl;
    gone = refl;
    line = refl;
    room = 1;
    work = no_work;
    works = refl;
    offers = refl;
    price = refl;
    fault = refl;
    early = [];
    are = refl;
    uses_of = one-in (IsUse both_steps (bare rows-first)) (try_at 1) (record { row = receiver (2 ∷ []) kinds.Persistent; there = inl refl; channel = inl refl; named = λ before s after log place. subst (λ u. names_id (2 ∷ []) u ≡ true) (second-at before s after log place) refl });
  }

  allowed-2 : Allowed (replay (from_receiver t source) both_steps) (first_space (from_receiver t source) the_source) the_jobs log-2
  unfolding makes-first
  allowed-2 = next log-1 (2, first_done) allowed-1 (refl, refl) (makes-first, λ i h. absurd h)

  -- no row with this id is there but the receiver
  not-there : (z : SeenRow) → Member z ((now (replay (from_receiver t source) both_steps) (first_space (from_receiver t source) the_source) the_jobs log-2).store ++ (now (replay (from_receiver t source) both_steps) (first_space (from_receiver t source) the_source) the_jobs log-2).built) → z.row.id ≡ 3 ∷ [] → ⊥
  not-there z (inl e) h = apart (2 ∷ []) (3 ∷ []) refl (sym (ap (λ (y : SeenRow). y.row.id) e) ∙ h)
  not-there z (inr (inl e)) h = apart stdout.id (3 ∷ []) built-other.0.0 (sym (ap (λ (y : SeenRow). y.row.id) e) ∙ h)
  not-there z (inr (inr (inl e))) h = apart stdout_ack.id (3 ∷ []) built-other.0.1 (sym (ap (λ (y : SeenRow). y.row.id) e) ∙ h)
  not-there z (inr (inr (inr m))) h = absurd m

  its-receiver : (z : SeenRow) → Member z ((now (replay (from_receiver t source) both_steps) (first_space (from_receiver t source) the_source) the_jobs log-2).store ++ (now (replay (from_receiver t source) both_steps) (first_space (from_receiver t source) the_source) the_jobs log-2).built) → z.row.id ≡ 2 ∷ [] → z.row ≡ receiver (2 ∷ []) kinds.Persistent
  its-receiver z (inl e) h = ap (λ (y : SeenRow). y.row) e
  its-receiver z (inr (inl e)) h = absurd (apart stdout.id (2 ∷ []) built-other.1.0 (sym (ap (λ (y : SeenRow). y.row.id) e) ∙ h))
  its-receiver z (inr (inr (inl e))) h = absurd (apart stdout_ack.id (2 ∷ []) built-other.1.1 (sym (ap (λ (y : SeenRow). y.row.id) e) ∙ h))
  its-receiver z (inr (inr (inr m))) h = absurd m

  abbrev here : Space
  here = now (replay (from_receiver t source) both_steps) (first_space (from_receiver t source) the_source) the_jobs log-2

  in-space : (z : SeenRow) → IsIn z (shown (hand (now (replay (from_receiver t source) both_steps) (first_space (from_receiver t source) the_source) the_jobs log-2))) → Member z (here.store ++ here.built)
  in-space z h = shown-there here (hand here) (hand-is here) z (has z (shown (hand here)) h)

  idle-there : IsIdle both_steps (hand (now (replay (from_receiver t source) both_steps) (first_space (from_receiver t source) the_source) the_jobs log-2)) (try_at 1)
  idle-there told before s after log place = subst (λ u. IsShownIdle both_steps (hand here) (try_at 1) before u) (second-at before s after log place) (record {
    own = inl refl;
    joined = λ r h i o k e. only-shard k (subst (λ y. stands_in k y ≡ true) (its-receiver r (in-space r h) i) e);
    none = λ r h i o ds all m fit. no-data r ds all fit.named;
  })
    where
      only-shard : (k : ℕ) → stands_in k (receiver (2 ∷ []) kinds.Persistent) ≡ true → HasShard (hand here) k
      only-shard k e = go (eqb k (shard (num 1))) refl e
        where
          go : (c : Bool) → eqb k (shard (num 1)) ≡ c → c || false ≡ true → HasShard (hand here) k
          go true f e = inl (eqb-true k (shard (num 1)) f)
          go false f e = cc

      no-data : (r : SeenRow) (ds : List SeenRow) → ((d : SeenRow) → IsIn d ds → IsIn d (shown (hand here))) → (2 ∷ []) ∷ (3 ∷ []) ∷ [] ≡ r.row.id ∷ ids_of (bare ds) → ⊥
      no-data r [] all e = cc
      no-data r (d ∷ ds) all e = let f : 3 ∷ [] ≡ d.row.id = cc in not-there d (in-space d (all d (inl refl))) (sym f)

  allowed-3 : Allowed (replay (from_receiver t source) both_steps) (first_space (from_receiver t source) the_source) the_jobs log-3
  allowed-3 = next log-2 (3, too_early) allowed-2 (refl, refl) idle-there

  allowed-4 : Allowed (replay (from_receiver t source) both_steps) (first_space (from_receiver t source) the_source) the_jobs log-4
  allowed-4 = next log-3 (1, second_arrival) allowed-3 (refl, refl) (
    (λ r k m h. refl),
    record {
      are = refl;
      uses_of = one-in (IsUse both_steps (datum (3 ∷ []) 6 ∷ [])) (try_at 1) (record { row = datum (3 ∷ []) 6; there = inl refl; channel = inl refl; named = λ before s after log place. subst (λ u. names_id (3 ∷ []) u ≡ true) (second-at before s after log place) refl });
    },
  )

  abbrev rows-second : List SeenRow
  rows-second = record { row = receiver (2 ∷ []) kinds.Persistent; from = None; done = 1 } ∷ arrived (new_row None (datum (3 ∷ []) 6)) ∷ []

  makes-second : Makes both_steps (from_receiver t source) (shown (hand (now (replay (from_receiver t source) both_steps) (first_space (from_receiver t source) the_source) the_jobs log-4))) 1 (λ k. true) (making_of second-step (3 ∷ [])) []
  unfolding hashing
  makes-second = record {
    before = first-step ∷ [];
    after = [];
    log = refl;
    place = refl;
    rows = rows-second;
    at_hand = two-in (λ q. IsIn q (shown (hand (space log-4)))) _ _ (there (space log-4) _ (inl refl) in-its-shard) (there (space log-4) _ (inr (inl refl)) in-its-shard);
    found = _;
    fits = record {
      named = refl;
      differs = refl;
      meets = refl;
      turn = two-in (λ q. slice_get (uses q.row.id 0 both_steps) q.done ≡ Some 1) _ _ refl refl;
      lower = two-in (λ q. IsLower q.from 1) _ _ tt tt;
      repeats = refl;
    };
    covers = λ r k m h. refl;
    gone = refl;
    line = refl;
    room = 1;
    work = no_work;
    works = refl;
    offers = refl;
    price = refl;
    fault = refl;
    early = [];
    are = refl;
    uses_of = λ y i. absurd i;
  }

  allowed-5 : Allowed (replay (from_receiver t source) both_steps) (first_space (from_receiver t source) the_source) the_jobs log-5
  unfolding makes-second
  allowed-5 = next log-4 (4, second_done) allowed-4 (refl, refl) (makes-second, λ i h. absurd h)

  abbrev nothing : List (ℕ × Job)
  nothing = []

  pub ran : Ran (replay (from_receiver t source) both_steps) [] the_jobs the_entries [] [] []
  ran = record {
    store = first_space (from_receiver t source) the_source;
    log = log-5;
    rests = [];
    same = refl;
    starts = ((λ k x e. cc), opens);
    allowed = allowed-5;
    closes = λ k x e. cc;
    lies = refl;
    pending = (tt, (λ i. ended-once i));
  }
    where
      none : (i : ℕ) → once_below i 0 ≡ 0
      none i = let q : nat_lt i 0 ≡ false = grind (arith, nat_tests) in ap one_if q

      with-true : (b : Bool) → one_if (b && true) ≡ one_if b
      with-true true = refl
      with-true false = refl

      ended-once : (i : ℕ) → count i nothing + ended scene i log-5 ≡ once_below i 5
      ended-once i = omega (arith, count_numbered {A = ℕ} 0 i (0 ∷ 0 ∷ 0 ∷ 0 ∷ 0 ∷ []), none i, with-true (eqb 0 i), with-true (eqb 1 i), with-true (eqb 2 i), with-true (eqb 3 i), with-true (eqb 4 i))

module _ (t : Tree) (source : List ℕ) where
  fresh : (k : Replay) × FreshWalk (from_receiver t source) the_source both_steps k
  unfolding hashing
  fresh = (_, record { walks = (1, refl); fresh = refl })

pub scene_examples : SceneExamples
scene_examples = record { ran = ran; fresh = fresh; done_both = refl; verdict = λ t source. refl }
