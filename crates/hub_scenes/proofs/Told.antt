-- A row that is to arrive arrives, and a try ends idle.
use Rattle.std.proofs.Common.{◌≡◌, ℕ, ◌≤◌, Bool, true, false, cond, List, [], ◌∷◌, ◌++◌, filter, map as each, refl, sym, ap, ◌∙◌, arith, inl, inr}
use Rattle.std.specs.Str.{bytes_eq}
use Rattle.calculus.specs.Log.{Step}
use Rattle.calculus.specs.Rows.{Row}
use Rattle.calculus.specs.Runs.{Deploy}
use Rattle.calculus.proofs.Members.{Member, member-each}
use Rattle.events.proofs.Counts.{ids, times, one_if, member-times, same_bytes}
use Rattle.hub_rule.specs.Counts.{Each}
use Rattle.racing_replays.specs.Racing.{next_use}
use Rattle.racing_replays.specs.Laws.{first_bag, IsFresh}
use Rattle.racing_replays.proofs.Possible.{other_tries_are_idle}
use Rattle.events.specs.Shards.{Covers}
use Rattle.hub_scenes.specs.Spaces.{SeenRow, NewRow, IndexTry, Part, Space, arrived, bare, lies_in, IsPart}
use Rattle.hub_scenes.specs.Entries.{arrives, idles, but_row, but_index}
use Rattle.hub_scenes.specs.Showing.{IsFirstUse, IsIdle}
use Rattle.hub_scenes.specs.ReplayScene.{IsEvent, IsReached}
use Rattle.hub_scenes.proofs.Basics.{hold, each-both, TakenOut, try-out}
use Rattle.hub_scenes.proofs.Good.{Good, GoodTry}
use Rattle.hub_scenes.proofs.Here.{arriving-once}
use Rattle.hub_scenes.proofs.Uses.{first-use}
use Rattle.hub_scenes.proofs.Leaving.{lies-so}
use Rattle.hub_scenes.proofs.Idle.{none-fits}

abbrev pub rows-in : List NewRow → List Row
rows-in l = each (λ a. a.row) l

arrival-out : (a : NewRow) (l : List NewRow) → ((x : List ℕ) → times x (ids (rows-in l)) ≤ 1) → Member a l → TakenOut l a (but_row a.row.id l)
arrival-out a [] d m = absurd m
arrival-out a (b ∷ l) d m = go (arrival-out a l (λ x. omega (arith, d x))) (bytes_eq a.row.id b.row.id) refl m
  where
    go : (Member a l → TakenOut l a (but_row a.row.id l)) → (c : Bool) → bytes_eq a.row.id b.row.id ≡ c → Member a (b ∷ l) → TakenOut (b ∷ l) a (cond c l (b ∷ but_row a.row.id l))
    go next true e (inl s) = record { pre = []; post = l; is = ap (λ y. y ∷ l) (sym s); left = refl }
    go next true e (inr m) = absurd (omega (arith, d a.row.id, member-times a.row (rows-in l) (member-each (λ y. y.row) a l m), ap one_if e))
    go next false e (inl s) = absurd (no (sym (same_bytes a.row.id b.row.id (ap (λ y. y.row.id) s)) ∙ e))
      where
        no : true ≡ false → ⊥
        no e = cc e
    go next false e (inr m) = let k = next m in record { pre = b ∷ k.pre; post = k.post; is = ap (λ y. b ∷ y) k.is; left = ap (λ y. b ∷ y) k.left }

-- where its shards are touched, a row comes to the store
pub comes-there : (touched : ℕ → Bool) (a : NewRow) → Covers touched (a.row ∷ []) → filter (λ (q : SeenRow). lies_in touched q.row) (arrived a ∷ []) ≡ arrived a ∷ []
comes-there touched a c = ap (λ b. cond b (arrived a ∷ []) []) (lies-so touched (a.row ∷ []) a.row c (inl refl))

module _ (deploy : Deploy) (ss : List Step) (st : Space) (r : IsReached deploy ss st) (f : IsFresh deploy.rows st.work r.racing.done) (g : Good (first_bag deploy.rows st.work) st) where
  -- no id stands twice among the rows that are to arrive
  pub new-once : (x : List ℕ) → times x (ids (rows-in st.arriving)) ≤ 1
  new-once x = omega (arith, ap (λ l. times x (ids l)) r.is.arriving, arriving-once deploy ss st r f x)

  module _ (a : NewRow) (next : List IndexTry) (touched : ℕ → Bool) (waits : Member a st.arriving) (covers : Covers touched (a.row ∷ [])) (first : IsFirstUse ss a.row next) where
    out : TakenOut st.arriving a (but_row a.row.id st.arriving)
    out = arrival-out a st.arriving new-once waits

    pub arrival-event : IsEvent deploy ss st touched (arrives a next)
    arrival-event = record {
      reached = r;
      next = record { store = r.racing.store ++ a.row ∷ []; arriving = rows-in out.pre ++ rows-in out.post; tries = r.racing.tries ++ next_use a.row.id 0 0 ss; done = r.racing.done };
      event = record { row = a.row; before = rows-in out.pre; after = rows-in out.post; arriving = sym r.is.arriving ∙ ap rows-in out.is ∙ each-both (λ y. y.row) out.pre (a ∷ out.post); is = refl };
      is = record {
        built = r.is.built;
        store = each-both (λ y. y.row) st.store (filter (λ q. lies_in touched q.row) (arrived a ∷ [])) ∙ ap (λ l. bare st.store ++ bare l) (comes-there touched a covers) ∙ ap (λ l. l ++ a.row ∷ []) r.is.store;
        arriving = ap rows-in out.left ∙ each-both (λ y. y.row) out.pre out.post;
        tries = ap (λ l. st.tries ++ l) (first.are ∙ sym (first-use a.row.id ss)) ∙ ap (λ l. l ++ next_use a.row.id 0 0 ss) r.is.tries;
        done = r.is.done;
      };
      right = (hold a st.arriving waits, (covers, first));
    }

  module _ (x : IndexTry) (touched : ℕ → Bool) (tried : Member x.index st.tries) (good : GoodTry (first_bag deploy.rows st.work) ss st x) (shards : List (ℕ × Part)) (each : Each (IsPart st) shards) (tells : IsIdle ss shards x) where
    left : TakenOut st.tries x.index (but_index x.index st.tries)
    left = try-out x.index st.tries tried

    pub idle-event : IsEvent deploy ss st touched (idles x)
    idle-event = record {
      reached = r;
      next = record { store = r.racing.store; arriving = r.racing.arriving; tries = left.pre ++ left.post; done = r.racing.done };
      event = other_tries_are_idle deploy st.work ss r.racing f r.begins.quiet r.races left.pre x.index left.post (sym r.is.tries ∙ left.is)
          (λ before s after log place due qs m fits. none-fits deploy ss st r f g shards each x good tells before s after log place due qs m fits);
      is = record { store = r.is.store; built = r.is.built; arriving = r.is.arriving; tries = left.left; done = r.is.done };
      right = tt;
    }
