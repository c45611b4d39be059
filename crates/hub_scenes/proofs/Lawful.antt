-- The scene of a replay is lawful.
use Rattle.std.proofs.Common.{◌≡◌, ℕ, Bool, true, List, [], ◌∷◌, ◌++◌, filter, IsPermutation, refl, sym, ap, subst, ◌∙◌, arith, inl}
use Rattle.calculus.specs.Log.{Step}
use Rattle.calculus.specs.Steps.{is_one_of}
use Rattle.calculus.specs.Runs.{Deploy}
use Rattle.calculus.proofs.Members.{Member, member-flat}
use Rattle.calculus.proofs.Permutations.{join, moved_before}
use Rattle.events.proofs.Counts.{ids, times, AreDistinct}
use Rattle.events.proofs.Orders.{member-moved}
use Rattle.events.proofs.EventStanding.{built_ins, ids-times}
use Rattle.hub_rule.specs.Counts.{Each, things_of}
use Rattle.hub_rule.specs.Meaning.{store_after, Pending, Allowed}
use Rattle.hub_rule.proofs.Sums.{each_to}
use Rattle.events.specs.Entries.{Making}
use Rattle.racing_replays.specs.Laws.{IsFresh}
use Rattle.racing_replays.specs.Counted.{names_id}
use Rattle.hub_scenes.specs.Spaces.{SeenRow, NewRow, IndexTry, Job, arrive, try_index, Part, Space, arrived, bare, seen_in, lies_in, IsPart}
use Rattle.hub_scenes.specs.Entries.{Deed, arrives, does, idles, Entry, PartBecomes, space_after, job_of}
use Rattle.hub_scenes.specs.Showing.{shown, Makes, TellsDeed, TellsEntry}
use Rattle.hub_scenes.specs.ReplayScene.{IsEvent, IsFreshSpace, Opens, IsProjected, replay}
use Rattle.hub_scenes.specs.ReplayLaws.{ReplayIsLawful}
use Rattle.hub_scenes.proofs.Basics.{has, hold}
use Rattle.hub_scenes.proofs.Logs.{now}
use Rattle.hub_scenes.proofs.Fresh.{fresh-reached}
use Rattle.hub_scenes.proofs.Here.{once}
use Rattle.hub_scenes.proofs.Hands.{shown-there}
use Rattle.hub_scenes.proofs.Doing.{named-lies, gone-named, done-event}
use Rattle.hub_scenes.proofs.Told.{comes-there, arrival-event, idle-event}
use Rattle.hub_scenes.proofs.Steps.{arrivals_of, tries_of, work-stays}
use Rattle.hub_scenes.proofs.Shards.{filter-both, untouched, left-there, counted-there}
use Rattle.hub_scenes.proofs.Along.{Holding, holding, its-job, fresh-before}

module _ (deploy : Deploy) (ss : List Step) where
  -- rows in hand that make a step make it in the space
  makes-there : (st : Space) (shards : List (ℕ × Part)) → Each (IsPart st) shards → (i : ℕ) (touched : ℕ → Bool) (m : Making) (next : List IndexTry) → Makes ss deploy (shown shards) i touched m next → Makes ss deploy (st.store ++ st.built) i touched m next
  makes-there st shards e i touched m next k = record {
    before = k.before;
    after = k.after;
    log = k.log;
    place = k.place;
    rows = k.rows;
    at_hand = λ q n. hold q (st.store ++ st.built) (shown-there st shards e q (has q (shown shards) (k.at_hand q n)));
    found = k.found;
    fits = k.fits;
    gone = k.gone;
    covers = k.covers;
    room = k.room;
    work = k.work;
    works = k.works;
    offers = k.offers;
    price = k.price;
    fault = k.fault;
    line = k.line;
    early = k.early;
    are = k.are;
    uses_of = k.uses_of;
  }

  pub works-same : (es : List Entry) (st : Space) → (store_after (replay deploy ss) st es).work ≡ st.work
  works-same [] st = refl
  works-same (e ∷ es) st = works-same es (space_after st e.shards e.deed) ∙ work-stays st e.shards e.deed

  module _ (st : Space) (works : List Job) (h : Opens deploy ss st works) (log : List (ℕ × Entry)) (a : Allowed (replay deploy ss) st works log) (shards : List (ℕ × Part)) (i : ℕ) where
    -- law 4
    pub told : (e : Entry) → Pending (replay deploy ss) works log i (job_of e.deed) → Each (IsProjected deploy ss (now (replay deploy ss) st works log)) shards → TellsEntry ss deploy shards [] e
        → IsFreshSpace deploy ss (now (replay deploy ss) st works log) → IsEvent deploy ss (now (replay deploy ss) st works log) e.shards e.deed
    unfolding makes-there
    told e pend each tells fr = go e.deed pend tells
      where
        here : Holding deploy ss st works h (now (replay deploy ss) st works log) log
        here = holding deploy ss st works h log a fr

        f : IsFresh deploy.rows (now (replay deploy ss) st works log).work here.reached.racing.done
        f = fresh-reached deploy ss (now (replay deploy ss) st works log) here.reached fr

        parts : Each (IsPart (now (replay deploy ss) st works log)) shards
        parts = each_to (IsProjected deploy ss (now (replay deploy ss) st works log)) (IsPart (now (replay deploy ss) st works log)) (λ j x is. is fr) shards each

        waits : (x : NewRow) → Pending (replay deploy ss) works log i (arrive x) → Member x (now (replay deploy ss) st works log).arriving
        waits x pend = member-moved x here.arrivals (member-flat arrivals_of (arrive x) x (things_of here.pending) (its-job deploy ss st works h (now (replay deploy ss) st works log) log here i (arrive x) pend) (inl refl))

        tried : (x : IndexTry) → Pending (replay deploy ss) works log i (try_index x) → Member x.index (now (replay deploy ss) st works log).tries
        tried x pend = member-moved x.index here.trying (member-flat tries_of (try_index x) x.index (things_of here.pending) (its-job deploy ss st works h (now (replay deploy ss) st works log) log here i (try_index x) pend) (inl refl))

        go : (d : Deed) → Pending (replay deploy ss) works log i (job_of d) → TellsDeed ss deploy shards e.shards d → IsEvent deploy ss (now (replay deploy ss) st works log) e.shards d
        go (arrives x next) pend c = arrival-event deploy ss (now (replay deploy ss) st works log) here.reached f here.good x next e.shards (waits x pend) c.0 c.1
        go (does x m next) pend c = done-event deploy ss (now (replay deploy ss) st works log) here.reached f x e.shards m next (makes-there (now (replay deploy ss) st works log) shards parts x.index e.shards m next c.0) here.good (tried x pend) shards parts c.1
        go (idles x) pend c = idle-event deploy ss (now (replay deploy ss) st works log) here.reached f here.good x e.shards (tried x pend) (here.tries i x pend.0) shards parts c

  -- law 3
  projected : (st : Space) (touched : ℕ → Bool) (d : Deed) (k : ℕ) (x y : Part) → IsFreshSpace deploy ss st → IsEvent deploy ss st touched d → IsPart st k x → PartBecomes d k x y → IsPart (space_after st touched d) k y
  projected st touched (arrives a next) k x y fr i is to = record {
    number = to.number ∙ is.number;
    rows = subst (λ l. IsPermutation l y.rows) (sym (ap (λ l. filter (seen_in k) (st.store ++ l)) (comes-there touched a i.right.1.0) ∙ filter-both (seen_in k) st.store (arrived a ∷ []))) (join (moved_before (filter (seen_in k) (arrived a ∷ [])) is.rows) to.rows);
    built = to.built ∙ is.built;
  }
  projected st touched (does v m next) k x y fr i is to = record {
    number = to.number ∙ is.number;
    rows = left-there st touched k m.step m.gone lies named x y distinct is to.number to.rows;
    built = to.built ∙ counted-there st touched k m.step m.gone lies named x is;
  }
    where
      lies : (q : SeenRow) → Member q (st.store ++ st.built) → names_id q.row.id m.step ≡ true → lies_in touched q.row ≡ true
      lies = named-lies deploy ss st i.reached (fresh-reached deploy ss st i.reached fr) v touched m next i.right

      named : (z : List ℕ) → is_one_of z m.gone ≡ true → names_id z m.step ≡ true
      named = gone-named deploy ss st i.reached (fresh-reached deploy ss st i.reached fr) v touched m next i.right

      distinct : AreDistinct (ids (bare st.store))
      distinct z = omega (arith, once deploy ss st i.reached (fresh-reached deploy ss st i.reached fr) z, ap (λ l. times z (ids l)) i.reached.is.store, ids-times z i.reached.racing.store built_ins)
  projected st touched (idles v) k x y fr i is to = record { number = to.number ∙ is.number; rows = join is.rows to.rows; built = to.built ∙ is.built }

-- all laws
pub lawful : ReplayIsLawful
lawful deploy ss = record {
  untouched = λ st e k x n is fr. untouched st e.shards k n e.deed x (is (fresh-before deploy ss st e.shards e.deed fr));
  projection = λ st e k x y may hit is to fr. (let g = fresh-before deploy ss st e.shards e.deed fr in projected deploy ss st e.shards e.deed k x y g (may g) (is g) to);
  told = λ st works log shards i e h al pend each tells. told deploy ss st works h log al shards i e pend each tells;
  cheap = λ e. omega arith;
}
