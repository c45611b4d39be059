-- The premise of fresh digests, told otherwise.
use Rattle.std.proofs.Common.{◌≡◌, ℕ, List, [], ◌∷◌, ◌++◌, map as each, refl, sym, ◌∙◌, subst, arith, inl, inr, append_assoc}
use Rattle.std.specs.Prelude.{◌⊎◌, Option, Some, None, option_and_then}
use Rattle.calculus.specs.Outcome.{Prices}
use Rattle.calculus.specs.Log.{Step}
use Rattle.calculus.specs.Rows.{Row}
use Rattle.calculus.specs.Unfolding.{digest}
use Rattle.calculus.specs.Steps.{Bag}
use Rattle.calculus.specs.Runs.{Work, work_products}
use Rattle.calculus.proofs.Members.{Member}
use Rattle.events.specs.Events.{first_ids, digests}
use Rattle.events.proofs.Counts.{ids, times, AreDistinct, differ-distinct, distinct-differ, times-append}
use Rattle.events.proofs.EventFollowing.{append_nothing}
use Rattle.racing_replays.specs.Replaying.{DoneStep, Replay, first_replay, done_steps, Replays, none_yet, one_more, after_try, walk_from}
use Rattle.racing_replays.specs.Laws.{first_bag, state_of, IsFresh, FreshReplaysHaveWalks, ReplaysOfFreshWalksAreFresh, FreshStepsSuffice}
use Rattle.racing_replays.proofs.Lists.{AreSingle, tally, tally-in}
use Rattle.racing_replays.proofs.Keeping.{universe, Kept}
use Rattle.racing_replays.proofs.Walking.{kept-untried, DoesNow, LeavesOut, tried-how}
use Rattle.racing_replays.proofs.Agreeing.{fresh-rows, walk-tries}
use Rattle.racing_replays.proofs.Confluent.{kept-all}
use Rattle.racing_replays.proofs.Legal.{replays_are_legal}
use Rattle.racing_replays.proofs.Existing.{WalksOn, made-all, walks-on}

digests-tally : (x : List ℕ) (ds : List DoneStep) → times x (digests (each (λ d. d.work) ds)) ≡ tally (λ d. times x (each digest (work_products d.work))) ds
digests-tally x [] = refl
digests-tally x (d ∷ ds) = omega (arith, times-append x (each digest (work_products d.work)) (digests (each (λ e. e.work) ds)), digests-tally x ds)

-- fewer steps make no more
pub fresh-fewer : (rows : List Row) (w : Work) (r k : Replay) → AreSingle k.done → ((d : DoneStep) → Member d k.done → Member d r.done) → IsFresh rows w r.done → IsFresh rows w k.done
fresh-fewer rows w r k h f e = distinct-differ (first_ids rows ++ digests (w ∷ each (λ d. d.work) k.done)) (λ x. omega (
  arith,
  differ-distinct (first_ids rows ++ digests (w ∷ each (λ d. d.work) r.done)) e x,
  times-append x (first_ids rows) (digests (w ∷ each (λ d. d.work) r.done)),
  times-append x (first_ids rows) (digests (w ∷ each (λ d. d.work) k.done)),
  times-append x (each digest (work_products w)) (digests (each (λ d. d.work) r.done)),
  times-append x (each digest (work_products w)) (digests (each (λ d. d.work) k.done)),
  digests-tally x r.done,
  digests-tally x k.done,
  tally-in (λ d. times x (each digest (work_products d.work))) k.done r.done h (λ z p m. f z m),
))

pub fresh_replays_have_walks : FreshReplaysHaveWalks
fresh_replays_have_walks deploy w ss r h e = (on.end, record { walks = ((made-all deploy.prices deploy.limit (first_bag deploy.rows w) ss r d h.replays h.maximal).room, on.walks); fresh = fresh-fewer deploy.rows w r on.end on.kept.single on.kept.sub e })
  where
    d : AreDistinct (ids (universe (first_bag deploy.rows w) r.done))
    d = fresh-rows deploy.rows w r.done e

    on : WalksOn deploy.prices deploy.limit (first_bag deploy.rows w) ss r d h.replays h.maximal [] ss (first_replay (first_bag deploy.rows w))
    on = walks-on deploy.prices deploy.limit (first_bag deploy.rows w) ss r d h.replays h.maximal [] ss (first_replay (first_bag deploy.rows w)) refl (kept-untried (first_bag deploy.rows w) ss r.done) (λ f m. absurd m)

pub replays_of_fresh_walks_are_fresh : ReplaysOfFreshWalksAreFresh
replays_of_fresh_walks_are_fresh deploy w ss k r f h = fresh-fewer deploy.rows w k r kr.single kr.sub f.fresh
  where
    kr : Kept (first_bag deploy.rows w) ss k.done r
    kr = kept-all deploy.prices deploy.limit f.walks.0 (first_bag deploy.rows w) ss k (fresh-rows deploy.rows w k.done f.fresh) (walk-tries deploy w ss k f) r h

-- a walk is a replay, whatever its digests
pub walk-replays : (p : Prices) (cap room : ℕ) (b : Bag) (ss : List Step) (k : Replay) (before after : List Step) (r : Replay) → ss ≡ before ++ after → Replays p cap b ss r → walk_from p cap room b before after r ≡ Some k → Replays p cap b ss k
walk-replays p cap room b ss k before [] r log h e = subst (Replays p cap b ss) (inside e) h
  where
    inside : Some r ≡ Some k → r ≡ k
    inside e = cc
walk-replays p cap room b ss k before (s ∷ after) r log h e = go (λ q. walk-replays p cap room b ss k (before ++ s ∷ []) after q (log ∙ sym (append_assoc before (s ∷ []) after))) (after_try p cap room b before s r) refl e
  where
    next : (q : Replay) → DoesNow p cap room b before s r q ⊎ LeavesOut b before s r q → Replays p cap b ss q
    next q (inl d) = one_more h (record { before = before; step = s; after = after; log = log; due = d.due; found = d.found; allowed = d.allowed; room = room; work = d.work; works = d.works; is = d.is })
    next q (inr n) = subst (Replays p cap b ss) (sym n.is) h

    go : ((q : Replay) → Replays p cap b ss q → walk_from p cap room b (before ++ s ∷ []) after q ≡ Some k → Replays p cap b ss k)
        → (o : Option Replay) → after_try p cap room b before s r ≡ o → option_and_then (λ q. walk_from p cap room b (before ++ s ∷ []) after q) o ≡ Some k → Replays p cap b ss k
    go again None t f = cc
    go again (Some q) t f = again q (next q (tried-how p cap room b before s r q t)) f

pub fresh_steps_suffice : FreshStepsSuffice
fresh_steps_suffice deploy w ss k u h f = record {
  walks = h;
  fresh = f (done_steps k.done) [] (sym (append_nothing (done_steps k.done))) (state_of w k)
      (replays_are_legal deploy w ss k u (walk-replays deploy.prices deploy.limit h.0 (first_bag deploy.rows w) ss k [] ss (first_replay (first_bag deploy.rows w)) refl none_yet h.1));
}
