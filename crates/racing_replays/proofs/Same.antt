-- A step meets the same rows in a replay and in a legal list.
use Rattle.std.proofs.Common.{◌≡◌, ℕ, List, [], ◌∷◌, ◌++◌, length, refl, ap, subst}
use Rattle.std.specs.Prelude.{Option, Some, None, option_and_then}
use Rattle.calculus.specs.Log.{Step}
use Rattle.calculus.specs.Steps.{standing, meeting}
use Rattle.calculus.specs.Runs.{Deploy, Work, State, begun, steps_from}
use Rattle.events.proofs.Counts.{ids, AreDistinct}
use Rattle.events.proofs.Meetings.{meeting_at}
use Rattle.racing_replays.specs.Replaying.{Replay, after_try, walk_from}
use Rattle.racing_replays.specs.Laws.{first_bag, state_of, SameMeetings}
use Rattle.racing_replays.proofs.Due.{due-parts}
use Rattle.racing_replays.proofs.Keeping.{universe, Kept}
use Rattle.racing_replays.proofs.Transfer.{SameRows}
use Rattle.racing_replays.proofs.Walking.{later, tried-how}
use Rattle.racing_replays.proofs.Tries.{TriedAt, Walked, all-below}
use Rattle.racing_replays.proofs.Confluent.{kept-all, meets-there}
use Rattle.racing_replays.proofs.Agreeing.{fresh-rows, walk-tries}
use Rattle.racing_replays.proofs.Legal.{goes-on, Reaches, reach-all, reach-none}

-- the walk's try at the next step of a legal list
record TriedThere (deploy : Deploy) (room : ℕ) (w : Work) (ss : List Step) (k : Replay) (before : List Step) (s : Step) (a : State) : Type 0 where
  try : TriedAt deploy.prices deploy.limit room (first_bag deploy.rows w) ss k before s
  state : state_of w try.at ≡ a

module _ (deploy : Deploy) (room : ℕ) (w : Work) (ss : List Step) (k : Replay) (fresh : AreDistinct (ids (universe (first_bag deploy.rows w) k.done))) where
  tried-there : (before : List Step) (s : Step) (after : List Step) (a : State) → ss ≡ before ++ s ∷ after → Reaches deploy room w ss k fresh before (s ∷ after) a → TriedThere deploy room w ss k before s a
  tried-there before s after a log h = walks (after_try deploy.prices deploy.limit room (first_bag deploy.rows w) before s h.at) refl h.goes_on
    where
      walks : (o : Option Replay) → after_try deploy.prices deploy.limit room (first_bag deploy.rows w) before s h.at ≡ o → option_and_then (λ q. walk_from deploy.prices deploy.limit room (first_bag deploy.rows w) (before ++ s ∷ []) after q) o ≡ Some k → TriedThere deploy room w ss k before s a
      walks None t o = cc
      walks (Some q) t o = record {
        try = record {
          at = h.at;
          next = q;
          kept = h.walked.kept;
          below = h.walked.below;
          all = all-below deploy.prices deploy.limit room (first_bag deploy.rows w) ss k (length before) h.at (later deploy.prices deploy.limit room (first_bag deploy.rows w) k before (s ∷ after) h.at h.goes_on);
          after_it = later deploy.prices deploy.limit room (first_bag deploy.rows w) k (before ++ s ∷ []) after q o;
          how = tried-how deploy.prices deploy.limit room (first_bag deploy.rows w) before s h.at q t;
        };
        state = h.state;
      }

pub same_meetings : SameMeetings
same_meetings deploy w ss k r u f rs before s after log due m e a l = (meeting_at (standing a.bag) same.taken same.joined, (there, record { receiver = ap (λ x. x.receiver) same.is; sends = ap (λ x. x.sends) same.is; bindings = ap (λ x. x.bindings) same.is }))
  where
    d : AreDistinct (ids (universe (first_bag deploy.rows w) k.done))
    d = fresh-rows deploy.rows w k.done f.fresh

    wk : Walked deploy.prices deploy.limit f.walks.0 (first_bag deploy.rows w) ss k ss k
    wk = walk-tries deploy w ss k f

    kr : Kept (first_bag deploy.rows w) ss k.done r
    kr = kept-all deploy.prices deploy.limit f.walks.0 (first_bag deploy.rows w) ss k d wk r rs

    g : (room : ℕ) × (steps_from deploy.prices deploy.limit room (begun deploy.rows w) before ≡ Some a)
    g = goes-on deploy w before a u l

    reached : Reaches deploy f.walks.0 w ss k d before (s ∷ after) a
    reached = reach-all deploy f.walks.0 w ss k d g.0 [] before (s ∷ after) log (begun deploy.rows w) a (subst (λ x. Reaches deploy f.walks.0 w ss k d [] x (begun deploy.rows w)) log (reach-none deploy f.walks.0 w ss k d f.walks.1)) g.1

    at : TriedThere deploy f.walks.0 w ss k before s a
    at = tried-there deploy f.walks.0 w ss k d before s after a log reached

    same : SameRows r at.try.at s m
    same = meets-there deploy.prices deploy.limit f.walks.0 (first_bag deploy.rows w) ss k d wk r kr before s after log at.try (due-parts (first_bag deploy.rows w) r.done before s due) m e

    there : meeting a.bag a.made s ≡ Some (meeting_at (standing a.bag) same.taken same.joined)
    there = subst (λ x. meeting x.bag x.made s ≡ Some (meeting_at (standing x.bag) same.taken same.joined)) at.state same.allowed
