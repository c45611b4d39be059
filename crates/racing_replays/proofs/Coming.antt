-- What a replay that can't go on came to, told in the order of the log.
use Rattle.std.proofs.Common.{◌≡◌, true, false, List, ◌∷◌, length, map as each, refl, ap, ◌∙◌, subst}
use Rattle.std.specs.Prelude.{flat_map, Option, Some, None, IsSome, is_some, IsPermutation}
use Rattle.calculus.specs.Log.{Step}
use Rattle.calculus.specs.Rows.{Row}
use Rattle.calculus.specs.Steps.{Bag, Meeting, stored_rows, meeting}
use Rattle.calculus.specs.Runs.{Deploy, Work, Verdict, done, exhausted, faulted, verdict, cost, total, next_rows}
use Rattle.calculus.proofs.Permutations.{unmoved, moved_so}
use Rattle.events.proofs.Counts.{ids, AreDistinct}
use Rattle.replays.specs.Replays.{output_of}
use Rattle.racing_replays.specs.Replaying.{Replay, done_steps, in_order}
use Rattle.racing_replays.specs.Laws.{first_bag, state_with, state_of, logged_state, FreshWalk, FullReplay, Agree, ComesTo}
use Rattle.racing_replays.proofs.Keeping.{universe, Kept}
use Rattle.racing_replays.proofs.Tries.{Walked}
use Rattle.racing_replays.proofs.Confluent.{kept-all}
use Rattle.racing_replays.proofs.Agreeing.{fresh-rows, full-agrees, walk-tries, allowed-agree}

-- the rows that are left under a verdict
rows-for : (rows : List Row) (v : Verdict) (b d : Bag) → IsPermutation (stored_rows b) (stored_rows d) → IsPermutation (next_rows rows v b) (next_rows rows v d)
rows-for rows done b d h = h
rows-for rows exhausted b d h = unmoved rows
rows-for rows (faulted i f) b d h = unmoved rows

some-some : (x y : Option Meeting) → ((m : Meeting) → x ≡ Some m → IsSome y) → IsSome x → IsSome y
some-some None y g e = absurd (no e)
  where
    no : false ≡ true → ⊥
    no e = cc
some-some (Some m) y g e = g m refl

module _ (deploy : Deploy) (w : Work) (ss : List Step) (k r : Replay) (h : FreshWalk deploy w ss k) (f : FullReplay deploy w ss r) where
  d : AreDistinct (ids (universe (first_bag deploy.rows w) k.done))
  d = fresh-rows deploy.rows w k.done h.fresh

  wk : Walked deploy.prices deploy.limit h.walks.0 (first_bag deploy.rows w) ss k ss k
  wk = walk-tries deploy w ss k h

  kr : Kept (first_bag deploy.rows w) ss k.done r
  kr = kept-all deploy.prices deploy.limit h.walks.0 (first_bag deploy.rows w) ss k d wk r f.replays

  agree : Agree ss r k
  agree = full-agrees deploy w ss k r h f

  -- what is done is told in the order of the log as the walk does it
  ordered : in_order (length ss) r.done ≡ k.done
  ordered = agree.same_order ∙ wk.ordered

  same-verdict : verdict deploy.prices deploy.limit (logged_state w ss r) ≡ verdict deploy.prices deploy.limit (state_of w k)
  same-verdict = ap (λ ds. verdict deploy.prices deploy.limit (state_with w r.bag ds)) ordered

  there : (s : Step) (m : Meeting) → meeting r.bag (done_steps r.done) s ≡ Some m → IsSome (meeting k.bag (done_steps k.done) s)
  there s m e = ap is_some (allowed-agree (first_bag deploy.rows w) ss k.done d r k kr wk.kept agree.same_done s m e).allowed

  back : (s : Step) (m : Meeting) → meeting k.bag (done_steps k.done) s ≡ Some m → IsSome (meeting r.bag (done_steps r.done) s)
  back s m e = ap is_some (allowed-agree (first_bag deploy.rows w) ss k.done d k r wk.kept kr (moved_so agree.same_done) s m e).allowed

  -- it came to the state of the walk
  pub comes-to : ComesTo deploy w ss r (state_of w k)
  comes-to = record {
    steps = ap done_steps ordered;
    works = ap (λ ds. w ∷ each (λ x. x.work) ds) ordered;
    output = ap (λ ds. flat_map (λ x. x.printed) ds) ordered;
    same_rows = agree.same_rows;
    same_total = ap (λ ds. total deploy.prices deploy.limit (state_with w r.bag ds)) ordered;
    outcome = record {
      verdict = same-verdict;
      cost = ap (λ ds. cost deploy.prices deploy.limit (state_with w r.bag ds)) ordered;
      rows = subst (λ v. IsPermutation (next_rows deploy.rows (verdict deploy.prices deploy.limit (logged_state w ss r)) r.bag) (next_rows deploy.rows v k.bag)) same-verdict
          (rows-for deploy.rows (verdict deploy.prices deploy.limit (logged_state w ss r)) r.bag k.bag agree.same_rows);
      output = ap (λ ds. output_of (verdict deploy.prices deploy.limit (state_with w r.bag ds)) (flat_map (λ x. x.printed) ds)) ordered;
    };
    allowed = λ s. (some-some (meeting r.bag (done_steps r.done) s) (meeting k.bag (done_steps k.done) s) (there s), some-some (meeting k.bag (done_steps k.done) s) (meeting r.bag (done_steps r.done) s) (back s));
  }
