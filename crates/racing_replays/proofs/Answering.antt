-- The answer to a log, as a replay tells it, and digests that clash.
use Rattle.std.proofs.Common.{◌≡◌, ◌<◌, ℕ, true, false, [], length, refl, sym, ◌∙◌, subst, inl, inr}
use Rattle.std.specs.Prelude.{◌⊎◌, Option, Some, None, IsSome}
use Rattle.calculus.specs.Log.{Step}
use Rattle.calculus.specs.Steps.{Meeting, meeting}
use Rattle.calculus.specs.Candidates.{IsLeastAllowed}
use Rattle.calculus.specs.Runs.{verdict, done, Leads, IsEnd}
use Rattle.calculus.proofs.Permutations.{join, moved_so}
use Rattle.events.specs.Events.{AreFresh}
use Rattle.events.proofs.EventFollowing.{append_nothing}
use Rattle.events.proofs.Concluding.{legal_lists_are_fresh_or_show_an_id}
use Rattle.replays.specs.Replays.{StopsAt, Outcome, refused, reducible, outcome_of, replayed, deploy_under, Answers, by_step, by_rest, by_end}
use Rattle.racing_replays.specs.Replaying.{Replay, done_steps}
use Rattle.racing_replays.specs.Laws.{state_of, logged_state, FreshWalk, Agree, AreAllDone, IsFirstLeft, LeadsTo, AreAlikeOutcomes}
use Rattle.racing_replays.specs.Answering.{TellsAnswer, ReplaysTellAnswers, Clashes, ReplaysAreFreshOrClash, ReplaysAgreeOrClash, ReplaysTellAnswersOrClash}
use Rattle.racing_replays.proofs.Legal.{replays_are_legal}
use Rattle.racing_replays.proofs.Agreeing.{full-agrees}
use Rattle.racing_replays.proofs.Premises.{fresh_replays_have_walks}
use Rattle.racing_replays.proofs.Converse.{replays_decide}

-- where none is there, none is there of what is there exactly where it is
none-from : (x y : Option Meeting) → (IsSome y → IsSome x) → x ≡ None → y ≡ None
none-from x None f e = refl
none-from x (Some m) f e = absurd (no (subst IsSome e (f refl)))
  where
    no : false ≡ true → ⊥
    no e = cc

pub replays_tell_answers : ReplaysTellAnswers
replays_tell_answers g h w ss k r right u f full = record { stops = λ i l first. by_step right (decides.1 i l first); goes_on = goes_on; ends = ends }
  where
    decides : (AreAllDone ss r → LeadsTo (deploy_under h.limit g) w ss r) × ((i : ℕ) → i < length ss → IsFirstLeft i r → StopsAt (deploy_under h.limit g) ss i)
    decides = replays_decide (deploy_under h.limit g) w ss k r u f full

    goes_on : AreAllDone ss r → verdict g.prices h.limit (logged_state w ss r) ≡ done → (s : Step) → IsLeastAllowed r.bag (done_steps r.done) s → Answers g h ss (refused (reducible s.receiver s.data_ids))
    goes_on all v s least = go (decides.0 all)
      where
        go : LeadsTo (deploy_under h.limit g) w ss r → Answers g h ss (refused (reducible s.receiver s.data_ids))
        go l = by_rest right l.leads (sym l.comes.outcome.verdict ∙ v) (record { allowed = (l.comes.allowed s).0 least.allowed; least = λ x e. least.least x ((l.comes.allowed x).1 e) })

    ends : AreAllDone ss r → (verdict g.prices h.limit (logged_state w ss r) ≡ done → (s : Step) → meeting r.bag (done_steps r.done) s ≡ None)
        → (o : Outcome) × (Answers g h ss (replayed o) × AreAlikeOutcomes (outcome_of (deploy_under h.limit g) (logged_state w ss r)) o)
    ends all quiet = go (decides.0 all)
      where
        go : LeadsTo (deploy_under h.limit g) w ss r → (o : Outcome) × (Answers g h ss (replayed o) × AreAlikeOutcomes (outcome_of (deploy_under h.limit g) (logged_state w ss r)) o)
        go l = (outcome_of (deploy_under h.limit g) l.state, (by_end right l.leads at_rest, l.comes.outcome))
          where
            at_rest : IsEnd g.prices h.limit l.state
            at_rest v s = none-from (meeting r.bag (done_steps r.done) s) (meeting l.state.bag l.state.made s) (l.comes.allowed s).1 (quiet (l.comes.outcome.verdict ∙ v) s)

pub replays_are_fresh_or_clash : ReplaysAreFreshOrClash
replays_are_fresh_or_clash deploy w ss r u f fits differs = go (legal_lists_are_fresh_or_show_an_id deploy (done_steps r.done) fits differs (state_of w r, leads))
  where
    leads : Leads deploy (done_steps r.done) (state_of w r)
    leads = replays_are_legal deploy w ss r u f.replays

    go : AreFresh deploy (done_steps r.done) ⊎ Clashes deploy w r → ((k : Replay) × FreshWalk deploy w ss k) ⊎ Clashes deploy w r
    go (inl h) = inl (fresh_replays_have_walks deploy w ss r f (h (done_steps r.done) [] (sym (append_nothing (done_steps r.done))) (state_of w r) leads))
    go (inr c) = inr c

pub replays_agree_or_clash : ReplaysAgreeOrClash
replays_agree_or_clash deploy w ss r q u f e fits differs = go (replays_are_fresh_or_clash deploy w ss r u f fits differs)
  where
    both : (k : Replay) → Agree ss q k → Agree ss r k → Agree ss q r
    both k a c = record { same_done = join a.same_done (moved_so c.same_done); same_order = a.same_order ∙ sym c.same_order; same_rows = join a.same_rows (moved_so c.same_rows) }

    go : ((k : Replay) × FreshWalk deploy w ss k) ⊎ Clashes deploy w r → Agree ss q r ⊎ Clashes deploy w r
    go (inl h) = inl (both h.0 (full-agrees deploy w ss h.0 q h.1 e) (full-agrees deploy w ss h.0 r h.1 f))
    go (inr c) = inr c

pub replays_tell_answers_or_clash : ReplaysTellAnswersOrClash
replays_tell_answers_or_clash g h w ss r right u f fits differs = go (replays_are_fresh_or_clash (deploy_under h.limit g) w ss r u f fits differs)
  where
    go : ((k : Replay) × FreshWalk (deploy_under h.limit g) w ss k) ⊎ Clashes (deploy_under h.limit g) w r → TellsAnswer g h w ss r ⊎ Clashes (deploy_under h.limit g) w r
    go (inl k) = inl (replays_tell_answers g h w ss k.0 r right u k.1 f)
    go (inr c) = inr c
