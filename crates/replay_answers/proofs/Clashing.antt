-- Where the digests of a log clash, those of some replay of it do.
use Rattle.std.proofs.Common.{◌≡◌, ◌<◌, ℕ, suc, Bool, true, false, List, [], ◌∷◌, ◌++◌, length, refl, sym, ap, subst, ◌∙◌, arith, inl, inr, append_assoc, append-nil, length-append}
use Rattle.std.specs.Prelude.{◌⊎◌, Option, Some, ltb, option_map}
use Rattle.std.proofs.lemmas.Bool.{ltb-true, ltb-false}
use Rattle.calculus.proofs.Members.{Member, member-split, member-right}
use Rattle.calculus.proofs.Candidates.{and_then-inv, map-inv}
use Rattle.calculus.specs.Log.{Step}
use Rattle.calculus.specs.Outcome.{capped}
use Rattle.calculus.specs.Runs.{source_seed, Deploy, State, Work, begun, body_work, moved, step_from, steps_from, Leads}
use Rattle.calculus.specs.Steps.{Meeting, differ, meeting, printed_line}
use Rattle.calculus.specs.Unfolding.{unfold_in, Unfolds}
use Rattle.events.specs.Events.{AreFresh}
use Rattle.events.proofs.Counts.{ids, AreDistinct}
use Rattle.events.specs.Premises.{FitsInTexts}
use Rattle.events.proofs.Concluding.{legal_lists_are_fresh_or_show_an_id}
use Rattle.racing_replays.specs.Answering as racing
use Rattle.racing_replays.specs.Answering.{SomeClash}
use Rattle.racing_replays.specs.Laws.{first_bag, state_of, IsFresh}
use Rattle.racing_replays.specs.Replaying.{is_done, done_steps, first_replay, after_step, none_yet, one_more, DoneStep, Replay, Replays}
use Rattle.racing_replays.proofs.Agreeing.{fresh-rows}
use Rattle.racing_replays.proofs.Doing.{entry, done-still}
use Rattle.racing_replays.proofs.Due.{due-whole}
use Rattle.racing_replays.proofs.Keeping.{universe, Kept}
use Rattle.racing_replays.proofs.Ledger.{entry-done}
use Rattle.racing_replays.proofs.Legal.{each-more, state-more, replays_are_legal, Filled, due-next}
use Rattle.racing_replays.proofs.Within.{kept-within}
use Rattle.replay_answers.specs.Answers.{Clashes}
use Rattle.replay_answers.specs.Bases.{ids_of}

-- a clash of some replay of a log is one of the log
pub some-clash : (deploy : Deploy) (w : Work) (ss : List Step) → Unfolds deploy.prices deploy.limit deploy.process (source_seed deploy) w → SomeClash deploy w ss → Clashes deploy ss
some-clash deploy w ss u c = record { source = w; unfolds = u; clash = c }

-- where each step below an index is done and the step with that index too, each below the next is
filled-more : (n : ℕ) (ds : List DoneStep) (e : DoneStep) → e.index ≡ n → ((j : ℕ) → j < n → is_done j ds ≡ true) → (j : ℕ) → j < suc n → is_done j (ds ++ e ∷ []) ≡ true
filled-more n ds e i f j l = go (ltb j n) refl
  where
    go : (c : Bool) → ltb j n ≡ c → is_done j (ds ++ e ∷ []) ≡ true
    go true k = done-still j ds e (f j (ltb-true j n k))
    go false k = subst (λ x. is_done x (ds ++ e ∷ []) ≡ true) last (entry-done e (ds ++ e ∷ []) (member-right e ds (e ∷ []) (inl refl)))
      where
        last : e.index ≡ j
        last = omega (arith, i, l, ltb-false j n k)

below-more : (n : ℕ) (ds : List DoneStep) (e : DoneStep) → e.index ≡ n → ((d : DoneStep) → Member d ds → d.index < n) → (d : DoneStep) → Member d (ds ++ e ∷ []) → d.index < suc n
below-more n ds e i f d m = go (member-split d ds (e ∷ []) m)
  where
    go : Member d ds ⊎ Member d (e ∷ []) → d.index < suc n
    go (inl k) = omega (arith, f d k)
    go (inr (inl k)) = omega (arith, i, ap (λ (x : DoneStep). x.index) k)
    go (inr (inr k)) = absurd k

one-longer : (xs : List Step) (x : Step) → length (xs ++ x ∷ []) ≡ suc (length xs)
one-longer xs x = length-append xs (x ∷ []) ∙ omega arith

module _ (deploy : Deploy) (w : Work) (u : Unfolds deploy.prices deploy.limit deploy.process (source_seed deploy) w) (ss : List Step) (fits : FitsInTexts deploy ss) (differs : differ (ids_of deploy.rows) ≡ true) where
  -- a replay did the log's first steps, in its order, and came to this state
  record DidFirst (before : List Step) (a : State) : Type 0 where
    replay : Replay
    replays : Replays deploy.prices deploy.limit (first_bag deploy.rows w) ss replay
    state : state_of w replay ≡ a
    steps : done_steps replay.done ≡ before
    filled : Filled (length before) replay
    below : (d : DoneStep) → Member d replay.done → d.index < length before

  -- its digests are fresh, or clash
  tested : (before after : List Step) → ss ≡ before ++ after → (a : State) (d : DidFirst before a) → AreFresh deploy (done_steps d.replay.done) ⊎ SomeClash deploy w ss
  tested before after log a d = go (legal_lists_are_fresh_or_show_an_id deploy (done_steps d.replay.done) few differs (state_of w d.replay, replays_are_legal deploy w ss d.replay u d.replays))
    where
      few : FitsInTexts deploy (done_steps d.replay.done)
      few = record { numberable = fits.numberable; steps_fit = omega (arith, fits.steps_fit, ap length log, length-append before after, ap length d.steps); ids_fit = fits.ids_fit; source_fits = fits.source_fits }

      go : AreFresh deploy (done_steps d.replay.done) ⊎ racing.Clashes deploy w d.replay → AreFresh deploy (done_steps d.replay.done) ⊎ SomeClash deploy w ss
      go (inl f) = inl f
      go (inr x) = inr (d.replay, (d.replays, x))

  -- where they are fresh, the next step that is allowed is done
  module _ (before : List Step) (s : Step) (after : List Step) (log : ss ≡ before ++ s ∷ after) (a : State) (d : DidFirst before a) (f : AreFresh deploy (done_steps d.replay.done)) where
    fresh : IsFresh deploy.rows w d.replay.done
    fresh = f (done_steps d.replay.done) [] (sym (append-nil (done_steps d.replay.done))) (state_of w d.replay) (replays_are_legal deploy w ss d.replay u d.replays)

    distinct : AreDistinct (ids (universe (first_bag deploy.rows w) d.replay.done))
    distinct = fresh-rows deploy.rows w d.replay.done fresh

    kept : Kept (first_bag deploy.rows w) ss d.replay.done d.replay
    kept = kept-within deploy.prices deploy.limit (first_bag deploy.rows w) ss d.replay.done distinct d.replay d.replays (λ e m. m)

    done : (c : State) (room : ℕ) (m : Meeting) (v : Work) → meeting d.replay.bag (done_steps d.replay.done) s ≡ Some m → body_work deploy.prices deploy.limit room s m ≡ Some v → moved (state_of w d.replay) s m v ≡ c → DidFirst (before ++ s ∷ []) c
    done c room m v g h i = record {
      replay = after_step d.replay (length before) s m v;
      replays = one_more d.replays (record {
        before = before;
        step = s;
        after = after;
        log = log;
        due = due-whole (first_bag deploy.rows w) d.replay.done before s (due-next (first_bag deploy.rows w) ss d.replay.done distinct d.replay kept before s d.below d.filled m g);
        found = m;
        allowed = g;
        room = room;
        work = v;
        works = h;
        is = refl;
      });
      state = sym (state-more w d.replay (length before) s m v) ∙ i;
      steps = each-more (λ x. x.step) d.replay.done next ∙ ap (λ l. l ++ s ∷ []) d.steps;
      filled = λ j l. filled-more (length before) d.replay.done next refl d.filled j (omega (arith, l, one-longer before s));
      below = λ e m. omega (arith, below-more (length before) d.replay.done next refl d.below e m, one-longer before s);
    }
      where
        next : DoneStep
        next = entry (length before) s v (printed_line d.replay.bag m)

    did-more : (room : ℕ) (c : State) → step_from deploy.prices deploy.limit room a s ≡ Some c → DidFirst (before ++ s ∷ []) c
    did-more room c e =
        let b : State = state_of w d.replay in
        let i = and_then-inv (meeting b.bag b.made s) (λ m. option_map (moved b s m) (body_work deploy.prices deploy.limit room s m)) c (subst (λ x. step_from deploy.prices deploy.limit room x s ≡ Some c) (sym d.state) e) in
        let j = map-inv (body_work deploy.prices deploy.limit room s i.0) (moved b s i.0) c i.2 in
        done c room i.0 j.0 i.1 j.1 j.2

  -- so a log that is legal is fresh, or some replay of it clashes
  along : (room : ℕ) (before after : List Step) → ss ≡ before ++ after → (a c : State) → DidFirst before a → steps_from deploy.prices deploy.limit room a after ≡ Some c → AreFresh deploy ss ⊎ SomeClash deploy w ss
  along room before [] log a c d e = go (tested before [] log a d)
    where
      go : AreFresh deploy (done_steps d.replay.done) ⊎ SomeClash deploy w ss → AreFresh deploy ss ⊎ SomeClash deploy w ss
      go (inl f) = inl (subst (AreFresh deploy) (d.steps ∙ sym (append-nil before) ∙ sym log) f)
      go (inr x) = inr x
  along room before (s ∷ after) log a c d e =
      let i = and_then-inv (step_from deploy.prices deploy.limit room a s) (λ b. steps_from deploy.prices deploy.limit room b after) c e in
      go i.0 (λ k. along room (before ++ s ∷ []) after (log ∙ sym (append_assoc before (s ∷ []) after)) i.0 c k i.2) (λ f. did-more before s after log a d f room i.0 i.1) (tested before (s ∷ after) log a d)
    where
      go : (b : State) → (DidFirst (before ++ s ∷ []) b → AreFresh deploy ss ⊎ SomeClash deploy w ss) → (AreFresh deploy (done_steps d.replay.done) → DidFirst (before ++ s ∷ []) b)
          → AreFresh deploy (done_steps d.replay.done) ⊎ SomeClash deploy w ss → AreFresh deploy ss ⊎ SomeClash deploy w ss
      go b on more (inl f) = on (more f)
      go b on more (inr x) = inr x

  -- before its first step
  did-none : DidFirst [] (begun deploy.rows w)
  did-none = record { replay = first_replay (first_bag deploy.rows w); replays = none_yet; state = refl; steps = refl; filled = λ j l. absurd (omega (arith, l)); below = λ d m. absurd m }

-- where a log is legal its digests are fresh, or clash
pub fresh-or-clash : (deploy : Deploy) (ss : List Step) → FitsInTexts deploy ss → differ (ids_of deploy.rows) ≡ true → (a : State) → Leads deploy ss a → AreFresh deploy ss ⊎ Clashes deploy ss
fresh-or-clash deploy ss fits differs a l =
    let i = and_then-inv (option_map (begun deploy.rows) source) (λ x. steps_from deploy.prices deploy.limit l.0 x ss) a l.1 in
    let j = map-inv source (begun deploy.rows) i.0 i.1 in
    let u : Unfolds deploy.prices deploy.limit deploy.process (source_seed deploy) j.0 = (l.0, j.1) in
    go j.0 u (along deploy j.0 u ss fits differs l.0 [] ss refl (begun deploy.rows j.0) a (did-none deploy j.0 u ss fits differs) (subst (λ x. steps_from deploy.prices deploy.limit l.0 x ss ≡ Some a) (sym j.2) i.2))
  where
    source : Option Work
    source = capped deploy.limit (unfold_in deploy.prices l.0 deploy.process (source_seed deploy))

    go : (w : Work) → Unfolds deploy.prices deploy.limit deploy.process (source_seed deploy) w → AreFresh deploy ss ⊎ SomeClash deploy w ss → AreFresh deploy ss ⊎ Clashes deploy ss
    go w u (inl f) = inl f
    go w u (inr c) = inr (some-clash deploy w ss u c)
