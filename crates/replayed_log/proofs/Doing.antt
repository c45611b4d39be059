-- A step that is made with rows in hand may be drawn.
use Rattle.std.proofs.Common.{◌≡◌, ℕ, Bool, true, cond, List, [], ◌∷◌, ◌++◌, length, map as each, refl, inl, sym, ap, subst, ◌∙◌}
use Rattle.std.specs.Prelude.{◌||◌, Some, flat_map, is_some}
use Rattle.std.specs.Str.{bytes_eq}
use Rattle.std.proofs.lemmas.List.{map-id}
use Rattle.calculus.specs.declared.ids.Digest.{Digest}
use Rattle.calculus.specs.Log.{Step}
use Rattle.calculus.specs.Outcome.{capped}
use Rattle.calculus.specs.Rows.{Row, stdout, stdout_ack}
use Rattle.calculus.specs.Runs.{Deploy, body_work}
use Rattle.calculus.specs.Seeds.{digest_of, Comm}
use Rattle.calculus.specs.Shape.{at}
use Rattle.calculus.specs.Steps.{line}
use Rattle.calculus.specs.Tree.{Tree}
use Rattle.calculus.specs.Unfolding.{unfold_under, unfold_in}
use Rattle.event_log.specs.declared.log.LogStep.{LogStep}
use Rattle.event_log.specs.View.{step_of}
use Rattle.events.specs.Found.{has_built_in_id, printed_by}
use Rattle.racing_replays.specs.Counted.{names_id}
use Rattle.events.specs.Shards.{stands_in}
use Rattle.hub_scenes.specs.Spaces.{SeenRow, IndexTry, IsIn, bare}
use Rattle.hub_scenes.specs.Entries.{indices}
use Rattle.hub_scenes.specs.Showing.{later_use, Fit}
use Rattle.replay_hub.specs.declared.deed.Try.{Try}
use Rattle.replay_hub.specs.Values.{line_items}
use Rattle.replay_worker.specs.declared.tables.Doing.{Doing}
use Rattle.replay_worker.specs.Looking.{IsDoing}
use Rattle.replay_shards.specs.declared.ready.Ready.{Ready}
use Rattle.replay_slots.specs.Hands.{InHand, shard_at, all_shown}
use Rattle.replay_shards.specs.Ready.{IsReady}
use Rattle.replay_shards.specs.Taken.{bytes_of}
use Rattle.replay_shards.proofs.Drawing.{ready-covers}
use Rattle.replay_shards.proofs.Lacking.{none-seen}
use Rattle.replayed_log.specs.Making.{IsMade}
use Rattle.replayed_log.proofs.Showing.{part, to-hand, to-shown}

module _ (deploy : Deploy) (ss : List Step) (h : InHand) (touched : ℕ → Bool) (t : Try Tree) (u : LogStep) (r : Ready) (before after : List Step)
    (log : ss ≡ before ++ step_of u ∷ after) (place : length before ≡ t.step) (y : IsReady ss (all_shown h) before (step_of u) t.step r)
    (covers : (k : ℕ) → stands_in k y.receiver.row ≡ true → touched k ≡ true) (within : (k : ℕ) → touched k ≡ true → is_some (shard_at h k) ≡ true) (d : Doing Row Tree) (m : IsMade deploy.prices deploy.limit u t r d) where
  abbrev rows : List SeenRow
  rows = y.receiver ∷ y.data_rows

  its-step : step_of d.made.made.value ≡ step_of u
  its-step = ap step_of m.step

  its-fit : Fit ss before (step_of d.made.made.value) d.made.step rows y.found.meeting
  its-fit =
      subst (λ (s : Step). Fit ss before s d.made.step rows y.found.meeting) (sym its-step)
      (subst (λ (i : ℕ). Fit ss before (step_of u) i rows y.found.meeting) (sym m.same_step) y.fits)

  its-work : body_work deploy.prices deploy.limit m.said.0 (step_of d.made.made.value) y.found.meeting ≡ Some m.work
  its-work =
      let seed = digest_of (Comm u.cont.0 (each (λ (x : Digest). x.0) u.taken.items) u.repeat) in
      let unfolded = unfold_under (unfold_in deploy.prices m.said.0) seed in
      subst (λ (s : Step). body_work deploy.prices deploy.limit m.said.0 s y.found.meeting ≡ Some m.work) (sym its-step)
      (subst (λ (vs : List Tree). capped deploy.limit (unfolded vs y.found.meeting.receiver.body) ≡ Some m.work) y.found.bound
      (subst (λ (b : Tree). capped deploy.limit (unfolded r.found.bound.items b) ≡ Some m.work) y.found.body m.said.1))

  its-line : line_items d.made.line ≡ printed_by (bare rows) y.found.meeting
  its-line =
      m.line ∙ ap (λ (x : List ℕ). cond (bytes_eq x stdout.id || bytes_eq x stdout_ack.id) (line (at 0 r.found.bound.items)) []) y.found.cont
      ∙ ap (λ (vs : List Tree). cond (has_built_in_id y.receiver.row) (line (at 0 vs)) []) y.found.bound

  pub may-be-done : IsDoing deploy ss (λ r. r) (λ c. c) part (shard_at h) touched t d
  may-be-done = record {
    shows = record {
      there = rows;
      are = λ q i. to-hand h q (y.at_hand q i);
      makes = record {
        before = before;
        after = after;
        log = log ∙ ap (λ (s : Step). before ++ s ∷ after) (sym its-step);
        place = place ∙ sym m.same_step;
        rows = rows;
        at_hand = λ q i. i;
        found = y.found.meeting;
        fits = its-fit;
        covers = ready-covers ss (all_shown h) before (step_of u) t.step r y touched covers;
        gone = ap bytes_of m.seen ∙ y.found.gone;
        line = its-line;
        room = m.said.0;
        work = m.work;
        works = its-work;
        offers = map-id d.made.offers.value.items ∙ m.offers;
        price = m.price;
        fault = m.fault;
        early = y.early;
        are = ap (λ l. y.early ++ l) (ap indices m.next) ∙ y.are ∙ ap (λ ds. flat_map (later_use ss (bytes_of ds)) rows) (sym m.seen);
        uses_of = λ z i. y.uses_of z (subst (λ (ts : List IndexTry). IsIn z ts) m.next i);
      };
      early = λ i j b s a log place. let w = y.lacks i j b s a log place in record {
        receiver = y.receiver;
        there = inl refl;
        named = w.receiver;
        joined = λ k st. within k (covers k st);
        id = w.datum.id;
        wanted = w.datum.wanted;
        none = λ q n e. none-seen w.datum.id (all_shown h) w.datum.none q (to-shown h q n) e;
      };
    };
    same_step = m.same_step;
    same_channel = m.same_channel;
    gone = m.gone ∙ sym m.seen;
    tasks = m.tasks;
    few = m.few;
    low = λ q i n. y.low q (to-shown h q i) (subst (λ (s : Step). names_id q.row.id s ≡ true) its-step n);
  }
