-- How a worker makes events of the rows that it finds.
use Rattle.std.proofs.Common.{◌≡◌, ℕ, true, ◌&&◌, ◌||◌, cond, List, [], ◌∷◌, ◌++◌, length, refl, ap, sym, ◌∙◌, subst}
use Rattle.std.specs.Prelude.{Option, Some, None, option_map, eqb, count_by}
use Rattle.calculus.specs.Shape.{at}
use Rattle.calculus.specs.Log.{Step}
use Rattle.calculus.specs.Rows.{Row, stdout, stdout_ack}
use Rattle.calculus.specs.Unfolding.{rows_of}
use Rattle.calculus.specs.Steps.{Meeting, standing, same_meeting, stays, all_persistent, right_repeat, meeting, printed_line, line}
use Rattle.calculus.specs.Runs.{Deploy, Work, work_products, body_work}
use Rattle.calculus.proofs.Members.{Member, Every}
use Rattle.events.specs.Events.{stored}
use Rattle.events.specs.Found.{met, leaving_rows, without, has_built_in_id, printed_by}
use Rattle.events.proofs.Counts.{ids, AreDistinct}
use Rattle.events.proofs.Meetings.{Joined, join, meeting_with, meeting_at, meet_rows-of, MadeBy, made_by, makes}
use Rattle.events.proofs.Printing.{line_by, line-of}
use Rattle.events.proofs.EventFollowing.{bag-left}
use Rattle.events.proofs.Making.{among, member, Met, met-joins}
use Rattle.racing_replays.specs.Replaying.{DoneStep, done_steps, names, is_due}
use Rattle.racing_replays.specs.Laws.{first_bag, IsFresh}
use Rattle.racing_replays.specs.Racing.{RacingState, rest_after, later_uses, Races}
use Rattle.racing_replays.specs.Possible.{HaveArrived, rest_of, FittingStepsAreDone, OtherTriesAreIdle}
use Rattle.racing_replays.proofs.Due.{due-parts}
use Rattle.racing_replays.proofs.Keeping.{universe, Kept}
use Rattle.racing_replays.proofs.Within.{one-index}
use Rattle.racing_replays.proofs.Agreeing.{fresh-rows}
use Rattle.racing_replays.proofs.Going.{store-distinct}
use Rattle.racing_replays.proofs.Turns.{repeat-is}
use Rattle.racing_replays.proofs.Racing.{Holds, holds-now}

all-arrived : (store qs : List Row) → HaveArrived store qs → Every (λ r. Member r (standing (stored store))) qs
all-arrived store [] h = tt
all-arrived store (q ∷ qs) h = (member q (store ++ (stdout ∷ stdout_ack ∷ [])) h.0, all-arrived store qs h.1)

have-arrived : (store qs : List Row) → Every (λ r. Member r (standing (stored store))) qs → HaveArrived store qs
have-arrived store [] h = tt
have-arrived store (q ∷ qs) h = (among q (store ++ (stdout ∷ stdout_ack ∷ [])) h.0, have-arrived store qs h.1)

joined-met : (qs : List Row) (q : Joined) → join qs ≡ Some q → met qs ≡ Some (meeting_with (λ r. 0) qs q)
joined-met qs q j = meet_rows-of (λ r. 0) qs ∙ ap (option_map (meeting_with (λ r. 0) qs)) j

-- what a racing state keeps
pub record At (deploy : Deploy) (w : Work) (ss : List Step) (c : RacingState) : Type 0 where
  pub distinct : AreDistinct (ids (standing (stored c.store)))
  pub counts : (before : List Step) (s : Step) (after : List Step) → ss ≡ before ++ s ∷ after → is_due (first_bag deploy.rows w) c.done before s ≡ true → count_by (same_meeting s) (done_steps c.done) ≡ count_by (same_meeting s) before

at-races : (deploy : Deploy) (w : Work) (ss : List Step) (c : RacingState) → IsFresh deploy.rows w c.done → ((s : Step) → meeting (stored deploy.rows) [] s ≡ None) → Races deploy w ss c → At deploy w ss c
at-races deploy w ss c f quiet es = record {
  distinct = store-distinct deploy.prices deploy.limit (first_bag deploy.rows w) ss c.done d h.replay c.store c.arriving c.tries h.going;
  counts = λ before s after log due. subst (λ ds. count_by (same_meeting s) (done_steps ds) ≡ count_by (same_meeting s) before) (sym h.same)
      (repeat-is (first_bag deploy.rows w) ss h.replay.done h.replay own one before s after log
      (due-parts (first_bag deploy.rows w) h.replay.done before s (subst (λ ds. is_due (first_bag deploy.rows w) ds before s ≡ true) h.same due)));
}
  where
    d : AreDistinct (ids (universe (first_bag deploy.rows w) c.done))
    d = fresh-rows deploy.rows w c.done f

    h : Holds deploy w ss c.done d c
    h = holds-now deploy w ss c f quiet es

    one : (x y : DoneStep) → Member x h.replay.done → Member y h.replay.done → x.index ≡ y.index → x ≡ y
    one = one-index deploy.prices deploy.limit (first_bag deploy.rows w) ss h.replay h.going.replays

    own : Kept (first_bag deploy.rows w) ss h.replay.done h.replay
    own = subst (λ l. Kept (first_bag deploy.rows w) ss l h.replay) h.same h.going.kept

pub fitting_steps_are_done : FittingStepsAreDone
fitting_steps_are_done deploy w ss c f quiet es pre post before s after log t due qs m fits room v body = record {
  before = before;
  step = s;
  after = after;
  log = log;
  pre = pre;
  post = post;
  tries = t;
  due = due;
  found = meeting_at (standing (stored c.store)) qs j.joined;
  allowed = allowed;
  room = room;
  work = v;
  works = subst (λ x. body_work deploy.prices deploy.limit room s x ≡ Some v) j.is body;
  is = ap (λ l. next l (printed_by qs m)) (sym left) ∙ ap (next (rest_after c.store (meeting_at (standing (stored c.store)) qs j.joined))) prints;
}
  where
    a : At deploy w ss c
    a = at-races deploy w ss c f quiet es

    next : List Row → List ℕ → RacingState
    next l o = record {
      store = l;
      arriving = c.arriving ++ rows_of (work_products v);
      tries = (pre ++ post) ++ later_uses ss (length before) (standing (stored l)) (names s);
      done = c.done ++ record { index = length before; step = s; work = v; printed = o } ∷ [];
    }

    j : Met qs m
    j = met-joins qs m fits.meets

    was : eqb s.repeat (count_by (same_meeting s) before) && (eqb s.repeat 0 || (stays j.joined.receiver.kind && all_persistent j.joined.sends)) ≡ true
    was = subst (λ x. eqb s.repeat (count_by (same_meeting s) before) && (eqb s.repeat 0 || (stays x.receiver.kind && all_persistent x.sends)) ≡ true) j.is fits.repeats

    repeats : right_repeat (done_steps c.done) s (meeting_at (standing (stored c.store)) qs j.joined) ≡ true
    repeats = subst (λ n. eqb s.repeat n && (eqb s.repeat 0 || (stays j.joined.receiver.kind && all_persistent j.joined.sends)) ≡ true) (sym (a.counts before s after log due)) was

    allowed : meeting (stored c.store) (done_steps c.done) s ≡ Some (meeting_at (standing (stored c.store)) qs j.joined)
    allowed = makes (stored c.store) (done_steps c.done) s qs j.joined a.distinct fits.differs fits.named (all-arrived c.store qs fits.arrived) j.joins repeats

    printed-so : (zs : List Row) (n : Meeting) (q : Joined) → n ≡ meeting_with (λ r. 0) zs q → printed_by zs n ≡ line_by zs q
    printed-so [] n q e = refl
    printed-so (z ∷ zs) n q e = ap (λ x. cond (has_built_in_id z) (line (at 0 x.bindings)) []) e

    prints : printed_by qs m ≡ printed_line (stored c.store) (meeting_at (standing (stored c.store)) qs j.joined)
    prints = printed-so qs m j.joined j.is ∙ sym (line-of (stored c.store) qs j.joined a.distinct j.joins)

    left : rest_after c.store (meeting_at (standing (stored c.store)) qs j.joined) ≡ rest_of c.store qs m
    left = ap (λ y. y.kept) (bag-left (stored c.store) qs j.joined [] a.distinct) ∙ ap (λ x. without (ids (leaving_rows x.receiver.kind x.sends qs)) c.store) (sym j.is)

pub other_tries_are_idle : OtherTriesAreIdle
other_tries_are_idle deploy w ss c f quiet es pre i post t none = record {
  index = i;
  pre = pre;
  post = post;
  tries = t;
  is = refl;
  may_not = λ before s after log e due. go before s after log e due (meeting (stored c.store) (done_steps c.done) s) refl;
}
  where
    a : At deploy w ss c
    a = at-races deploy w ss c f quiet es

    clash : (before : List Step) (s : Step) (after : List Step) → ss ≡ before ++ s ∷ after → length before ≡ i → is_due (first_bag deploy.rows w) c.done before s ≡ true → (m : Meeting) → MadeBy (standing (stored c.store)) (done_steps c.done) s m → ⊥
    clash before s after log e due m h = none before s after log e due h.taken (meeting_with (λ r. 0) h.taken h.joined) (record {
      named = h.ids;
      arrived = have-arrived c.store h.taken h.there;
      differs = h.differs;
      meets = joined-met h.taken h.joined h.joins;
      repeats = subst (λ n. eqb s.repeat n && (eqb s.repeat 0 || (stays h.joined.receiver.kind && all_persistent h.joined.sends)) ≡ true) (a.counts before s after log due) was;
    })
      where
        was : right_repeat (done_steps c.done) s (meeting_at (standing (stored c.store)) h.taken h.joined) ≡ true
        was = subst (λ x. right_repeat (done_steps c.done) s x ≡ true) h.is h.repeats

    go : (before : List Step) (s : Step) (after : List Step) → ss ≡ before ++ s ∷ after → length before ≡ i → is_due (first_bag deploy.rows w) c.done before s ≡ true → (o : Option Meeting) → meeting (stored c.store) (done_steps c.done) s ≡ o → o ≡ None
    go before s after log e due None g = refl
    go before s after log e due (Some m) g = absurd (clash before s after log e due m (made_by (stored c.store) (done_steps c.done) s m a.distinct g))
