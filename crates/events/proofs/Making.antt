-- How a worker makes events of rows that it finds.
use Rattle.std.proofs.Common.{◌≡◌, ℕ, Bool, true, false, ◌&&◌, ◌||◌, List, [], ◌∷◌, ◌++◌, refl, ap, sym, ◌∙◌, subst, inl, inr}
use Rattle.std.specs.Prelude.{Option, Some, None, option_map, eqb, count_by}
use Rattle.std.proofs.lemmas.Bool.{eq-eqb}
use Rattle.calculus.proofs.Members.{Member, Every, each-there, every-at}
use Rattle.calculus.specs.Log.{Step}
use Rattle.calculus.specs.Rows.{Row, stdout, stdout_ack}
use Rattle.calculus.specs.Unfolding.{rows_of}
use Rattle.calculus.specs.Steps.{Bag, Meeting, is_one_of, standing, differ, same_meeting, meeting, printed_line, bag_after}
use Rattle.calculus.specs.Runs.{work_products, body_work}
use Rattle.events.specs.Events.{with_operation, takes_part, Meets}
use Rattle.events.specs.Found.{met, Among, AreAtHand, without, leaving_rows, is_lasting, printed_by, after_meeting, step_of}
use Rattle.events.proofs.Printing.{line-of}
use Rattle.events.specs.EventLaws.{MeetingsAreSteps, LonelyOperationsAreStored}
use Rattle.events.proofs.Counts.{ids, AreDistinct, member-times, times-one_of}
use Rattle.events.proofs.Lookups.{row_with, row_with-there}
use Rattle.events.proofs.Meetings.{Joined, join, meeting_with, meeting_at, meet_rows-of, MadeBy, made_by, makes}
use Rattle.events.proofs.Lasting.{takes_none, joins-of}
use Rattle.events.proofs.EventFollowing.{Kept, operation-distinct, operation-there, bag-left}
use Rattle.events.proofs.Keeping.{kept-all}
use Rattle.events.proofs.Spent.{row-of-id, all-past, not-made}

pub among : (r : Row) (qs : List Row) → Member r qs → Among r qs
among r [] m = m
among r (q ∷ qs) (inl e) = inl e
among r (q ∷ qs) (inr m) = inr (among r qs m)

pub member : (r : Row) (qs : List Row) → Among r qs → Member r qs
member r [] m = m
member r (q ∷ qs) (inl e) = inl e
member r (q ∷ qs) (inr m) = inr (member r qs m)

at-hand : (store : List Row) (operation : Row) (qs : List Row) → Every (λ r. Member r (standing (with_operation store operation))) qs → AreAtHand store operation qs
at-hand store operation [] h = tt
at-hand store operation (q ∷ qs) h = (among q (store ++ (stdout ∷ stdout_ack ∷ operation ∷ [])) h.0, at-hand store operation qs h.1)

all-at-hand : (store : List Row) (operation : Row) (qs : List Row) → AreAtHand store operation qs → Every (λ r. Member r (standing (with_operation store operation))) qs
all-at-hand store operation [] h = tt
all-at-hand store operation (q ∷ qs) h = (member q (store ++ (stdout ∷ stdout_ack ∷ operation ∷ [])) h.0, all-at-hand store operation qs h.1)

-- rows that meet by themselves join
pub record Met (qs : List Row) (m : Meeting) : Type 0 where
  pub joined : Joined
  pub joins : join qs ≡ Some joined
  pub is : m ≡ meeting_with (λ r. 0) qs joined

pub met-joins : (qs : List Row) (m : Meeting) → met qs ≡ Some m → Met qs m
met-joins qs m e = go (join qs) refl (sym (meet_rows-of (λ r. 0) qs) ∙ e)
  where
    go : (o : Option Joined) → join qs ≡ o → option_map (meeting_with (λ r. 0) qs) o ≡ Some m → Met qs m
    go None j f = cc
    go (Some q) j f = let same : meeting_with (λ r. 0) qs q ≡ m = cc f in record { joined = q; joins = j; is = sym same }

joined-met : (qs : List Row) (q : Joined) → join qs ≡ Some q → met qs ≡ Some (meeting_with (λ r. 0) qs q)
joined-met qs q j = meet_rows-of (λ r. 0) qs ∙ ap (option_map (meeting_with (λ r. 0) qs)) j

pub lonely_operations_are_stored : LonelyOperationsAreStored
lonely_operations_are_stored deploy w c b es f operation before after e lonely =
    inl (record { operation = operation; before = before; after = after; pending = e; alone = λ s k. go s k (meeting (with_operation c.store operation) c.made s) refl; is = refl })
  where
    d : AreDistinct (ids (standing (with_operation c.store operation)))
    d = operation-distinct deploy c (kept-all deploy w c b es f) f operation before after e

    here : (store : List Row) → Member operation (store ++ (stdout ∷ stdout_ack ∷ operation ∷ []))
    here [] = inr (inr (inl refl))
    here (q ∷ store) = inr (here store)

    clash : (s : Step) → takes_part operation s ≡ true → (m : Meeting) → MadeBy (standing (with_operation c.store operation)) c.made s m → ⊥
    clash s k m h =
        let j = joins-of h.taken h.joined h.joins in
        let part : is_one_of operation.id (ids h.taken) ≡ true = sym (ap (is_one_of operation.id) h.ids) ∙ k in
        let r = row-of-id operation.id h.taken part in
        let one : Some r.0 ≡ Some operation = sym (row_with-there r.0 (standing (with_operation c.store operation)) d (every-at _ h.taken r.0 h.there r.1))
        ∙ ap (λ x. row_with x (standing (with_operation c.store operation))) (sym r.2) ∙ row_with-there operation (standing (with_operation c.store operation)) d (here c.store) in
        let same : r.0 ≡ operation = cc one in
        let takes : Among operation (j.first ∷ j.others) = among operation (j.first ∷ j.others) (subst (λ x. Member x (j.first ∷ j.others)) same (subst (λ l. Member r.0 l) j.is r.1)) in
        let data_ids : s.data_ids ≡ ids j.others = cc (h.ids ∙ ap ids j.is) in
        cc (
          lonely j.first j.others (at-hand c.store operation (j.first ∷ j.others) (subst (λ l. Every (λ z. Member z (standing (with_operation c.store operation))) l) j.is h.there)) takes (sym (ap differ data_ids) ∙ h.differs),
          joined-met (j.first ∷ j.others) h.joined (sym (ap join j.is) ∙ h.joins),
        )

    go : (s : Step) → takes_part operation s ≡ true → (o : Option Meeting) → meeting (with_operation c.store operation) c.made s ≡ o → o ≡ None
    go s k None g = refl
    go s k (Some m) g = absurd (clash s k m (made_by (with_operation c.store operation) c.made s m d g))

-- a repeat number that is right: how often the step was made, and 0 unless nothing is taken away
right-number : (n : ℕ) (b : Bool) → (b ≡ false → n ≡ 0) → eqb n n && (eqb n 0 || b) ≡ true
right-number n true h = ap (λ x. x && (eqb n 0 || true)) (eq-eqb n n refl) ∙ yes (eqb n 0)
  where
    yes : (x : Bool) → x || true ≡ true
    yes true = refl
    yes false = refl
right-number n false h = ap (λ x. x && (eqb n 0 || false)) (eq-eqb n n refl) ∙ ap (λ x. x || false) (eq-eqb n 0 (h refl))

pub meetings_are_steps : MeetingsAreSteps
meetings_are_steps deploy w c b es f operation before after e r ds hand part d m h v room body = (inr step, zero-for)
  where
    k : Kept deploy c
    k = kept-all deploy w c b es f

    one : AreDistinct (ids (standing (with_operation c.store operation)))
    one = operation-distinct deploy c (kept-all deploy w c b es f) f operation before after e

    j : Met (r ∷ ds) m
    j = met-joins (r ∷ ds) m h

    there : Every (λ z. Member z (standing (with_operation c.store operation))) (r ∷ ds)
    there = all-at-hand c.store operation (r ∷ ds) hand

    in-state : Every (λ z. Member z (standing k.state.bag)) (r ∷ ds)
    in-state = each-there _ _ (r ∷ ds) (λ z i l. operation-there deploy c k f operation before after e z l) there

    once : takes_none j.joined ≡ false → count_by (same_meeting (step_of c.made r ds)) c.made ≡ 0
    once = not-made deploy c k f (all-past deploy w c b es f) (step_of c.made r ds) (r ∷ ds) j.joined refl in-state j.joins

    zero-for : is_lasting m ≡ false → (step_of c.made r ds).repeat ≡ 0
    zero-for l = once (sym (ap is_lasting j.is) ∙ l)

    allowed : meeting (with_operation c.store operation) c.made (step_of c.made r ds) ≡ Some (meeting_at (standing (with_operation c.store operation)) (r ∷ ds) j.joined)
    allowed = makes (with_operation c.store operation) c.made (step_of c.made r ds) (r ∷ ds) j.joined one d refl there j.joins (right-number (count_by (same_meeting (step_of c.made r ds)) c.made) (takes_none j.joined) once)

    takes : takes_part operation (step_of c.made r ds) ≡ true
    takes = times-one_of operation.id (ids (r ∷ ds)) (member-times operation (r ∷ ds) (member operation (r ∷ ds) part))

    work : body_work deploy.prices deploy.limit room (step_of c.made r ds) (meeting_at (standing (with_operation c.store operation)) (r ∷ ds) j.joined) ≡ Some v
    work = subst (λ x. body_work deploy.prices deploy.limit room (step_of c.made r ds) x ≡ Some v) j.is body

    printed : printed_line (with_operation c.store operation) (meeting_at (standing (with_operation c.store operation)) (r ∷ ds) j.joined) ≡ printed_by (r ∷ ds) m
    printed = line-of (with_operation c.store operation) (r ∷ ds) j.joined one j.joins ∙ ap (λ x. printed_by (r ∷ ds) x) (sym j.is)

    bag : Bag
    bag = bag_after (with_operation c.store operation) (meeting_at (standing (with_operation c.store operation)) (r ∷ ds) j.joined) (rows_of (work_products v))

    left : bag
        ≡ record { kept = without (ids (leaving_rows m.receiver.kind m.sends (r ∷ ds))) c.store; offered = without (ids (leaving_rows m.receiver.kind m.sends (r ∷ ds))) (operation ∷ []) ++ rows_of (work_products v) }
    left = bag-left (with_operation c.store operation) (r ∷ ds) j.joined (rows_of (work_products v)) one
        ∙ ap (λ x. record { kept = without (ids (leaving_rows x.receiver.kind x.sends (r ∷ ds))) c.store; offered = without (ids (leaving_rows x.receiver.kind x.sends (r ∷ ds))) (operation ∷ []) ++ rows_of (work_products v) }) (sym j.is)

    step : Meets deploy.prices deploy.limit c (after_meeting c operation before after (r ∷ ds) m (step_of c.made r ds) v)
    step = record {
      operation = operation;
      before = before;
      after = after;
      pending = e;
      step = step_of c.made r ds;
      takes = takes;
      found = meeting_at (standing (with_operation c.store operation)) (r ∷ ds) j.joined;
      allowed = allowed;
      room = room;
      work = v;
      works = work;
      is = ap (λ x. record { store = x.kept; pending = before ++ (x.offered ++ after); made = c.made ++ step_of c.made r ds ∷ []; works = c.works ++ v ∷ []; output = c.output ++ printed_by (r ∷ ds) m }) (sym left)
          ∙ ap (λ l. record { store = bag.kept; pending = before ++ (bag.offered ++ after); made = c.made ++ step_of c.made r ds ∷ []; works = c.works ++ v ∷ []; output = c.output ++ l }) (sym printed);
    }
