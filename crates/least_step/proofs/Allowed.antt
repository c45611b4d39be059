-- The least rows that meet make the least step that is allowed.
use Rattle.std.proofs.Common.{◌≡◌, ℕ, Bool, true, false, ◌&&◌, ◌||◌, List, [], ◌∷◌, ◌++◌, map as each, refl, ap, sym, ◌∙◌, subst, arith, inl, inr}
use Rattle.std.specs.Prelude.{Option, Some, None, option_map, eqb, count_by, is_some, IsSome, MatchOption, IsPermutation}
use Rattle.std.proofs.lemmas.Bool.{eq-eqb}
use Rattle.calculus.proofs.Members.{Member, Every, member-split, member-left, member-right}
use Rattle.calculus.specs.Candidates.{ids_up_to, next_step, IsLeastAllowed}
use Rattle.calculus.specs.Log.{Step}
use Rattle.calculus.specs.Rows.{Row, stdout, stdout_ack}
use Rattle.calculus.specs.Steps.{Bag, Meeting, standing, differ, same_meeting, meeting}
use Rattle.events.specs.Events.{first_ids}
use Rattle.events.specs.Found.{met, is_lasting, step_of, Among}
use Rattle.events.proofs.Counts.{ids, AreDistinct, differ-distinct}
use Rattle.events.proofs.EventStanding.{ids-times, standing-times, from-standing, in-standing}
use Rattle.events.proofs.Orders.{member-moved, times-moved}
use Rattle.events.proofs.Meetings.{join, meeting_with, meet_rows-of, made_by, makes}
use Rattle.events.proofs.Lasting.{takes_none, joins-of}
use Rattle.events.proofs.Making.{Met, met-joins, among, member}
use Rattle.calculus.proofs.Permutations.{moved_so}
use Rattle.row_search.specs.Meetings.{AllAmong}
use Rattle.least_step.specs.declared.least.LeastStep.{LeastStep}
use Rattle.least_step.specs.Orders.{ids_of}
use Rattle.least_step.specs.Meeting.{IsLeastMeeting, NoneMeets}
use Rattle.least_step.specs.Least.{AllowsNone, HasRows, IsLeast, NothingIsUsedUp}
use Rattle.least_step.proofs.Choosing.{an-option, not-some}

right-number : (n : ℕ) (b : Bool) → (b ≡ false → n ≡ 0) → eqb n n && (eqb n 0 || b) ≡ true
right-number n true h = ap (λ x. x && (eqb n 0 || true)) (eq-eqb n n refl) ∙ yes (eqb n 0)
  where
    yes : (x : Bool) → x || true ≡ true
    yes true = refl
    yes false = refl
right-number n false h = ap (λ x. x && (eqb n 0 || false)) (eq-eqb n n refl) ∙ ap (λ x. x || false) (eq-eqb n 0 (h refl))

module _ (b : Bag) (made : List Step) (rows all : List Row) (has : HasRows b rows) (moved : IsPermutation (rows ++ (stdout ∷ stdout_ack ∷ [])) all) (apart : differ (first_ids rows) ≡ true) where
  abbrev built : List Row
  built = stdout ∷ stdout_ack ∷ []

  pub distinct : AreDistinct (ids (standing b))
  distinct x = omega (arith, standing-times x b, times-moved x has, ids-times x rows built, differ-distinct (first_ids rows) apart x)

  pub to-all : (z : Row) → Member z (standing b) → Among z all
  to-all z m =
      elim (from-standing b z m) [
        | inl k ↦ among z all (member-moved z moved (member-left z rows built (member-moved z has k)))
        | inr k ↦ among z all (member-moved z moved (member-right z rows built k))
      ]

  pub from-all : (z : Row) → Among z all → Member z (standing b)
  from-all z k =
      elim (member-split z rows built (member-moved z (moved_so moved) (member z all k))) [
        | inl m ↦ in-standing b z (inl (member-moved z (moved_so has) m))
        | inr m ↦ in-standing b z (inr m)
      ]

  pub all-to : (zs : List Row) → Every (λ z. Member z (standing b)) zs → AllAmong zs all
  all-to [] h = tt
  all-to (z ∷ zs) h = (to-all z h.0, all-to zs h.1)

  pub all-from : (zs : List Row) → AllAmong zs all → Every (λ z. Member z (standing b)) zs
  all-from [] h = tt
  all-from (z ∷ zs) h = (from-all z h.0, all-from zs h.1)

  pub in-bag : (zs : List Row) → AllAmong zs all → AllAmong zs (standing b)
  in-bag [] h = tt
  in-bag (z ∷ zs) h = (among z (standing b) (from-all z h.0), in-bag zs h.1)

  -- the rows of an allowed step, which meet
  pub record Rows (u : Step) : Type 0 where
    pub receiver : Row
    pub sends : List Row
    pub at_hand : AllAmong (receiver ∷ sends) all
    pub meets : IsSome (met (receiver ∷ sends))
    pub ids_are : u.receiver ∷ u.data_ids ≡ ids_of (receiver ∷ sends)

  pub rows-of : (u : Step) (m : Meeting) → meeting b made u ≡ Some m → Rows u
  rows-of u m e =
      let h = made_by b made u m distinct e in
      let j = joins-of h.taken h.joined h.joins in
      let meets : met (j.first ∷ j.others) ≡ Some (meeting_with (λ r. 0) (j.first ∷ j.others) h.joined) =
      meet_rows-of (λ r. 0) (j.first ∷ j.others) ∙ ap (option_map (meeting_with (λ r. 0) (j.first ∷ j.others))) (sym (ap join j.is) ∙ h.joins) in
      record {
        receiver = j.first;
        sends = j.others;
        at_hand = all-to (j.first ∷ j.others) (subst (λ l. Every (λ z. Member z (standing b)) l) j.is h.there);
        meets = ap is_some meets;
        ids_are = h.ids ∙ ap ids j.is;
      }

  pub allows-none : NoneMeets all → AllowsNone b made
  allows-none n u = not-some (meeting b made u) (λ t. go (an-option (meeting b made u) t))
    where
      go : ((m : Meeting) × (meeting b made u ≡ Some m)) → ⊥
      go m = let r = rows-of u m.0 m.1 in cc (r.meets, n r.receiver r.at_hand.0 r.sends r.at_hand.1)

  -- the step of the least rows that meet
  module _ (f : LeastStep) (l : IsLeastMeeting all f) (unused : NothingIsUsedUp b made) where
    abbrev s : Step
    s = step_of made l.receiver l.sends

    step-is : next_step made f.cont.0 (each (λ d. d.0) f.taken.items) ≡ s
    step-is = ap (λ (x : List ℕ). next_step made x (each (λ d. d.0) f.taken.items)) l.cont ∙ ap (next_step made l.receiver.id) l.taken

    allowed : IsSome (meeting b made s)
    allowed =
        let m = an-option (met (l.receiver ∷ l.sends)) l.meets in
        let j : Met (l.receiver ∷ l.sends) m.0 = met-joins (l.receiver ∷ l.sends) m.0 m.1 in
        let right = right-number (count_by (same_meeting s) made) (takes_none j.joined) (λ t. unused l.receiver l.sends (in-bag (l.receiver ∷ l.sends) l.at_hand) m.0 m.1 (ap is_lasting j.is ∙ t)) in
        ap is_some (makes b made s (l.receiver ∷ l.sends) j.joined distinct l.differs refl (all-from (l.receiver ∷ l.sends) l.at_hand) j.joins right)

    least : (u : Step) → IsSome (meeting b made u) → ids_up_to (s.receiver ∷ s.data_ids) (u.receiver ∷ u.data_ids) ≡ true
    least u t =
        let m = an-option (meeting b made u) t in
        let r = rows-of u m.0 m.1 in
        ap (ids_up_to (s.receiver ∷ s.data_ids)) r.ids_are ∙ l.least r.receiver r.sends r.at_hand r.meets

    pub is-least : IsLeast b made f
    is-least = subst (λ (u : Step). IsLeastAllowed b made u) (sym step-is) (record { allowed = allowed; least = least })

  pub answers : (o : Option LeastStep) → NothingIsUsedUp b made → MatchOption o (NoneMeets all) (IsLeastMeeting all) → MatchOption o (AllowsNone b made) (IsLeast b made)
  answers None n h = allows-none h
  answers (Some f) n h = is-least f h n
