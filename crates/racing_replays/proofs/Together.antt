-- The same rows meet in any bag that has them.
use Rattle.std.proofs.Common.{◌≡◌, true, ◌&&◌, ◌||◌, List, ap, ◌∙◌, subst}
use Rattle.std.specs.Prelude.{Some, eqb, count_by}
use Rattle.calculus.specs.Log.{Step}
use Rattle.calculus.specs.Rows.{Row}
use Rattle.calculus.specs.Steps.{Bag, Meeting, standing, is_one_of, same_meeting, stays, all_persistent, right_repeat, meeting, printed_line}
use Rattle.calculus.proofs.Members.{Member, Every, each-there}
use Rattle.events.proofs.Counts.{ids, AreDistinct, member-times, times-one_of}
use Rattle.events.proofs.Meetings.{Joined, join, meeting_at, MadeBy, made_by, makes}
use Rattle.racing_replays.specs.Replaying.{names}
use Rattle.racing_replays.proofs.Transfer.{same-line}

-- the rows of a step that meet in both bags
pub record InBoth (b d : Bag) (after : List Step) (s : Step) (m : Meeting) : Type 0 where
  pub taken : List Row
  pub joined : Joined
  pub named : names s ≡ ids taken
  pub joins : join taken ≡ Some joined
  pub there : Every (λ z. Member z (standing b)) taken
  pub is : m ≡ meeting_at (standing b) taken joined
  pub allowed : meeting d after s ≡ Some (meeting_at (standing d) taken joined)
  pub line : printed_line d (meeting_at (standing d) taken joined) ≡ printed_line b m

pub meets-too : (b d : Bag) (made after : List Step) (s : Step) (m : Meeting) → AreDistinct (ids (standing b)) → AreDistinct (ids (standing d))
    → ((z : Row) → is_one_of z.id (names s) ≡ true → Member z (standing b) → Member z (standing d)) → count_by (same_meeting s) made ≡ count_by (same_meeting s) after
    → meeting b made s ≡ Some m → InBoth b d after s m
meets-too b d made after s m x y f c e = record { taken = h.taken; joined = h.joined; named = h.ids; joins = h.joins; there = h.there; is = h.is; allowed = makes d after s h.taken h.joined y h.differs h.ids there h.joins repeats; line = same-line b d h.taken h.joined m x y h.joins h.is }
  where
    h : MadeBy (standing b) made s m
    h = made_by b made s m x e

    there : Every (λ z. Member z (standing d)) h.taken
    there = each-there _ _ h.taken (λ z i j. f z (ap (is_one_of z.id) h.ids ∙ times-one_of z.id (ids h.taken) (member-times z h.taken i)) j) h.there

    was : right_repeat made s (meeting_at (standing b) h.taken h.joined) ≡ true
    was = subst (λ z. right_repeat made s z ≡ true) h.is h.repeats

    repeats : right_repeat after s (meeting_at (standing d) h.taken h.joined) ≡ true
    repeats = subst (λ n. eqb s.repeat n && (eqb s.repeat 0 || (stays h.joined.receiver.kind && all_persistent h.joined.sends)) ≡ true) c was
