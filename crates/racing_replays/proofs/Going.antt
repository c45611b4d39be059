-- What holds of each state of a replay by workers.
use Rattle.std.proofs.Common.{◌≡◌, ◌≤◌, ℕ, ◌+◌, true, false, List, [], ◌∷◌, ◌++◌, length, ap, sym, ◌∙◌, subst, arith, inl, inr}
use Rattle.std.specs.Prelude.{◌⊎◌, Some, IsPermutation}
use Rattle.calculus.specs.Outcome.{Prices}
use Rattle.calculus.specs.Log.{Step}
use Rattle.calculus.specs.Rows.{Row}
use Rattle.calculus.specs.Steps.{Bag, Meeting, standing, stored_rows, is_one_of, meeting, printed_line}
use Rattle.calculus.proofs.Members.{Member, member-split, member-left, every-at}
use Rattle.events.specs.Events.{stored}
use Rattle.events.proofs.Orders.{member-moved, times-moved}
use Rattle.events.proofs.Counts.{ids, times, AreDistinct, member-times}
use Rattle.events.proofs.Meetings.{MadeBy, made_by}
use Rattle.events.proofs.EventStanding.{built_ins, ids-times, standing-times, no-more}
use Rattle.events.proofs.EventFollowing.{append_nothing}
use Rattle.events.proofs.Spent.{row-of-id}
use Rattle.racing_replays.specs.Replaying.{DoneStep, Replay, done_steps, rows_by, names, is_due, Replays, none_yet, one_more, Does}
use Rattle.racing_replays.proofs.Keeping.{offers, universe, Kept}
use Rattle.racing_replays.proofs.Transfer.{bag-distinct, in-universe}
use Rattle.racing_replays.proofs.Doing.{entry, flat-more}
use Rattle.racing_replays.proofs.Within.{before-does, kept-within}
use Rattle.calculus.proofs.Permutations.{moved_so}

pub universe-more : (b : Bag) (x : List ℕ) (ds : List DoneStep) (e : DoneStep) → times x (ids (universe b (ds ++ e ∷ []))) ≡ times x (ids (universe b ds)) + times x (ids (rows_by e))
universe-more b x ds e = omega (
  arith,
  ids-times x (standing b) (offers (ds ++ e ∷ [])),
  ids-times x (standing b) (offers ds),
  ap (λ l. times x (ids l)) (flat-more rows_by ds e),
  ids-times x (offers ds) (rows_by e),
)

module _ (p : Prices) (cap : ℕ) (b : Bag) (ss : List Step) (ds : List DoneStep) (fresh : AreDistinct (ids (universe b ds))) where
  named-does : (r q : Replay) → Kept b ss ds r → Does p cap b ss r q → ((d : DoneStep) (x : List ℕ) → Member d r.done → is_one_of x (names d.step) ≡ true → 1 ≤ times x (ids (universe b r.done)))
      → (d : DoneStep) (x : List ℕ) → Member d q.done → is_one_of x (names d.step) ≡ true → 1 ≤ times x (ids (universe b q.done))
  named-does r q h e old d x m n = subst (λ y. 1 ≤ times x (ids (universe b y.done))) (sym e.is)
      (omega (arith, universe-more b x r.done (entry (length e.before) e.step e.work (printed_line r.bag e.found)), go (member-split d r.done (entry (length e.before) e.step e.work (printed_line r.bag e.found) ∷ []) (subst (λ y. Member d y.done) e.is m))))
    where
      how : MadeBy (standing r.bag) (done_steps r.done) e.step e.found
      how = made_by r.bag (done_steps r.done) e.step e.found (bag-distinct b ss ds fresh r h) e.allowed

      new : is_one_of x (names e.step) ≡ true → 1 ≤ times x (ids (universe b r.done))
      new i =
          let z = row-of-id x how.taken (sym (ap (is_one_of x) how.ids) ∙ i) in
          let there : Member z.0 (universe b r.done) = in-universe b ss ds fresh r h z.0 (every-at _ how.taken z.0 how.there z.1) in
          subst (λ y. 1 ≤ times y (ids (universe b r.done))) (sym z.2) (member-times z.0 (universe b r.done) there)

      go : Member d r.done ⊎ Member d (entry (length e.before) e.step e.work (printed_line r.bag e.found) ∷ []) → 1 ≤ times x (ids (universe b r.done))
      go (inl i) = old d x i n
      go (inr (inl i)) = new (subst (λ y. is_one_of x (names y.step) ≡ true) i n)
      go (inr (inr i)) = absurd i

  -- what a done step names was there
  pub named-there : (r : Replay) → Replays p cap b ss r → ((d : DoneStep) → Member d r.done → Member d ds) → (d : DoneStep) (x : List ℕ) → Member d r.done → is_one_of x (names d.step) ≡ true → 1 ≤ times x (ids (universe b r.done))
  named-there _ none_yet sub d x m n = absurd m
  named-there q (one_more {r} h e) sub d x m n =
      named-does r q (kept-within p cap b ss ds fresh r h (before-does p cap b ss ds fresh r q e sub)) e (named-there r h (before-does p cap b ss ds fresh r q e sub)) d x m n

  -- what holds of rows that have arrived, rows that are to arrive, and indices that are to be tried, beside a replay
  pub record Going (r : Replay) (store arriving : List Row) (tries : List ℕ) : Type 0 where
    pub replays : Replays p cap b ss r
    pub kept : Kept b ss ds r
    pub rows : IsPermutation (stored_rows r.bag) (store ++ arriving)
    pub unnamed : (z : Row) → Member z arriving → (d : DoneStep) → Member d r.done → is_one_of z.id (names d.step) ≡ false
    pub pending : (before : List Step) (s : Step) (after : List Step) → ss ≡ before ++ s ∷ after → is_due b r.done before s ≡ true
        → (m : Meeting) → meeting (stored store) (done_steps r.done) s ≡ Some m → Member (length before) tries

  module _ (r : Replay) (store arriving : List Row) (tries : List ℕ) (g : Going r store arriving tries) where
    pub all-counts : (x : List ℕ) → times x (ids store) + times x (ids arriving) + times x (ids built_ins) ≤ 1
    all-counts x = omega (arith, bag-distinct b ss ds fresh r g.kept x, standing-times x r.bag, times-moved x g.rows, ids-times x store arriving)

    pub store-times : (x : List ℕ) → times x (ids (standing (stored store))) ≡ times x (ids store) + times x (ids built_ins)
    store-times x = omega (arith, standing-times x (stored store), ids-times x store [])

    pub store-distinct : AreDistinct (ids (standing (stored store)))
    store-distinct x = omega (arith, store-times x, all-counts x)

    -- what has arrived stands in the replay's bag
    pub store-there : (z : Row) → Member z (standing (stored store)) → Member z (standing r.bag)
    store-there z = no-more (stored store) r.bag z (λ m. member-moved z (moved_so g.rows) (member-left z store arriving (subst (λ l. Member z l) (append_nothing store) m)))

    -- what stands there has arrived or is to arrive
    pub all-there : (z : Row) → Member z (standing r.bag) → Member z (standing (stored (store ++ arriving)))
    all-there z = no-more r.bag (stored (store ++ arriving)) z (λ m. subst (λ l. Member z l) (sym (append_nothing (store ++ arriving))) (member-moved z g.rows m))

    -- no id has arrived that is to arrive
    pub not-both : (x : List ℕ) → 1 ≤ times x (ids (standing (stored store))) → 1 ≤ times x (ids arriving) → ⊥
    not-both x h i = omega (arith, h, i, store-times x, all-counts x)
