-- What each event keeps: the steps lead to a state whose rows are those stored and pending.
use Rattle.std.proofs.Common.{◌≡◌, ◌≤◌, ℕ, suc, ◌+◌, Bool, true, false, ◌&&◌, ◌||◌, cond, List, [], ◌∷◌, ◌++◌, length, map as each, refl, ap, sym, ◌∙◌, subst, arith, inl, inr, append_assoc, length-append}
use Rattle.std.specs.Prelude.{◌⊎◌, Option, Some, None, eqb, count_by, IsPermutation}
use Rattle.std.proofs.lemmas.Bool.{eqb-true, eq-eqb}
use Rattle.std.proofs.lemmas.List.Sums.{sum_by-append}
use Rattle.calculus.proofs.Members.{Member, member-split, member-left, member-right, each-there}
use Rattle.calculus.specs.Log.{Step}
use Rattle.calculus.specs.Rows.{Row, stdout, stdout_ack}
use Rattle.calculus.specs.Steps.{Bag, Meeting, standing, stored_rows, is_one_of, same_meeting, stays, all_persistent, right_repeat, meeting, but_places, bag_after}
use Rattle.calculus.specs.Runs.{Deploy, State, Leads}
use Rattle.events.specs.Events.{Core, stored, with_operation, takes_part, first_ids, AreFresh, digests}
use Rattle.events.proofs.Counts.{ids, times, AreDistinct, differ-distinct, member-times, times-one_of}
use Rattle.events.proofs.Meetings.{Joined, place_in, meeting_at, MadeBy, made_by, makes}
use Rattle.events.specs.Found.{without, leaving_rows}
use Rattle.events.proofs.Leaving.{places-leave}
use Rattle.events.proofs.Orders.{member-moved, times-moved}
use Rattle.events.proofs.EventStanding.{built_ins, ids-times, standing-times, no-more, left-there}
use Rattle.calculus.proofs.Permutations.{moved_so}

pub append_nothing : {A : Type 0} (l : List A) → l ++ [] ≡ l
append_nothing [] = refl
append_nothing (x ∷ l) = ap (λ m. x ∷ m) (append_nothing l)

-- what holds after each list of events
pub record Kept (deploy : Deploy) (c : Core) : Type 0 where
  pub state : State
  pub leads : Leads deploy c.made state
  pub made : state.made ≡ c.made
  pub works : state.works ≡ c.works
  pub output : state.output ≡ c.output
  pub rows_moved : IsPermutation (stored_rows state.bag) (c.store ++ c.pending)
  pub counts : (x : List ℕ) → times x (ids (c.store ++ c.pending)) + times x (ids built_ins) ≤ times x (first_ids deploy.rows ++ digests c.works)
  pub quiet : (s : Step) → meeting (stored c.store) c.made s ≡ None

module _ (deploy : Deploy) (c : Core) (k : Kept deploy c) (fresh : AreFresh deploy c.made) where
  -- no digest stands twice
  pub all-distinct : AreDistinct (first_ids deploy.rows ++ digests c.works)
  all-distinct = subst (λ ws. AreDistinct (first_ids deploy.rows ++ digests ws)) k.works (differ-distinct _ (fresh c.made [] (sym (append_nothing c.made)) k.state k.leads))

  -- no id stands twice in a bag of such rows
  pub bag-distinct : (b : Bag) → ((x : List ℕ) → times x (ids (stored_rows b)) ≤ times x (ids (c.store ++ c.pending))) → AreDistinct (ids (standing b))
  bag-distinct b h x = omega (arith, standing-times x b, h x, k.counts x, all-distinct x)

  pub state-distinct : AreDistinct (ids (standing k.state.bag))
  state-distinct = bag-distinct k.state.bag (λ x. omega (arith, times-moved x k.rows_moved))

  pub store-distinct : AreDistinct (ids (standing (stored c.store)))
  store-distinct = bag-distinct (stored c.store) (λ x. omega (arith, ids-times x c.store [], ids-times x c.store c.pending))

  pub operation-distinct : (r : Row) (before after : List Row) → c.pending ≡ before ++ r ∷ after → AreDistinct (ids (standing (with_operation c.store r)))
  operation-distinct r before after e =
      bag-distinct (with_operation c.store r) (λ x. omega (arith, ids-times x c.store (r ∷ []), ids-times x c.store c.pending, ap (λ l. times x (ids l)) e, ids-times x before (r ∷ after)))

  -- the rows of a store and an operation stand in the state's bag
  pub operation-there : (r : Row) (before after : List Row) → c.pending ≡ before ++ r ∷ after → (z : Row) → Member z (standing (with_operation c.store r)) → Member z (standing k.state.bag)
  operation-there r before after e z = no-more (with_operation c.store r) k.state.bag z (λ m. member-moved z (moved_so k.rows_moved) (go (member-split z c.store (r ∷ []) m)))
    where
      go : Member z c.store ⊎ Member z (r ∷ []) → Member z (c.store ++ c.pending)
      go (inl m) = member-left z c.store c.pending m
      go (inr (inl f)) = member-right z c.store c.pending (subst (λ l. Member z l) (sym e) (member-right z before (r ∷ after) (inl f)))
      go (inr (inr m)) = absurd m

-- rows of a store with one more that are not that one stand in the store
but-it : (store : List Row) (r z : Row) → (z ≡ r → ⊥) → Member z (stored_rows (stored (store ++ r ∷ []))) → Member z (stored_rows (stored store))
but-it store r z differs m = member-left z store [] (go (member-split z store (r ∷ []) (subst (λ l. Member z l) (append_nothing (store ++ r ∷ [])) m)))
  where
    go : Member z store ⊎ Member z (r ∷ []) → Member z store
    go (inl i) = i
    go (inr (inl e)) = absurd (differs e)
    go (inr (inr i)) = absurd i

-- no step is allowed among stored rows and one more with which none is allowed
pub quiet-put : (store : List Row) (made : List Step) (r : Row) → ((s : Step) → meeting (stored store) made s ≡ None)
    → AreDistinct (ids (standing (stored store))) → AreDistinct (ids (standing (with_operation store r))) → AreDistinct (ids (standing (stored (store ++ r ∷ []))))
    → ((s : Step) → takes_part r s ≡ true → meeting (with_operation store r) made s ≡ None) → (s : Step) → meeting (stored (store ++ r ∷ [])) made s ≡ None
quiet-put store made r quiet d e f alone s = go (meeting (stored (store ++ r ∷ [])) made s) refl
  where
    other : (qs : List Row) → s.receiver ∷ s.data_ids ≡ ids qs → takes_part r s ≡ false → (z : Row) → Member z qs → z ≡ r → ⊥
    other qs i k z j same = cc (k, ap (λ l. is_one_of r.id l) i, subst (λ y. is_one_of y.id (ids qs) ≡ true) same (times-one_of z.id (ids qs) (member-times z qs j)))

    clash : (m : Meeting) → MadeBy (standing (stored (store ++ r ∷ []))) made s m → (t : Bool) → takes_part r s ≡ t → ⊥
    clash m h true k = cc (
      alone s k,
      makes (with_operation store r) made s h.taken h.joined e h.differs h.ids
          (each-there _ _ h.taken (λ z i. no-more (stored (store ++ r ∷ [])) (with_operation store r) z (λ j. subst (λ l. Member z l) (append_nothing (store ++ r ∷ [])) j)) h.there)
          h.joins (subst (λ x. right_repeat made s x ≡ true) h.is h.repeats),
    )
    clash m h false k = cc (
      quiet s,
      makes (stored store) made s h.taken h.joined d h.differs h.ids
          (each-there _ _ h.taken (λ z i. no-more (stored (store ++ r ∷ [])) (stored store) z (but-it store r z (other h.taken h.ids k z i))) h.there)
          h.joins (subst (λ x. right_repeat made s x ≡ true) h.is h.repeats),
    )

    go : (o : Option Meeting) → meeting (stored (store ++ r ∷ [])) made s ≡ o → meeting (stored (store ++ r ∷ [])) made s ≡ None
    go None g = g
    go (Some m) g = absurd (clash m (made_by (stored (store ++ r ∷ [])) made s m f g) (takes_part r s) refl)

counts-more : (q : Step → Bool) (made : List Step) (s : Step) → count_by q made ≤ count_by q (made ++ s ∷ [])
counts-more q made s = omega (arith, sum_by-append (λ u. cond (q u) 1 0) made (s ∷ []))

-- a step like this one with the number of times that it was made so far
abbrev again : List Step → Step → Step
again made s = record { receiver = s.receiver; data_ids = s.data_ids; repeat = count_by (same_meeting s) made }

either-way : (n k : ℕ) (b : Bool) → k ≤ n → (r : ℕ) → eqb r n && (eqb r 0 || b) ≡ true → eqb k k && (eqb k 0 || b) ≡ true
either-way n k true h r e = ap (λ x. x && (eqb k 0 || true)) (eq-eqb k k refl) ∙ yes (eqb k 0)
  where
    yes : (x : Bool) → x || true ≡ true
    yes true = refl
    yes false = refl
either-way n k false h r e = go (eqb r n) refl (eqb r 0) refl e
  where
    none : (m : ℕ) → m ≡ 0 → eqb m m && (eqb m 0 || false) ≡ true
    none m f = rw f refl

    go : (x : Bool) → eqb r n ≡ x → (y : Bool) → eqb r 0 ≡ y → x && (y || false) ≡ true → eqb k k && (eqb k 0 || false) ≡ true
    go true d true g e = none k (omega (arith, eqb-true r n d, eqb-true r 0 g, h))
    go true d false g e = cc
    go false d y g e = cc

-- where rows leave and a step is made, still no step is allowed among those that are left
pub quiet-step : (store : List Row) (made : List Step) (ns : List (List ℕ)) (u : Step) → ((s : Step) → meeting (stored store) made s ≡ None)
    → AreDistinct (ids (standing (stored store))) → AreDistinct (ids (standing (stored (without ns store)))) → (s : Step) → meeting (stored (without ns store)) (made ++ u ∷ []) s ≡ None
quiet-step store made ns u quiet d e s = go (meeting (stored (without ns store)) (made ++ u ∷ []) s) refl
  where
    there : (z : Row) → Member z (stored_rows (stored (without ns store))) → Member z (stored_rows (stored store))
    there z m = member-left z store [] (left-there ns store z (subst (λ l. Member z l) (append_nothing (without ns store)) m))

    clash : (m : Meeting) → MadeBy (standing (stored (without ns store))) (made ++ u ∷ []) s m → ⊥
    clash m h = cc (
      quiet (again made s),
      makes (stored store) made (again made s) h.taken h.joined d h.differs h.ids
          (each-there _ _ h.taken (λ z i. no-more (stored (without ns store)) (stored store) z (there z)) h.there) h.joins
          (either-way (count_by (same_meeting s) (made ++ u ∷ [])) (count_by (same_meeting s) made) (stays h.joined.receiver.kind && all_persistent h.joined.sends)
          (counts-more (same_meeting s) made u) s.repeat (subst (λ x. right_repeat (made ++ u ∷ []) s x ≡ true) h.is h.repeats)),
    )

    go : (o : Option Meeting) → meeting (stored (without ns store)) (made ++ u ∷ []) s ≡ o → meeting (stored (without ns store)) (made ++ u ∷ []) s ≡ None
    go None g = g
    go (Some m) g = absurd (clash m (made_by (stored (without ns store)) (made ++ u ∷ []) s m e g))

-- a bag after a meeting of its rows: those leave that have the ids of the rows that leave
pub bag-left : (b : Bag) (qs : List Row) (q : Joined) (new : List Row) → AreDistinct (ids (standing b))
    → bag_after b (meeting_at (standing b) qs q) new ≡ record { kept = without (ids (leaving_rows q.receiver.kind q.sends qs)) b.kept; offered = without (ids (leaving_rows q.receiver.kind q.sends qs)) b.offered ++ new }
bag-left b qs q new h = cc (first, second)
  where
    ls : List Row
    ls = leaving_rows q.receiver.kind q.sends qs

    first : but_places (each (place_in (standing b)) (leaving_rows q.receiver.kind q.sends qs)) 0 b.kept ≡ without (ids (leaving_rows q.receiver.kind q.sends qs)) b.kept
    first = places-leave (leaving_rows q.receiver.kind q.sends qs) [] b.kept (stdout ∷ stdout_ack ∷ b.offered) h

    whole : (b.kept ++ (stdout ∷ stdout_ack ∷ [])) ++ (b.offered ++ []) ≡ standing b
    whole = append_assoc b.kept (stdout ∷ stdout_ack ∷ []) (b.offered ++ []) ∙ ap (λ l. b.kept ++ (stdout ∷ stdout_ack ∷ l)) (append_nothing b.offered)

    far : length (b.kept ++ (stdout ∷ stdout_ack ∷ [])) ≡ suc (suc (length b.kept))
    far = length-append b.kept (stdout ∷ stdout_ack ∷ []) ∙ omega arith

    second : but_places (each (place_in (standing b)) (leaving_rows q.receiver.kind q.sends qs)) (suc (suc (length b.kept))) b.offered ≡ without (ids (leaving_rows q.receiver.kind q.sends qs)) b.offered
    second = subst (λ n. but_places (each (place_in (standing b)) (leaving_rows q.receiver.kind q.sends qs)) n b.offered ≡ without (ids (leaving_rows q.receiver.kind q.sends qs)) b.offered) far
        (subst (λ l. but_places (each (place_in l) (leaving_rows q.receiver.kind q.sends qs)) (length (b.kept ++ (stdout ∷ stdout_ack ∷ []))) b.offered ≡ without (ids (leaving_rows q.receiver.kind q.sends qs)) b.offered) whole
        (places-leave (leaving_rows q.receiver.kind q.sends qs) (b.kept ++ (stdout ∷ stdout_ack ∷ [])) b.offered [] (subst (λ l. AreDistinct (ids l)) (sym whole) h)))
