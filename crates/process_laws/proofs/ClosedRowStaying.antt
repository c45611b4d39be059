-- Rows of states that lists of steps lead to are closed.
use Rattle.std.proofs.Common.{◌≡◌, ℕ, suc, Bool, true, false, cond, ltb, List, [], ◌∷◌, ◌++◌, length, refl, subst}
use Rattle.std.specs.Prelude.{Option, Some, None, option_map, option_and_then}
use Rattle.calculus.proofs.Members.{Every, every-append}
use Rattle.calculus.specs.Form.{IsClosed}
use Rattle.calculus.specs.Outcome.{Prices, Answer, gives, fails, unknown, Outcome, over, within, known, capped}
use Rattle.calculus.specs.Substitution.{put}
use Rattle.calculus.specs.Seeds.{digest_of, Comm}
use Rattle.calculus.specs.Log.{Step}
use Rattle.calculus.specs.Rows.{Row}
use Rattle.calculus.specs.Unfolding.{Product, a_row, a_fresh, rows_of, unfold_under, unfold_in}
use Rattle.calculus.specs.Steps.{Bag, Meeting, meeting, has_place, but_places, bag_after, stored_rows}
use Rattle.calculus.specs.Runs.{source_seed, Deploy, Work, work_products, State, body_work, moved, step_from, steps_from, begun, first_state, Leads}
use Rattle.calculus.proofs.Results.{Gives}
use Rattle.process_laws.specs.ClosedRowLaws.{AreClosedRows, OffersAreClosed, BodiesAreClosed, ClosedRowsStay}
use Rattle.process_laws.proofs.Keeping.{IsClosedThing, OffersClosed, within-offers, unfold-offers}
use Rattle.process_laws.proofs.Meeting.{IfThere, IsClosedRow, MeetingCloses, standing-closed, meeting-closes}

-- all rows of a bag are closed
abbrev IsClosedBag : Bag → Type 0
IsClosedBag b = Every IsClosedRow b.kept × Every IsClosedRow b.offered

bodies-close : (b : Bag) (made : List Step) (s : Step) → IsClosedBag b → IfThere MeetingCloses (meeting b made s)
bodies-close b made s h = meeting-closes b made s (standing-closed b h.0 h.1)

but-closed : (ps : List ℕ) (i : ℕ) (rs : List Row) → Every IsClosedRow rs → Every IsClosedRow (but_places ps i rs)
but-closed ps i [] h = tt
but-closed ps i (r ∷ rs) h =
    elim (has_place ps i) as (λ (b : Bool). Every IsClosedRow (cond b (but_places ps (suc i) rs) (r ∷ but_places ps (suc i) rs))) [ true ↦ but-closed ps (suc i) rs h.1 | false ↦ (h.0, but-closed ps (suc i) rs h.1) ]

after-closed : (b : Bag) (m : Meeting) (rs : List Row) → IsClosedBag b → Every IsClosedRow rs → IsClosedBag (bag_after b m rs)
after-closed b m rs h k =
    (but-closed m.leaving 0 b.kept h.0, every-append IsClosedRow (but_places m.leaving (suc (suc (length b.kept))) b.offered) rs (but-closed m.leaving (suc (suc (length b.kept))) b.offered h.1) k)

things-rows : (ts : List Product) → Every IsClosedThing ts → Every IsClosedRow (rows_of ts)
things-rows [] h = tt
things-rows (a_row r ∷ ts) h = (h.0, things-rows ts h.1)
things-rows (a_fresh x ∷ ts) h = things-rows ts h.1

work-closed : (most : ℕ) (o : Outcome (List Product)) (w : Work) → OffersClosed o → capped most o ≡ Some w → Every IsClosedRow (rows_of (work_products w))
work-closed most o w h e = go (ltb most o.price) o.price o.answer h e
  where
    over-closed : Some over ≡ Some w → Every IsClosedRow (rows_of (work_products w))
    over-closed e = let q : over ≡ w = cc (e) in subst (λ (v : Work). Every IsClosedRow (rows_of (work_products v))) q tt

    within-closed : (n : ℕ) (a : Answer (List Product)) → Gives (Every IsClosedThing) a → Some (within (record { price = n; answer = a })) ≡ Some w → Every IsClosedRow (rows_of (work_products w))
    within-closed n a g e = let q : within (record { price = n; answer = a }) ≡ w = cc (e) in subst (λ (v : Work). Every IsClosedRow (rows_of (work_products v))) q (of-answer a g)
      where
        of-answer : (a : Answer (List Product)) → Gives (Every IsClosedThing) a → Every IsClosedRow (rows_of (work_products (within (record { price = n; answer = a }))))
        of-answer (gives ts) g = things-rows ts g
        of-answer (fails f) g = tt
        of-answer unknown g = tt

    go : (b : Bool) (n : ℕ) (a : Answer (List Product)) → Gives (Every IsClosedThing) a → cond b (Some over) (option_map within (known a (record { price = n; answer = a }))) ≡ Some w → Every IsClosedRow (rows_of (work_products w))
    go true n a g e = over-closed e
    go false n (gives ts) g e = within-closed n (gives ts) g e
    go false n (fails f) g e = within-closed n (fails f) g e
    go false n unknown g e = cc

closed-rows : (rs : List Row) → AreClosedRows rs → Every IsClosedRow rs
closed-rows [] h = tt
closed-rows (r ∷ rs) h = (h.0, closed-rows rs h.1)

are-closed : (rs : List Row) → Every IsClosedRow rs → AreClosedRows rs
are-closed [] h = tt
are-closed (r ∷ rs) h = (h.0, are-closed rs h.1)

pub offers_are_closed : OffersAreClosed
offers_are_closed p most t s w is u = are-closed (rows_of (work_products w)) (work-closed most (unfold_in p u.0 t s) w (unfold-offers p u.0 t s is) u.1)

-- the rows of a bag, one list after the other
split-rows : (xs ys : List Row) → AreClosedRows (xs ++ ys) → Every IsClosedRow xs × Every IsClosedRow ys
split-rows [] ys h = (tt, closed-rows ys h)
split-rows (x ∷ xs) ys h = let k = split-rows xs ys h.1 in ((h.0, k.0), k.1)

pub bodies_are_closed : BodiesAreClosed
bodies_are_closed b made s m h e = subst (IfThere MeetingCloses) e (bodies-close b made s (split-rows b.kept b.offered h))

-- so are those of a state
abbrev IsClosedState : State → Type 0
IsClosedState a = IsClosedBag a.bag

module _ (p : Prices) (most : ℕ) where
  body-closed : (room : ℕ) (s : Step) (m : Meeting) (w : Work) → MeetingCloses m → body_work p most room s m ≡ Some w → Every IsClosedRow (rows_of (work_products w))
  body-closed room s m w k e =
      let seed = digest_of (Comm s.receiver s.data_ids s.repeat) in
      work-closed most (unfold_under (unfold_in p room) seed m.bindings m.receiver.body) w (within-offers p room (unfold-offers p room) (put m.bindings m.receiver.body) seed k) e

  moved-closed : (a : State) (s : Step) (m : Meeting) (w : Work) → IsClosedState a → Every IsClosedRow (rows_of (work_products w)) → IsClosedState (moved a s m w)
  moved-closed a s m w h k = after-closed a.bag m (rows_of (work_products w)) h k

  step-closed : (room : ℕ) (a b : State) (s : Step) → IsClosedState a → step_from p most room a s ≡ Some b → IsClosedState b
  step-closed room a b s h e = go (meeting a.bag a.made s) (bodies-close a.bag a.made s h) e
    where
      of-work : (m : Meeting) → MeetingCloses m → (o : Option Work) → body_work p most room s m ≡ o → option_map (moved a s m) o ≡ Some b → IsClosedState b
      of-work m k None d e = cc
      of-work m k (Some w) d e = let q : moved a s m w ≡ b = cc (e) in subst (λ (x : State). IsClosedState x) q (moved-closed a s m w h (body-closed room s m w k d))

      go : (o : Option Meeting) → IfThere MeetingCloses o → option_and_then (λ m. option_map (moved a s m) (body_work p most room s m)) o ≡ Some b → IsClosedState b
      go None k e = cc
      go (Some m) k e = of-work m k (body_work p most room s m) refl e

  steps-closed : (room : ℕ) (a b : State) (ss : List Step) → IsClosedState a → steps_from p most room a ss ≡ Some b → IsClosedState b
  steps-closed room a b [] h e = let q : a ≡ b = cc (e) in subst (λ (x : State). IsClosedState x) q h
  steps-closed room a b (s ∷ ss) h e = go (λ x k f. steps-closed room x b ss k f) (step_from p most room a s) refl e
    where
      go : ((x : State) → IsClosedState x → steps_from p most room x ss ≡ Some b → IsClosedState b) → (o : Option State) → step_from p most room a s ≡ o → option_and_then (λ x. steps_from p most room x ss) o ≡ Some b → IsClosedState b
      go next None d e = cc
      go next (Some x) d e = next x (step-closed room a x s h d) e

module _ (deploy : Deploy) (closed : AreClosedRows deploy.rows) (is : IsClosed deploy.process) where
  begin-closed : (room : ℕ) (a : State) → first_state deploy room ≡ Some a → IsClosedState a
  begin-closed room a e = go (capped deploy.limit (unfold_in deploy.prices room deploy.process (source_seed deploy))) refl e
    where
      begun-closed : (w : Work) → Every IsClosedRow (rows_of (work_products w)) → IsClosedState (begun deploy.rows w)
      begun-closed w k = (closed-rows deploy.rows closed, k)

      go : (o : Option Work) → capped deploy.limit (unfold_in deploy.prices room deploy.process (source_seed deploy)) ≡ o → option_map (begun deploy.rows) o ≡ Some a → IsClosedState a
      go None d e = cc
      go (Some w) d e =
          let q : begun deploy.rows w ≡ a = cc (e) in
          subst (λ (x : State). IsClosedState x) q (begun-closed w (work-closed deploy.limit (unfold_in deploy.prices room deploy.process (source_seed deploy)) w (unfold-offers deploy.prices room deploy.process (source_seed deploy) is) d))

  leads-closed : (ss : List Step) (a : State) → Leads deploy ss a → IsClosedState a
  leads-closed ss a h = go (first_state deploy h.0) refl h.1
    where
      go : (o : Option State) → first_state deploy h.0 ≡ o → option_and_then (λ x. steps_from deploy.prices deploy.limit h.0 x ss) o ≡ Some a → IsClosedState a
      go None d e = cc
      go (Some x) d e = steps-closed deploy.prices deploy.limit h.0 x a ss (begin-closed h.0 x d) e

pub closed_rows_stay : ClosedRowsStay
closed_rows_stay deploy closed is ss a h =
    let k = leads-closed deploy closed is ss a h in
    are-closed (stored_rows a.bag) (every-append IsClosedRow a.bag.kept a.bag.offered k.0 k.1)
