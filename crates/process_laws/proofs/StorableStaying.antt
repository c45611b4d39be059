-- Rows that may be stored stay so from step to step, and what work offers may be stored.
use Rattle.std.proofs.Common.{◌≡◌, ◌≤◌, ℕ, suc, Bool, true, false, cond, ltb, List, [], ◌∷◌, length, refl, subst}
use Rattle.std.specs.Prelude.{Some, All, option_map}
use Rattle.std.proofs.lemmas.List.Elements.{All-nil, All-cons, All-head, All-tail}
use Rattle.calculus.proofs.Members.{Every, every-append, every-up}
use Rattle.calculus.specs.declared.fault.FaultKind.TheVariants as fault
use Rattle.calculus.specs.Tree.{Tree}
use Rattle.calculus.specs.Size.{height}
use Rattle.calculus.specs.Code.{code}
use Rattle.calculus.specs.Form.{part, Fits, IsClosed}
use Rattle.calculus.specs.Outcome.{Prices, Answer, gives, fails, unknown, Outcome, free, over, within, known, capped}
use Rattle.calculus.specs.Substitution.{put}
use Rattle.calculus.specs.Seeds.{digest_of, Comm}
use Rattle.calculus.specs.Log.{Step}
use Rattle.calculus.specs.Rows.{Row, row_length, stdout, stdout_ack}
use Rattle.calculus.specs.Storing.{IsStorable}
use Rattle.calculus.specs.Unfolding.{Product, a_row, a_fresh, rows_of, unfold_within, unfold_under, unfold_in}
use Rattle.calculus.specs.Steps.{Bag, Meeting, meeting, has_place, but_places, bag_after, stored_rows}
use Rattle.calculus.specs.Runs.{Deploy, Work, answer_products, work_products, State, body_work, moved, step_from, steps_from, begun, source_seed, first_state, Leads}
use Rattle.calculus.proofs.Candidates.{and_then-inv, map-inv}
use Rattle.calculus.proofs.Results.{Gives}
use Rattle.process_laws.specs.ClosedRowLaws.{AreClosedRows}
use Rattle.process_laws.proofs.Meeting.{IfThere, MeetingCloses, rows-close}
use Rattle.process_laws.proofs.ClosedRowStaying.{offers_are_closed, bodies_are_closed, closed_rows_stay}
use Rattle.process_laws.proofs.Storing.{storing_examples}
use Rattle.process_laws.specs.StorableLaws.{AreStorable, OffersAreStorable, BodiesOfferStorableRows, BuiltInReceiversAreStorable, StorableRowsStay, StorableRowsAreClosed, OffersAreShort}
use Rattle.process_laws.proofs.Offering.{IsReady, IsReadyThing, OffersReady, under-ready, unfold-ready}

pub all-from : {A : Type 0} (P : A → Type 0) (xs : List A) → Every P xs → All P xs
all-from P [] h = All-nil P
all-from P (x ∷ xs) h = All-cons P x xs h.0 (all-from P xs h.1)

every-from : {A : Type 0} (P : A → Type 0) (xs : List A) → All P xs → Every P xs
every-from P [] h = tt
every-from P (x ∷ xs) h = (All-head P x xs h, every-from P xs (All-tail P x xs h))

-- what is so of the things that an answer gives, and of none, is so of what work under a cap makes
work-makes : (Q : List Product → Type 0) → Q [] → (cap : ℕ) (o : Outcome (List Product)) (w : Work) → Gives Q o.answer → capped cap o ≡ Some w → Q (work_products w)
work-makes Q n cap o w h e = go (ltb cap o.price) o.answer refl h e
  where
    go : (b : Bool) (a : Answer (List Product)) → a ≡ o.answer → Gives Q a → cond b (Some over) (option_map within (known a o)) ≡ Some w → Q (work_products w)
    go true a d g e = let q : over ≡ w = cc (e) in subst (λ (v : Work). Q (work_products v)) q n
    go false (gives ts) d g e = let q : within o ≡ w = cc (e) in subst (λ (v : Work). Q (work_products v)) q (subst (λ (a : Answer (List Product)). Q (answer_products a)) d g)
    go false (fails f) d g e = let q : within o ≡ w = cc (e) in subst (λ (v : Work). Q (work_products v)) q (subst (λ (a : Answer (List Product)). Q (answer_products a)) d n)
    go false unknown d g e = cc

rows-ready : (ts : List Product) → Every IsReadyThing ts → Every IsReady (rows_of ts)
rows-ready [] h = tt
rows-ready (a_row r ∷ ts) h = (h.0, rows-ready ts h.1)
rows-ready (a_fresh x ∷ ts) h = rows-ready ts h.1

work-ready : (cap : ℕ) (o : Outcome (List Product)) (w : Work) → OffersReady o → capped cap o ≡ Some w → Every IsReady (rows_of (work_products w))
work-ready cap o w h e = rows-ready (work_products w) (work-makes (Every IsReadyThing) tt cap o w h e)

-- closed rows that are ready may be stored
closed-ready : (rs : List Row) → Every IsReady rs → AreClosedRows rs → AreStorable rs
closed-ready [] h k = All-nil IsStorable
closed-ready (r ∷ rs) h k = All-cons IsStorable r rs (h.0.1 k.0) (closed-ready rs h.1 k.1)

storable-ready : (rs : List Row) → AreStorable rs → Every IsReady rs
storable-ready rs h = every-up IsStorable IsReady (λ r s. (s.short, λ f. s)) rs (every-from IsStorable rs h)

pub built_in_receivers_are_storable : BuiltInReceiversAreStorable
built_in_receivers_are_storable = all-from IsStorable (stdout ∷ stdout_ack ∷ []) (storing_examples.prints, (storing_examples.prints_and_answers, tt))

pub storable_rows_are_closed : StorableRowsAreClosed
storable_rows_are_closed [] h = tt
storable_rows_are_closed (r ∷ rs) h = ((All-head IsStorable r rs h).closed.1.0, storable_rows_are_closed rs (All-tail IsStorable r rs h))

-- what is within the limits is unfolded, and of all else comes nothing
body-closed : (p : Prices) (cap : ℕ) (u : Tree) (s : List ℕ) (room : ℕ) (w : Work) → IsClosed u → (a b : Bool) → capped cap (unfold_within (unfold_in p room) s (cond a (fails fault.TooDeep) (cond b (fails fault.TooBig) (gives u)))) ≡ Some w → AreClosedRows (rows_of (work_products w))
body-closed p cap u s room w h true b e = work-makes (λ ts. AreClosedRows (rows_of ts)) tt cap (free (fails fault.TooDeep)) w tt e
body-closed p cap u s room w h false true e = work-makes (λ ts. AreClosedRows (rows_of ts)) tt cap (free (fails fault.TooBig)) w tt e
body-closed p cap u s room w h false false e = offers_are_closed p cap u s w h (room, e)

pub offers_are_storable : OffersAreStorable
offers_are_storable = record {
  process = λ p cap t s w h u. closed-ready (rows_of (work_products w)) (work-ready cap (unfold_in p u.0 t s) w (unfold-ready p u.0 t s) u.1) (offers_are_closed p cap t s w h u);
  body = λ p cap vs t s w h u. closed-ready (rows_of (work_products w)) (work-ready cap (unfold_under (unfold_in p u.0) s vs t) w (under-ready p (unfold_in p u.0) (unfold-ready p u.0) s vs t) u.1)
      (body-closed p cap (put vs t) s u.0 w h (ltb 400 (height (put vs t))) (ltb 1048576 (length (code (put vs t)))) u.1);
}

-- a row's length alone
abbrev IsShortRow : Row → Type 0
IsShortRow r = row_length r ≤ 1048576

short-from : (rs : List Row) → Every IsReady rs → All IsShortRow rs
short-from rs h = all-from IsShortRow rs (every-up IsReady IsShortRow (λ r k. k.0) rs h)

pub offers_are_short : OffersAreShort
offers_are_short = record {
  process = λ p cap t s w u. short-from (rows_of (work_products w)) (work-ready cap (unfold_in p u.0 t s) w (unfold-ready p u.0 t s) u.1);
  body = λ p cap vs t s w u. short-from (rows_of (work_products w)) (work-ready cap (unfold_under (unfold_in p u.0) s vs t) w (under-ready p (unfold_in p u.0) (unfold-ready p u.0) s vs t) u.1);
}

pub bodies_offer_storable_rows : BodiesOfferStorableRows
bodies_offer_storable_rows = record {
  of_step = λ b made s m h e p cap seed w u. offers_are_storable.body p cap m.bindings m.receiver.body seed w (bodies_are_closed b made s m (storable_rows_are_closed (stored_rows b) h) e) u;
  of_rows = λ hs m h e p cap seed w u.
      offers_are_storable.body p cap m.bindings m.receiver.body seed w (subst (IfThere MeetingCloses) e (rows-close hs (every-up (λ h. IsStorable h.1) (λ h. Fits part [] h.1.part) (λ h k. k.closed.1.0) hs (every-from (λ h. IsStorable h.1) hs h)))) u;
}

-- all rows of a bag are ready
abbrev IsReadyBag : Bag → Type 0
IsReadyBag b = Every IsReady b.kept × Every IsReady b.offered

but-ready : (ps : List ℕ) (i : ℕ) (rs : List Row) → Every IsReady rs → Every IsReady (but_places ps i rs)
but-ready ps i [] h = tt
but-ready ps i (r ∷ rs) h =
    elim (has_place ps i) as (λ (b : Bool). Every IsReady (cond b (but_places ps (suc i) rs) (r ∷ but_places ps (suc i) rs))) [ true ↦ but-ready ps (suc i) rs h.1 | false ↦ (h.0, but-ready ps (suc i) rs h.1) ]

after-ready : (b : Bag) (m : Meeting) (rs : List Row) → IsReadyBag b → Every IsReady rs → IsReadyBag (bag_after b m rs)
after-ready b m rs h k =
    (but-ready m.leaving 0 b.kept h.0, every-append IsReady (but_places m.leaving (suc (suc (length b.kept))) b.offered) rs (but-ready m.leaving (suc (suc (length b.kept))) b.offered h.1) k)

-- so are those of a state
abbrev IsReadyState : State → Type 0
IsReadyState a = IsReadyBag a.bag

module _ (p : Prices) (cap : ℕ) (room : ℕ) where
  body-ready : (s : Step) (m : Meeting) (w : Work) → body_work p cap room s m ≡ Some w → Every IsReady (rows_of (work_products w))
  body-ready s m w e =
      let seed : List ℕ = digest_of (Comm s.receiver s.data_ids s.repeat) in
      work-ready cap (unfold_under (unfold_in p room) seed m.bindings m.receiver.body) w (under-ready p (unfold_in p room) (unfold-ready p room) seed m.bindings m.receiver.body) e

  step-ready : (a b : State) (s : Step) → IsReadyState a → step_from p cap room a s ≡ Some b → IsReadyState b
  step-ready a b s h e =
      let i = and_then-inv (meeting a.bag a.made s) (λ m. option_map (moved a s m) (body_work p cap room s m)) b e in
      let j = map-inv (body_work p cap room s i.0) (moved a s i.0) b i.2 in
      subst IsReadyState j.2 (after-ready a.bag i.0 (rows_of (work_products j.0)) h (body-ready s i.0 j.0 j.1))

  steps-ready : (ss : List Step) (a b : State) → IsReadyState a → steps_from p cap room a ss ≡ Some b → IsReadyState b
  steps-ready [] a b h e = let q : a ≡ b = cc (e) in subst IsReadyState q h
  steps-ready (s ∷ ss) a b h e =
      let i = and_then-inv (step_from p cap room a s) (λ x. steps_from p cap room x ss) b e in
      steps-ready ss i.0 b (step-ready a i.0 s h i.1) i.2

first-ready : (d : Deploy) (room : ℕ) (a : State) → Every IsReady d.rows → first_state d room ≡ Some a → IsReadyState a
first-ready d room a h e =
    let i = map-inv (capped d.limit (unfold_in d.prices room d.process (source_seed d))) (begun d.rows) a e in
    subst IsReadyState i.2 (h, work-ready d.limit (unfold_in d.prices room d.process (source_seed d)) i.0 (unfold-ready d.prices room d.process (source_seed d)) i.1)

leads-ready : (d : Deploy) (ss : List Step) (a : State) → Every IsReady d.rows → Leads d ss a → IsReadyState a
leads-ready d ss a h l =
    let i = and_then-inv (first_state d l.0) (λ x. steps_from d.prices d.limit l.0 x ss) a l.1 in
    steps-ready d.prices d.limit l.0 ss i.0 a (first-ready d l.0 i.0 h i.1) i.2

pub storable_rows_stay : StorableRowsStay
storable_rows_stay d h is ss a l =
    let k = leads-ready d ss a (storable-ready d.rows h) l in
    closed-ready (stored_rows a.bag) (every-append IsReady a.bag.kept a.bag.offered k.0 k.1) (closed_rows_stay d (storable_rows_are_closed d.rows h) is ss a l)
