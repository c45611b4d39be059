-- How rows meet, whatever bag they stand in.
use Rattle.std.proofs.Common.{◌≡◌, ℕ, Bool, true, false, ◌||◌, cond, List, [], ◌∷◌, ◌++◌, map as each, refl, ap, sym, ◌∙◌, subst}
use Rattle.std.specs.Prelude.{Option, Some, None, option_map, option_and_then}
use Rattle.calculus.proofs.Members.{Member, Every}
use Rattle.calculus.specs.declared.plain.Kind.{Kind}
use Rattle.calculus.specs.Log.{Step}
use Rattle.calculus.specs.Rows.{Row}
use Rattle.calculus.specs.Matching.{Bindings}
use Rattle.calculus.specs.Steps.{Bag, PlacedRow, Receiver, Datum, Meeting, standing, differ, as_receiver, as_datum, as_data, all_bindings, stays, peeks, receiver_leaving, data_leaving, meet, meet_rows, right_repeat, meet_for, meeting}
use Rattle.events.proofs.Counts.{ids, AreDistinct}
use Rattle.events.specs.Found.{leaving_rows, leaving_sends}
use Rattle.events.proofs.Lookups.{place_of, rows_with, held_in, rows_with-have, rows_with-there, meeting-of-rows}

-- a receiver with data that its binds match, and what is bound
pub record Joined : Type 0 where
  pub receiver : Receiver
  pub sends : List Datum
  pub bindings : Bindings

-- rows as data, where each is one
abbrev pub as_facts : List Row → Option (List Datum)
as_facts [] = Some []
as_facts (r ∷ rs) = option_and_then (λ d. option_and_then (λ ds. Some (d ∷ ds)) (as_facts rs)) (as_datum r.part)

-- a row with other rows as its data, where they meet
abbrev pub join : List Row → Option Joined
join [] = None
join (r ∷ rs) = option_and_then (λ c. option_and_then (λ ds. option_and_then (λ xs. Some (record { receiver = c; sends = ds; bindings = xs })) (all_bindings c.binds ds)) (as_facts rs)) (as_receiver r.part)

-- the place of a row among rows
abbrev pub place_in : List Row → Row → ℕ
place_in b r = place_of r.id 0 b

-- the place of the first of these rows
abbrev pub first_place : (Row → ℕ) → List Row → ℕ
first_place g [] = 0
first_place g (r ∷ rs) = g r

-- a meeting of rows that stand at these places
abbrev pub meeting_with : (Row → ℕ) → List Row → Joined → Meeting
meeting_with g rs q = record { receiver = q.receiver; place = first_place g rs; sends = q.sends; bindings = q.bindings; leaving = each g (leaving_rows q.receiver.kind q.sends rs) }

-- a meeting of rows of a bag
abbrev pub meeting_at : List Row → List Row → Joined → Meeting
meeting_at b rs q = meeting_with (place_in b) rs q

-- a row with its place
abbrev pub held_by : (Row → ℕ) → Row → PlacedRow
held_by g r = (g r, r)

facts-of : (g : Row → ℕ) (rs : List Row) → as_data (each (held_by g) rs) ≡ as_facts rs
facts-of g [] = refl
facts-of g (r ∷ rs) = ap (λ o. option_and_then (λ d. option_and_then (λ ds. Some (d ∷ ds)) o) (as_datum r.part)) (facts-of g rs)

leaving-of : (g : Row → ℕ) (k : Kind) (rs : List Row) (ds : List Datum) → data_leaving k (each (held_by g) rs) ds ≡ each g (leaving_sends k rs ds)
leaving-of g k [] ds = refl
leaving-of g k (r ∷ rs) [] = refl
leaving-of g k (r ∷ rs) (d ∷ ds) = go (peeks k || d.persistent) (leaving-of g k rs ds)
  where
    go : (c : Bool) → data_leaving k (each (held_by g) rs) ds ≡ each g (leaving_sends k rs ds)
        → cond c (data_leaving k (each (held_by g) rs) ds) (g r ∷ data_leaving k (each (held_by g) rs) ds) ≡ each g (cond c (leaving_sends k rs ds) (r ∷ leaving_sends k rs ds))
    go true e = e
    go false e = ap (λ l. g r ∷ l) e

all-leaving-of : (g : Row → ℕ) (q : Joined) (r : Row) (rs : List Row)
    → receiver_leaving q.receiver.kind (held_by g r) ++ data_leaving q.receiver.kind (each (held_by g) rs) q.sends ≡ each g (leaving_rows q.receiver.kind q.sends (r ∷ rs))
all-leaving-of g q r rs = go (stays q.receiver.kind) (leaving-of g q.receiver.kind rs q.sends)
  where
    go : (c : Bool) → data_leaving q.receiver.kind (each (held_by g) rs) q.sends ≡ each g (leaving_sends q.receiver.kind rs q.sends)
        → cond c [] (g r ∷ []) ++ data_leaving q.receiver.kind (each (held_by g) rs) q.sends ≡ each g (cond c [] (r ∷ []) ++ leaving_sends q.receiver.kind rs q.sends)
    go true e = e
    go false e = ap (λ l. g r ∷ l) e

-- rows meet as they do by themselves, wherever they stand
pub meet_rows-of : (g : Row → ℕ) (rs : List Row) → meet_rows (each (held_by g) rs) ≡ option_map (meeting_with g rs) (join rs)
meet_rows-of g [] = refl
meet_rows-of g (r ∷ rs) = go (as_receiver r.part)
  where
    taken : (c : Receiver) (ds : List Datum) (o : Option Bindings)
        → option_and_then (λ xs. Some (record { receiver = c; place = g r; sends = ds; bindings = xs; leaving = receiver_leaving c.kind (held_by g r) ++ data_leaving c.kind (each (held_by g) rs) ds })) o
        ≡ option_map (meeting_with g (r ∷ rs)) (option_and_then (λ xs. Some (record { receiver = c; sends = ds; bindings = xs })) o)
    taken c ds None = refl
    taken c ds (Some xs) = ap (λ l. Some (record { receiver = c; place = g r; sends = ds; bindings = xs; leaving = l })) (all-leaving-of g (record { receiver = c; sends = ds; bindings = xs }) r rs)

    sends : (c : Receiver) (o : Option (List Datum))
        → option_and_then (meet (held_by g r) (each (held_by g) rs) c) o
        ≡ option_map (meeting_with g (r ∷ rs)) (option_and_then (λ ds. option_and_then (λ xs. Some (record { receiver = c; sends = ds; bindings = xs })) (all_bindings c.binds ds)) o)
    sends c None = refl
    sends c (Some ds) = taken c ds (all_bindings c.binds ds)

    go : (o : Option Receiver)
        → option_and_then (λ c. option_and_then (meet (held_by g r) (each (held_by g) rs) c) (as_data (each (held_by g) rs))) o
        ≡ option_map (meeting_with g (r ∷ rs)) (option_and_then (λ c. option_and_then (λ ds. option_and_then (λ xs. Some (record { receiver = c; sends = ds; bindings = xs })) (all_bindings c.binds ds)) (as_facts rs)) o)
    go None = refl
    go (Some c) = ap (λ o. option_and_then (meet (held_by g r) (each (held_by g) rs) c) o) (facts-of g rs) ∙ sends c (as_facts rs)

-- the rows by which a step is made in a bag
pub record MadeBy (rows : List Row) (made : List Step) (s : Step) (m : Meeting) : Type 0 where
  pub taken : List Row
  pub joined : Joined
  pub ids : s.receiver ∷ s.data_ids ≡ ids taken
  pub there : Every (λ r. Member r rows) taken
  pub joins : join taken ≡ Some joined
  pub is : m ≡ meeting_at rows taken joined
  pub repeats : right_repeat made s m ≡ true
  pub differs : differ s.data_ids ≡ true

pub made_by : (b : Bag) (made : List Step) (s : Step) (m : Meeting) → AreDistinct (ids (standing b)) → meeting b made s ≡ Some m → MadeBy (standing b) made s m
made_by b made s m h e = start (differ s.data_ids) refl (sym (meeting-of-rows b made s h) ∙ e)
  where
    ends : (qs : List Row) (q : Joined) → differ s.data_ids ≡ true → rows_with (s.receiver ∷ s.data_ids) (standing b) ≡ Some qs → join qs ≡ Some q
        → (t : Bool) → right_repeat made s (meeting_at (standing b) qs q) ≡ t → cond t (Some (meeting_at (standing b) qs q)) None ≡ Some m → MadeBy (standing b) made s m
    ends qs q d k j false r f = cc
    ends qs q d k j true r f =
        let same : meeting_at (standing b) qs q ≡ m = cc f in
        let have = rows_with-have (s.receiver ∷ s.data_ids) (standing b) qs k in
        record { taken = qs; joined = q; ids = have.0; there = have.1; joins = j; is = sym same; repeats = subst (λ x. right_repeat made s x ≡ true) same r; differs = d }

    joins : (qs : List Row) → differ s.data_ids ≡ true → rows_with (s.receiver ∷ s.data_ids) (standing b) ≡ Some qs
        → (o : Option Joined) → join qs ≡ o → option_and_then (λ x. cond (right_repeat made s x) (Some x) None) (option_map (meeting_at (standing b) qs) o) ≡ Some m → MadeBy (standing b) made s m
    joins qs d k None j f = cc
    joins qs d k (Some q) j f = ends qs q d k j (right_repeat made s (meeting_at (standing b) qs q)) refl f

    finds : differ s.data_ids ≡ true → (o : Option (List Row)) → rows_with (s.receiver ∷ s.data_ids) (standing b) ≡ o
        → option_and_then (meet_for made s) (option_map (each (held_in (standing b))) o) ≡ Some m → MadeBy (standing b) made s m
    finds d None k f = cc
    finds d (Some qs) k f = joins qs d k (join qs) refl (sym (ap (λ o. option_and_then (λ x. cond (right_repeat made s x) (Some x) None) o) (meet_rows-of (place_in (standing b)) qs)) ∙ f)

    start : (t : Bool) → differ s.data_ids ≡ t
        → cond t (option_and_then (meet_for made s) (option_map (each (held_in (standing b))) (rows_with (s.receiver ∷ s.data_ids) (standing b)))) None ≡ Some m → MadeBy (standing b) made s m
    start false d f = cc
    start true d f = finds d (rows_with (s.receiver ∷ s.data_ids) (standing b)) refl f

-- rows of a bag that meet make a step
pub makes : (b : Bag) (made : List Step) (s : Step) (qs : List Row) (q : Joined) → AreDistinct (ids (standing b)) → differ s.data_ids ≡ true
    → s.receiver ∷ s.data_ids ≡ ids qs → Every (λ r. Member r (standing b)) qs → join qs ≡ Some q → right_repeat made s (meeting_at (standing b) qs q) ≡ true
    → meeting b made s ≡ Some (meeting_at (standing b) qs q)
makes b made s qs q h d i t j r =
    meeting-of-rows b made s h
    ∙ ap (λ c. cond c (option_and_then (meet_for made s) (option_map (each (held_in (standing b))) (rows_with (s.receiver ∷ s.data_ids) (standing b)))) None) d
    ∙ ap (λ o. option_and_then (meet_for made s) (option_map (each (held_in (standing b))) o)) (ap (λ l. rows_with l (standing b)) i ∙ rows_with-there qs (standing b) h t)
    ∙ ap (λ o. option_and_then (λ x. cond (right_repeat made s x) (Some x) None) o) (meet_rows-of (place_in (standing b)) qs ∙ ap (option_map (meeting_at (standing b) qs)) j)
    ∙ ap (λ c. cond c (Some (meeting_at (standing b) qs q)) None) r
