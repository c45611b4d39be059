-- Rows that are looked up by their ids, where no id stands twice.
use Rattle.std.proofs.Common.{◌≡◌, ◌≤◌, ℕ, suc, ◌+◌, Bool, true, false, cond, List, [], ◌∷◌, map as each, refl, ap, sym, ◌∙◌, subst, arith, inl, inr}
use Rattle.std.specs.Prelude.{flat_map, Option, Some, None, option_map, option_and_then}
use Rattle.std.specs.Str.{bytes_eq}
use Rattle.calculus.proofs.Members.{Member, Every}
use Rattle.calculus.specs.Log.{Step}
use Rattle.calculus.specs.Rows.{Row}
use Rattle.calculus.specs.Steps.{Bag, PlacedRow, standing, with_id, row_choices, differ, meet_for, first_there, meeting}
use Rattle.events.proofs.Counts.{ids, times, one_if, same_bytes, bytes_same, AreDistinct, member-times}

-- the row with this id that stands first
abbrev pub row_with : List ℕ → List Row → Option Row
row_with x [] = None
row_with x (r ∷ rs) = cond (bytes_eq x r.id) (Some r) (row_with x rs)

-- its place, the first of these rows having place i
abbrev pub place_of : List ℕ → ℕ → List Row → ℕ
place_of x i [] = i
place_of x i (r ∷ rs) = cond (bytes_eq x r.id) i (place_of x (suc i) rs)

-- the rows with these ids, where each is there
abbrev pub rows_with : List (List ℕ) → List Row → Option (List Row)
rows_with [] rs = Some []
rows_with (x ∷ xs) rs = option_and_then (λ r. option_map (λ qs. r ∷ qs) (rows_with xs rs)) (row_with x rs)

-- a row with its place among rows
abbrev pub held_in : List Row → Row → PlacedRow
held_in rs r = (place_of r.id 0 rs, r)

-- what an option holds, as a list
abbrev pub to_list : {A : Type 0} → Option A → List A
to_list None = []
to_list (Some x) = x ∷ []

absent : (x : List ℕ) (i : ℕ) (rs : List Row) → times x (ids rs) ≡ 0 → with_id x i rs ≡ []
absent x i [] e = refl
absent x i (r ∷ rs) e = go (absent x (suc i) rs) (bytes_eq x r.id) e
  where
    go : (times x (ids rs) ≡ 0 → with_id x (suc i) rs ≡ []) → (b : Bool) → one_if b + times x (ids rs) ≡ 0 → cond b ((i, r) ∷ with_id x (suc i) rs) (with_id x (suc i) rs) ≡ []
    go next true e = absurd (omega (arith, e))
    go next false e = next (omega (arith, e))

-- an id that stands at most once has one row at most
found : (x : List ℕ) (i : ℕ) (rs : List Row) → times x (ids rs) ≤ 1 → with_id x i rs ≡ to_list (option_map (λ r. (place_of x i rs, r)) (row_with x rs))
found x i [] h = refl
found x i (r ∷ rs) h = go (found x (suc i) rs) (bytes_eq x r.id) h
  where
    go : (times x (ids rs) ≤ 1 → with_id x (suc i) rs ≡ to_list (option_map (λ q. (place_of x (suc i) rs, q)) (row_with x rs)))
        → (b : Bool) → one_if b + times x (ids rs) ≤ 1
        → cond b ((i, r) ∷ with_id x (suc i) rs) (with_id x (suc i) rs) ≡ to_list (option_map (λ q. (cond b i (place_of x (suc i) rs), q)) (cond b (Some r) (row_with x rs)))
    go next true h = ap (λ l. (i, r) ∷ l) (absent x (suc i) rs (omega (arith, h)))
    go next false h = next (omega (arith, h))

-- the row with an id has it, and is among the rows
pub row_with-has : (x : List ℕ) (rs : List Row) (r : Row) → row_with x rs ≡ Some r → (x ≡ r.id) × Member r rs
row_with-has x [] r e = cc
row_with-has x (q ∷ rs) r e = go (row_with-has x rs r) (bytes_eq x q.id) refl e
  where
    go : (row_with x rs ≡ Some r → (x ≡ r.id) × Member r rs) → (b : Bool) → bytes_eq x q.id ≡ b → cond b (Some q) (row_with x rs) ≡ Some r → (x ≡ r.id) × Member r (q ∷ rs)
    go next true d e = let same : q ≡ r = cc e in (bytes_same x q.id d ∙ ap (λ z. z.id) same, inl (sym same))
    go next false d e = let h = next e in (h.0, inr h.1)

-- a row that is there is the one with its id
pub row_with-there : (r : Row) (rs : List Row) → AreDistinct (ids rs) → Member r rs → row_with r.id rs ≡ Some r
row_with-there r [] h m = absurd m
row_with-there r (q ∷ rs) h (inl e) = subst (λ z. cond (bytes_eq r.id z.id) (Some z) (row_with r.id rs) ≡ Some r) e (rw (same_bytes r.id r.id refl) refl)
row_with-there r (q ∷ rs) h (inr m) = go (row_with-there r rs (λ x. omega (arith, h x)) m) (bytes_eq r.id q.id) refl
  where
    go : row_with r.id rs ≡ Some r → (b : Bool) → bytes_eq r.id q.id ≡ b → cond b (Some q) (row_with r.id rs) ≡ Some r
    go next true d = absurd (omega (arith, h r.id, member-times r rs m, ap one_if d))
    go next false d = next

-- the rows with these ids have them, and are among the rows
pub rows_with-have : (xs : List (List ℕ)) (rs qs : List Row) → rows_with xs rs ≡ Some qs → (xs ≡ ids qs) × Every (λ q. Member q rs) qs
rows_with-have [] rs qs e = subst (λ l. ([] ≡ ids l) × Every (λ q. Member q rs) l) (inside e) (refl, tt)
  where
    inside : Some [] ≡ Some qs → [] ≡ qs
    inside e = cc
rows_with-have (x ∷ xs) rs qs e = go (rows_with-have xs rs) (row_with x rs) refl (rows_with xs rs) refl e
  where
    go : ((zs : List Row) → rows_with xs rs ≡ Some zs → (xs ≡ ids zs) × Every (λ q. Member q rs) zs)
        → (o : Option Row) → row_with x rs ≡ o → (os : Option (List Row)) → rows_with xs rs ≡ os
        → option_and_then (λ r. option_map (λ zs. r ∷ zs) os) o ≡ Some qs → (x ∷ xs ≡ ids qs) × Every (λ q. Member q rs) qs
    go next None d os f e = cc
    go next (Some r) d None f e = cc
    go next (Some r) d (Some zs) f e =
        let k = next zs f in
        let m = row_with-has x rs r d in
        let same : r ∷ zs ≡ qs = cc e in
        subst (λ l. (x ∷ xs ≡ ids l) × Every (λ q. Member q rs) l) same (cc (m.0, k.0), (m.1, k.1))

-- rows that are there are those with their ids
pub rows_with-there : (qs rs : List Row) → AreDistinct (ids rs) → Every (λ q. Member q rs) qs → rows_with (ids qs) rs ≡ Some qs
rows_with-there [] rs h k = refl
rows_with-there (q ∷ qs) rs h k = rw (row_with-there q rs h k.0, rows_with-there qs rs h k.1) refl

-- all choices of rows for ids are one at most
one_choice : (xs : List (List ℕ)) (rs : List Row) → AreDistinct (ids rs) → row_choices rs xs ≡ to_list (option_map (each (held_in rs)) (rows_with xs rs))
one_choice [] rs h = refl
one_choice (x ∷ xs) rs h =
    ap (λ l. flat_map (λ r. each (λ zs. r ∷ zs) (row_choices rs xs)) l) (found x 0 rs (h x)) ∙ go (row_with x rs) refl (rows_with xs rs) (one_choice xs rs h)
  where
    go : (o : Option Row) → row_with x rs ≡ o → (os : Option (List Row)) → row_choices rs xs ≡ to_list (option_map (each (held_in rs)) os)
        → flat_map (λ r. each (λ zs. r ∷ zs) (row_choices rs xs)) (to_list (option_map (λ r. (place_of x 0 rs, r)) o))
        ≡ to_list (option_map (each (held_in rs)) (option_and_then (λ r. option_map (λ qs. r ∷ qs) os) o))
    go None d os f = refl
    go (Some r) d None f = rw f refl
    go (Some r) d (Some qs) f = rw f (ap (λ y. ((place_of y 0 rs, r) ∷ each (held_in rs) qs) ∷ []) (row_with-has x rs r d).0)

first-of-one : {A B : Type 0} (f : A → Option B) (o : Option A) → first_there (each f (to_list o)) ≡ option_and_then f o
first-of-one f None = refl
first-of-one f (Some x) = go (f x)
  where
    go : {B : Type 0} (y : Option B) → first_there (y ∷ []) ≡ y
    go None = refl
    go (Some z) = refl

-- how a step is made where no id stands twice: with the rows that have its ids
pub meeting-of-rows : (b : Bag) (made : List Step) (s : Step) → AreDistinct (ids (standing b))
    → meeting b made s ≡ cond (differ s.data_ids) (option_and_then (meet_for made s) (option_map (each (held_in (standing b))) (rows_with (s.receiver ∷ s.data_ids) (standing b)))) None
unfolding meeting
meeting-of-rows b made s h =
    ap (λ o. cond (differ s.data_ids) o None)
    (ap (λ l. first_there (each (meet_for made s) l)) (one_choice (s.receiver ∷ s.data_ids) (standing b) h)
    ∙ first-of-one (meet_for made s) (option_map (each (held_in (standing b))) (rows_with (s.receiver ∷ s.data_ids) (standing b))))
