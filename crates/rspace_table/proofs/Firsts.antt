-- The first rows with their ids.
use Rattle.std.proofs.Common.{◌≡◌, ℕ, Bool, true, false, cond, ◌||◌, List, [], ◌∷◌, ◌++◌, refl, sym, ap, subst, ◌∙◌, inl, inr}
use Rattle.std.specs.Prelude.{filter, Option, Some, None}
use Rattle.std.specs.Str.{bytes_eq}
use Rattle.calculus.proofs.Members.{Member}
use Rattle.calculus.specs.Rows.{Row}
use Rattle.calculus.specs.Steps.{is_one_of}
use Rattle.events.specs.Found.{without}
use Rattle.events.proofs.Counts.{same_bytes, bytes_same}
use Rattle.row_search.specs.Rows.{row_with}
use Rattle.rspace_table.specs.Hands.{firsts}

-- a row that is not taken out
pub stays-in : (xs : List (List ℕ)) (rs : List Row) (r : Row) → Member r rs → is_one_of r.id xs ≡ false → Member r (without xs rs)
stays-in xs [] r m e = m
stays-in xs (q ∷ rs) r m e = go (stays-in xs rs r) (is_one_of q.id xs) refl m
  where
    go : (Member r rs → is_one_of r.id xs ≡ false → Member r (without xs rs)) → (b : Bool) → is_one_of q.id xs ≡ b → Member r (q ∷ rs) → Member r (cond b (without xs rs) (q ∷ without xs rs))
    go next true d (inl s) = absurd (no (sym d ∙ ap (λ z. is_one_of z.id xs) (sym s) ∙ e))
      where
        no : true ≡ false → ⊥
        no z = cc z
    go next true d (inr m) = next m e
    go next false d (inl s) = inl s
    go next false d (inr m) = inr (next m e)

pub was-in : (xs : List (List ℕ)) (rs : List Row) (r : Row) → Member r (without xs rs) → Member r rs × (is_one_of r.id xs ≡ false)
was-in xs [] r m = absurd m
was-in xs (q ∷ rs) r m = go (was-in xs rs r) (is_one_of q.id xs) refl m
  where
    go : (Member r (without xs rs) → Member r rs × (is_one_of r.id xs ≡ false)) → (b : Bool) → is_one_of q.id xs ≡ b → Member r (cond b (without xs rs) (q ∷ without xs rs)) → Member r (q ∷ rs) × (is_one_of r.id xs ≡ false)
    go next true d m = let k = next m in (inr k.0, k.1)
    go next false d (inl s) = (inl s, ap (λ z. is_one_of z.id xs) s ∙ d)
    go next false d (inr m) = let k = next m in (inr k.0, k.1)

-- the first of these, and of the others where there is none
abbrev pub first_of : Option Row → Option Row → Option Row
first_of None o = o
first_of (Some r) o = Some r

-- a row, if a test holds of it
abbrev pub picked : (Row → Bool) → Option Row → Option Row
picked p None = None
picked p (Some r) = cond (p r) (Some r) None

pub row-join : (x : List ℕ) (rs qs : List Row) → row_with x (rs ++ qs) ≡ first_of (row_with x rs) (row_with x qs)
row-join x [] qs = refl
row-join x (r ∷ rs) qs = go (bytes_eq x r.id) (row-join x rs qs)
  where
    go : (b : Bool) → row_with x (rs ++ qs) ≡ first_of (row_with x rs) (row_with x qs) → cond b (Some r) (row_with x (rs ++ qs)) ≡ first_of (cond b (Some r) (row_with x rs)) (row_with x qs)
    go true e = refl
    go false e = e

alone : (r : Row) (y : List ℕ) (b : Bool) → bytes_eq r.id y ≡ b → is_one_of r.id (y ∷ []) ≡ b
alone r y true e = ap (λ c. c || false) e
alone r y false e = ap (λ c. c || false) e

-- another row is found where this one is taken out, and this one is not
others : (p : Row → Bool) (x y : List ℕ) (rs : List Row) → bytes_eq x y ≡ false → row_with x (filter p (without (y ∷ []) rs)) ≡ row_with x (filter p rs)
others p x y [] e = refl
others p x y (r ∷ rs) e = go (bytes_eq r.id y) refl (p r) refl (others p x y rs e)
  where
    no : true ≡ false → ⊥
    no z = cc z

    apart : bytes_eq r.id y ≡ true → (b : Bool) → bytes_eq x r.id ≡ b → b ≡ false
    apart d true f = absurd (no (sym (same_bytes x y (bytes_same x r.id f ∙ bytes_same r.id y d)) ∙ e))
    apart d false f = refl

    go : (b : Bool) → bytes_eq r.id y ≡ b → (c : Bool) → p r ≡ c → row_with x (filter p (without (y ∷ []) rs)) ≡ row_with x (filter p rs)
        → row_with x (filter p (cond (b || false) (without (y ∷ []) rs) (r ∷ without (y ∷ []) rs))) ≡ row_with x (cond c (r ∷ filter p rs) (filter p rs))
    go true d true f n = n ∙ sym (ap (λ z. cond z (Some r) (row_with x (filter p rs))) (apart d (bytes_eq x r.id) refl))
    go true d false f n = n
    go false d true f n = ap (λ c. row_with x (cond c (r ∷ filter p (without (y ∷ []) rs)) (filter p (without (y ∷ []) rs)))) f ∙ ap (λ o. cond (bytes_eq x r.id) (Some r) o) n
    go false d false f n = ap (λ c. row_with x (cond c (r ∷ filter p (without (y ∷ []) rs)) (filter p (without (y ∷ []) rs)))) f ∙ n

gone : (p : Row → Bool) (x : List ℕ) (rs : List Row) → row_with x (filter p (without (x ∷ []) rs)) ≡ None
gone p x [] = refl
gone p x (r ∷ rs) = go (bytes_eq r.id x) refl (p r) refl (gone p x rs)
  where
    turned : bytes_eq r.id x ≡ false → (b : Bool) → bytes_eq x r.id ≡ b → b ≡ false
    turned d true f = absurd (no (sym (same_bytes r.id x (sym (bytes_same x r.id f))) ∙ d))
      where
        no : true ≡ false → ⊥
        no z = cc z
    turned d false f = refl

    go : (b : Bool) → bytes_eq r.id x ≡ b → (c : Bool) → p r ≡ c → row_with x (filter p (without (x ∷ []) rs)) ≡ None → row_with x (filter p (cond (b || false) (without (x ∷ []) rs) (r ∷ without (x ∷ []) rs))) ≡ None
    go true d c f n = n
    go false d true f n = ap (λ c. row_with x (cond c (r ∷ filter p (without (x ∷ []) rs)) (filter p (without (x ∷ []) rs)))) f ∙ ap (λ z. cond z (Some r) (row_with x (filter p (without (x ∷ []) rs)))) (turned d (bytes_eq x r.id) refl) ∙ n
    go false d false f n = ap (λ c. row_with x (cond c (r ∷ filter p (without (x ∷ []) rs)) (filter p (without (x ∷ []) rs)))) f ∙ n

-- which row with an id is found, where a test is asked of it
pub row-kept : (p : Row → Bool) (x : List ℕ) (rs : List Row) → row_with x (filter p (firsts rs)) ≡ picked p (row_with x rs)
row-kept p x [] = refl
row-kept p x (r ∷ rs) = go (row-kept p x rs) (p r) refl (bytes_eq x r.id) refl
  where
    go : row_with x (filter p (firsts rs)) ≡ picked p (row_with x rs) → (c : Bool) → p r ≡ c → (b : Bool) → bytes_eq x r.id ≡ b
        → row_with x (cond c (r ∷ filter p (without (r.id ∷ []) (firsts rs))) (filter p (without (r.id ∷ []) (firsts rs)))) ≡ picked p (cond b (Some r) (row_with x rs))
    go next true f true e = ap (λ z. cond z (Some r) (row_with x (filter p (without (r.id ∷ []) (firsts rs))))) e ∙ sym (ap (λ c. cond c (Some r) None) f)
    go next true f false e = ap (λ z. cond z (Some r) (row_with x (filter p (without (r.id ∷ []) (firsts rs))))) e ∙ others p x r.id (firsts rs) e ∙ next
    go next false f true e = subst (λ y. row_with x (filter p (without (y ∷ []) (firsts rs))) ≡ None) (bytes_same x r.id e) (gone p x (firsts rs)) ∙ sym (ap (λ c. cond c (Some r) None) f)
    go next false f false e = others p x r.id (firsts rs) e ∙ next

abbrev all : Row → Bool
all r = true

kept-all : (rs : List Row) → filter all rs ≡ rs
kept-all [] = refl
kept-all (r ∷ rs) = ap (λ l. r ∷ l) (kept-all rs)

picked-all : (o : Option Row) → picked all o ≡ o
picked-all None = refl
picked-all (Some r) = refl

-- which row with an id is found
pub row-first : (x : List ℕ) (rs : List Row) → row_with x (firsts rs) ≡ row_with x rs
row-first x rs = ap (row_with x) (sym (kept-all (firsts rs))) ∙ row-kept all x rs ∙ picked-all (row_with x rs)

pub first-was : (rs : List Row) (r : Row) → Member r (firsts rs) → Member r rs
first-was [] r m = m
first-was (q ∷ rs) r (inl e) = inl e
first-was (q ∷ rs) r (inr m) = inr (first-was rs r (was-in (q.id ∷ []) (firsts rs) r m).0)

-- each of the first rows is found by its id
pub found-first : (rs : List Row) (r : Row) → Member r (firsts rs) → row_with r.id (firsts rs) ≡ Some r
found-first [] r m = absurd m
found-first (q ∷ rs) r (inl e) = ap (λ b. cond b (Some q) (row_with r.id (without (q.id ∷ []) (firsts rs)))) (same_bytes r.id q.id (ap (λ z. z.id) e)) ∙ ap Some (sym e)
found-first (q ∷ rs) r (inr m) =
    let w = was-in (q.id ∷ []) (firsts rs) r m in
    let d : bytes_eq r.id q.id ≡ false = apart (bytes_eq r.id q.id) w.1 in
    ap (λ b. cond b (Some q) (row_with r.id (without (q.id ∷ []) (firsts rs)))) d
    ∙ ap (row_with r.id) (sym (kept-all (without (q.id ∷ []) (firsts rs)))) ∙ others all r.id q.id (firsts rs) d ∙ ap (row_with r.id) (kept-all (firsts rs)) ∙ found-first rs r w.0
  where
    apart : (b : Bool) → b || false ≡ false → b ≡ false
    apart true e = cc e
    apart false e = refl

-- a row stays that no other row has the id of
pub stays-first : (rs : List Row) (r : Row) → Member r rs → ((q : Row) → Member q rs → q.id ≡ r.id → q ≡ r) → Member r (firsts rs)
stays-first [] r m h = m
stays-first (q ∷ rs) r (inl e) h = inl e
stays-first (q ∷ rs) r (inr m) h = go (stays-first rs r m (λ z i. h z (inr i))) (bytes_eq r.id q.id) refl
  where
    go : Member r (firsts rs) → (b : Bool) → bytes_eq r.id q.id ≡ b → Member r (q ∷ without (q.id ∷ []) (firsts rs))
    go next true e = inl (sym (h q (inl refl) (sym (bytes_same r.id q.id e))))
    go next false e = inr (stays-in (q.id ∷ []) (firsts rs) r next (ap (λ b. b || false) e))

-- what is found in a table, where a test is asked of it
pub kept-row : (p : Row → Bool) (x : List ℕ) (rs : List Row) (o : Option Row) → row_with x rs ≡ o → row_with x (filter p (firsts rs)) ≡ picked p o
kept-row p x rs o e = row-kept p x rs ∙ ap (picked p) e

-- what is found of two lists
pub joined-row : (x : List ℕ) (rs qs : List Row) (o q : Option Row) → row_with x rs ≡ o → row_with x qs ≡ q → row_with x (firsts (rs ++ qs)) ≡ first_of o q
joined-row x rs qs o q e f = row-first x (rs ++ qs) ∙ row-join x rs qs ∙ ap (λ z. first_of z (row_with x qs)) e ∙ ap (first_of o) f
