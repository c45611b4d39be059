-- Rows that leave by their places, where no id stands twice, leave by their ids.
use Rattle.std.proofs.Common.{◌≡◌, ◌≤◌, ℕ, suc, ◌+◌, Bool, true, false, cond, List, [], ◌∷◌, ◌++◌, length, map as each, refl, ap, sym, ◌∙◌, subst, arith, append_assoc, length-append}
use Rattle.std.specs.Prelude.{eqb}
use Rattle.std.specs.Str.{bytes_eq}
use Rattle.std.proofs.lemmas.Bool.{eqb-true, eq-eqb}
use Rattle.calculus.specs.Rows.{Row}
use Rattle.calculus.specs.Steps.{is_one_of, has_place, but_places}
use Rattle.events.specs.Found.{without}
use Rattle.events.proofs.Counts.{ids, times, one_if, same_bytes, bytes_same, AreDistinct, times-append, ids-append}
use Rattle.events.proofs.Lookups.{place_of}
use Rattle.events.proofs.Meetings.{place_in}

pub without-append : (xs : List (List ℕ)) (rs qs : List Row) → without xs (rs ++ qs) ≡ without xs rs ++ without xs qs
without-append xs [] qs = refl
without-append xs (r ∷ rs) qs = go (is_one_of r.id xs) (without-append xs rs qs)
  where
    go : (b : Bool) → without xs (rs ++ qs) ≡ without xs rs ++ without xs qs → cond b (without xs (rs ++ qs)) (r ∷ without xs (rs ++ qs)) ≡ cond b (without xs rs) (r ∷ without xs rs) ++ without xs qs
    go true e = e
    go false e = ap (λ l. r ∷ l) e

-- a place is no less than the first
from-first : (x : List ℕ) (i : ℕ) (rs : List Row) → i ≤ place_of x i rs
from-first x i [] = omega arith
from-first x i (r ∷ rs) = go (bytes_eq x r.id) (from-first x (suc i) rs)
  where
    go : (b : Bool) → suc i ≤ place_of x (suc i) rs → i ≤ cond b i (place_of x (suc i) rs)
    go true h = omega arith
    go false h = omega (arith, h)

-- the place of an id is the place of a row with that id
placed-has : (x : List ℕ) (i : ℕ) (pre : List Row) (r : Row) (post : List Row) → place_of x i (pre ++ r ∷ post) ≡ i + length pre → x ≡ r.id
placed-has x i [] r post e = go (bytes_eq x r.id) refl e
  where
    go : (b : Bool) → bytes_eq x r.id ≡ b → cond b i (place_of x (suc i) post) ≡ i + 0 → x ≡ r.id
    go true d e = bytes_same x r.id d
    go false d e = absurd (omega (arith, e, from-first x (suc i) post))
placed-has x i (p ∷ pre) r post e = go (placed-has x (suc i) pre r post) (bytes_eq x p.id) e
  where
    go : (place_of x (suc i) (pre ++ r ∷ post) ≡ suc i + length pre → x ≡ r.id) → (b : Bool) → cond b i (place_of x (suc i) (pre ++ r ∷ post)) ≡ i + suc (length pre) → x ≡ r.id
    go next true e = absurd (omega (arith, e))
    go next false e = next (omega (arith, e))

at-middle : (x : List ℕ) (pre : List Row) (r : Row) (post : List Row) → AreDistinct (ids (pre ++ r ∷ post)) → x ≡ r.id → times x (ids pre) ≡ 0
at-middle x pre r post h e = omega (arith, h x, ap (times x) (ids-append pre (r ∷ post)) ∙ times-append x (ids pre) (ids (r ∷ post)), ap one_if (same_bytes x r.id e))

-- a row's own place
own-place : (x : List ℕ) (i : ℕ) (pre : List Row) (r : Row) (post : List Row) → times x (ids pre) ≡ 0 → x ≡ r.id → place_of x i (pre ++ r ∷ post) ≡ i + length pre
own-place x i [] r post h e = ap (λ b. cond b i (place_of x (suc i) post)) (same_bytes x r.id e) ∙ omega arith
own-place x i (p ∷ pre) r post h e = go (own-place x (suc i) pre r post) (bytes_eq x p.id) h
  where
    go : (times x (ids pre) ≡ 0 → x ≡ r.id → place_of x (suc i) (pre ++ r ∷ post) ≡ suc i + length pre) → (b : Bool) → one_if b + times x (ids pre) ≡ 0 → cond b i (place_of x (suc i) (pre ++ r ∷ post)) ≡ i + suc (length pre)
    go next true h = absurd (omega (arith, h))
    go next false h = omega (arith, next (omega (arith, h)) e)

-- a place is the one of an id exactly where the row there has it
pub place-is : (x : List ℕ) (pre : List Row) (r : Row) (post : List Row) → AreDistinct (ids (pre ++ r ∷ post)) → eqb (place_of x 0 (pre ++ r ∷ post)) (length pre) ≡ bytes_eq r.id x
place-is x pre r post h = go (bytes_eq r.id x) refl (eqb (place_of x 0 (pre ++ r ∷ post)) (length pre)) refl
  where
    go : (b : Bool) → bytes_eq r.id x ≡ b → (c : Bool) → eqb (place_of x 0 (pre ++ r ∷ post)) (length pre) ≡ c → c ≡ b
    go true d true k = refl
    go false d false k = refl
    go true d false k =
        let e : x ≡ r.id = sym (bytes_same r.id x d) in
        sym k ∙ eq-eqb _ _ (own-place x 0 pre r post (at-middle x pre r post h e) e ∙ omega arith)
    go false d true k =
        let e : x ≡ r.id = placed-has x 0 pre r post (eqb-true _ _ k ∙ omega arith) in
        sym (same_bytes r.id x (sym e)) ∙ d

-- a place is one of those of these rows exactly where the row there has one of their ids
place-among : (ls pre : List Row) (r : Row) (post : List Row) → AreDistinct (ids (pre ++ r ∷ post)) → has_place (each (place_in (pre ++ r ∷ post)) ls) (length pre) ≡ is_one_of r.id (ids ls)
place-among [] pre r post h = refl
place-among (l ∷ ls) pre r post h = cc (place-is l.id pre r post h, place-among ls pre r post h)

-- rows that stand between others: those leave that have one of these ids
pub places-leave : (ls pre rs post : List Row) → AreDistinct (ids (pre ++ (rs ++ post))) → but_places (each (place_in (pre ++ (rs ++ post))) ls) (length pre) rs ≡ without (ids ls) rs
places-leave ls pre [] post h = refl
places-leave ls pre (r ∷ rs) post h =
    let moved : (pre ++ r ∷ []) ++ (rs ++ post) ≡ pre ++ (r ∷ rs ++ post) = append_assoc pre (r ∷ []) (rs ++ post) in
    let far : length (pre ++ r ∷ []) ≡ suc (length pre) = length-append pre (r ∷ []) ∙ omega arith in
    let rest = places-leave ls (pre ++ r ∷ []) rs post (subst (λ l. AreDistinct (ids l)) (sym moved) h) in
    let next : but_places (each (place_in (pre ++ (r ∷ rs ++ post))) ls) (suc (length pre)) rs ≡ without (ids ls) rs =
    subst (λ l. but_places (each (place_in l) ls) (suc (length pre)) rs ≡ without (ids ls) rs) moved (subst (λ n. but_places (each (place_in ((pre ++ r ∷ []) ++ (rs ++ post))) ls) n rs ≡ without (ids ls) rs) far rest) in
    cc (place-among ls pre r (rs ++ post) h, next)
