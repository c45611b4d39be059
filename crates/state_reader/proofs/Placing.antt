-- One more row at the end of rows in the order of a state.
use Rattle.std.proofs.Common.{◌≡◌, ℕ, ◌+◌, ◌≤◌, Bool, true, false, not, ◌&&◌, ◌||◌, List, [], ◌∷◌, ◌++◌, length, take, drop, map as each, refl, ap, sym, ◌∙◌, subst, arith, append_assoc, append-nil, length-append}
use Rattle.std.proofs.Math.Seq.{take-append_seam}
use Rattle.calculus.specs.Bytes.{joined}
use Rattle.std.specs.Str.{bytes_eq}
use Rattle.std.proofs.lemmas.List.Elements.{All-push}
use Rattle.calculus.specs.Order.{up_to, IsAscending}
use Rattle.calculus.specs.Rows.{Row, row_code}
use Rattle.calculus.specs.Steps.{is_one_of, differ}
use Rattle.calculus.specs.Storing.{IsStorable}
use Rattle.events.proofs.Groups.{same, equal}
use Rattle.checkpoint.specs.Kept.{AreInOrder}
use Rattle.std.specs.BTreeSet.{BTreeSet}
use Rattle.state_reader.specs.Reading.{last_code, AreIds, Adds}
use Rattle.checkpoint.proofs.Adding.{map-push}

true-false : true ≡ false → ⊥
true-false e = cc

pub ascending-push : (rows : List Row) (r : Row) → IsAscending (each row_code rows) → up_to (last_code rows) (row_code r) ≡ true → IsAscending (each row_code (rows ++ r ∷ []))
ascending-push [] r h u = (tt, tt)
ascending-push (q ∷ []) r h u = (u, (tt, tt))
ascending-push (q ∷ p ∷ ps) r h u = (h.0, ascending-push (p ∷ ps) r h.1 u)

none-below : (x : List ℕ) → up_to [] x ≡ true
none-below [] = refl
none-below (y ∷ ys) = refl

pub ascending-last : (rows : List Row) (r : Row) → IsAscending (each row_code (rows ++ r ∷ [])) → up_to (last_code rows) (row_code r) ≡ true
ascending-last [] r h = none-below (row_code r)
ascending-last (q ∷ []) r h = h.0
ascending-last (q ∷ p ∷ ps) r h = ascending-last (p ∷ ps) r h.1

apart : (x y : List ℕ) → bytes_eq x y ≡ false → bytes_eq y x ≡ false
apart x y e = go (bytes_eq y x) refl
  where
    go : (b : Bool) → bytes_eq y x ≡ b → b ≡ false
    go true f = sym (equal x y (sym (same y x f))) ∙ e
    go false f = refl

pub one-of-push : (x z : List ℕ) (xs : List (List ℕ)) → is_one_of x (xs ++ z ∷ []) ≡ (is_one_of x xs || bytes_eq x z)
one-of-push x z [] = go (bytes_eq x z)
  where
    go : (b : Bool) → (b || false) ≡ (false || b)
    go true = refl
    go false = refl
one-of-push x z (y ∷ ys) = go (bytes_eq x y) (one-of-push x z ys)
  where
    go : (b : Bool) → is_one_of x (ys ++ z ∷ []) ≡ (is_one_of x ys || bytes_eq x z) → (b || is_one_of x (ys ++ z ∷ [])) ≡ ((b || is_one_of x ys) || bytes_eq x z)
    go true e = refl
    go false e = e

both-true : (a b : Bool) → (a && b) ≡ true → (a ≡ true) × (b ≡ true)
both-true true true e = (refl, refl)
both-true true false e = absurd (true-false (sym e))
both-true false b e = absurd (true-false (sym e))

neither : (a b : Bool) → (a || b) ≡ false → (a ≡ false) × (b ≡ false)
neither true b e = absurd (true-false e)
neither false b e = (refl, e)

not-true : (a : Bool) → not a ≡ true → a ≡ false
not-true true e = absurd (true-false (sym e))
not-true false e = refl

pub differ-push : (xs : List (List ℕ)) (z : List ℕ) → differ xs ≡ true → is_one_of z xs ≡ false → differ (xs ++ z ∷ []) ≡ true
differ-push [] z d n = refl
differ-push (x ∷ xs) z d n =
    let h = both-true (not (is_one_of x xs)) (differ xs) d in
    let m = neither (bytes_eq z x) (is_one_of z xs) n in
    let a : is_one_of x (xs ++ z ∷ []) ≡ false = one-of-push x z xs ∙ ap (λ b. b || bytes_eq x z) (not-true (is_one_of x xs) h.0) ∙ apart z x m.0 in
    ap (λ b. not b && differ (xs ++ z ∷ [])) a ∙ differ-push xs z h.1 m.1

pub differ-last : (xs : List (List ℕ)) (z : List ℕ) → differ (xs ++ z ∷ []) ≡ true → is_one_of z xs ≡ false
differ-last [] z d = refl
differ-last (x ∷ xs) z d =
    let h = both-true (not (is_one_of x (xs ++ z ∷ []))) (differ (xs ++ z ∷ [])) d in
    let a = neither (is_one_of x xs) (bytes_eq x z) (sym (one-of-push x z xs) ∙ not-true (is_one_of x (xs ++ z ∷ [])) h.0) in
    ap (λ b. b || is_one_of z xs) (apart x z a.1) ∙ differ-last xs z h.1

-- a row may stand at the end that may be stored, whose code is no less than the last one's, and whose id is new
pub placed-last : (rows : List Row) (r : Row) → AreInOrder rows → IsStorable r → up_to (last_code rows) (row_code r) ≡ true → is_one_of r.id (each (λ q. q.id) rows) ≡ false → AreInOrder (rows ++ r ∷ [])
placed-last rows r h s u n = record {
  storable = All-push IsStorable rows r h.storable s;
  ascending = ascending-push rows r h.ascending u;
  ids = subst (λ xs. differ xs ≡ true) (sym (map-push (λ (q : Row). q.id) rows r)) (differ-push (each (λ q. q.id) rows) r.id h.ids n);
}

-- nor may one whose code is less, or whose id is not new
pub placed-low : (rows : List Row) (r : Row) → AreInOrder (rows ++ r ∷ []) → up_to (last_code rows) (row_code r) ≡ false → ⊥
placed-low rows r h u = true-false (sym (ascending-last rows r h.ascending) ∙ u)

pub placed-twice : (rows : List Row) (r : Row) → AreInOrder (rows ++ r ∷ []) → is_one_of r.id (each (λ q. q.id) rows) ≡ true → ⊥
placed-twice rows r h n = true-false (sym n ∙ differ-last (each (λ q. q.id) rows) r.id (subst (λ xs. differ xs ≡ true) (map-push (λ (q : Row). q.id) rows r) h.ids))

pub last-push : (rows : List Row) (r : Row) → last_code (rows ++ r ∷ []) ≡ row_code r
last-push [] r = refl
last-push (q ∷ []) r = refl
last-push (q ∷ p ∷ ps) r = last-push (p ∷ ps) r

pub turned-not : (a b : Bool) → not a ≡ b → a ≡ not b
turned-not true b e = ap not e
turned-not false b e = ap not e

-- the ids of rows and of one more
pub ids-push : (rows : List Row) (r : Row) (x : List ℕ) (set : BTreeSet (List ℕ)) (after : List Row) → after ≡ rows ++ r ∷ [] → x ≡ r.id → AreIds set (each (λ q. q.id) rows ++ x ∷ []) → AreIds set (each (λ q. q.id) after)
ids-push rows r x set after e i h =
    subst (AreIds set) (ap (λ z. each (λ (q : Row). q.id) rows ++ z ∷ []) i ∙ sym (map-push (λ (q : Row). q.id) rows r) ∙ ap (each (λ (q : Row). q.id)) (sym e)) h

-- the row at the front of bytes
pub front-fits : (bs c : List ℕ) (n : ℕ) → bs ≡ c ++ drop n bs → n ≡ length c → n ≤ length bs
front-fits bs c n e l = omega (arith, ap length e, length-append c (drop n bs), l)

pub front-is : (bs c : List ℕ) (n : ℕ) → bs ≡ c ++ drop n bs → n ≡ length c → take n bs ≡ c
front-is bs c n e l = ap (take n) e ∙ ap (λ k. take k (c ++ drop n bs)) l ∙ take-append_seam c (drop n bs)

joined-push : (rows : List Row) (r : Row) → joined (each row_code (rows ++ r ∷ [])) ≡ joined (each row_code rows) ++ row_code r
joined-push [] r = append-nil (row_code r)
joined-push (q ∷ qs) r = ap (λ z. row_code q ++ z) (joined-push qs r) ∙ sym (append_assoc (row_code q) (joined (each row_code qs)) (row_code r))

-- rows and what is left, with one more row
pub rows-grown : (rows after : List Row) (bs left others : List ℕ) → bs ≡ joined (each row_code rows) ++ left → Adds rows after left others → bs ≡ joined (each row_code after) ++ others
rows-grown rows after bs left others e a =
    e ∙ ap (λ z. joined (each row_code rows) ++ z) a.2 ∙ sym (append_assoc (joined (each row_code rows)) (row_code a.0) others)
    ∙ ap (λ z. z ++ others) (sym (joined-push rows a.0)) ∙ ap (λ rs. joined (each row_code rs) ++ others) (sym a.1)

pub count-grown : (rows after : List Row) (left others : List ℕ) → Adds rows after left others → length after ≡ length rows + 1
count-grown rows after left others a = ap length a.1 ∙ length-append rows (a.0 ∷ [])
