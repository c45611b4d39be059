-- Rows whose codes are those of others, one by one.
use Rattle.std.proofs.Common.{◌≡◌, ℕ, zero, suc, Bool, true, false, not, ◌&&◌, ◌||◌, List, [], ◌∷◌, ◌++◌, map as each, refl, ap, sym, ◌∙◌, subst, arith, append_assoc}
use Rattle.std.specs.Prelude.{All}
use Rattle.std.specs.Str.{bytes_eq}
use Rattle.calculus.specs.Bytes.{joined}
use Rattle.calculus.specs.Order.{IsAscending}
use Rattle.calculus.specs.Root.{group_code, groups, key, digest_in, root, with_row}
use Rattle.calculus.specs.Rows.{Row, row_code}
use Rattle.calculus.specs.Steps.{differ, is_one_of}
use Rattle.calculus.specs.Storing.{IsStorable}
use Rattle.sha2.specs.Sha256.{sha256}
use Rattle.checkpoint.specs.Kept.{AreInOrder}
use Rattle.state_reader.proofs.SameRows.{rows-part, same-rows, storable-row, storable-short}

module _ {A : Type 0} (P : A → Type 0) where
  pub all-head : (x : A) (xs : List A) → All P (x ∷ xs) → P x
  all-head x xs h = h zero x (omega arith)

  pub all-tail : (x : A) (xs : List A) → All P (x ∷ xs) → All P xs
  all-tail x xs h i d l = h (suc i) d (omega arith)

  all-cons : (x : A) (xs : List A) → P x → All P xs → All P (x ∷ xs)
  all-cons x xs p h zero d l = p
  all-cons x xs p h (suc i) d l = h i d (omega arith)

  pub all-front : (xs ys : List A) → All P (xs ++ ys) → All P xs
  all-front [] ys h = λ i d l. absurd (omega arith)
  all-front (x ∷ xs) ys h = all-cons x xs (all-head x (xs ++ ys) h) (all-front xs ys (all-tail x (xs ++ ys) h))

  pub all-behind : (xs ys : List A) → All P (xs ++ ys) → All P ys
  all-behind [] ys h = h
  all-behind (x ∷ xs) ys h = all-behind xs ys (all-tail x (xs ++ ys) h)

-- rows that may be stored, at the front of equal bytes
pub stored-part : (r q : Row) (x y : List ℕ) → IsStorable r → IsStorable q → row_code r ++ x ≡ row_code q ++ y → (row_code r ≡ row_code q) × (x ≡ y)
stored-part r q x y h k e = rows-part r q x y (storable-row r h) (storable-row q k) (storable-short r h) (storable-short q k) e

-- the row that comes after the first of these, which stand in the bytes as others do, where these bytes come behind all
pub record Next (rows firsts : List Row) (left tail : List ℕ) : Type 0 where
  pub before : List Row
  pub row : Row
  pub rest : List Row
  pub is : rows ≡ before ++ row ∷ rest
  pub same : each row_code before ≡ each row_code firsts
  pub behind : left ≡ row_code row ++ (joined (each row_code rest) ++ tail)

next-behind : (r q : Row) (rows firsts : List Row) (left tail : List ℕ) → row_code r ≡ row_code q → Next rows firsts left tail → Next (r ∷ rows) (q ∷ firsts) left tail
next-behind r q rows firsts left tail c n = record {
  before = r ∷ n.before;
  row = n.row;
  rest = n.rest;
  is = ap (λ z. r ∷ z) n.is;
  same = ap (λ z. z ∷ each row_code n.before) c ∙ ap (λ z. row_code q ∷ z) n.same;
  behind = n.behind;
}

-- rows at the front of equal bytes: those of one go on, or they have the same codes and leave the same bytes
pub data Compared (rows others : List Row) (left behind : List ℕ) : Type 0 where
  longer : Next rows others behind left → Compared rows others left behind
  shorter : Next others rows left behind → Compared rows others left behind
  equal : each row_code rows ≡ each row_code others → left ≡ behind → Compared rows others left behind

pub compared : (rows others : List Row) (left behind : List ℕ) → All IsStorable rows → All IsStorable others → joined (each row_code rows) ++ left ≡ joined (each row_code others) ++ behind → Compared rows others left behind
compared [] [] left behind h k e = equal refl e
compared [] (q ∷ qs) left behind h k e = shorter (record { before = []; row = q; rest = qs; is = refl; same = refl; behind = e ∙ append_assoc (row_code q) (joined (each row_code qs)) behind })
compared (r ∷ rs) [] left behind h k e = longer (record { before = []; row = r; rest = rs; is = refl; same = refl; behind = sym e ∙ append_assoc (row_code r) (joined (each row_code rs)) left })
compared (r ∷ rs) (q ∷ qs) left behind h k e =
    let p = stored-part r q _ _ (all-head IsStorable r rs h) (all-head IsStorable q qs k) (sym (append_assoc (row_code r) (joined (each row_code rs)) left) ∙ e ∙ append_assoc (row_code q) (joined (each row_code qs)) behind) in
    on p.0 (compared rs qs left behind (all-tail IsStorable r rs h) (all-tail IsStorable q qs k) p.1)
  where
    on : row_code r ≡ row_code q → Compared rs qs left behind → Compared (r ∷ rs) (q ∷ qs) left behind
    on c (longer n) = longer (next-behind r q rs qs behind left c n)
    on c (shorter n) = shorter (next-behind q r qs rs left behind (sym c) n)
    on c (equal d i) = equal (ap (λ z. z ∷ each row_code rs) c ∙ ap (λ z. row_code q ∷ z) d) i

pub heads : {A : Type 0} {x y : A} {xs ys : List A} → x ∷ xs ≡ y ∷ ys → (x ≡ y) × (xs ≡ ys)
heads e = (cc, cc)

pub ids-same : (ps qs : List Row) → All IsStorable ps → All IsStorable qs → each row_code ps ≡ each row_code qs → each (λ r. r.id) ps ≡ each (λ r. r.id) qs
ids-same [] [] h k e = refl
ids-same [] (q ∷ qs) h k e = absurd (cc)
ids-same (p ∷ ps) [] h k e = absurd (cc)
ids-same (p ∷ ps) (q ∷ qs) h k e =
    let a = all-head IsStorable p ps h in
    let b = all-head IsStorable q qs k in
    let i = (same-rows p q (storable-row p a) (storable-row q b) (storable-short p a) (storable-short q b) (heads e).0).0 in
    ap (λ z. z ∷ each (λ r. r.id) ps) i ∙ ap (λ z. q.id ∷ z) (ids-same ps qs (all-tail IsStorable p ps h) (all-tail IsStorable q qs k) (heads e).1)

-- rows with the codes of rows in the order of a state stand in it too
pub order-moved : (ps qs : List Row) → AreInOrder ps → All IsStorable qs → each row_code ps ≡ each row_code qs → AreInOrder qs
order-moved ps qs h k e = record { storable = k; ascending = subst IsAscending e h.ascending; ids = subst (λ xs. differ xs ≡ true) (ids-same ps qs h.storable k e) h.ids }

keys-same : (p q : Row) → IsStorable p → IsStorable q → row_code p ≡ row_code q → key p ≡ key q
unfolding key
keys-same p q a b e = ap (λ cs. sha256 (group_code cs)) (same-rows p q (storable-row p a) (storable-row q b) (storable-short p a) (storable-short q b) e).1

groups-same : (ps qs : List Row) → All IsStorable ps → All IsStorable qs → each row_code ps ≡ each row_code qs → groups ps ≡ groups qs
groups-same [] [] h k e = refl
groups-same [] (q ∷ qs) h k e = absurd (cc)
groups-same (p ∷ ps) [] h k e = absurd (cc)
groups-same (p ∷ ps) (q ∷ qs) h k e =
    let a = all-head IsStorable p ps h in
    let b = all-head IsStorable q qs k in
    ap (λ z. with_row z (row_code p) (groups ps)) (keys-same p q a b (heads e).0) ∙ ap (λ z. with_row (key q) z (groups ps)) (heads e).0
    ∙ ap (λ z. with_row (key q) (row_code q) z) (groups-same ps qs (all-tail IsStorable p ps h) (all-tail IsStorable q qs k) (heads e).1)

-- and have one root
pub root-same : (ps qs : List Row) → All IsStorable ps → All IsStorable qs → each row_code ps ≡ each row_code qs → root ps ≡ root qs
unfolding root
root-same ps qs h k e = ap (digest_in 64) (groups-same ps qs h k e)

ascending-front : (xs ys : List (List ℕ)) → IsAscending (xs ++ ys) → IsAscending xs
ascending-front [] ys h = tt
ascending-front (x ∷ []) ys h = (tt, tt)
ascending-front (x ∷ y ∷ xs) ys h = (h.0, ascending-front (y ∷ xs) ys h.1)

true-false : true ≡ false → ⊥
true-false e = cc

both-true : (a b : Bool) → (a && b) ≡ true → (a ≡ true) × (b ≡ true)
both-true true true e = (refl, refl)
both-true true false e = absurd (true-false (sym e))
both-true false b e = absurd (true-false (sym e))

not-among : (x : List ℕ) (xs ys : List (List ℕ)) → not (is_one_of x (xs ++ ys)) ≡ true → not (is_one_of x xs) ≡ true
not-among x [] ys h = refl
not-among x (z ∷ zs) ys h = on (bytes_eq x z) (λ k. not-among x zs ys k) h
  where
    on : (b : Bool) → (not (is_one_of x (zs ++ ys)) ≡ true → not (is_one_of x zs) ≡ true) → not (b || is_one_of x (zs ++ ys)) ≡ true → not (b || is_one_of x zs) ≡ true
    on true r k = k
    on false r k = r k

differ-front : (xs ys : List (List ℕ)) → differ (xs ++ ys) ≡ true → differ xs ≡ true
differ-front [] ys h = refl
differ-front (x ∷ xs) ys h =
    let p = both-true (not (is_one_of x (xs ++ ys))) (differ (xs ++ ys)) h in
    ap (λ b. b && differ xs) (not-among x xs ys p.0) ∙ differ-front xs ys p.1

pub each-append : {A B : Type 0} (f : A → B) (xs ys : List A) → each f (xs ++ ys) ≡ each f xs ++ each f ys
each-append f [] ys = refl
each-append f (x ∷ xs) ys = ap (λ z. f x ∷ z) (each-append f xs ys)

-- the first of rows in the order of a state stand in it
pub order-front : (xs ys : List Row) → AreInOrder (xs ++ ys) → AreInOrder xs
order-front xs ys h = record {
  storable = all-front IsStorable xs ys h.storable;
  ascending = ascending-front (each row_code xs) (each row_code ys) (subst IsAscending (each-append row_code xs ys) h.ascending);
  ids = differ-front (each (λ r. r.id) xs) (each (λ r. r.id) ys) (subst (λ z. differ z ≡ true) (each-append (λ (r : Row). r.id) xs ys) h.ids);
}
