-- How often an id stands in a list, and lists in which none stands twice.
use Rattle.std.proofs.Common.{◌≡◌, ◌≤◌, ℕ, ◌+◌, Bool, true, false, not, ◌&&◌, ◌||◌, List, [], ◌∷◌, ◌++◌, map as each, refl, ap, ◌∙◌, arith}
use Rattle.std.proofs.Common.{inl, inr}
use Rattle.std.specs.Str.{bytes_eq}
use Rattle.std.proofs.lemmas.Slice.Eq.{bytes_eq-Decides}
use Rattle.calculus.proofs.Members.{Member}
use Rattle.calculus.specs.Rows.{Row}
use Rattle.calculus.specs.Steps.{is_one_of, differ}

-- the ids of rows
abbrev pub ids : List Row → List (List ℕ)
ids rs = each (λ r. r.id) rs

-- 1 for true
abbrev pub one_if : Bool → ℕ
one_if true = 1
one_if false = 0

-- how often x stands in the list
abbrev pub times : List ℕ → List (List ℕ) → ℕ
times x [] = 0
times x (y ∷ ys) = one_if (bytes_eq x y) + times x ys

pub times-append : (x : List ℕ) (ys zs : List (List ℕ)) → times x (ys ++ zs) ≡ times x ys + times x zs
times-append x [] zs = omega arith
times-append x (y ∷ ys) zs = omega (arith, times-append x ys zs)

pub same_bytes : (x y : List ℕ) → x ≡ y → bytes_eq x y ≡ true
same_bytes x y e = (bytes_eq-Decides x y).1 e

pub bytes_same : (x y : List ℕ) → bytes_eq x y ≡ true → x ≡ y
bytes_same x y e = (bytes_eq-Decides x y).0 e

-- what is in a list stands there
pub one_of-times : (x : List ℕ) (ys : List (List ℕ)) → is_one_of x ys ≡ true → 1 ≤ times x ys
one_of-times x [] e = cc
one_of-times x (y ∷ ys) e = go (one_of-times x ys) (bytes_eq x y) e
  where
    go : (is_one_of x ys ≡ true → 1 ≤ times x ys) → (b : Bool) → b || is_one_of x ys ≡ true → 1 ≤ one_if b + times x ys
    go next true e = omega arith
    go next false e = omega (arith, next e)

pub times-one_of : (x : List ℕ) (ys : List (List ℕ)) → 1 ≤ times x ys → is_one_of x ys ≡ true
times-one_of x [] h = absurd (omega (arith, h))
times-one_of x (y ∷ ys) h = go (times-one_of x ys) (bytes_eq x y) h
  where
    go : (1 ≤ times x ys → is_one_of x ys ≡ true) → (b : Bool) → 1 ≤ one_if b + times x ys → b || is_one_of x ys ≡ true
    go next true h = refl
    go next false h = next (omega (arith, h))

not_one_of : (x : List ℕ) (ys : List (List ℕ)) → is_one_of x ys ≡ false → times x ys ≡ 0
not_one_of x [] e = refl
not_one_of x (y ∷ ys) e = go (not_one_of x ys) (bytes_eq x y) e
  where
    go : (is_one_of x ys ≡ false → times x ys ≡ 0) → (b : Bool) → b || is_one_of x ys ≡ false → one_if b + times x ys ≡ 0
    go next true e = cc
    go next false e = omega (arith, next e)

-- no id stands twice
abbrev pub AreDistinct : List (List ℕ) → Type 0
AreDistinct xs = (x : List ℕ) → times x xs ≤ 1

pub differ-distinct : (xs : List (List ℕ)) → differ xs ≡ true → AreDistinct xs
differ-distinct [] e x = omega arith
differ-distinct (y ∷ ys) e x = go (λ d. differ-distinct ys d x) (is_one_of y ys) refl e
  where
    at_head : is_one_of y ys ≡ false → times x ys ≤ 1 → (c : Bool) → bytes_eq x y ≡ c → one_if c + times x ys ≤ 1
    at_head d h true k = omega (arith, ap (λ z. times z ys) (bytes_same x y k) ∙ not_one_of y ys d)
    at_head d h false k = omega (arith, h)

    go : (differ ys ≡ true → times x ys ≤ 1) → (b : Bool) → is_one_of y ys ≡ b → not b && differ ys ≡ true → one_if (bytes_eq x y) + times x ys ≤ 1
    go next true d e = cc
    go next false d e = at_head d (next e) (bytes_eq x y) refl

pub distinct-differ : (xs : List (List ℕ)) → AreDistinct xs → differ xs ≡ true
distinct-differ [] h = refl
distinct-differ (y ∷ ys) h = go (distinct-differ ys (λ x. omega (arith, h x))) (is_one_of y ys) refl
  where
    here : 1 ≤ one_if (bytes_eq y y)
    here = rw (same_bytes y y refl) (omega arith)

    go : differ ys ≡ true → (b : Bool) → is_one_of y ys ≡ b → not b && differ ys ≡ true
    go rest true d = absurd (omega (arith, h y, here, one_of-times y ys d))
    go rest false d = rest

-- an id of a row among these stands there
pub member-times : (r : Row) (rs : List Row) → Member r rs → 1 ≤ times r.id (ids rs)
member-times r [] m = absurd m
member-times r (q ∷ rs) (inl e) = rw (same_bytes r.id q.id (ap (λ z. z.id) e)) (omega arith)
member-times r (q ∷ rs) (inr m) = omega (arith, member-times r rs m)

pub ids-append : (rs qs : List Row) → ids (rs ++ qs) ≡ ids rs ++ ids qs
ids-append [] qs = refl
ids-append (r ∷ rs) qs = ap (λ l. r.id ∷ l) (ids-append rs qs)
