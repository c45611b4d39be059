-- The answers of methods on values that agree.
use Rattle.std.proofs.Common.{◌≡◌, ℕ, zero, suc, List, [], ◌∷◌, length, refl, ap, subst}
use Rattle.std.specs.Prelude.{pos, negsuc, ◌&&◌, leb, take, drop}
use Rattle.std.specs.List.{AllZip}
use Rattle.calculus.specs.declared.fault.FaultKind.TheVariants as fault
use Rattle.calculus.specs.Tree.{Tree}
use Rattle.calculus.specs.Shape.{at}
use Rattle.calculus.specs.Outcome.{Answer, gives, fails}
use Rattle.calculus.specs.Operators.{seen, of_int}
use Rattle.calculus.specs.Methods.{Method, plainly, given, given_two, nth, nth_at, slice, size, with_set, with_map}
use Rattle.process_laws.proofs.Twins.{a_process, Twin, at-twin}
use Rattle.process_laws.proofs.Outcomes.{answers-cond}
use Rattle.process_laws.proofs.Looks.{Looks, ints, sets, maps, left, right, looked}
use Rattle.process_laws.proofs.Collections.{Both, Pairs}
use Rattle.process_laws.proofs.Operations.{Agree, int-both}

-- equal lists
pub one_list : {A : Type 0} (xs ys : List A) → AllZip (λ (x y : A). x ≡ y) xs ys → xs ≡ ys
one_list [] [] h = refl
one_list [] (y ∷ ys) h = absurd h
one_list (x ∷ xs) [] h = absurd h
one_list (x ∷ xs) (y ∷ ys) h = let e : xs ≡ ys = one_list xs ys h.1 in let f : x ≡ y = h.0 in cc

-- each element is itself
pub itself : {A : Type 0} (xs : List A) → AllZip (λ (x y : A). x ≡ y) xs xs
itself [] = tt
itself (x ∷ xs) = (refl, itself xs)

module _ {A : Type 0} (R : A → A → Type 0) where
  pub same_length : (xs ys : List A) → AllZip R xs ys → length xs ≡ length ys
  same_length [] [] h = refl
  same_length [] (y ∷ ys) h = absurd h
  same_length (x ∷ xs) [] h = absurd h
  same_length (x ∷ xs) (y ∷ ys) h = ap suc (same_length xs ys h.1)

  taken : (n : ℕ) (xs ys : List A) → AllZip R xs ys → AllZip R (take n xs) (take n ys)
  taken zero xs ys h = tt
  taken (suc n) [] [] h = tt
  taken (suc n) [] (y ∷ ys) h = absurd h
  taken (suc n) (x ∷ xs) [] h = absurd h
  taken (suc n) (x ∷ xs) (y ∷ ys) h = (h.0, taken n xs ys h.1)

  dropped : (n : ℕ) (xs ys : List A) → AllZip R xs ys → AllZip R (drop n xs) (drop n ys)
  dropped zero xs ys h = h
  dropped (suc n) [] [] h = tt
  dropped (suc n) [] (y ∷ ys) h = absurd h
  dropped (suc n) (x ∷ xs) [] h = absurd h
  dropped (suc n) (x ∷ xs) (y ∷ ys) h = dropped n xs ys h.1

  pub size-agrees : (xs ys : List A) → AllZip R xs ys → Agree (size xs) (size ys)
  size-agrees xs ys h = subst (λ n. Both (of_int (pos (length xs))) (of_int (pos n))) (same_length xs ys h) (int-both (pos (length xs)))

  module _ (f g : A → Tree) (k : (x y : A) → R x y → Both (f x) (g y)) where
    nth-agrees : (xs ys : List A) (i : ℕ) → AllZip R xs ys → Agree (nth f xs i) (nth g ys i)
    nth-agrees [] [] i h = refl
    nth-agrees [] (y ∷ ys) i h = absurd h
    nth-agrees (x ∷ xs) [] i h = absurd h
    nth-agrees (x ∷ xs) (y ∷ ys) zero h = k x y h.0
    nth-agrees (x ∷ xs) (y ∷ ys) (suc i) h = nth-agrees xs ys i h.1

    nth_at-looks : (xs ys : List A) (a : Looks) → AllZip R xs ys → Agree (nth_at f xs (left a)) (nth_at g ys (right a))
    nth_at-looks xs ys (ints (pos i)) h = nth-agrees xs ys i h
    nth_at-looks xs ys (ints (negsuc i)) h = refl
    nth_at-looks xs ys _ h = refl

    pub nth_at-agrees : (xs ys : List A) (t u : Tree) → AllZip R xs ys → Both t u → Agree (nth_at f xs (seen t)) (nth_at g ys (seen u))
    nth_at-agrees xs ys t u h r = let a = looked t u r in rw (a.on_left, a.on_right) (nth_at-looks xs ys a.looks h)

  module _ (f g : List A → Tree) (k : (xs ys : List A) → AllZip R xs ys → Both (f xs) (g ys)) where
    slice-looks : (xs ys : List A) (a b : Looks) → AllZip R xs ys → Agree (slice f xs (left a) (left b)) (slice g ys (right a) (right b))
    slice-looks xs ys (ints (pos i)) (ints (pos j)) h =
        answers-cond (Twin a_process) (leb i j && leb j (length xs)) (leb i j && leb j (length ys)) (gives (f (drop i (take j xs)))) (fails fault.Index) (gives (g (drop i (take j ys)))) (fails fault.Index)
        (ap (λ n. leb i j && leb j n) (same_length xs ys h)) (k (drop i (take j xs)) (drop i (take j ys)) (dropped i (take j xs) (take j ys) (taken j xs ys h))) refl
    slice-looks xs ys (ints (pos i)) (ints (negsuc j)) h = refl
    slice-looks xs ys (ints (negsuc i)) (ints j) h = refl
    slice-looks xs ys _ _ h = refl

    pub slice-agrees : (xs ys : List A) (t u v w : Tree) → AllZip R xs ys → Both t u → Both v w → Agree (slice f xs (seen t) (seen v)) (slice g ys (seen u) (seen w))
    slice-agrees xs ys t u v w h r q =
        let a = looked t u r in
        let b = looked v w q in
        rw (a.on_left, a.on_right, b.on_left, b.on_right) (slice-looks xs ys a.looks b.looks h)

with_set-looks : (a : Looks) (f g : List Tree → Tree) → ((xs ys : List Tree) → AllZip Both xs ys → Both (f xs) (g ys)) → Agree (with_set (left a) f) (with_set (right a) g)
with_set-looks (sets xs ys h) f g k = k xs ys h
with_set-looks _ f g k = refl

pub with_set-agrees : (t u : Tree) (f g : List Tree → Tree) → Both t u → ((xs ys : List Tree) → AllZip Both xs ys → Both (f xs) (g ys)) → Agree (with_set (seen t) f) (with_set (seen u) g)
with_set-agrees t u f g h k = let a = looked t u h in rw (a.on_left, a.on_right) (with_set-looks a.looks f g k)

with_map-looks : (a : Looks) (f g : List Tree → Tree) → ((xs ys : List Tree) → AllZip Pairs xs ys → Both (f xs) (g ys)) → Agree (with_map (left a) f) (with_map (right a) g)
with_map-looks (maps xs ys h) f g k = k xs ys h
with_map-looks _ f g k = refl

pub with_map-agrees : (t u : Tree) (f g : List Tree → Tree) → Both t u → ((xs ys : List Tree) → AllZip Pairs xs ys → Both (f xs) (g ys)) → Agree (with_map (seen t) f) (with_map (seen u) g)
with_map-agrees t u f g h k = let a = looked t u h in rw (a.on_left, a.on_right) (with_map-looks a.looks f g k)

-- lines of the table with one name and one number of arguments, whose answers on values that agree agree
abbrev pub Lines : Method → Method → Type 0
Lines m n = (m.name ≡ n.name) × (m.takes ≡ n.takes) × ((xs ys : List Tree) → AllZip Both xs ys → Agree (m.answer xs) (n.answer ys))

pub plain-lines : (n : List ℕ) (a b : Answer Tree) → Agree a b → Lines (plainly n a) (plainly n b)
plain-lines n a b h = (refl, refl, λ xs ys k. h)

pub given-lines : (n : List ℕ) (f g : Tree → Answer Tree) → ((t u : Tree) → Both t u → Agree (f t) (g u)) → Lines (given n f) (given n g)
given-lines n f g h = (refl, refl, λ xs ys k. h (at 0 xs) (at 0 ys) (at-twin 0 xs ys k))

pub two-lines : (n : List ℕ) (f g : Tree → Tree → Answer Tree) → ((t u v w : Tree) → Both t u → Both v w → Agree (f t v) (g u w)) → Lines (given_two n f) (given_two n g)
two-lines n f g h = (refl, refl, λ xs ys k. h (at 0 xs) (at 0 ys) (at 1 xs) (at 1 ys) (at-twin 0 xs ys k) (at-twin 1 xs ys k))
