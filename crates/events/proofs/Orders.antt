-- Lists with the same members in another order.
use Rattle.std.proofs.Common.{◌≡◌, ℕ, ◌+◌, Bool, true, false, cond, List, [], ◌∷◌, refl, ap, ◌∙◌, arith, inl, inr}
use Rattle.std.specs.Str.{bytes_eq}
use Rattle.calculus.specs.Rows.{Row}
use Rattle.calculus.specs.Steps.{is_one_of}
use Rattle.events.proofs.Counts.{ids, times, one_if}
use Rattle.events.specs.Found.{without}
use Rattle.std.specs.Prelude.{IsPermutation}
use Rattle.calculus.proofs.Members.{Member}
use Rattle.calculus.specs.Exchanges.{Exchanges, nothing, under, neighbours, then}
use Rattle.calculus.proofs.Permutations.{exchanges, unmoved, keep, exchange, join}

-- what is in the one list is in the other
pub member-moved : {A : Type 0} (z : A) {xs ys : List A} → IsPermutation xs ys → Member z xs → Member z ys
member-moved {A} z p = go (exchanges p)
  where
    go : {xs ys : List A} → Exchanges xs ys → Member z xs → Member z ys
    go nothing m = m
    go (under x h) (inl e) = inl e
    go (under x h) (inr m) = inr (go h m)
    go (neighbours x y zs) (inl e) = inr (inl e)
    go (neighbours x y zs) (inr (inl e)) = inl e
    go (neighbours x y zs) (inr (inr m)) = inr (inr m)
    go (then h k) m = go k (go h m)

-- an id stands in both as often
pub times-moved : (x : List ℕ) {rs qs : List Row} → IsPermutation rs qs → times x (ids rs) ≡ times x (ids qs)
times-moved x p = go (exchanges p)
  where
    go : {rs qs : List Row} → Exchanges rs qs → times x (ids rs) ≡ times x (ids qs)
    go nothing = refl
    go (under r h) = ap (λ n. one_if (bytes_eq x r.id) + n) (go h)
    go (neighbours r q zs) = omega arith
    go (then h k) = go h ∙ go k

-- the same rows leave both
pub without-moved : (ns : List (List ℕ)) {rs qs : List Row} → IsPermutation rs qs → IsPermutation (without ns rs) (without ns qs)
without-moved ns p = all (exchanges p)
  where
    one : (xs ys : List Row) (r : Row) (b : Bool) → IsPermutation (without ns xs) (without ns ys) → IsPermutation (cond b (without ns xs) (r ∷ without ns xs)) (cond b (without ns ys) (r ∷ without ns ys))
    one xs ys r true k = k
    one xs ys r false k = keep r k

    two : (zs : List Row) (r q : Row) (b c : Bool) → IsPermutation (cond b (cond c (without ns zs) (q ∷ without ns zs)) (r ∷ cond c (without ns zs) (q ∷ without ns zs))) (cond c (cond b (without ns zs) (r ∷ without ns zs)) (q ∷ cond b (without ns zs) (r ∷ without ns zs)))
    two zs r q true true = unmoved (without ns zs)
    two zs r q true false = unmoved (q ∷ without ns zs)
    two zs r q false true = unmoved (r ∷ without ns zs)
    two zs r q false false = exchange r q (without ns zs)

    all : {rs qs : List Row} → Exchanges rs qs → IsPermutation (without ns rs) (without ns qs)
    all nothing = unmoved []
    all (under {xs} {ys} r h) = one xs ys r (is_one_of r.id ns) (all h)
    all (neighbours r q zs) = two zs r q (is_one_of r.id ns) (is_one_of q.id ns)
    all (then h k) = join (all h) (all k)
