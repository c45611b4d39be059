-- Bytes that are cut, and bytes that fall below others.
use Rattle.std.proofs.Common.{◌≡◌, ℕ, zero, suc, ◌<◌, ◌≤◌, ◌+◌, ◌*◌, ◌^◌, List, [], ◌∷◌, ◌++◌, take, get_or, length, refl, ap, sym, ◌∙◌, arith}
use Rattle.std.specs.Prelude.{true, ◌==◌}
use Rattle.std.specs.Ordering.{is_le, nat_cmp, ordering_then, ordering_index}
use Rattle.std.specs.declared.cmp.Ordering.{Ordering}
use Rattle.std.specs.declared.cmp.Ordering.TheVariants.{Less, Equal, Greater}
use Rattle.calculus.specs.Bytes.{be32}
use Rattle.calculus.specs.Order.{byte_cmp, up_to}
use Rattle.code_faults.specs.declared.fault.ReadFault.{ReadFault}
use Rattle.code_faults.specs.Refusing.{Denies}

-- the four bytes of a number
pub record Digits (n : ℕ) : Type 0 where
  pub a : ℕ
  pub b : ℕ
  pub c : ℕ
  pub d : ℕ
  pub is : be32 n ≡ a ∷ b ∷ c ∷ d ∷ []
  pub sum : n ≡ a * 16777216 + (b * 65536 + (c * 256 + d))
  pub small : (a < 256) × (b < 256) × (c < 256) × (d < 256)

pub digits : (n : ℕ) → n < 2 ^ 32 → Digits n
unfolding be32
digits n h = record { a = get_or (be32 n) 0 0; b = get_or (be32 n) 1 0; c = get_or (be32 n) 2 0; d = get_or (be32 n) 3 0; is = refl; sum = omega arith; small = (omega arith, omega arith, omega arith, omega arith) }

-- a number of which these are the first bytes, or which they begin with
pub record Within (bs : List ℕ) (n : ℕ) : Type 0 where
  pub low : get_or bs 0 0 * 16777216 + (get_or bs 1 0 * 65536 + (get_or bs 2 0 * 256 + get_or bs 3 0)) ≤ n
  pub high : n ≤ get_or bs 0 255 * 16777216 + (get_or bs 1 255 * 65536 + (get_or bs 2 255 * 256 + get_or bs 3 255))

one-in : (x y : ℕ) (xs ys : List ℕ) → x ∷ xs ≡ y ∷ ys → (x ≡ y) × (xs ≡ ys)
one-in x y xs ys e = (cc, cc)

within : (bs x y : List ℕ) (n a b c d : ℕ) → n ≡ a * 16777216 + (b * 65536 + (c * 256 + d)) → (a < 256) × (b < 256) × (c < 256) × (d < 256) → bs ++ x ≡ a ∷ b ∷ c ∷ d ∷ y → Within bs n
within [] x y n a b c d s m e = record { low = omega arith; high = omega (arith, m.0, m.1, m.2, m.3) }
within (k ∷ []) x y n a b c d s m e =
    let p = one-in k a x (b ∷ c ∷ d ∷ y) e in
    record { low = omega (arith, p.0); high = omega (arith, p.0, m.1, m.2, m.3) }
within (k ∷ l ∷ []) x y n a b c d s m e =
    let p = one-in k a (l ∷ x) (b ∷ c ∷ d ∷ y) e in
    let q = one-in l b x (c ∷ d ∷ y) p.1 in
    record { low = omega (arith, p.0, q.0); high = omega (arith, p.0, q.0, m.2, m.3) }
within (k ∷ l ∷ j ∷ []) x y n a b c d s m e =
    let p = one-in k a (l ∷ j ∷ x) (b ∷ c ∷ d ∷ y) e in
    let q = one-in l b (j ∷ x) (c ∷ d ∷ y) p.1 in
    let r = one-in j c x (d ∷ y) q.1 in
    record { low = omega (arith, p.0, q.0, r.0); high = omega (arith, p.0, q.0, r.0, m.3) }
within (k ∷ l ∷ j ∷ i ∷ bs) x y n a b c d s m e =
    let p = one-in k a (l ∷ j ∷ i ∷ (bs ++ x)) (b ∷ c ∷ d ∷ y) e in
    let q = one-in l b (j ∷ i ∷ (bs ++ x)) (c ∷ d ∷ y) p.1 in
    let r = one-in j c (i ∷ (bs ++ x)) (d ∷ y) q.1 in
    let t = one-in i d (bs ++ x) y r.1 in
    record { low = omega (arith, p.0, q.0, r.0, t.0); high = omega (arith, p.0, q.0, r.0, t.0) }

pub bounds : (bs x y : List ℕ) (n : ℕ) → n < 2 ^ 32 → bs ++ x ≡ be32 n ++ y → Within bs n
bounds bs x y n h e =
    let g = digits n h in
    within bs x y n g.a g.b g.c g.d g.sum g.small (e ∙ ap (λ (z : List ℕ). z ++ y) g.is)

equal_if : (o p q : Ordering) → is_le (ordering_then o p) ≡ true → ordering_then o q ≡ Greater → (is_le p ≡ true) × (q ≡ Greater)
equal_if Less p q h e = absurd (cc)
equal_if Equal p q h e = (h, e)
equal_if Greater p q h e = absurd (cc)

falls : (k : ℕ) (last bs c x y : List ℕ) → k ≤ length last → k ≤ length bs → byte_cmp (take k last) (take k bs) ≡ Greater → up_to last c ≡ true → bs ++ x ≡ c ++ y → ⊥
falls zero last bs c x y l m g u e = cc
falls (suc k) [] bs c x y l m g u e = omega arith
falls (suc k) (a ∷ last) [] c x y l m g u e = omega arith
falls (suc k) (a ∷ last) (b ∷ bs) [] x y l m g u e = cc
falls (suc k) (a ∷ last) (b ∷ bs) (d ∷ c) x y l m g u e =
    let p = one-in b d (bs ++ x) (c ++ y) e in
    let w : ordering_then (nat_cmp a d) (byte_cmp (take k last) (take k bs)) ≡ Greater = ap (λ (z : ℕ). ordering_then (nat_cmp a z) (byte_cmp (take k last) (take k bs))) (sym p.0) ∙ g in
    let q = equal_if (nat_cmp a d) (byte_cmp last c) (byte_cmp (take k last) (take k bs)) u w in
    falls k last bs c x y (omega arith) (omega arith) q.1 q.0 p.1

pub fallen : {e : ReadFault} (k : ℕ) (last bs c : List ℕ) → k ≤ length last → k ≤ length bs → byte_cmp (take k last) (take k bs) ≡ Greater → up_to last c ≡ true → Denies e bs c
fallen k last bs c l m g u = record { no = λ x y f q. falls k last bs c x y l m g u q }

pub past-end : (xs : List ℕ) (i d : ℕ) → length xs ≤ i → get_or xs i d ≡ d
past-end [] i d h = refl
past-end (x ∷ xs) zero d h = absurd (omega arith)
past-end (x ∷ xs) (suc i) d h = past-end xs i d (omega arith)

pub in-end : (xs : List ℕ) (i d : ℕ) → i < length xs → get_or xs i d ≡ get_or xs i 0
in-end [] i d h = absurd (omega arith)
in-end (x ∷ xs) zero d h = refl
in-end (x ∷ xs) (suc i) d h = in-end xs i d (omega arith)

-- the ordering whose number is 2
pub greater_is : (o : Ordering) → (ordering_index o == 2) ≡ true → o ≡ Greater
greater_is Less e = absurd (cc)
greater_is Equal e = absurd (cc)
greater_is Greater e = refl
