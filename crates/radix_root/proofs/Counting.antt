-- How many steps it takes to give groups to nodes.
use Rattle.std.proofs.Common.{◌≡◌, ℕ, zero, suc, ◌+◌, ◌-◌, ◌*◌, ◌<◌, ◌≤◌, ◌∙◌, ap, sym, subst, arith}
use Rattle.std.proofs.Math.Nat.{mul-zero, mul-suc}

shared : (k a b : ℕ) → k * (a + b) ≡ k * a + k * b
shared k a zero =
    let e : a + zero ≡ a = omega arith in
    ap (λ n. k * n) e ∙ omega (arith, mul-zero k)
shared k a (suc b) =
    let e : a + suc b ≡ suc (a + b) = omega arith in
    ap (λ n. k * n) e ∙ mul-suc k (a + b) ∙ omega (arith, shared k a b, mul-suc k b)

-- one more group is given
pub one-more : (k i first now next : ℕ) → now ≤ first + k * i → next ≤ now + k → next ≤ first + k * (i + 1)
one-more k i first now next a b =
    let one : i + 1 ≡ suc i = omega arith in
    let e : k * (i + 1) ≡ k * i + k = ap (λ n. k * n) one ∙ mul-suc k i in
    omega (arith, a, b, e)

-- a run of groups is given, and others are left
pub run-more : (k run others left top now next : ℕ) → left ≡ run + others → now + k * left ≤ top → next ≤ now + k * run → next + k * others ≤ top
run-more k run others left top now next e a b =
    let f : k * left ≡ k * run + k * others = ap (λ n. k * n) e ∙ shared k run others in
    omega (arith, a, b, f)

-- of a node at the next depth
pub one-deeper : (depth deep count first last : ℕ) → deep ≡ depth + 1 → last ≤ first + (64 - deep) * count → last ≤ first + (63 - depth) * count
one-deeper depth deep count first last e h =
    let same : 64 - deep ≡ 63 - depth = omega (arith, e) in
    subst (λ n. last ≤ first + n * count) same h

over : (k n : ℕ) → suc k * n ≡ k * n + n
over k zero = omega (arith, mul-zero k, mul-zero (suc k))
over k (suc n) = omega (arith, mul-suc (suc k) n, mul-suc k n, over k n)

-- one step more than those of the nodes at the next depth
pub whole-more : (d n first now last : ℕ) → d < 64 → 1 ≤ n → now ≤ first + (63 - d) * n → last ≤ now + 1 → last ≤ first + (64 - d) * n
whole-more d n first now last l s a b =
    let e : suc (63 - d) ≡ 64 - d = omega (arith, l) in
    let f : suc (63 - d) * n ≡ (64 - d) * n = ap (λ m. m * n) e in
    omega (arith, s, a, b, f, over (63 - d) n)

-- those of the first groups are no more than those of all
pub within-all : (k i n first last : ℕ) → i ≤ n → last ≤ first + k * i → last ≤ first + k * n
within-all k i n first last l a =
    let e : i + (n - i) ≡ n = omega (arith, l) in
    let f : k * n ≡ k * i + k * (n - i) = sym (ap (λ m. k * m) e) ∙ shared k i (n - i) in
    omega (arith, a, f)
