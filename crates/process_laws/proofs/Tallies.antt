-- Congruent bags, member by member: lists of keys that hold the same, each as often.
use Rattle.std.proofs.Common.{◌≡◌, ℕ, suc, ◌+◌, ◌<◌, Bool, true, false, cond, List, [], ◌∷◌, length, map as each, refl, sym, ap, ◌∙◌, arith, length-append}
use Rattle.std.specs.Str.{bytes_eq}
use Rattle.calculus.specs.Tree.{Label, receive, new, match, some_process, some_name, rest, same, Tree, node, Trees, none, also, trees}
use Rattle.calculus.specs.declared.plain.TermRest.TheVariants as rests
use Rattle.calculus.specs.Shape.{joined_trees}
use Rattle.calculus.specs.Order.{up_to, sorted}
use Rattle.calculus.specs.Congruence.{is_bag}
use Rattle.calculus.specs.Code.{code, arranged}
use Rattle.calculus.specs.Variables.{Sense, own, bound, bound_all}
use Rattle.calculus.specs.Normal.{placed_by, by_code, ascending}
use Rattle.calculus.proofs.Counting.{hit, times, bytes_self, bytes_equal, order_from_counts, counts_from_order, length_from_order}
use Rattle.calculus.proofs.Equivalence.{everywhere}
use Rattle.calculus.proofs.Keys.{key, key_all, equal_nodes}

-- as many, and each as often
abbrev pub AreEven : List (List ℕ) → List (List ℕ) → Type 0
AreEven cs ds = (length cs ≡ length ds) × ((x : List ℕ) → times x cs ≡ times x ds)

pub even-sorted : (cs ds : List (List ℕ)) → AreEven cs ds → sorted cs ≡ sorted ds
even-sorted cs ds h = order_from_counts cs ds h.0 (everywhere (λ c. times c cs ≡ times c ds) h.1 cs)

pub sorted-even : (cs ds : List (List ℕ)) → sorted cs ≡ sorted ds → AreEven cs ds
sorted-even cs ds e = (length_from_order cs ds e, λ x. counts_from_order x cs ds e)

-- a sum over trees
abbrev pub total : (Tree → ℕ) → Trees → ℕ
total f none = 0
total f (also t ts) = f t + total f ts

pub times-total : (x : List ℕ) (ts : Trees) → times x (key_all ts) ≡ total (λ t. hit x (key t)) ts
times-total x none = refl
times-total x (also t ts) = ap (λ n. hit x (key t) + n) (times-total x ts)

pub length-total : (ts : Trees) → length (key_all ts) ≡ total (λ t. 1) ts
length-total none = refl
length-total (also t ts) = omega (arith, length-total ts)

-- one tree with this key, and the others
record Pick (k : List ℕ) (us : Trees) : Type 0 where
  one : Tree
  others : Trees
  has : k ≡ key one
  sums : (f : Tree → ℕ) → total f us ≡ f one + total f others

pick : (k : List ℕ) (us : Trees) → 0 < times k (key_all us) → Pick k us
pick k none h = absurd (none-there h)
  where
    none-there : 0 < 0 → ⊥
    none-there h = omega (arith, h)
pick k (also u us) h = go (bytes_eq k (key u)) refl (pick k us)
  where
    go : (b : Bool) → bytes_eq k (key u) ≡ b → (0 < times k (key_all us) → Pick k us) → Pick k (also u us)
    go true e next = record { one = u; others = us; has = bytes_equal k (key u) e; sums = λ f. refl }
    go false e next =
        let z : hit k (key u) ≡ 0 = ap (λ b. cond b 1 0) e in
        let p = next (omega (arith, h, z)) in
        record { one = p.one; others = also u p.others; has = p.has; sums = λ f. omega (arith, p.sums f) }

-- trees in another order
abbrev pub AreMixed : Trees → Trees → Type 0
AreMixed vs us = (f : Tree → ℕ) → total f vs ≡ total f us

self-hit : (c : List ℕ) → hit c c ≡ 1
self-hit c = ap (λ b. cond b 1 0) (bytes_self c)

-- congruent bags, one by one once the second is put in another order
pub matching : (ts us : Trees) → AreEven (key_all ts) (key_all us) → (vs : Trees) × (key_all ts ≡ key_all vs) × AreMixed vs us
matching none none h = (none, refl, λ f. refl)
matching none (also u us) h = absurd (no-length (length (key_all us)) h.0)
  where
    no-length : (n : ℕ) → 0 ≡ suc n → ⊥
    no-length n e = omega (arith, e)
matching (also t ts) us h =
    let p = pick (key t) us (omega (arith, h.1 (key t), self-hit (key t))) in
    let e : AreEven (key_all ts) (key_all p.others) = (omega (arith, h.0, length-total us, p.sums (λ t. 1), length-total p.others), λ x. left x p (h.1 x)) in
    let r = matching ts p.others e in
    (also p.one r.0, both (key t) (key p.one) (key_all ts) (key_all r.0) p.has r.1, λ f. omega (arith, p.sums f, r.2 f))
  where
    left : (x : List ℕ) (p : Pick (key t) us) → hit x (key t) + times x (key_all ts) ≡ times x (key_all us) → times x (key_all ts) ≡ times x (key_all p.others)
    left x p e =
        let s = p.sums (λ u. hit x (key u)) in
        let k : hit x (key t) ≡ hit x (key p.one) = ap (hit x) p.has in
        omega (arith, e, s, k, times-total x us, times-total x p.others)

    both : (k x : List ℕ) (ks ls : List (List ℕ)) → k ≡ x → ks ≡ ls → k ∷ ks ≡ x ∷ ls
    both k x ks ls e f = cc (e, f)

-- how many variables are bound is told by the key
own-length : (l : Label) (vs ws : List Sense) → length vs ≡ length ws → length (own l vs) ≡ length (own l ws)
own-length some_process vs ws e = refl
own-length some_name vs ws e = refl
own-length (rest rests.Var) vs ws e = refl
own-length same vs ws e = refl
own-length (receive k) vs ws e = refl
own-length (new os) vs ws e = refl
own-length match vs ws e = refl
own-length _ vs ws e = e

-- how many variables a tree binds
abbrev bound_count : Tree → ℕ
bound_count t = length (bound t)

pub bound-total : (ts : Trees) → length (bound_all ts) ≡ total bound_count ts
bound-total none = refl
bound-total (also t ts) = omega (arith, length-append (bound t) (bound_all ts), bound-total ts)

by-order : (b : Bool) (ts us : Trees) → ((vs : Trees) → key_all ts ≡ key_all vs → total bound_count ts ≡ total bound_count vs) → arranged b (key_all ts) ≡ arranged b (key_all us) → total bound_count ts ≡ total bound_count us
by-order true ts us f e = let m = matching ts us (sorted-even (key_all ts) (key_all us) e) in f m.0 m.1 ∙ m.2 bound_count
by-order false ts us f e = f us e

mutual
  pub same-binds : (t u : Tree) → key t ≡ key u → bound_count t ≡ bound_count u
  same-binds (node l ts) (node m us) e =
      let n = equal_nodes l m ts us e in
      let k : length (bound_all ts) ≡ length (bound_all us) = bound-total ts ∙ by-order (is_bag l) ts us (λ vs q. all-binds ts vs q) n.1 ∙ sym (bound-total us) in
      own-length l (bound_all ts) (bound_all us) k ∙ ap (λ x. length (own x (bound_all us))) n.0

  pub all-binds : (ts vs : Trees) → key_all ts ≡ key_all vs → total bound_count ts ≡ total bound_count vs
  all-binds none none e = refl
  all-binds none (also v vs) e = cc
  all-binds (also t ts) none e = cc
  all-binds (also t ts) (also v vs) e =
      let x : key t ≡ key v = cc in
      let y : key_all ts ≡ key_all vs = cc in
      omega (arith, same-binds t v x, all-binds ts vs y)

-- sums do not depend on the order
module _ (f : Tree → ℕ) where
  -- the sum over these trees
  abbrev sums : List (List ℕ × Tree) → ℕ
  sums [] = 0
  sums (x ∷ xs) = f x.1 + sums xs

  sum-placed : (x : List ℕ × Tree) (xs : List (List ℕ × Tree)) → sums (placed_by x xs) ≡ f x.1 + sums xs
  unfolding placed_by
  sum-placed x [] = refl
  sum-placed x (y ∷ ys) =
      elim (up_to x.0 y.0) as (λ (b : Bool). sums (cond b (x ∷ y ∷ ys) (y ∷ placed_by x ys)) ≡ f x.1 + (f y.1 + sums ys)) [ true ↦ refl | false ↦ omega (arith, sum-placed x ys) ]

  sum-by-code : (xs : List (List ℕ × Tree)) → sums (by_code xs) ≡ sums xs
  unfolding by_code
  sum-by-code [] = refl
  sum-by-code (x ∷ xs) = omega (arith, sum-placed x (by_code xs), sum-by-code xs)

  seconds : (xs : List (List ℕ × Tree)) → total f (trees (each (λ p. p.1) xs)) ≡ sums xs
  seconds [] = refl
  seconds (x ∷ xs) = ap (λ n. f x.1 + n) (seconds xs)

  beside : (ts : List Tree) → sums (each (λ t. (code t, t)) ts) ≡ total f (trees ts)
  beside [] = refl
  beside (t ∷ ts) = ap (λ n. f t + n) (beside ts)

  pub total-ascending : (ts : List Tree) → total f (trees (ascending ts)) ≡ total f (trees ts)
  unfolding ascending
  total-ascending ts = let xs = each (λ t. (code t, t)) ts in seconds (by_code xs) ∙ sum-by-code xs ∙ beside ts

  pub total-joined : (ts us : Trees) → total f (joined_trees ts us) ≡ total f ts + total f us
  total-joined none us = omega arith
  total-joined (also t ts) us = omega (arith, total-joined ts us)
