-- Merging of lists that ascend in their keys.
use Rattle.std.proofs.Common.{◌≡◌, ℕ, Bool, true, false, cond, ◌||◌, List, [], ◌∷◌, ◌++◌, append_assoc, refl, sym, ap, ◌∙◌, subst, inl, inr}
use Rattle.std.specs.Prelude.{⊤}
use Rattle.std.proofs.lemmas.Bool.{cases_Bool, cond-true, cond-false, or_parts, or_left, or_from, false≢true}
use Rattle.std.proofs.lemmas.Cmp.{nat_list_cmp_total}
use Rattle.std.proofs.lemmas.List.{append-nil}
use Rattle.std.specs.Ordering.{is_eq, ordering_reverse}
use Rattle.std.specs.declared.cmp.Ordering.{Ordering}
use Rattle.std.specs.declared.cmp.Ordering.TheVariants.{Less, Equal, Greater}
use Rattle.calculus.specs.Order.{up_to, byte_cmp}
use Rattle.calculus.proofs.Ordered.{equal, up_to_total, up_to_both, up_to_trans}
use Rattle.code_order.proofs.Keys.{put_in, sort_in, Below, Up, put-none, put-front, put-further, sort-none, sort-cons, up-sort, arranged-sort}
use Rattle.coll_ops.specs.Keys.{same, has_key, last_each, once_each}
use Rattle.coll_ops.specs.Merging.{low as lower, high as higher, put_last as puts_last, put_all as puts_all}

own : (o : Ordering) → o ≡ ordering_reverse o → o ≡ Equal
own Less e = cc
own Equal e = refl
own Greater e = cc

as_equal : (o : Ordering) → is_eq o ≡ true → o ≡ Equal
as_equal Less e = cc
as_equal Equal e = refl
as_equal Greater e = cc

turned : (o : Ordering) → is_eq (ordering_reverse o) ≡ is_eq o
turned Less = refl
turned Equal = refl
turned Greater = refl

pub same-self : (a : List ℕ) → same a a ≡ true
same-self a = ap is_eq (own (byte_cmp a a) (nat_list_cmp_total.antisymm a a))

pub one : (a b : List ℕ) → same a b ≡ true → a ≡ b
one a b e = equal a b (as_equal (byte_cmp a b) e)

pub same-turned : (a b : List ℕ) → same a b ≡ same b a
same-turned a b = ap is_eq (nat_list_cmp_total.antisymm a b) ∙ turned (byte_cmp b a)

pub up_to_same : (a : List ℕ) → up_to a a ≡ true
up_to_same a = elim (cases_Bool (up_to a a)) [ inl e ↦ e | inr e ↦ up_to_total a a e ]

-- where the one is not up to the other, they differ
pub apart : (a b : List ℕ) → up_to a b ≡ false → same a b ≡ false
apart a b e =
    elim (cases_Bool (same a b)) [
      | inl s ↦ absurd (false≢true (sym e ∙ subst (λ x. up_to a x ≡ true) (one a b s) (up_to_same a)))
      | inr n ↦ n
    ]

or-swap : (a b c : Bool) → (a || (b || c)) ≡ (b || (a || c))
or-swap true true c = refl
or-swap true false c = refl
or-swap false true c = refl
or-swap false false c = refl

pub or-false : (a : Bool) → (a || false) ≡ a
or-false true = refl
or-false false = refl

or-assoc : (a b c : Bool) → ((a || b) || c) ≡ (a || (b || c))
or-assoc true b c = refl
or-assoc false b c = refl

module _ {X : Type 0} (k : X → List ℕ) where
  abbrev low : List ℕ → List X → List X
  low = lower k

  abbrev high : List ℕ → List X → List X
  high = higher k

  abbrev put_last : List X → X → List X
  put_last = puts_last k

  abbrev put_all : List X → List X → List X
  put_all = puts_all k

  -- two lists merged: of equal keys those of the left one stand first
  abbrev pub merge : List X → List X → List X
  merge [] ys = ys
  merge (x ∷ xs) ys = low (k x) ys ++ x ∷ merge xs (high (k x) ys)

  put-alone : (x : X) (ys : List X) → put_in k x ys ≡ low (k x) ys ++ x ∷ high (k x) ys
  put-alone x [] = put-none k x
  put-alone x (y ∷ ys) =
      elim (cases_Bool (up_to (k x) (k y))) [
        | inl e ↦ put-front k x y ys e ∙ sym (rw e refl)
        | inr e ↦ put-further k x y ys e ∙ ap (λ zs. y ∷ zs) (put-alone x ys) ∙ sym (rw e refl)
      ]

  merge-left : (z y : X) (zs ys : List X) → up_to (k z) (k y) ≡ true → merge (z ∷ zs) (y ∷ ys) ≡ z ∷ merge zs (y ∷ ys)
  merge-left z y zs ys e = rw e refl

  merge-right : (z y : X) (zs ys : List X) → up_to (k z) (k y) ≡ false → merge (z ∷ zs) (y ∷ ys) ≡ y ∷ merge (z ∷ zs) ys
  merge-right z y zs ys e = rw e refl

  -- what stands before both lists stands before them merged
  before : (x z y : X) (zs ys : List X) → up_to (k x) (k z) ≡ true → up_to (k x) (k y) ≡ true → put_in k x (merge (z ∷ zs) (y ∷ ys)) ≡ x ∷ merge (z ∷ zs) (y ∷ ys)
  before x z y zs ys b e =
      elim (cases_Bool (up_to (k z) (k y))) [
        | inl f ↦
            let m = merge-left z y zs ys f in
            ap (put_in k x) m ∙ put-front k x z (merge zs (y ∷ ys)) b ∙ ap (λ l. x ∷ l) (sym m)
        | inr f ↦
            let m = merge-right z y zs ys f in
            ap (put_in k x) m ∙ put-front k x y (merge (z ∷ zs) ys) e ∙ ap (λ l. x ∷ l) (sym m)
      ]

  -- merging with one thing more before the left list
  put-merge : (x : X) (xs ys : List X) → Below k x xs → put_in k x (merge xs ys) ≡ low (k x) ys ++ x ∷ merge xs (high (k x) ys)
  put-merge x [] ys b = put-alone x ys
  put-merge x (z ∷ zs) [] b = put-front k x z (merge zs []) b
  put-merge x (z ∷ zs) (y ∷ ys) b =
      elim (cases_Bool (up_to (k x) (k y))) [
        | inl e ↦ before x z y zs ys b e ∙ sym (rw e refl)
        | inr e ↦
            let n : up_to (k z) (k y) ≡ false = elim (cases_Bool (up_to (k z) (k y))) [
              | inl f ↦ absurd (false≢true (sym e ∙ up_to_trans (k x) (k z) (k y) b f))
              | inr f ↦ f
            ] in
            ap (put_in k x) (merge-right z y zs ys n) ∙ put-further k x y (merge (z ∷ zs) ys) e ∙ ap (λ l. y ∷ l) (put-merge x (z ∷ zs) ys b) ∙ sym (rw e refl)
      ]

  pub sorted-up : (ys : List X) → Up k ys → sort_in k ys ≡ ys
  sorted-up [] u = sort-none k
  sorted-up (y ∷ []) u = sort-cons k y [] ∙ ap (put_in k y) (sort-none k) ∙ put-none k y
  sorted-up (y ∷ z ∷ zs) u = sort-cons k y (z ∷ zs) ∙ ap (put_in k y) (sorted-up (z ∷ zs) u.1) ∙ put-front k y z zs u.0

  -- lists that ascend, merged, are sorted
  merged : (xs ys : List X) → Up k xs → Up k ys → merge xs ys ≡ sort_in k (xs ++ ys)
  merged [] ys u v = sym (sorted-up ys v)
  merged (x ∷ xs) ys u v = sym (put-merge x xs ys u.0) ∙ ap (put_in k x) (merged xs ys u.1 v) ∙ sym (sort-cons k x (xs ++ ys))

  has-put : (c : List ℕ) (x : X) (ys : List X) → has_key k c (put_in k x ys) ≡ has_key k c (x ∷ ys)
  has-put c x [] = ap (has_key k c) (put-none k x)
  has-put c x (y ∷ ys) =
      elim (cases_Bool (up_to (k x) (k y))) [
        | inl e ↦ ap (has_key k c) (put-front k x y ys e)
        | inr e ↦
            ap (has_key k c) (put-further k x y ys e) ∙ ap (λ b. same (k y) c || b) (has-put c x ys) ∙ or-swap (same (k y) c) (same (k x) c) (has_key k c ys)
      ]

  pub has-sort : (c : List ℕ) (xs : List X) → has_key k c (sort_in k xs) ≡ has_key k c xs
  has-sort c [] = ap (has_key k c) (sort-none k)
  has-sort c (x ∷ xs) = ap (has_key k c) (sort-cons k x xs) ∙ has-put c x (sort_in k xs) ∙ ap (λ b. same (k x) c || b) (has-sort c xs)

  pub kept-dropped : (x : X) (xs : List X) → has_key k (k x) xs ≡ true → last_each k (x ∷ xs) ≡ last_each k xs
  kept-dropped x xs e = cond-true (has_key k (k x) xs) (last_each k xs) (x ∷ last_each k xs) e

  pub kept-kept : (x : X) (xs : List X) → has_key k (k x) xs ≡ false → last_each k (x ∷ xs) ≡ x ∷ last_each k xs
  kept-kept x xs e = cond-false (has_key k (k x) xs) (last_each k xs) (x ∷ last_each k xs) e

  -- no key of these is less
  abbrev pub Over : List ℕ → List X → Type 0
  Over c [] = ⊤
  Over c (y ∷ ys) = (up_to c (k y) ≡ true) × Over c ys

  over-more : (a b : List ℕ) (ys : List X) → up_to a b ≡ true → Over b ys → Over a ys
  over-more a b [] e o = tt
  over-more a b (y ∷ ys) e o = (up_to_trans a b (k y) e o.0, over-more a b ys e o.1)

  pub over-up : (x : X) (xs : List X) → Up k (x ∷ xs) → Over (k x) xs
  over-up x [] u = tt
  over-up x (y ∷ ys) u = (u.0, over-more (k x) (k y) ys u.0 (over-up y ys u.1))

  over-kept : (c : List ℕ) (xs : List X) → Over c xs → Over c (last_each k xs)
  over-kept c [] o = tt
  over-kept c (x ∷ xs) o =
      elim (has_key k (k x) xs) as (λ (b : Bool). Over c (cond b (last_each k xs) (x ∷ last_each k xs))) [ true ↦ over-kept c xs o.1 | false ↦ (o.0, over-kept c xs o.1) ]

  over-end : (c : List ℕ) (ys : List X) (x : X) → Over c (ys ++ x ∷ []) → up_to c (k x) ≡ true
  over-end c [] x o = o.0
  over-end c (y ∷ ys) x o = over-end c ys x o.1

  put-below : (x : X) (ys : List X) → Over (k x) ys → put_in k x ys ≡ x ∷ ys
  put-below x [] o = put-none k x
  put-below x (y ∷ ys) o = put-front k x y ys o.0

  -- one thing put in, and of each key the last kept
  past : (x y : X) (ys : List X) → last_each k (put_in k x ys) ≡ cond (has_key k (k x) ys) (last_each k ys) (put_in k x (last_each k ys)) → up_to (k x) (k y) ≡ false
      → last_each k (y ∷ put_in k x ys) ≡ cond (has_key k (k x) (y ∷ ys)) (last_each k (y ∷ ys)) (put_in k x (last_each k (y ∷ ys)))
  past x y ys h e =
      let l = last_each k ys in
      let a : has_key k (k y) (put_in k x ys) ≡ has_key k (k y) ys = has-put (k y) x ys ∙ ap (λ b. b || has_key k (k y) ys) (apart (k x) (k y) e) in
      let b : has_key k (k x) (y ∷ ys) ≡ has_key k (k x) ys = ap (λ b. b || has_key k (k x) ys) (same-turned (k y) (k x) ∙ apart (k x) (k y) e) in
      let to : (m : List X) → last_each k (y ∷ ys) ≡ m → cond (has_key k (k x) ys) m (put_in k x m) ≡ cond (has_key k (k x) (y ∷ ys)) (last_each k (y ∷ ys)) (put_in k x (last_each k (y ∷ ys))) =
      λ m g. ap (λ n. cond (has_key k (k x) ys) n (put_in k x n)) (sym g) ∙ ap (λ t. cond t (last_each k (y ∷ ys)) (put_in k x (last_each k (y ∷ ys)))) (sym b)
      in
      elim (cases_Bool (has_key k (k y) ys)) [
        | inl f ↦ cond-true (has_key k (k y) (put_in k x ys)) (last_each k (put_in k x ys)) (y ∷ last_each k (put_in k x ys)) (a ∙ f) ∙ h ∙ to l (kept-dropped y ys f)
        | inr f ↦
            let pull : y ∷ cond (has_key k (k x) ys) l (put_in k x l) ≡ cond (has_key k (k x) ys) (y ∷ l) (put_in k x (y ∷ l)) =
            elim (has_key k (k x) ys) as (λ (t : Bool). y ∷ cond t l (put_in k x l) ≡ cond t (y ∷ l) (put_in k x (y ∷ l))) [ true ↦ refl | false ↦ sym (put-further k x y l e) ]
            in
            cond-false (has_key k (k y) (put_in k x ys)) (last_each k (put_in k x ys)) (y ∷ last_each k (put_in k x ys)) (a ∙ f) ∙ ap (λ m. y ∷ m) h ∙ pull ∙ to (y ∷ l) (kept-kept y ys f)
      ]

  kept-put : (x : X) (ys : List X) → Up k ys → last_each k (put_in k x ys) ≡ cond (has_key k (k x) ys) (last_each k ys) (put_in k x (last_each k ys))
  kept-put x [] u = ap (last_each k) (put-none k x) ∙ sym (put-none k x)
  kept-put x (y ∷ ys) u =
      elim (cases_Bool (up_to (k x) (k y))) [
        | inl e ↦
            let o : Over (k x) (y ∷ ys) = (e, over-more (k x) (k y) ys e (over-up y ys u)) in
            ap (last_each k) (put-front k x y ys e)
            ∙ ap (λ zs. cond (has_key k (k x) (y ∷ ys)) (last_each k (y ∷ ys)) zs) (sym (put-below x (last_each k (y ∷ ys)) (over-kept (k x) (y ∷ ys) o)))
        | inr e ↦ ap (last_each k) (put-further k x y ys e) ∙ past x y ys (kept-put x ys u.1) e
      ]

  pub kept-sort : (xs : List X) → last_each k (sort_in k xs) ≡ sort_in k (last_each k xs)
  kept-sort [] = ap (last_each k) (sort-none k) ∙ sym (sort-none k)
  kept-sort (x ∷ xs) =
      let l = last_each k xs in
      ap (last_each k) (sort-cons k x xs) ∙ kept-put x (sort_in k xs) (up-sort k xs)
      ∙ ap (λ t. cond t (last_each k (sort_in k xs)) (put_in k x (last_each k (sort_in k xs)))) (has-sort (k x) xs)
      ∙ ap (λ m. cond (has_key k (k x) xs) m (put_in k x m)) (kept-sort xs)
      ∙ elim (has_key k (k x) xs) as (λ (t : Bool). cond t (sort_in k l) (put_in k x (sort_in k l)) ≡ sort_in k (cond t l (x ∷ l))) [ true ↦ refl | false ↦ sym (sort-cons k x l) ]

  has-end : (c : List ℕ) (ys : List X) (x : X) → has_key k c (ys ++ x ∷ []) ≡ (has_key k c ys || same (k x) c)
  has-end c [] x = or-false (same (k x) c)
  has-end c (y ∷ ys) x = ap (λ b. same (k y) c || b) (has-end c ys x) ∙ sym (or-assoc (same (k y) c) (has_key k c ys) (same (k x) c))

  -- of some things one is kept
  kept-some : (y : X) (ys : List X) → (z : X) × ((zs : List X) × (last_each k (y ∷ ys) ≡ z ∷ zs))
  kept-some y [] = (y, ([], refl))
  kept-some y (w ∷ ws) =
      elim (cases_Bool (has_key k (k y) (w ∷ ws))) [
        | inl f ↦
            let r = kept-some w ws in
            (r.0, (r.1.0, kept-dropped y (w ∷ ws) f ∙ r.1.1))
        | inr f ↦ (y, (last_each k (w ∷ ws), kept-kept y (w ∷ ws) f))
      ]

  put-behind : (y : X) (l : List X) (x z : X) (zs : List X) → l ≡ z ∷ zs → put_last (y ∷ l) x ≡ y ∷ put_last l x
  put-behind y l x z zs e = ap (λ m. put_last (y ∷ m) x) e ∙ ap (λ m. y ∷ put_last m x) (sym e)

  kept-end : (xs : List X) (x : X) → Up k (xs ++ x ∷ []) → last_each k (xs ++ x ∷ []) ≡ put_last (last_each k xs) x
  kept-end [] x u = refl
  kept-end (y ∷ []) x u = ap (λ b. cond b (x ∷ []) (y ∷ x ∷ [])) (or-false (same (k x) (k y)) ∙ same-turned (k x) (k y))
  kept-end (y ∷ w ∷ ws) x u =
      let tail = kept-end (w ∷ ws) x u.1 in
      let h = has-end (k y) (w ∷ ws) x in
      elim (cases_Bool (has_key k (k y) (w ∷ ws))) [
        | inl f ↦ kept-dropped y ((w ∷ ws) ++ x ∷ []) (h ∙ or_left (has_key k (k y) (w ∷ ws)) (same (k x) (k y)) f) ∙ tail ∙ ap (λ l. put_last l x) (sym (kept-dropped y (w ∷ ws) f))
        | inr f ↦
            let n : same (k x) (k y) ≡ false = elim (cases_Bool (same (k x) (k y))) [
              | inr g ↦ g
              | inl g ↦
                  let a : up_to (k w) (k y) ≡ true = subst (λ c. up_to (k w) c ≡ true) (one (k x) (k y) g) (over-end (k w) ws x (over-up w (ws ++ x ∷ []) u.1)) in
                  let b : k y ≡ k w = up_to_both (k y) (k w) u.0 a in
                  absurd (false≢true (sym (or_parts (same (k w) (k y)) (has_key k (k y) ws) f).0 ∙ subst (λ c. same (k w) c ≡ true) (sym b) (same-self (k w))))
            ] in
            let r = kept-some w ws in
            kept-kept y ((w ∷ ws) ++ x ∷ []) (h ∙ or_from (has_key k (k y) (w ∷ ws)) (same (k x) (k y)) f n) ∙ ap (λ l. y ∷ l) tail ∙ sym (put-behind y (last_each k (w ∷ ws)) x r.0 r.1.0 r.1.1)
            ∙ ap (λ l. put_last l x) (sym (kept-kept y (w ∷ ws) f))
      ]

  up-front : (xs ys : List X) → Up k (xs ++ ys) → Up k xs
  up-front [] ys u = tt
  up-front (x ∷ []) ys u = (tt, tt)
  up-front (x ∷ y ∷ xs) ys u = (u.0, up-front (y ∷ xs) ys u.1)

  all-from : (xs zs : List X) → Up k (xs ++ zs) → put_all (last_each k xs) zs ≡ last_each k (xs ++ zs)
  all-from xs [] u = ap (last_each k) (sym (append-nil xs))
  all-from xs (z ∷ zs) u =
      let v : Up k ((xs ++ z ∷ []) ++ zs) = subst (Up k) (sym (append_assoc xs (z ∷ []) zs)) u in
      ap (λ l. put_all l zs) (sym (kept-end xs z (up-front (xs ++ z ∷ []) zs v))) ∙ all-from (xs ++ z ∷ []) zs v ∙ ap (last_each k) (append_assoc xs (z ∷ []) zs)

  -- two lists that ascend, put one after another as they are merged
  pub merged-once : (xs ys : List X) → Up k xs → Up k ys → put_all [] (merge xs ys) ≡ once_each k (xs ++ ys)
  merged-once xs ys u v =
      ap (put_all []) (merged xs ys u v) ∙ all-from [] (sort_in k (xs ++ ys)) (up-sort k (xs ++ ys)) ∙ kept-sort (xs ++ ys) ∙ sym (arranged-sort k (last_each k (xs ++ ys)))

  -- one list that ascends
  pub up-once : (zs : List X) → Up k zs → put_all [] zs ≡ once_each k zs
  up-once zs u = all-from [] zs u ∙ ap (last_each k) (sym (sorted-up zs u)) ∙ kept-sort zs ∙ sym (arranged-sort k (last_each k zs))

  -- one list after another
  pub put-joined : (zs xs ys : List X) → put_all zs (xs ++ ys) ≡ put_all (put_all zs xs) ys
  put-joined zs [] ys = refl
  put-joined zs (x ∷ xs) ys = put-joined (put_last zs x) xs ys

-- the key of each thing found again in what is left of some keys
module _ {X : Type 0} (k : X → List ℕ) {Y : Type 0} (m : Y → List ℕ) where
  -- for each of these, ascending or not, what is left of the keys and all of them go on alike
  abbrev pub Steady : List Y → List Y → List X → Type 0
  Steady gs hs [] = ⊤
  Steady gs hs (x ∷ xs) = (higher m (k x) gs ≡ higher m (k x) hs) × Steady gs hs xs

  pub steady-self : (gs : List Y) (xs : List X) → Steady gs gs xs
  steady-self gs [] = tt
  steady-self gs (x ∷ xs) = (refl, steady-self gs xs)
