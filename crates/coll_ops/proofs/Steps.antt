-- Steps of the loops that merge lists.
use Rattle.std.proofs.Common.{◌≡◌, ℕ, zero, suc, ◌+◌, ◌<◌, ◌≤◌, Bool, true, false, cond, not, List, [], ◌∷◌, ◌++◌, append_assoc, length, get_or, drop, filter, map, refl, sym, ap, ◌∙◌, subst, inl, inr, All, arith}
use Rattle.std.specs.Prelude.{Result, Ok, Err, IfOk}
use Rattle.std.proofs.lemmas.List.{append-nil, at_drop_all, drop_all, drop_more}
use Rattle.std.proofs.lemmas.List.Elements.{All-nil, All-cons, All-head, All-tail}
use Rattle.std.proofs.lemmas.Bool.{cases_Bool, cond-true, cond-false}
use Rattle.code_order.proofs.Keys.{Below, Up}
use Rattle.coll_ops.specs.Keys.{same, has_key, once_each}
use Rattle.coll_ops.specs.Merging.{low, high, starts, put_last, put_all}
use Rattle.coll_ops.proofs.Merging.{merge, put-joined, merged-once, up-once, Over, over-up, Steady}
use Rattle.coll_ops.proofs.Finding.{drop-read, high-high, has-high}

module _ {X : Type 0} (k : X → List ℕ) where
  up-drop : (n : ℕ) (xs : List X) → Up k xs → Up k (drop n xs)
  up-drop zero xs u = u
  up-drop (suc n) [] u = tt
  up-drop (suc n) (x ∷ xs) u = up-drop n xs u.1

  over-filter : (p : X → Bool) (c : List ℕ) (xs : List X) → Over k c xs → Over k c (filter p xs)
  over-filter p c [] o = tt
  over-filter p c (x ∷ xs) o = elim (p x) as (λ (b : Bool). Over k c (cond b (x ∷ filter p xs) (filter p xs))) [ true ↦ (o.0, over-filter p c xs o.1) | false ↦ over-filter p c xs o.1 ]

  below : (x : X) (ys : List X) → Over k (k x) ys → Below k x ys
  below x [] o = tt
  below x (y ∷ ys) o = o.0

  pub up-filter : (p : X → Bool) (xs : List X) → Up k xs → Up k (filter p xs)
  up-filter p [] u = tt
  up-filter p (x ∷ xs) u =
      let o = below x (filter p xs) (over-filter p (k x) xs (over-up k x xs u)) in
      let v = up-filter p xs u.1 in
      elim (p x) as (λ (b : Bool). Up k (cond b (x ∷ filter p xs) (filter p xs))) [ true ↦ (o, v) | false ↦ v ]

  -- one thing of the left list more
  pub merge-step : (a b d xs ys : List X) (i n m : ℕ) (x : X) → i < length xs → x ≡ get_or xs i x → b ≡ put_all k a (low k (k x) (drop n ys)) → drop m ys ≡ high k (k x) (drop n ys) → d ≡ put_last k b x
      → put_all k d (merge k (drop (i + 1) xs) (drop m ys)) ≡ put_all k a (merge k (drop i xs) (drop n ys))
  merge-step a b d xs ys i n m x h g e f l =
      let r = drop n ys in
      let t = drop (i + 1) xs in
      ap (λ z. put_all k d (merge k t z)) f ∙ ap (λ z. put_all k z (merge k t (high k (k x) r))) (l ∙ ap (λ z. put_last k z x) e)
      ∙ sym (put-joined k a (low k (k x) r) (x ∷ merge k t (high k (k x) r))) ∙ ap (λ z. put_all k a (merge k z r)) (sym (drop-read k [] xs i x h g))

  pub merge-end : (a d xs ys : List X) (i n : ℕ) → length xs ≤ i → put_all k a (merge k (drop i xs) (drop n ys)) ≡ put_all k [] (merge k xs ys) → d ≡ put_all k a (drop n ys) → Up k xs → Up k ys → d ≡ once_each k (xs ++ ys)
  merge-end a d xs ys i n h e f u v = f ∙ sym (at_drop_all (λ z. put_all k a (merge k z (drop n ys))) xs i h) ∙ e ∙ merged-once k xs ys u v

  module _ {Y : Type 0} (q : Y → List ℕ) where
    steady-over : (a : List ℕ) (gs : List Y) (xs : List X) → Over k a xs → Steady k q (high q a gs) gs xs
    steady-over a gs [] o = tt
    steady-over a gs (x ∷ xs) o = (high-high q a (k x) gs o.0, steady-over a gs xs o.1)

    module _ (a xs : List X) (gs : List Y) (i n m : ℕ) (x : X) (h : i < length xs) (g : x ≡ get_or xs i x) (s : Steady k q (drop n gs) gs (drop i xs)) (f : drop m gs ≡ high q (k x) (drop n gs)) where
      now : high q (k x) (drop n gs) ≡ high q (k x) gs
      now = let r : Steady k q (drop n gs) gs (x ∷ drop (i + 1) xs) = subst (Steady k q (drop n gs) gs) (drop-read k [] xs i x h g) s in r.0

      -- what is left of the keys serves for what is left of the things
      pub steady-next : Up k xs → Steady k q (drop m gs) gs (drop (i + 1) xs)
      steady-next u =
          let v : Up k (x ∷ drop (i + 1) xs) = subst (Up k) (drop-read k [] xs i x h g) (up-drop i xs u) in
          subst (λ z. Steady k q z gs (drop (i + 1) xs)) (sym (f ∙ now)) (steady-over (k x) gs (drop (i + 1) xs) (over-up k x (drop (i + 1) xs) v))

      pub gone-is : (b : Bool) → b ≡ starts q (k x) (drop m gs) → Up q gs → b ≡ has_key q (k x) gs
      gone-is b e u = e ∙ ap (starts q (k x)) (f ∙ now) ∙ sym (has-high q (k x) gs u)

      rest : (p : X → Bool) → filter p (drop i xs) ≡ cond (p x) (x ∷ filter p (drop (i + 1) xs)) (filter p (drop (i + 1) xs))
      rest p = ap (filter p) (drop-read k [] xs i x h g)

      pub left-out : (b : Bool) → b ≡ starts q (k x) (drop m gs) → Up q gs → b ≡ true
          → put_all k a (filter (λ y. not (has_key q (k y) gs)) (drop (i + 1) xs)) ≡ put_all k a (filter (λ y. not (has_key q (k y) gs)) (drop i xs))
      left-out b e u t =
          let p = λ (y : X). not (has_key q (k y) gs) in
          sym (ap (put_all k a) (rest p ∙ cond-false (p x) (x ∷ filter p (drop (i + 1) xs)) (filter p (drop (i + 1) xs)) (ap not (sym (gone-is b e u) ∙ t))))

      pub kept-in : (b : Bool) (d : List X) → b ≡ starts q (k x) (drop m gs) → Up q gs → b ≡ false → d ≡ put_last k a x
          → put_all k d (filter (λ y. not (has_key q (k y) gs)) (drop (i + 1) xs)) ≡ put_all k a (filter (λ y. not (has_key q (k y) gs)) (drop i xs))
      kept-in b d e u t l =
          let p = λ (y : X). not (has_key q (k y) gs) in
          ap (λ z. put_all k z (filter p (drop (i + 1) xs))) l
          ∙ sym (ap (put_all k a) (rest p ∙ cond-true (p x) (x ∷ filter p (drop (i + 1) xs)) (filter p (drop (i + 1) xs)) (ap not (sym (gone-is b e u) ∙ t))))

      pub filtered : (b : Bool) (d : List X) → b ≡ starts q (k x) (drop m gs) → Up q gs → d ≡ cond b a (put_last k a x)
          → put_all k d (filter (λ y. not (has_key q (k y) gs)) (drop (i + 1) xs)) ≡ put_all k a (filter (λ y. not (has_key q (k y) gs)) (drop i xs))
      filtered b d e u l =
          let p = λ (y : X). not (has_key q (k y) gs) in
          elim (cases_Bool b) [
            | inl t ↦ ap (λ z. put_all k z (filter p (drop (i + 1) xs))) (l ∙ cond-true b a (put_last k a x) t) ∙ left-out b e u t
            | inr t ↦ kept-in b d e u t (l ∙ cond-false b a (put_last k a x) t)
          ]

  pub filter-end : (p : X → Bool) (a xs : List X) (i : ℕ) → length xs ≤ i → put_all k a (filter p (drop i xs)) ≡ put_all k [] (filter p xs) → Up k xs → a ≡ once_each k (filter p xs)
  filter-end p a xs i h e u = sym (at_drop_all (λ z. put_all k a (filter p z)) xs i h) ∙ e ∙ up-once k (filter p xs) (up-filter p xs u)

  -- all of the things were put
  pub all-of : (a rs xs : List X) → rs ≡ [] → put_all k a rs ≡ put_all k [] xs → Up k xs → a ≡ once_each k xs
  all-of a rs xs e f u = sym (ap (put_all k a) e) ∙ f ∙ up-once k xs u

  -- a property of all things is kept by one that has it
  pub put-all : (P : X → Type 0) (zs : List X) (x : X) → All P zs → P x → All P (put_last k zs x)
  put-all P [] x h p = All-cons P x [] p (All-nil P)
  put-all P (z ∷ []) x h p =
      elim (same (k z) (k x)) as (λ (b : Bool). All P (cond b (x ∷ []) (z ∷ x ∷ []))) [
        | true ↦ All-cons P x [] p (All-nil P)
        | false ↦ All-cons P z (x ∷ []) (All-head P z [] h) (All-cons P x [] p (All-nil P))
      ]
  put-all P (z ∷ w ∷ zs) x h p = All-cons P z (put_last k (w ∷ zs) x) (All-head P z (w ∷ zs) h) (put-all P (w ∷ zs) x (All-tail P z (w ∷ zs) h) p)

  pub unless-all : (P : X → Type 0) (b : Bool) (zs : List X) (x : X) → All P zs → P x → All P (cond b zs (put_last k zs x))
  unless-all P true zs x h p = h
  unless-all P false zs x h p = put-all P zs x h p

pub empty : {X : Type 0} (xs : List X) → length xs ≡ 0 → xs ≡ []
empty [] h = refl
empty (x ∷ xs) h = absurd (omega arith)

-- a turn of a loop that copies things to the end of others, and its end
pub copied-step : {A : Type 0} (cs ds bs ps : List A) (i : ℕ) (c p : A) → i < length ps → p ≡ get_or ps i p → c ≡ p → ds ≡ cs ++ c ∷ [] → cs ++ drop i ps ≡ bs ++ ps → ds ++ drop (i + 1) ps ≡ bs ++ ps
copied-step cs ds bs ps i c p h g k e n =
    let m : drop i ps ≡ p ∷ drop (i + 1) ps = drop_more ps i p h ∙ ap (λ z. z ∷ drop (i + 1) ps) (sym g) in
    ap (λ z. z ++ drop (i + 1) ps) e
    ∙ append_assoc cs (c ∷ []) (drop (i + 1) ps)
    ∙ ap (λ z. cs ++ (z ∷ drop (i + 1) ps)) k
    ∙ ap (λ z. cs ++ z) (sym m)
    ∙ n

pub copied-end : {A : Type 0} (cs bs ps : List A) (i : ℕ) → length ps ≤ i → cs ++ drop i ps ≡ bs ++ ps → cs ≡ bs ++ ps
copied-end cs bs ps i h e = sym (append-nil cs) ∙ ap (λ z. cs ++ z) (sym (drop_all i ps h)) ∙ e

-- the same of a loop that begins with none and gives what each thing stands for
pub made-step : {A B : Type 0} (f : A → B) (cs ds : List B) (ps : List A) (i : ℕ) (c : B) (p : A) → i < length ps → p ≡ get_or ps i p → c ≡ f p → ds ≡ cs ++ c ∷ [] → cs ++ map f (drop i ps) ≡ map f ps → ds ++ map f (drop (i + 1) ps) ≡ map f ps
made-step f cs ds ps i c p h g k e n =
    let m : drop i ps ≡ p ∷ drop (i + 1) ps = drop_more ps i p h ∙ ap (λ z. z ∷ drop (i + 1) ps) (sym g) in
    ap (λ z. z ++ map f (drop (i + 1) ps)) e
    ∙ append_assoc cs (c ∷ []) (map f (drop (i + 1) ps))
    ∙ ap (λ z. cs ++ (z ∷ map f (drop (i + 1) ps))) k
    ∙ ap (λ z. cs ++ map f z) (sym m)
    ∙ n

pub made-end : {A B : Type 0} (f : A → B) (cs : List B) (ps : List A) (i : ℕ) → length ps ≤ i → cs ++ map f (drop i ps) ≡ map f ps → cs ≡ map f ps
made-end f cs ps i h e = sym (append-nil cs) ∙ ap (λ z. cs ++ map f z) (sym (drop_all i ps h)) ∙ e

-- a turn of a loop that puts what each thing stands for, and its end
module _ {X Y : Type 0} (k : Y → List ℕ) (f : X → Y) where
  pub mapped-step : (a d : List Y) (xs : List X) (i : ℕ) (x : X) → i < length xs → x ≡ get_or xs i x → d ≡ put_last k a (f x) → put_all k d (map f (drop (i + 1) xs)) ≡ put_all k a (map f (drop i xs))
  mapped-step a d xs i x h g e =
      let m : drop i xs ≡ x ∷ drop (i + 1) xs = drop_more xs i x h ∙ ap (λ z. z ∷ drop (i + 1) xs) (sym g) in
      ap (λ z. put_all k z (map f (drop (i + 1) xs))) e ∙ sym (ap (λ z. put_all k a (map f z)) m)

  pub mapped-end : (a : List Y) (xs : List X) (i : ℕ) → length xs ≤ i → put_all k a (map f (drop i xs)) ≡ put_all k [] (map f xs) → Up k (map f xs) → a ≡ once_each k (map f xs)
  mapped-end a xs i h e u = sym (ap (λ z. put_all k a (map f z)) (drop_all i xs h)) ∙ e ∙ up-once k (map f xs) u

-- what a call gave, where it is known to have given this
pub at_ok : {X E : Type 0} (P : X → Type 0) (r : Result X E) (x : X) → r ≡ Ok x → IfOk r P → P x
at_ok P r x e h = subst (λ z. IfOk z P) e h

-- what was made, where memory was not wanting
pub made-is : {X E : Type 0} (b o : Bool) (x y : X) (r : Result X E) → IfOk r (λ v. (b ≡ false) × (v ≡ x)) → (b ≡ false → (o ≡ false) × (x ≡ y)) → IfOk r (λ v. v ≡ y)
made-is b o x y (Ok v) p q = p.1 ∙ (q p.0).1
made-is b o x y (Err e) p q = tt
