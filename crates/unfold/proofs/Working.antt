-- Work one after another, seen as the rows that it offers, and what more room keeps of it.
use Rattle.std.proofs.Common.{◌≡◌, ◌≤◌, ℕ, suc, ◌+◌, List, [], ◌∷◌, ◌++◌, refl, sym, ap, ◌∙◌, subst, arith, append_assoc, add_assoc, zero-add, add-zero}
use Rattle.calculus.specs.Tree.{Tree}
use Rattle.calculus.specs.Outcome.{Prices, Answer, gives, fails, unknown, Outcome, pure, charged, then_do, after}
use Rattle.calculus.specs.Rows.{Row}
use Rattle.calculus.specs.Seeds.{digest_of, Split}
use Rattle.calculus.specs.Unfolding.{Product, a_row, a_fresh, rows_of, unfold_part, parts_unfolded, unfold_in}
use Rattle.calculus.proofs.Room.{IsKnown, Refines, after_more, unfold_more, unfold_part_more}
use Rattle.unfold.specs.Progress.{Pending, pending_from, rows_answer, row_work, left_work}

pub itself : {A : Type 0} (o : Outcome A) → Refines o o
itself o = (omega arith, λ k. refl)

pub by-equal : {A : Type 0} (o u : Outcome A) → o ≡ u → Refines o u
by-equal o u e = subst (λ w. Refines o w) e (itself o)

pub further : {A : Type 0} (o u w : Outcome A) → Refines o u → Refines u w → Refines o w
further o u w h k = (omega (arith, h.0, k.0), λ i. k.1 (subst (λ (v : Outcome _). IsKnown v.answer) (sym (h.1 i)) i) ∙ h.1 i)

pub charged-none : {A : Type 0} (o : Outcome A) → charged 0 o ≡ o
charged-none o = ap (λ n. record { price = n; answer = o.answer }) (zero-add o.price)

pub charged-twice : {A : Type 0} (n m : ℕ) (o : Outcome A) → charged n (charged m o) ≡ charged (n + m) o
charged-twice n m o = ap (λ k. record { price = k; answer = o.answer }) (sym (add_assoc n m o.price))

pub charged-after : {A B : Type 0} (n : ℕ) (o : Outcome A) (f : A → Outcome B) → after (charged n o) f ≡ charged n (after o f)
charged-after {A = A} n o f = go o.price o.answer
  where
    go : (m : ℕ) (a : Answer A) → then_do (n + m) a f ≡ charged n (then_do m a f)
    go m (gives x) = sym (charged-twice n m (f x))
    go m (fails k) = refl
    go m unknown = refl

pub after-after : {A B C : Type 0} (o : Outcome A) (f : A → Outcome B) (g : B → Outcome C) → after (after o f) g ≡ after o (λ x. after (f x) g)
after-after {A = A} o f g = go o.price o.answer
  where
    go : (n : ℕ) (a : Answer A) → after (then_do n a f) g ≡ then_do n a (λ x. after (f x) g)
    go n (gives x) = charged-after n (f x) g
    go n (fails k) = refl
    go n unknown = refl

pub after-alike : {A B : Type 0} (o : Outcome A) (f g : A → Outcome B) → ((x : A) → f x ≡ g x) → after o f ≡ after o g
after-alike {A = A} o f g h = go o.price o.answer
  where
    go : (n : ℕ) (a : Answer A) → then_do n a f ≡ then_do n a g
    go n (gives x) = ap (charged n) (h x)
    go n (fails k) = refl
    go n unknown = refl

pub after-pure : {A : Type 0} (o : Outcome A) → after o (λ x. pure x) ≡ o
after-pure {A = A} o = go o.price o.answer
  where
    go : (n : ℕ) (a : Answer A) → then_do n a (λ x. pure x) ≡ record { price = n; answer = a }
    go n (gives x) = ap (λ k. record { price = k; answer = gives x }) (add-zero n)
    go n (fails k) = refl
    go n unknown = refl

pub pure-after : {A B : Type 0} (x : A) (f : A → Outcome B) → after (pure x) f ≡ f x
pure-after x f = charged-none (f x)

pub after-given : {A B : Type 0} (o : Outcome A) (x : A) (f : A → Outcome B) → o.answer ≡ gives x → after o f ≡ charged o.price (f x)
after-given o x f e = ap (λ a. then_do o.price a f) e

-- rows of what is done
pub rows-after : {A : Type 0} (o : Outcome A) (f : A → Outcome (List Product)) → row_work (after o f) ≡ after o (λ x. row_work (f x))
rows-after {A = A} o f = go o.price o.answer
  where
    go : (n : ℕ) (a : Answer A) → row_work (then_do n a f) ≡ then_do n a (λ x. row_work (f x))
    go n (gives x) = refl
    go n (fails k) = refl
    go n unknown = refl

pub after-rows : (o : Outcome (List Product)) (f : List Row → Outcome (List Row)) → after (row_work o) f ≡ after o (λ ts. f (rows_of ts))
after-rows o f = go o.price o.answer
  where
    go : (n : ℕ) (a : Answer (List Product)) → then_do n (rows_answer a) f ≡ then_do n a (λ ts. f (rows_of ts))
    go n (gives x) = refl
    go n (fails k) = refl
    go n unknown = refl

pub rows-append : (ts us : List Product) → rows_of (ts ++ us) ≡ rows_of ts ++ rows_of us
rows-append [] us = refl
rows-append (a_row r ∷ ts) us = ap (λ rs. r ∷ rs) (rows-append ts us)
rows-append (a_fresh x ∷ ts) us = rows-append ts us

-- one piece of work and another
abbrev pub both : Outcome (List Row) → Outcome (List Row) → Outcome (List Row)
both o u = after o (λ rs. after u (λ qs. pure (rs ++ qs)))

pub both-nothing : (u : Outcome (List Row)) → both (pure []) u ≡ u
both-nothing u = pure-after [] (λ (rs : List Row). after u (λ qs. pure (rs ++ qs))) ∙ after-pure u

pub both-both : (o u w : Outcome (List Row)) → both o (both u w) ≡ both (both o u) w
both-both o u w =
    after-alike o (λ rs. after (both u w) (λ qs. pure (rs ++ qs))) (λ rs. after (after u (λ xs. pure (rs ++ xs))) (λ cs. after w (λ bs. pure (cs ++ bs)))) (λ rs. first rs ∙ sym (second rs))
    ∙ sym (after-after o (λ rs. after u (λ xs. pure (rs ++ xs))) (λ cs. after w (λ bs. pure (cs ++ bs))))
  where
    first : (rs : List Row) → after (both u w) (λ qs. pure (rs ++ qs)) ≡ after u (λ xs. after w (λ bs. pure ((rs ++ xs) ++ bs)))
    first rs =
        after-after u (λ xs. after w (λ bs. pure (xs ++ bs))) (λ qs. pure (rs ++ qs))
        ∙ after-alike u (λ xs. after (after w (λ bs. pure (xs ++ bs))) (λ qs. pure (rs ++ qs))) (λ xs. after w (λ bs. pure ((rs ++ xs) ++ bs)))
        (λ xs. after-after w (λ bs. pure (xs ++ bs)) (λ qs. pure (rs ++ qs))
        ∙ after-alike w (λ bs. after (pure (xs ++ bs)) (λ qs. pure (rs ++ qs))) (λ bs. pure ((rs ++ xs) ++ bs)) (λ bs. pure-after (xs ++ bs) (λ qs. pure (rs ++ qs)) ∙ ap (λ (us : List Row). pure us) (sym (append_assoc rs xs bs))))

    second : (rs : List Row) → after (after u (λ xs. pure (rs ++ xs))) (λ cs. after w (λ bs. pure (cs ++ bs))) ≡ after u (λ xs. after w (λ bs. pure ((rs ++ xs) ++ bs)))
    second rs =
        after-after u (λ xs. pure (rs ++ xs)) (λ cs. after w (λ bs. pure (cs ++ bs)))
        ∙ after-alike u (λ xs. after (pure (rs ++ xs)) (λ cs. after w (λ bs. pure (cs ++ bs)))) (λ xs. after w (λ bs. pure ((rs ++ xs) ++ bs))) (λ xs. pure-after (rs ++ xs) (λ cs. after w (λ bs. pure (cs ++ bs))))

-- some parts and then others
pub left-append : (p : Prices) (room : ℕ) (xs ys : List Pending) → left_work p room (xs ++ ys) ≡ both (left_work p room xs) (left_work p room ys)
left-append p room [] ys = sym (both-nothing (left_work p room ys))
left-append p room (x ∷ xs) ys =
    let w = row_work (unfold_part p (unfold_in p room) x.seed x.part) in
    ap (both w) (left-append p room xs ys) ∙ both-both w (left_work p room xs) (left_work p room ys)

-- the parts of a process
pub parts-left : (p : Prices) (room : ℕ) (s : List ℕ) (i : ℕ) (ts : List Tree) → row_work (parts_unfolded p (unfold_in p room) s i ts) ≡ left_work p room (pending_from s i ts)
parts-left p room s i [] = refl
parts-left p room s i (t ∷ ts) =
    let u = unfold_part p (unfold_in p room) (digest_of (Split s i)) t in
    let r = parts_unfolded p (unfold_in p room) s (suc i) ts in
    rows-after u (λ rs. after r (λ qs. pure (rs ++ qs)))
    ∙ (after-alike u (λ rs. row_work (after r (λ qs. pure (rs ++ qs)))) (λ rs. after (row_work r) (λ qs. pure (rows_of rs ++ qs))) (λ rs. joined r rs)
    ∙ (sym (after-rows u (λ rs. after (row_work r) (λ qs. pure (rs ++ qs))))
    ∙ ap (both (row_work u)) (parts-left p room s (suc i) ts)))
  where
    joined : (r : Outcome (List Product)) (rs : List Product) → row_work (after r (λ qs. pure (rs ++ qs))) ≡ after (row_work r) (λ qs. pure (rows_of rs ++ qs))
    joined r rs =
        rows-after r (λ qs. pure (rs ++ qs))
        ∙ (after-alike r (λ qs. row_work (pure (rs ++ qs))) (λ qs. pure (rows_of rs ++ rows_of qs)) (λ qs. ap (λ (us : List Row). pure us) (rows-append rs qs)) ∙ sym (after-rows r (λ qs. pure (rows_of rs ++ qs))))

known-rows : (a : Answer (List Product)) → IsKnown (rows_answer a) → IsKnown a
known-rows (gives x) h = tt
known-rows (fails k) h = tt
known-rows unknown h = h

rows-more : (o u : Outcome (List Product)) → Refines o u → Refines (row_work o) (row_work u)
rows-more o u h = (h.0, λ k. ap row_work (h.1 (known-rows o.answer k)))

-- more room for what is left
pub left-more : (p : Prices) (n m : ℕ) → n ≤ m → (ws : List Pending) → Refines (left_work p n ws) (left_work p m ws)
left-more p n m h [] = itself (pure [])
left-more p n m h (w ∷ ws) =
    after_more (row_work (unfold_part p (unfold_in p n) w.seed w.part)) (row_work (unfold_part p (unfold_in p m) w.seed w.part)) _ _
    (rows-more (unfold_part p (unfold_in p n) w.seed w.part) (unfold_part p (unfold_in p m) w.seed w.part) (unfold_part_more p (unfold_in p n) (unfold_in p m) (unfold_more p n m h) w.seed w.part))
    (λ rs. after_more (left_work p n ws) (left_work p m ws) _ _ (left-more p n m h ws) (λ qs. itself (pure (rs ++ qs))))
