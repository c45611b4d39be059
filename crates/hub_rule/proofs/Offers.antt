-- Works are offered and ended by an entry, under the rule.
use Rattle.std.proofs.Common.{◌≡◌, ◌≢◌, ℕ, suc, ◌+◌, ◌<◌, ◌≤◌, Bool, true, false, ◌&&◌, List, [], ◌∷◌, ◌++◌, length, set, refl, sym, ap, subst, ◌∙◌, arith, ◌⊎◌, ⊎_elim, inl, inr, eqb, eq-eqb, ne_eqb, nat_lt, length-append, append_assoc, append-nil}
use Rattle.std.proofs.lemmas.Bool.Decides.{nat_tests}
use mathlib.Core.Option.{some}
use mathlib.Core.Logic.{dite}
use native.Mathlib.Decide.{ℕ_discrete, dec_le}
use lib.ListN.{get_elem?}
use Rattle.atomic_table.proofs.Lists.{at_set, at_longer}
use Rattle.hub_rule.specs.declared.view.Pile.{Pile}
use Rattle.hub_rule.specs.Counts.{one_if, count, once_below, numbered, things_of, Each}
use Rattle.hub_rule.specs.Meaning.{Meaning, offered, ended, taking, if_wanted}
use Rattle.hub_rule.specs.Works.{hand, Piles, WorkRule}
use Rattle.hub_rule.specs.Rule.{draws_on, kept_if}
use Rattle.hub_rule.proofs.Sums.{of_set, total_set, total_at, total_two, count_more, each_to, each_more, each_in}

pub truth : (b : Bool) → (b ≡ true) ⊎ (b ≡ false)
truth true = inl refl
truth false = inr refl

pub one_at_most : (b : Bool) → one_if b ≤ 1
one_at_most true = omega arith
one_at_most false = omega arith

with_true : (b : Bool) → one_if (b && true) ≡ one_if b
with_true true = refl
with_true false = refl

with_false : (b : Bool) → one_if (b && false) ≡ 0
with_false true = refl
with_false false = refl

module _ {A : Type 0} where
  pub count_numbered : (base j : ℕ) (xs : List A) → count j (numbered base xs) + once_below j base ≡ once_below j (base + length xs)
  count_numbered base j [] = let q : base ≡ base + length {A = A} [] = omega arith in let e : once_below j base ≡ once_below j (base + length {A = A} []) = ap (once_below j) q in omega arith
  count_numbered base j (x ∷ xs) =
      let r = count_numbered (base + 1) j xs in
      let e : once_below j (base + 1 + length xs) ≡ once_below j (base + suc (length xs)) = ap (once_below j) (omega arith) in
      let s : one_if (eqb base j) + once_below j base ≡ once_below j (base + 1) = dite (ℕ_discrete base j)
      (λ q. let a : one_if (nat_lt j base) ≡ 0 = (let b : nat_lt j base ≡ false = grind (arith, nat_tests) in ap one_if b) in let b : one_if (eqb base j) ≡ 1 = ap one_if (eq-eqb base j q) in let d : one_if (nat_lt j (base + 1)) ≡ 1 = (let f : nat_lt j (base + 1) ≡ true = grind (arith, nat_tests) in ap one_if f) in omega arith)
      (λ ne. let a : one_if (nat_lt j base) ≡ one_if (nat_lt j (base + 1)) = (let b : nat_lt j base ≡ nat_lt j (base + 1) = grind (arith, nat_tests) in ap one_if b) in let b : one_if (eqb base j) ≡ 0 = ap one_if (ne_eqb base j ne) in omega arith) in omega arith

  here : (front : List A) (x : A) (xs back : List A) → get_elem? ((front ++ x ∷ xs) ++ back) (length front) ≡ some x
  here [] x xs back = refl
  here (y ∷ ys) x xs back = here ys x xs back

  pub numbered_each : (front xs back : List A) → Each (λ i w. get_elem? ((front ++ xs) ++ back) i ≡ some w) (numbered (length front) xs)
  numbered_each front [] back = tt
  numbered_each front (x ∷ xs) back = (
    here front x xs back,
    (let e : (front ++ x ∷ []) ++ xs ≡ front ++ x ∷ xs = append_assoc front (x ∷ []) xs in
        let n : length (front ++ x ∷ []) ≡ length front + 1 = length-append front (x ∷ []) in
        let P : ℕ → List A → Type 0 = λ k l. Each (λ i w. get_elem? (l ++ back) i ≡ some w) (numbered k xs) in
        subst (λ k. P k (front ++ x ∷ xs)) n (subst (P (length (front ++ x ∷ []))) e (numbered_each (front ++ x ∷ []) xs back))),
  )

  -- all numbers are from the base on
  numbered_from : (P : ℕ → A → Type 0) (base : ℕ) (xs : List A) → ((j : ℕ) (a : A) → base ≤ j → P j a) → Each P (numbered base xs)
  numbered_from P base [] h = tt
  numbered_from P base (x ∷ xs) h = (h base x (omega arith), numbered_from P (base + 1) xs (λ j a le. h j a (omega arith)))

  kept_each : (P : ℕ → A → Type 0) (b : Bool) (i : ℕ) (x : A) → P i x → Each P (kept_if b ((i, x) ∷ []))
  kept_each P true i x h = tt
  kept_each P false i x h = (h, tt)

  kept_count : (b : Bool) (i j : ℕ) (x : A) → count j (kept_if b ((i, x) ∷ [])) + one_if (eqb i j && b) ≡ one_if (eqb i j)
  kept_count true i j x = let a = with_true (eqb i j) in omega arith
  kept_count false i j x = let a = with_false (eqb i j) in omega arith

  pub things_numbered : (base : ℕ) (xs : List A) → things_of (numbered base xs) ≡ xs
  things_numbered base [] = refl
  things_numbered base (x ∷ xs) = ap (λ l. x ∷ l) (things_numbered (base + 1) xs)

  pub length_numbered : (base : ℕ) (xs : List A) → length (numbered base xs) ≡ length xs
  length_numbered base [] = refl
  length_numbered base (x ∷ xs) = let r = length_numbered (base + 1) xs in omega arith

pub things_both : {A : Type 0} (ps qs : List (ℕ × A)) → things_of (ps ++ qs) ≡ things_of ps ++ things_of qs
things_both [] qs = refl
things_both (p ∷ ps) qs = ap (λ l. p.1 ∷ l) (things_both ps qs)

pub length_things : {A : Type 0} (ps : List (ℕ × A)) → length (things_of ps) ≡ length ps
length_things [] = refl
length_things (p ∷ ps) = let r = length_things ps in omega arith

-- the hand that has one work alone
pub hand_is : {E W : Type 0} (p : Pile E W) (i : ℕ) (w : W) → p.kept ≡ [] → p.taken ≡ (i, w) ∷ [] → p.offered ≡ [] → hand p ≡ (i, w) ∷ []
hand_is {E} {W} p i w k t o = ap {A = List (ℕ × W)} (λ l. l ++ (p.taken ++ p.offered)) k ∙ (ap {A = List (ℕ × W)} (λ l. l ++ p.offered) t ∙ ap {A = List (ℕ × W)} (λ l. (i, w) ∷ l) o)

module _ {Store E X W : Type 0} (m : Meaning Store E X W) where
  pub offered_more : (ws : List W) (log : List (ℕ × E)) (i : ℕ) (e : E) → offered m ws (log ++ (i, e) ∷ []) ≡ offered m ws log ++ m.offers e
  offered_more ws [] i e = refl
  offered_more ws (p ∷ ps) i e = offered_more (ws ++ m.offers p.1) ps i e

  ended_more : (j : ℕ) (log : List (ℕ × E)) (i : ℕ) (e : E) → ended m j (log ++ (i, e) ∷ []) ≡ ended m j log + one_if (eqb i j && m.ends e)
  ended_more j [] i e = omega arith
  ended_more j (p ∷ ps) i e = let r = ended_more j ps i e in omega arith

  wanted_more : (b : Bool) (x : E) (xs ys : List E) → if_wanted b x (xs ++ ys) ≡ if_wanted b x xs ++ ys
  wanted_more true x xs ys = refl
  wanted_more false x xs ys = refl

  taking_more : (j : ℕ) (log : List (ℕ × E)) (i : ℕ) (e : E) → taking m j (log ++ (i, e) ∷ []) ≡ taking m j log ++ if_wanted (eqb i j) e []
  taking_more j [] i e = refl
  taking_more j (p ∷ ps) i e = ap {A = List E} (λ l. if_wanted (eqb p.0 j) p.1 l) (taking_more j ps i e) ∙ wanted_more (eqb p.0 j) p.1 (taking m j ps) (if_wanted (eqb i j) e [])

  -- what took the work i, after an entry that takes it
  pub taking_own : (log : List (ℕ × E)) (i : ℕ) (e : E) → taking m i (log ++ (i, e) ∷ []) ≡ taking m i log ++ e ∷ []
  taking_own log i e = taking_more i log i e ∙ ap {A = Bool} (λ b. taking m i log ++ if_wanted b e []) (eq-eqb i i refl)

  -- and after an entry that takes another
  pub taking_other : (log : List (ℕ × E)) (i j : ℕ) (e : E) → j ≢ i → taking m j (log ++ (i, e) ∷ []) ≡ taking m j log
  taking_other log i j e ne = taking_more j log i e ∙ (ap {A = Bool} (λ b. taking m j log ++ if_wanted b e []) (ne_eqb i j (λ q. ne (sym q))) ∙ append-nil (taking m j log))

  module _ (works : List W) (log : List (ℕ × E)) (desks : List (List (ℕ × W))) (piles : Piles E W) (id n i : ℕ) (p : Pile E W) (e : E) (at : get_elem? piles id ≡ some (n, p)) (has : hand p ≡ (i, m.takes e) ∷ []) (b : WorkRule m works log desks piles) where
    mine : (j : ℕ) → count j (hand p) ≡ one_if (eqb i j)
    mine j = let q = ap {A = List (ℕ × W)} (count j) has in omega arith

    one_here : count i (hand p) ≡ 1
    one_here = mine i ∙ ap one_if (eq-eqb i i refl)

    -- the work is pending
    pub unended : (ended m i log ≡ 0) × (i < length (offered m works log))
    unended =
        let t = total_at (λ (y : ℕ × Pile E W). count i (hand y.1)) piles id (n, p) at in let o = b.once i in let one = one_here in
        let len : ℕ = length (offered m works log) in
        let l = one_at_most (nat_lt i len) in (
          (omega arith),
          dite (dec_le len i)
              (λ le. absurd (let z : one_if (nat_lt i len) ≡ 0 = (let q : nat_lt i len ≡ false = grind (arith, nat_tests) in ap one_if q) in omega arith))
              (λ nle. omega arith),
        )

    -- no other hand has the work, and no desk
    apart : (j : ℕ) (u : ℕ × Pile E W) (k : ℕ) → j ≢ id → get_elem? piles j ≡ some u → 0 < count k (hand u.1) → k ≢ i
    apart j u k ne bt there q =
        let P : ℕ → Type 0 = λ x. 0 < count x (hand u.1) in let c : 0 < count i (hand u.1) = subst P q there in
        let t = total_two (λ (y : ℕ × Pile E W). count i (hand y.1)) piles id j (n, p) u at bt (λ h. ne (sym h)) in let o = b.once i in let one = one_here in
        let l = one_at_most (nat_lt i (length (offered m works log))) in omega arith

    off_desk : (d : ℕ) (ps : List (ℕ × W)) (k : ℕ) → get_elem? desks d ≡ some ps → 0 < count k ps → k ≢ i
    off_desk d ps k bt there q =
        let P : ℕ → Type 0 = λ x. 0 < count x ps in let c : 0 < count i ps = subst P q there in
        let t = total_at (count i) desks d ps bt in let s = total_at (λ (y : ℕ × Pile E W). count i (hand y.1)) piles id (n, p) at in let o = b.once i in let one = one_here in
        let l = one_at_most (nat_lt i (length (offered m works log))) in omega arith

    taken_in : (k : ℕ) (q : Pile E W) → count k q.taken ≤ count k (hand q)
    taken_in k q = let a = count_more k q.kept (q.taken ++ q.offered) in let c = count_more k q.taken q.offered in omega arith

    offered_in : (k : ℕ) (q : Pile E W) → count k q.offered ≤ count k (hand q)
    offered_in k q = let a = count_more k q.kept (q.taken ++ q.offered) in let c = count_more k q.taken q.offered in omega arith

    -- the entry is drawn
    pub works_draw : p.kept ≡ [] → p.taken ≡ (i, m.takes e) ∷ [] → WorkRule m works (log ++ (i, e) ∷ []) desks (set piles id (n, draws_on m p (length (offered m works log)) e))
    works_draw kept taken =
        let old : List W = offered m works log in
        let log' : List (ℕ × E) = log ++ (i, e) ∷ [] in
        let more : offered m works log' ≡ old ++ m.offers e = offered_more works log i e in
        let q : Pile E W = draws_on m p (length old) e in
        let w : ℕ × Pile E W = (n, q) in
        let Old : ℕ → W → Type 0 = λ k u. get_elem? old k ≡ some u in
        let New : ℕ → W → Type 0 = λ k u. get_elem? (offered m works log') k ≡ some u in
        let grows : (k : ℕ) (u : W) → Old k u → New k u = λ k u o. ap {A = List W} (λ l. get_elem? l k) more ∙ at_longer old (m.offers e) k u o in
        let None : ℕ → W → Type 0 = λ k u. taking m k log ≡ [] in
        let None' : ℕ → W → Type 0 = λ k u. taking m k log' ≡ [] in
        let kept_part : List (ℕ × W) = kept_if (m.ends e) ((i, m.takes e) ∷ []) in
        let offered_part : List (ℕ × W) = numbered (length old) (m.offers e) in
        let hand_q : hand q ≡ kept_part ++ offered_part = ap {A = List (ℕ × W)} (λ l. l ++ (q.taken ++ q.offered)) kept ∙ ap {A = List (ℕ × W)} (λ l. kept_if (m.ends e) l ++ offered_part) taken in
        let fresh_here : (k : ℕ) → length old ≤ k → taking m k log' ≡ [] = λ k le. (let u = unended.1 in taking_other log i k e (λ h. omega arith) ∙ b.fresh k le) in
        let in_mine : Each Old ((i, m.takes e) ∷ []) = (let P : List (ℕ × W) → Type 0 = λ l. Each Old l in subst P has (b.in_hand id (n, p) at)) in
        record {
          in_hand = of_set (λ (y : ℕ × Pile E W). Each New (hand y.1)) piles id w
              (let P : List (ℕ × W) → Type 0 = λ l. Each New l in subst P (sym hand_q) (each_more New kept_part offered_part
              (kept_each New (m.ends e) i (m.takes e) (grows i (m.takes e) in_mine.0))
              (each_to (λ k u. get_elem? ((old ++ m.offers e) ++ []) k ≡ some u) New (λ k u o. ap {A = List W} (λ l. get_elem? l k) (more ∙ sym (append-nil (old ++ m.offers e))) ∙ o) offered_part (numbered_each old (m.offers e) []))))
              (λ j u bt. each_to Old New grows (hand u.1) (b.in_hand j u bt));
          on_desk = λ d ps bt. each_to Old New grows ps (b.on_desk d ps bt);
          once = λ j.
              let a = total_set (λ (y : ℕ × Pile E W). count j (hand y.1)) piles id (n, p) w at in
              let c = ap {A = List (ℕ × W)} (count j) hand_q in
              let d = count_more j kept_part offered_part in
              let f = kept_count (m.ends e) i j (m.takes e) in
              let g = count_numbered (length old) j (m.offers e) in
              let k = ended_more j log i e in
              let h = mine j in
              let o = b.once j in
              let l : once_below j (length (offered m works log')) ≡ once_below j (length old + length (m.offers e)) = ap (once_below j) (ap {A = List W} length more ∙ length-append old (m.offers e)) in omega arith;
          took = λ j u bt. ⊎_elim
              (λ s. let P : ℕ × Pile E W → Type 0 = λ y. Each (λ k x. taking m k log' ≡ y.1.took) y.1.taken in
              let Q : List (ℕ × W) → Type 0 = λ l. Each (λ k x. taking m k log' ≡ q.took) (kept_if (m.ends e) l) in
              let R : List (ℕ × W) → Type 0 = λ l. Each {A = W} (λ k x. taking m k log ≡ p.took) l in
              let was : R ((i, m.takes e) ∷ []) = subst R taken (b.took id (n, p) at) in
              subst P s.1 (subst Q (sym taken) (kept_each (λ k x. taking m k log' ≡ q.took) (m.ends e) i (m.takes e) (taking_own log i e ∙ ap {A = List E} (λ l. l ++ e ∷ []) was.0))))
              (λ s. each_in (λ k x. taking m k log ≡ u.1.took) (λ k x. taking m k log' ≡ u.1.took) u.1.taken
              (λ k x there o. taking_other log i k e (apart j u k s.0 s.1 (let t = taken_in k u.1 in omega arith)) ∙ o) (b.took j u s.1))
              (at_set piles id j w u bt);
          offers = λ j u bt. ⊎_elim
              (λ s. let P : ℕ × Pile E W → Type 0 = λ y. Each None' y.1.offered in subst P s.1 (numbered_from None' (length old) (m.offers e) (λ k x le. fresh_here k le)))
              (λ s. each_in None None' u.1.offered (λ k x there o. taking_other log i k e (apart j u k s.0 s.1 (let t = offered_in k u.1 in omega arith)) ∙ o) (b.offers j u s.1))
              (at_set piles id j w u bt);
          rests = λ d ps bt. each_in None None' ps (λ k x there o. taking_other log i k e (off_desk d ps k bt there) ∙ o) (b.rests d ps bt);
          fresh = λ k le. fresh_here k (let a = ap {A = List W} length more in let c = length-append old (m.offers e) in omega arith);
        }

one_less : {W : Type 0} (b : Bool) (base : ℕ) (xs : List W) (i : ℕ) (w : W) → length (kept_if b ((i, w) ∷ []) ++ numbered base xs) + one_if b ≡ length xs + 1
one_less true base xs i w = let a = length_numbered base xs in omega arith
one_less false base xs i w = let a = length_numbered base xs in omega arith

-- how long a hand is after an entry that takes its one work
pub told_hand : {E W : Type 0} (p : Pile E W) (b : Bool) (i : ℕ) (w : W) (base : ℕ) (xs : List W) → p.kept ≡ [] → p.taken ≡ (i, w) ∷ [] → length (p.kept ++ (kept_if b p.taken ++ numbered base xs)) + one_if b ≡ length xs + 1
told_hand {E} {W} p b i w base xs kept taken =
    let F : List (ℕ × W) → List (ℕ × W) → Type 0 = λ k l. length (k ++ (kept_if b l ++ numbered base xs)) + one_if b ≡ length xs + 1 in
    subst (λ k. F k p.taken) (sym kept) (subst (F []) (sym taken) (one_less b base xs i w))
