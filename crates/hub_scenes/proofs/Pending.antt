-- The works that are pending, where each entry ends its work.
use Rattle.std.proofs.Common.{◌≡◌, ℕ, zero, suc, ◌+◌, ◌≤◌, ◌<◌, Bool, true, false, ◌&&◌, List, [], ◌∷◌, ◌++◌, length, refl, sym, ap, subst, ◌∙◌, arith, eqb, eqb-true, nat_lt, append-nil, length-append, Some}
use Rattle.std.specs.Prelude.{Option, slice_get}
use Rattle.std.proofs.lemmas.Bool.Decides.{nat_tests}
use lib.ListN.{get_elem?}
use Rattle.hub_rule.specs.Counts.{one_if, count, once_below, numbered, Each}
use Rattle.hub_rule.specs.Meaning.{Meaning, offered, ended, Pending, ArePending}
use Rattle.hub_rule.proofs.Sums.{count_more, each_to, each_more}
use Rattle.hub_rule.proofs.Lookups.{get_some}
use Rattle.hub_rule.proofs.Offers.{count_numbered, numbered_each, offered_more}
use Rattle.hub_scenes.proofs.Logs.{get_more, ended_snoc}

pub below-length : {A : Type 0} (xs : List A) (i : ℕ) (a : A) → slice_get xs i ≡ Some a → i < length xs
below-length [] i a e = cc
below-length (x ∷ xs) zero a e = omega arith
below-length (x ∷ xs) (suc i) a e = omega (arith, below-length xs i a e)

-- where a number stands in a list
record At {A : Type 0} (i : ℕ) (ps : List (ℕ × A)) : Type 0 where
  thing : A
  pre : List (ℕ × A)
  post : List (ℕ × A)
  is : ps ≡ pre ++ (i, thing) ∷ post

abbrev pair-of : {A : Type 0} → ℕ → A → ℕ × A
pair-of n a = (n, a)

at-number : {A : Type 0} (i : ℕ) (ps : List (ℕ × A)) → 1 ≤ count i ps → At i ps
at-number i [] h = absurd (omega (arith, h))
at-number {A} i (p ∷ ps) h = go (at-number i ps) (eqb p.0 i) refl h
  where
    go : (1 ≤ count i ps → At i ps) → (b : Bool) → eqb p.0 i ≡ b → 1 ≤ one_if b + count i ps → At i (p ∷ ps)
    go next true e h = record { thing = p.1; pre = []; post = ps; is = ap (λ n. pair-of n p.1 ∷ ps) (eqb-true p.0 i e) }
    go next false e h = let a = next (omega (arith, h)) in record { thing = a.thing; pre = p ∷ a.pre; post = a.post; is = ap (λ l. p ∷ l) a.is }

each-out : {A : Type 0} (P : ℕ → A → Type 0) (pre : List (ℕ × A)) (x : ℕ × A) (post : List (ℕ × A)) → Each P (pre ++ x ∷ post) → P x.0 x.1 × Each P (pre ++ post)
each-out P [] x post h = h
each-out P (y ∷ pre) x post h = let k = each-out P pre x post h.1 in (k.0, (h.0, k.1))

same-there : {A : Type 0} {o : Option A} (a b : A) → o ≡ Some a → o ≡ Some b → a ≡ b
same-there a b e f = let both : Some a ≡ Some b = sym e ∙ f in cc both

module _ {Store E X W : Type 0} (m : Meaning Store E X W) (st : Store) (works : List W) (all-end : (e : E) → m.ends e ≡ true) where
  pub pending-first : ArePending m works [] (numbered 0 works)
  pending-first = (
    each_to _ (λ i w. slice_get works i ≡ Some w) (λ k u o. get_some works k u (ap (λ l. get_elem? l k) (sym (append-nil works)) ∙ o)) (numbered 0 works) (numbered_each [] works []),
    (λ i. omega (arith, count_numbered 0 i works, none i, ap (once_below i) plain)),
  )
    where
      plain : 0 + length works ≡ length works
      plain = omega arith

      none : (i : ℕ) → once_below i 0 ≡ 0
      none i = let q : nat_lt i 0 ≡ false = grind (arith, nat_tests) in ap one_if q

  -- a work is taken out, and others come
  pub record Taken (log : List (ℕ × E)) (q : ℕ × E) (ps : List (ℕ × W)) : Type 0 where
    pub pre : List (ℕ × W)
    pub post : List (ℕ × W)
    pub is : ps ≡ pre ++ (q.0, m.takes q.1) ∷ post
    pub later : ArePending m works (log ++ q ∷ []) ((pre ++ post) ++ numbered (length (offered m works log)) (m.offers q.1))

  module _ (log : List (ℕ × E)) (ps : List (ℕ × W)) (are : ArePending m works log ps) (i : ℕ) (w : W) (pend : Pending m works log i w) where
    is-there : 1 ≤ count i ps
    is-there =
        let low : i < length (offered m works log) = below-length (offered m works log) i w pend.0 in
        let yes : nat_lt i (length (offered m works log)) ≡ true = grind (arith, nat_tests) in
        omega (arith, are.1 i, pend.1, ap one_if yes)

    at : At i ps
    at = at-number i ps is-there

    same : at.thing ≡ w
    same = same-there at.thing w (each-out (λ j u. slice_get (offered m works log) j ≡ Some u) at.pre (i, at.thing) at.post (subst (Each (λ j u. slice_get (offered m works log) j ≡ Some u)) at.is are.0)).0 pend.0

    its-place : ps ≡ at.pre ++ (i, w) ∷ at.post
    its-place = at.is ∙ ap (λ u. at.pre ++ pair-of i u ∷ at.post) same

  -- where a pending work stands among those that are pending
  pub record Standing (i : ℕ) (w : W) (ps : List (ℕ × W)) : Type 0 where
    pub pre : List (ℕ × W)
    pub post : List (ℕ × W)
    pub is : ps ≡ pre ++ (i, w) ∷ post

  pub its-split : (log : List (ℕ × E)) (ps : List (ℕ × W)) → ArePending m works log ps → (i : ℕ) (w : W) → Pending m works log i w → Standing i w ps
  its-split log ps are i w pend = record { pre = (at log ps are i w pend).pre; post = (at log ps are i w pend).post; is = its-place log ps are i w pend }

  pub pending-more : (log : List (ℕ × E)) (q : ℕ × E) (ps : List (ℕ × W)) → ArePending m works log ps → Pending m works log q.0 (m.takes q.1) → Taken log q ps
  pending-more log q ps are pend = record { pre = a.pre; post = a.post; is = place; later = (each, counts) }
    where
      a : At q.0 ps
      a = at log ps are q.0 (m.takes q.1) pend

      place : ps ≡ a.pre ++ (q.0, m.takes q.1) ∷ a.post
      place = its-place log ps are q.0 (m.takes q.1) pend

      old : List W
      old = offered m works log

      more : offered m works (log ++ q ∷ []) ≡ offered m works log ++ m.offers q.1
      more = offered_more m works log q.0 q.1

      each : Each (λ i w. slice_get (offered m works (log ++ q ∷ [])) i ≡ Some w) ((a.pre ++ a.post) ++ numbered (length (offered m works log)) (m.offers q.1))
      each = each_more _ (a.pre ++ a.post) _
          (each_to (λ i w. slice_get (offered m works log) i ≡ Some w) (λ i w. slice_get (offered m works (log ++ q ∷ [])) i ≡ Some w)
          (λ i w o. ap (λ l. slice_get l i) more ∙ get_more (offered m works log) (m.offers q.1) i w o) (a.pre ++ a.post)
          (each-out (λ i w. slice_get (offered m works log) i ≡ Some w) a.pre (q.0, m.takes q.1) a.post (subst (Each (λ i w. slice_get (offered m works log) i ≡ Some w)) place are.0)).1)
          (each_to _ (λ i w. slice_get (offered m works (log ++ q ∷ [])) i ≡ Some w)
          (λ i w o. get_some (offered m works (log ++ q ∷ [])) i w (ap (λ l. get_elem? l i) (more ∙ sym (append-nil (offered m works log ++ m.offers q.1))) ∙ o))
          (numbered (length (offered m works log)) (m.offers q.1)) (numbered_each (offered m works log) (m.offers q.1) []))

      yes : (b : Bool) → one_if (b && m.ends q.1) ≡ one_if b
      yes b = ap (λ c. one_if (b && c)) (all-end q.1) ∙ go b
        where
          go : (b : Bool) → one_if (b && true) ≡ one_if b
          go true = refl
          go false = refl

      counts : (i : ℕ) → count i ((a.pre ++ a.post) ++ numbered (length (offered m works log)) (m.offers q.1)) + ended m i (log ++ q ∷ []) ≡ once_below i (length (offered m works (log ++ q ∷ [])))
      counts i = omega (
        arith,
        are.1 i,
        ap (count i) place,
        count_more i a.pre ((q.0, m.takes q.1) ∷ a.post),
        count_more i a.pre a.post,
        count_more i (a.pre ++ a.post) (numbered (length (offered m works log)) (m.offers q.1)),
        count_numbered (length (offered m works log)) i (m.offers q.1),
        ended_snoc m st works i log q,
        yes (eqb q.0 i),
        ap (λ l. once_below i (length l)) more,
        ap (once_below i) (length-append (offered m works log) (m.offers q.1)),
      )
