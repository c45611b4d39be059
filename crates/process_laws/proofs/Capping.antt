-- Congruent closed processes unfold alike under each cap.
use Rattle.std.proofs.Common.{◌≡◌, ℕ, ◌+◌, Bool, true, false, cond, ltb, List, refl, sym, ap, subst, arith}
use Rattle.std.specs.Prelude.{Some, option_map}
use Rattle.calculus.specs.Outcome.{Answer, gives, fails, unknown, Outcome, over, within, known, capped}
use Rattle.calculus.specs.Unfolding.{Product, unfold_in}
use Rattle.calculus.proofs.Equivalence.{agree}
use Rattle.process_laws.proofs.Outcomes.{Answers, Ends}
use Rattle.calculus.specs.Runs.{Work}
use Rattle.calculus.proofs.States.{room_keeps_work}
use Rattle.process_laws.specs.CongruentLaws.{IsSameOffer, IsSameWork, UnfoldingsAreAlike}
use Rattle.process_laws.proofs.Sizing.{short-roomy}
use Rattle.process_laws.proofs.Likeness.{AreSameThings}
use Rattle.process_laws.proofs.Likely.{unfold-alike}

-- outcomes alike are alike under each cap
capped-alike : (most : ℕ) (o q : Outcome (List Product)) (v w : Work) → Ends AreSameThings o q → capped most o ≡ Some v → capped most q ≡ Some w → IsSameWork v w
capped-alike most o q v w h e f = go (ltb most o.price) o.price q.price o.answer q.answer h.0 h.1 refl e (subst (λ b. cond b (Some over) (option_map within (known q.answer q)) ≡ Some w) (sym (ap (ltb most) h.0)) f)
  where
    both-within : (m n : ℕ) (a b : Answer (List Product)) → m ≡ n → IsSameOffer a b → Some (within (record { price = m; answer = a })) ≡ Some v → Some (within (record { price = n; answer = b })) ≡ Some w → IsSameWork v w
    both-within m n a b c d e f =
        let x : within (record { price = m; answer = a }) ≡ v = cc (e) in
        let y : within (record { price = n; answer = b }) ≡ w = cc (f) in
        subst (λ z. IsSameWork z w) x (subst (λ z. IsSameWork (within (record { price = m; answer = a })) z) y (c, d))

    both-over : Some over ≡ Some v → Some over ≡ Some w → IsSameWork v w
    both-over e f =
        let x : over ≡ v = cc (e) in
        let y : over ≡ w = cc (f) in
        subst (λ z. IsSameWork z w) x (subst (λ z. IsSameWork over z) y tt)

    go : (c : Bool) (m n : ℕ) (a b : Answer (List Product)) → m ≡ n → Answers AreSameThings a b → c ≡ c → cond c (Some over) (option_map within (known a (record { price = m; answer = a }))) ≡ Some v
        → cond c (Some over) (option_map within (known b (record { price = n; answer = b }))) ≡ Some w → IsSameWork v w
    go true m n a b i j d e f = both-over e f
    go false m n (gives x) (gives y) i j d e f = both-within m n (gives x) (gives y) i j e f
    go false m n (fails x) (fails y) i j d e f = both-within m n (fails x) (fails y) i j e f
    go false m n unknown unknown i j d e f = cc
    go false m n (gives x) (fails y) i j d e f = absurd j
    go false m n (gives x) unknown i j d e f = absurd j
    go false m n (fails x) (gives y) i j d e f = absurd j
    go false m n (fails x) unknown i j d e f = absurd j
    go false m n unknown (gives y) i j d e f = absurd j
    go false m n unknown (fails y) i j d e f = absurd j

pub unfoldings_are_alike : UnfoldingsAreAlike
unfoldings_are_alike p most t u s f g a b e v w h k =
    capped-alike most (unfold_in p (h.0 + k.0) t s) (unfold_in p (h.0 + k.0) u s) v w
    (unfold-alike p (h.0 + k.0) t u s (record { first = f; second = g; roomy = short-roomy t a; room = short-roomy u b; same = (agree t u).0 e }))
    (room_keeps_work p most h.0 (h.0 + k.0) t s v (omega arith) h.1) (room_keeps_work p most k.0 (h.0 + k.0) u s w (omega arith) k.1)
