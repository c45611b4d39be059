-- What the seats of a hub drew and charged, added up.
use Rattle.std.proofs.Common.{◌≡◌, ◌≤◌, ℕ, zero, suc, ◌+◌, ◌*◌, List, [], ◌∷◌, ◌++◌, length, refl, ap, ◌∙◌, subst, arith, append_assoc, length-append, Some}
use Rattle.std.specs.Prelude.{slice_get}
use Rattle.std.specs.List.{All}
use Rattle.std.proofs.lemmas.List.Elements.{All-head, All-tail, All-weaker}
use Rattle.hub_rule.specs.Counts.{count, once_below, total, all_of, Each}
use Rattle.hub_rule.specs.Rule.{cost}
use Rattle.hub_rule.proofs.Sums.{each_cut}
use Rattle.hub_scenes.proofs.Sums.{seats-sum}

at-place : {E : Type 0} (P : E → Type 0) (es : List E) → All P es → (n : ℕ) (e : E) → slice_get es n ≡ Some e → P e
at-place P [] h n e g = cc g
at-place P (x ∷ es) h zero e g = let q : x ≡ e = cc g in subst P q (All-head P x es h)
at-place P (x ∷ es) h (suc n) e g = at-place P es (All-tail P x es h) n e g

times-plus : (c a b x y : ℕ) → c * a ≤ x → c * b ≤ y → c * (a + b) ≤ x + y
times-plus c a b x y h k = grind (arith, h, k)

times-none : (c : ℕ) → c * 0 ≤ 0
times-none c = grind arith

module _ {E : Type 0} (es : List E) (price steps : E → ℕ) (comm : ℕ) (dear : All (λ e. comm * steps e ≤ price e) es) (one : (e : E) → steps e ≤ 1) where
  abbrev At : List (ℕ × E) → Type 0
  At ps = Each (λ n e. slice_get es n ≡ Some e) ps

  -- entries that were drawn cost at least what their steps do
  drawn-dear : (ps : List (ℕ × E)) → At ps → comm * cost steps ps ≤ cost price ps
  drawn-dear [] h = times-none comm
  drawn-dear (p ∷ ps) h = times-plus comm (steps p.1) (cost steps ps) (price p.1) (cost price ps) (at-place (λ e. comm * steps e ≤ price e) es dear p.0 p.1 h.0) (drawn-dear ps h.1)

  -- and make at most one step each
  drawn-few : (ps : List (ℕ × E)) → cost steps ps ≤ length ps
  drawn-few [] = omega arith
  drawn-few (p ∷ ps) = omega (arith, one p.1, drawn-few ps)

  module _ {S : Type 0} (drawn settled fresh due : S → List (ℕ × E)) where
    abbrev IsSplit : S → Type 0
    IsSplit s = (drawn s ≡ (settled s ++ fresh s) ++ due s) × (length (fresh s) + length (due s) ≤ 1)

    settled-dear : (ss : List S) → All (λ s. At (drawn s)) ss → All (λ s. IsSplit s) ss → comm * total (λ s. cost steps (settled s)) ss ≤ total (λ s. cost price (settled s)) ss
    settled-dear [] h k = times-none comm
    settled-dear (s ∷ ss) h k =
        let here : At ((settled s ++ fresh s) ++ due s) = subst At (All-head IsSplit s ss k).0 (All-head (λ s. At (drawn s)) s ss h) in
        let first = (each_cut (λ n e. slice_get es n ≡ Some e) (settled s ++ fresh s) (due s) here).0 in
        let own = (each_cut (λ n e. slice_get es n ≡ Some e) (settled s) (fresh s) first).0 in
        times-plus comm (cost steps (settled s)) (total (λ s. cost steps (settled s)) ss) (cost price (settled s)) (total (λ s. cost price (settled s)) ss) (drawn-dear (settled s) own)
        (settled-dear ss (All-tail (λ s. At (drawn s)) s ss h) (All-tail IsSplit s ss k))

    last-few : (ss : List S) → All (λ s. IsSplit s) ss → total (λ s. cost steps (fresh s ++ due s)) ss ≤ length ss
    last-few [] k = omega arith
    last-few (s ∷ ss) k = omega (arith, drawn-few (fresh s ++ due s), length-append (fresh s) (due s), (All-head IsSplit s ss k).1, last-few ss (All-tail IsSplit s ss k))

    module _ (ss : List S) (once : (n : ℕ) → count n (all_of drawn ss) ≡ once_below n (length es)) (at : All (λ s. At (drawn s)) ss) (split : All (λ s. IsSplit s) ss) where
      -- what is not settled makes at most one step a seat
      pub settled-steps : total steps es ≤ total (λ s. cost steps (settled s)) ss + length ss
      settled-steps = omega (
        arith,
        seats-sum steps drawn settled (λ s. fresh s ++ due s) es ss once at (All-weaker IsSplit (λ s. drawn s ≡ settled s ++ (fresh s ++ due s)) (λ s k. k.0 ∙ append_assoc (settled s) (fresh s) (due s)) ss split),
        last-few ss split,
      )

      pub settled-costs : comm * total (λ s. cost steps (settled s)) ss ≤ total (λ s. cost price (settled s)) ss
      settled-costs = settled-dear ss at split

      none-due : (ss : List S) → All (λ s. due s ≡ []) ss → total (λ s. cost price (due s)) ss ≡ 0
      none-due [] h = refl
      none-due (s ∷ ss) h = omega (arith, ap (cost price) (All-head (λ s. due s ≡ []) s ss h), none-due ss (All-tail (λ s. due s ≡ []) s ss h))

      -- where nothing is due, all was charged
      pub all-charged : All (λ s. due s ≡ []) ss → total (λ s. cost price (settled s ++ fresh s)) ss ≡ total price es
      all-charged none = omega (
        arith,
        seats-sum price drawn (λ s. settled s ++ fresh s) due es ss once at (All-weaker IsSplit (λ s. drawn s ≡ (settled s ++ fresh s) ++ due s) (λ s k. k.0) ss split),
        none-due ss none,
      )
