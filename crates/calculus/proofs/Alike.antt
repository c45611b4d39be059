-- Congruence of forms, where congruence of their constituents is equality of keys.
use Rattle.std.proofs.Common.{◌≡◌, ℕ, suc, ◌+◌, Bool, true, false, cond, List, [], ◌∷◌, length, refl, sym, ap, ◌∙◌}
use Rattle.std.specs.Prelude.{⊤, ℤ, pos, negsuc, eqb, ◌&&◌, count_by}
use Rattle.std.specs.Bool.{Decides, one_answer}
use Rattle.std.specs.Str.{bytes_eq}
use Rattle.std.proofs.lemmas.Slice.Eq.{bytes_eq-Decides}
use Rattle.std.proofs.lemmas.Bool.{false≢true, eqb-true, eq-eqb, and_parts, and_from}
use Rattle.std.proofs.lemmas.List.Sums.{sum_by-cons}
use Rattle.calculus.specs.Tree.{Label, Tree, node, Trees, none, also, plain, label_of as from_plain, label_of-plain}
use Rattle.calculus.specs.Shape.{listed}
use Rattle.calculus.specs.Order.{sorted}
use Rattle.calculus.specs.Code.{arranged}
use Rattle.calculus.specs.Congruence.{same_int, same_label, is_bag, as_many, in_turn, congruent, congruent_to}
use Rattle.calculus.proofs.Sorting.{Each}
use Rattle.calculus.proofs.Counting.{times, order_from_counts, length_from_order, counts_from_order}

-- equal labels

same_int-Decides : (x y : ℤ) → Decides (same_int x y) (x ≡ y)
same_int-Decides (pos m) (pos n) = (λ e. ap pos (eqb-true m n e), λ e. eq-eqb m n (cc))
same_int-Decides (negsuc m) (negsuc n) = (λ e. ap negsuc (eqb-true m n e), λ e. eq-eqb m n (cc))
same_int-Decides (pos m) (negsuc n) = (λ e. absurd (false≢true e), λ e. cc)
same_int-Decides (negsuc m) (pos n) = (λ e. absurd (false≢true e), λ e. cc)

pub same_label-Decides : (l m : Label) → Decides (same_label l m) (l ≡ m)
same_label-Decides l m = (there l m, back l m)
  where
    there : (l m : Label) → same_label l m ≡ true → l ≡ m
    there l m e =
        let p = and_parts (eqb (plain l).0 (plain m).0) (same_int (plain l).1.0 (plain m).1.0 && bytes_eq (plain l).1.1 (plain m).1.1) e in
        let q = and_parts (same_int (plain l).1.0 (plain m).1.0) (bytes_eq (plain l).1.1 (plain m).1.1) p.1 in
        let x : (plain l).0 ≡ (plain m).0 = eqb-true (plain l).0 (plain m).0 p.0 in
        let y : (plain l).1.0 ≡ (plain m).1.0 = (same_int-Decides (plain l).1.0 (plain m).1.0).0 q.0 in
        let z : (plain l).1.1 ≡ (plain m).1.1 = (bytes_eq-Decides (plain l).1.1 (plain m).1.1).0 q.1 in
        let w : plain l ≡ plain m = λ i. (x i, (y i, z i)) in
        sym (label_of-plain l) ∙ ap from_plain w ∙ label_of-plain m

    back : (l m : Label) → l ≡ m → same_label l m ≡ true
    back l m e =
        and_from (eqb (plain l).0 (plain m).0) (same_int (plain l).1.0 (plain m).1.0 && bytes_eq (plain l).1.1 (plain m).1.1) (eq-eqb (plain l).0 (plain m).0 (ap (λ x. (plain x).0) e))
        (and_from (same_int (plain l).1.0 (plain m).1.0) (bytes_eq (plain l).1.1 (plain m).1.1) ((same_int-Decides (plain l).1.0 (plain m).1.0).1 (ap (λ x. (plain x).1.0) e))
        ((bytes_eq-Decides (plain l).1.1 (plain m).1.1).1 (ap (λ x. (plain x).1.1) e)))

-- what holds of each of these trees
abbrev pub EachTree : (Tree → Type 0) → Trees → Type 0
EachTree P none = ⊤
EachTree P (also t ts) = P t × EachTree P ts

module _ (K : Tree → List ℕ) where
  -- congruence of these two is equality of their keys
  abbrev pub Agree : Tree → Tree → Type 0
  Agree t u = Decides (congruent t u) (K t ≡ K u)

  abbrev pub keys : Trees → List (List ℕ)
  keys none = []
  keys (also t ts) = K t ∷ keys ts

  pub length-keys : (ts : Trees) → length (keys ts) ≡ length (listed ts)
  length-keys none = refl
  length-keys (also t ts) = ap suc (length-keys ts)

  same_test : (t u : Tree) → Agree t u → congruent t u ≡ bytes_eq (K t) (K u)
  same_test t u h = one_answer (congruent t u) (bytes_eq (K t) (K u)) h (bytes_eq-Decides (K t) (K u))

  count-times : (t : Tree) (us : Trees) → EachTree (Agree t) us → count_by (congruent t) (listed us) ≡ times (K t) (keys us)
  count-times t none h = refl
  count-times t (also u us) h =
      sum_by-cons (λ x. cond (congruent t x) 1 0) u (listed us)
      ∙ ap (λ b. cond b 1 0 + count_by (congruent t) (listed us)) (same_test t u h.0)
      ∙ ap (λ n. cond (bytes_eq (K t) (K u)) 1 0 + n) (count-times t us h.1)

  module _ (ts us : Trees) where
    -- a tree agrees with each of both
    abbrev pub AgreeAll : Tree → Type 0
    AgreeAll t = EachTree (Agree t) ts × EachTree (Agree t) us

    abbrev SameCounts : List (List ℕ) → Type 0
    SameCounts cs = Each (λ c. times c (keys ts) ≡ times c (keys us)) cs

    counted : (rs : Trees) → EachTree AgreeAll rs → as_many (congruent_to rs) (listed ts) (listed us) ≡ true → SameCounts (keys rs)
    unfolding congruent_to
    counted none h e = tt
    counted (also r rs) h e =
        let n = count_by (congruent r) (listed ts) in
        let k = count_by (congruent r) (listed us) in
        let p = and_parts (eqb n k) (as_many (congruent_to rs) (listed ts) (listed us)) e in
        (sym (count-times r ts h.0.0) ∙ eqb-true n k p.0 ∙ count-times r us h.0.1, counted rs h.1 p.1)

    recounted : (rs : Trees) → EachTree AgreeAll rs → ((c : List ℕ) → times c (keys ts) ≡ times c (keys us)) → as_many (congruent_to rs) (listed ts) (listed us) ≡ true
    unfolding congruent_to
    recounted none h f = refl
    recounted (also r rs) h f =
        let n = count_by (congruent r) (listed ts) in
        let k = count_by (congruent r) (listed us) in
        and_from (eqb n k) (as_many (congruent_to rs) (listed ts) (listed us)) (eq-eqb n k (count-times r ts h.0.0 ∙ f (K r) ∙ sym (count-times r us h.0.1))) (recounted rs h.1 f)

    abbrev as_bags : Bool
    as_bags = eqb (length (listed ts)) (length (listed us)) && as_many (congruent_to ts) (listed ts) (listed us)

    bags : EachTree AgreeAll ts → as_bags ≡ true → sorted (keys ts) ≡ sorted (keys us)
    bags h e =
        let p = and_parts (eqb (length (listed ts)) (length (listed us))) (as_many (congruent_to ts) (listed ts) (listed us)) e in
        let n = eqb-true (length (listed ts)) (length (listed us)) p.0 in
        order_from_counts (keys ts) (keys us) (length-keys ts ∙ n ∙ sym (length-keys us)) (counted ts h p.1)

    bags_back : EachTree AgreeAll ts → sorted (keys ts) ≡ sorted (keys us) → as_bags ≡ true
    bags_back h e =
        and_from (eqb (length (listed ts)) (length (listed us))) (as_many (congruent_to ts) (listed ts) (listed us))
        (eq-eqb (length (listed ts)) (length (listed us)) (sym (length-keys ts) ∙ length_from_order (keys ts) (keys us) e ∙ length-keys us))
        (recounted ts h (λ c. counts_from_order c (keys ts) (keys us) e))

  -- constituents agree in turn, as far as both sides go
  abbrev pub Pairs : Trees → Trees → Type 0
  Pairs none us = ⊤
  Pairs (also t ts) none = ⊤
  Pairs (also t ts) (also u us) = Agree t u × Pairs ts us

  turns : (ts us : Trees) → Pairs ts us → in_turn (congruent_to ts) (listed us) ≡ true → keys ts ≡ keys us
  unfolding congruent_to
  turns none none h e = refl
  turns none (also u us) h e = absurd (false≢true e)
  turns (also t ts) none h e = absurd (false≢true e)
  turns (also t ts) (also u us) h e =
      let p = and_parts (congruent t u) (in_turn (congruent_to ts) (listed us)) e in
      let a : K t ≡ K u = h.0.0 p.0 in
      let b : keys ts ≡ keys us = turns ts us h.1 p.1 in
      cc

  turns_back : (ts us : Trees) → Pairs ts us → keys ts ≡ keys us → in_turn (congruent_to ts) (listed us) ≡ true
  unfolding congruent_to
  turns_back none none h e = refl
  turns_back none (also u us) h e = cc
  turns_back (also t ts) none h e = cc
  turns_back (also t ts) (also u us) h e =
      and_from (congruent t u) (in_turn (congruent_to ts) (listed us)) (h.0.1 (cc)) (turns_back ts us h.1 (cc))

  -- constituents agree: each with each in a bag, and else in turn
  abbrev pub AgreeBy : Bool → Trees → Trees → Type 0
  AgreeBy true ts us = EachTree (AgreeAll ts us) ts
  AgreeBy false ts us = Pairs ts us

  -- congruent constituents have the same keys, in a bag in some order
  abbrev by_form : Bool → Trees → Trees → Bool
  by_form b ts us = cond b (as_bags ts us) (in_turn (congruent_to ts) (listed us))

  kids_agree : (b : Bool) (ts us : Trees) → AgreeBy b ts us → Decides (by_form b ts us) (arranged b (keys ts) ≡ arranged b (keys us))
  kids_agree true ts us h = (bags ts us h, bags_back ts us h)
  kids_agree false ts us h = (turns ts us h, turns_back ts us h)

  -- two forms are congruent where they are equal and their constituents have the same keys
  abbrev pub SameNode : Label → Trees → Label → Trees → Type 0
  SameNode l ts m us = (l ≡ m) × (arranged (is_bag l) (keys ts) ≡ arranged (is_bag l) (keys us))

  pub nodes : (l m : Label) (ts us : Trees) → (l ≡ m → AgreeBy (is_bag l) ts us) → Decides (congruent (node l ts) (node m us)) (SameNode l ts m us)
  unfolding congruent
  nodes l m ts us h = (there, back)
    where
      there : same_label l m && by_form (is_bag l) ts us ≡ true → SameNode l ts m us
      there e =
          let p = and_parts (same_label l m) (by_form (is_bag l) ts us) e in
          let q = (same_label-Decides l m).0 p.0 in
          (q, (kids_agree (is_bag l) ts us (h q)).0 p.1)

      back : SameNode l ts m us → same_label l m && by_form (is_bag l) ts us ≡ true
      back s =
          and_from (same_label l m) (by_form (is_bag l) ts us) ((same_label-Decides l m).1 s.0) ((kids_agree (is_bag l) ts us (h s.0)).1 s.1)
