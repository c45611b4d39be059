-- Well-formed trees of one sort with short codes are congruent exactly where their codes are equal.
use Rattle.std.proofs.Common.{◌≡◌, Bool, true, false, [], ◌∷◌, ◌++◌, length, refl, sym, ap, ◌∙◌, subst}
use Rattle.calculus.specs.Tree.{Label, fresh, par, Tree, node, Trees, none, also}
use Rattle.calculus.specs.Bytes.{joined}
use Rattle.calculus.specs.Shape.{count}
use Rattle.calculus.specs.Congruence.{is_bag}
use Rattle.calculus.specs.Code.{head, arranged, code, codes}
use Rattle.calculus.specs.CodeLaws.{IsShort, CodeIsCongruence}
use Rattle.calculus.specs.Form.{Sort, term, Kids, all, these, no_form, kids}
use Rattle.calculus.proofs.Prefixes.{cut, one-joined}
use Rattle.calculus.proofs.Tails.{IsFine}
use Rattle.calculus.proofs.Sorting.{length-arranged}
use Rattle.calculus.proofs.Counted.{Loose, loose}
use Rattle.calculus.proofs.Reading.{IsRanged, one-label}
use Rattle.calculus.proofs.Formed.{Formed, Holds, Formed-map}
use Rattle.calculus.proofs.Ranges.{ranged_closed}
use Rattle.calculus.proofs.Splitting.{AreShort, length-codes, kids-short, first-short, rest-short, heads_split, blanks, tails_equal, same_holds, sides, splits_kids}
use Rattle.calculus.proofs.Alike.{EachTree, Agree, keys, AgreeBy, Pairs, SameNode, nodes}

keys-codes : (ts : Trees) → keys code ts ≡ codes ts
keys-codes none = refl
keys-codes (also t ts) = ap (λ cs. code t ∷ cs) (keys-codes ts)

fine_ranged : (l : Label) → IsRanged l → IsFine l
fine_ranged (fresh x) h = h
fine_ranged par h = tt
fine_ranged _ h = tt

pub as_fine : (s : Sort) (t : Tree) → Formed IsRanged s t → Formed IsFine s t
as_fine s t h = Formed-map IsRanged IsFine fine_ranged s t h

-- constituents of one sort agree each with each, and others in turn
abbrev Relates : Kids → Trees → Trees → Type 0
Relates (all s) ts us = EachTree (λ t. EachTree (Agree code t) us) ts
Relates (these ss) ts us = Pairs code ts us
Relates no_form ts us = ⊥

each_both : (P Q : Tree → Type 0) (ts : Trees) → EachTree P ts → EachTree Q ts → EachTree (λ t. P t × Q t) ts
each_both P Q none h k = tt
each_both P Q (also t ts) h k = ((h.0, k.0), each_both P Q ts h.1 k.1)

in_turn_of_all : (ts us : Trees) → EachTree (λ t. EachTree (Agree code t) us) ts → Pairs code ts us
in_turn_of_all none us h = tt
in_turn_of_all (also t ts) none h = tt
in_turn_of_all (also t ts) (also u us) h = (h.0.0, in_turn_of_all ts us (fewer ts h.1))
  where
    fewer : (rs : Trees) → EachTree (λ r. EachTree (Agree code r) (also u us)) rs → EachTree (λ r. EachTree (Agree code r) us) rs
    fewer none h = tt
    fewer (also r rs) h = (h.0.1, fewer rs h.1)

by_form : (b : Bool) (p : Kids) (ts us : Trees) → Loose b p → Relates p ts ts → Relates p ts us → AgreeBy code b ts us
by_form true (all s) ts us o h k = each_both (λ t. EachTree (Agree code t) ts) (λ t. EachTree (Agree code t) us) ts h k
by_form true (these ss) ts us o h k = absurd o
by_form false (all s) ts us o h k = in_turn_of_all ts us k
by_form false (these ss) ts us o h k = k
by_form b no_form ts us o h k = absurd h

-- two forms of one sort
module _ (s : Sort) (l m : Label) (ts us : Trees) (h : Formed IsRanged s (node l ts)) (k : Formed IsRanged s (node m us)) (a : IsShort (node l ts)) (b : IsShort (node m us)) where
  -- forms that are equal, with constituents of equal codes, have equal codes
  equal_codes : SameNode code l ts m us → code (node l ts) ≡ code (node m us)
  equal_codes e =
      let f : arranged (is_bag l) (codes ts) ≡ arranged (is_bag l) (codes us) = rw (← keys-codes ts, ← keys-codes us) e.1 in
      let n : count ts ≡ count us =
      sym (length-codes ts) ∙ sym (length-arranged (is_bag l) (codes ts)) ∙ ap length f ∙ length-arranged (is_bag l) (codes us) ∙ length-codes us
      in
      ap (λ x. head l x ++ joined (arranged (is_bag l) (codes ts))) n ∙ ap (λ x. head l (count us) ++ joined x) f
      ∙ ap (λ x. head x (count us) ++ joined (arranged (is_bag x) (codes us))) e.0

  lf : Formed IsFine s (node l ts)
  lf = as_fine s (node l ts) h

  mf : Formed IsFine s (node m us)
  mf = as_fine s (node m us) k

  equal_nodes : code (node l ts) ≡ code (node m us) → SameNode code l ts m us
  equal_nodes e =
      let p = cut (head l (count ts)) (head m (count us)) (joined (arranged (is_bag l) (codes ts))) (joined (arranged (is_bag m) (codes us))) (heads_split s l m ts us lf mf a b) e in
      let q : l ≡ m = one-label l m (count ts) (count us) h.0 k.0 (blanks s l m ts us lf mf a b p.0) (tails_equal s l m ts us lf mf a b p.0) in
      let apart = splits_kids (kids s l 0) ts us lf.1 (same_holds s l m ts us lf mf a b p.0) (kids-short l ts a) (kids-short m us b) in
      let f = one-joined (arranged (is_bag l) (codes ts)) (arranged (is_bag m) (codes us)) (sides s l m ts us lf mf a b p.0 apart) p.1 in
      (q, rw (keys-codes ts, keys-codes us) (f ∙ ap (λ x. arranged (is_bag x) (codes us)) (sym q)))

  agree_nodes : (l ≡ m → AgreeBy code (is_bag l) ts us) → Agree code (node l ts) (node m us)
  agree_nodes f =
      let n = nodes code l m ts us f in
      (λ e. equal_codes (n.0 e), λ e. n.1 (equal_nodes e))

against : (s : Sort) (t : Tree) → ((u : Tree) → Formed IsRanged s u → IsShort u → Agree code t u) → (us : Trees) → Holds IsRanged (all s) us → AreShort us → EachTree (Agree code t) us
against s t f none h a = tt
against s t f (also u us) h a = (f u h.0 (first-short u us a), against s t f us h.1 (rest-short u us a))

mutual
  pub codes_agree : (s : Sort) (t u : Tree) → Formed IsRanged s t → Formed IsRanged s u → IsShort t → IsShort u → Agree code t u
  codes_agree s (node l ts) (node m us) h k a b =
      agree_nodes s l m ts us h k a b
      (λ e. let g : Holds IsRanged (kids s l 0) us = subst (λ (x : Label). Holds IsRanged (kids s x 0) us) (sym e) k.1 in
      by_form (is_bag l) (kids s l 0) ts us (loose l s 0) (kids_relate (kids s l 0) ts ts h.1 h.1 (kids-short l ts a) (kids-short l ts a))
      (kids_relate (kids s l 0) ts us h.1 g (kids-short l ts a) (kids-short m us b)))

  kids_relate : (p : Kids) (ts us : Trees) → Holds IsRanged p ts → Holds IsRanged p us → AreShort ts → AreShort us → Relates p ts us
  kids_relate (all s) none us h k a b = tt
  kids_relate (all s) (also t ts) us h k a b =
      (against s t (λ u g c. codes_agree s t u h.0 g (first-short t ts a) c) us k b, kids_relate (all s) ts us h.1 k (rest-short t ts a) b)
  kids_relate (these []) none us h k a b = tt
  kids_relate (these []) (also t ts) us h k a b = absurd h
  kids_relate (these (s ∷ ss)) none us h k a b = absurd h
  kids_relate (these (s ∷ ss)) (also t ts) none h k a b = absurd k
  kids_relate (these (s ∷ ss)) (also t ts) (also u us) h k a b =
      (codes_agree s t u h.0 k.0 (first-short t ts a) (first-short u us b), kids_relate (these ss) ts us h.1 k.1 (rest-short t ts a) (rest-short u us b))
  kids_relate no_form ts us h k a b = absurd h

pub code_is_congruence : CodeIsCongruence
code_is_congruence t u h k a b =
    let d = codes_agree term t u (ranged_closed t h a) (ranged_closed u k b) a b in
    (d.1, d.0)
