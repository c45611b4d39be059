-- Closed processes in normal order with one code are one.
use Rattle.std.proofs.Common.{◌≡◌, ℕ, Bool, true, false, List, [], ◌∷◌, refl, sym, ap, ◌∙◌, subst}
use Rattle.std.specs.Prelude.{IsTrue}
use Rattle.calculus.specs.Tree.{Label, Tree, node, Trees, none, also}
use Rattle.calculus.specs.Bytes.{joined}
use Rattle.calculus.specs.Shape.{count}
use Rattle.calculus.specs.Order.{placed, sorted, IsBelowFirst, IsAscending}
use Rattle.calculus.specs.Congruence.{is_bag, congruent}
use Rattle.calculus.specs.Code.{head, arranged, code, codes}
use Rattle.calculus.specs.CodeLaws.{IsShort}
use Rattle.calculus.specs.Form.{Sort, term, Kids, all, these, no_form, kids}
use Rattle.calculus.proofs.Prefixes.{cut, one-joined}
use Rattle.calculus.proofs.Tails.{IsFine}
use Rattle.calculus.proofs.Reading.{IsRanged, one-label}
use Rattle.calculus.proofs.Reflexive.{congruent_self}
use Rattle.calculus.proofs.Formed.{Formed, Holds}
use Rattle.calculus.proofs.Ranges.{ranged_closed}
use Rattle.calculus.proofs.Splitting.{AreShort, kids-short, first-short, rest-short, heads_split, blanks, tails_equal, same_holds, sides, splits_kids}
use Rattle.calculus.proofs.CodesAgree.{as_fine, code_is_congruence}
use Rattle.rho_term.specs.Normal.{IsArranged, IsNormal, AreNormal}
use Rattle.term_order.specs.NormalLaws.{NormalCodesAreOne, NormalTermsAreOne}

placed-first : (x : List ℕ) (xs : List (List ℕ)) → IsBelowFirst x xs → placed x xs ≡ x ∷ xs
unfolding placed
placed-first x [] h = refl
placed-first x (y ∷ ys) h = rw h

-- ascending codes are in order as they stand
sorted-ascending : (cs : List (List ℕ)) → IsAscending cs → sorted cs ≡ cs
unfolding sorted
sorted-ascending [] h = refl
sorted-ascending (c ∷ cs) h = ap (placed c) (sorted-ascending cs h.1) ∙ placed-first c cs h.0

arranged-normal : (b : Bool) (cs : List (List ℕ)) → IsArranged b cs → arranged b cs ≡ cs
arranged-normal true cs h = sorted-ascending cs h
arranged-normal false cs h = refl

-- two forms of one sort with one code
module _ (s : Sort) (l m : Label) (ts us : Trees) (h : Formed IsRanged s (node l ts)) (k : Formed IsRanged s (node m us)) (a : IsShort (node l ts)) (b : IsShort (node m us)) (e : code (node l ts) ≡ code (node m us)) where
  lf : Formed IsFine s (node l ts)
  lf = as_fine s (node l ts) h

  mf : Formed IsFine s (node m us)
  mf = as_fine s (node m us) k

  parted : (head l (count ts) ≡ head m (count us)) × (joined (arranged (is_bag l) (codes ts)) ≡ joined (arranged (is_bag m) (codes us)))
  parted = cut (head l (count ts)) (head m (count us)) (joined (arranged (is_bag l) (codes ts))) (joined (arranged (is_bag m) (codes us))) (heads_split s l m ts us lf mf a b) e

  labels-one : l ≡ m
  labels-one = one-label l m (count ts) (count us) h.0 k.0 (blanks s l m ts us lf mf a b parted.0) (tails_equal s l m ts us lf mf a b parted.0)

  arranged-one : arranged (is_bag l) (codes ts) ≡ arranged (is_bag m) (codes us)
  arranged-one =
      let apart = splits_kids (kids s l 0) ts us lf.1 (same_holds s l m ts us lf mf a b parted.0) (kids-short l ts a) (kids-short m us b) in
      one-joined (arranged (is_bag l) (codes ts)) (arranged (is_bag m) (codes us)) (sides s l m ts us lf mf a b parted.0 apart) parted.1

  -- of normal forms the constituents have the same codes in turn
  codes-one : IsNormal (node l ts) → IsNormal (node m us) → codes ts ≡ codes us
  codes-one n o = sym (arranged-normal (is_bag l) (codes ts) n.0) ∙ arranged-one ∙ arranged-normal (is_bag m) (codes us) o.0

mutual
  one_tree : (s : Sort) (t u : Tree) → Formed IsRanged s t → Formed IsRanged s u → IsShort t → IsShort u → IsNormal t → IsNormal u → code t ≡ code u → t ≡ u
  one_tree s (node l ts) (node m us) h k a b n o e =
      let p : l ≡ m = labels-one s l m ts us h k a b e in
      let g : Holds IsRanged (kids s l 0) us = subst (λ (x : Label). Holds IsRanged (kids s x 0) us) (sym p) k.1 in
      let q : ts ≡ us = one_trees (kids s l 0) ts us h.1 g (kids-short l ts a) (kids-short m us b) n.1 o.1 (codes-one s l m ts us h k a b e n o) in
      cc

  one_trees : (p : Kids) (ts us : Trees) → Holds IsRanged p ts → Holds IsRanged p us → AreShort ts → AreShort us → AreNormal ts → AreNormal us → codes ts ≡ codes us → ts ≡ us
  one_trees p none none h k a b n o e = refl
  one_trees p none (also u us) h k a b n o e = cc
  one_trees p (also t ts) none h k a b n o e = cc
  one_trees (all s) (also t ts) (also u us) h k a b n o e =
      let f : code t ≡ code u = cc in
      let g : codes ts ≡ codes us = cc in
      let x : t ≡ u = one_tree s t u h.0 k.0 (first-short t ts a) (first-short u us b) n.0 o.0 f in
      let y : ts ≡ us = one_trees (all s) ts us h.1 k.1 (rest-short t ts a) (rest-short u us b) n.1 o.1 g in
      cc
  one_trees (these []) (also t ts) (also u us) h k a b n o e = absurd h
  one_trees (these (s ∷ ss)) (also t ts) (also u us) h k a b n o e =
      let f : code t ≡ code u = cc in
      let g : codes ts ≡ codes us = cc in
      let x : t ≡ u = one_tree s t u h.0 k.0 (first-short t ts a) (first-short u us b) n.0 o.0 f in
      let y : ts ≡ us = one_trees (these ss) ts us h.1 k.1 (rest-short t ts a) (rest-short u us b) n.1 o.1 g in
      cc
  one_trees no_form (also t ts) (also u us) h k a b n o e = absurd h

pub normal_codes_are_one : NormalCodesAreOne
normal_codes_are_one t u h k a b n o e = one_tree term t u (ranged_closed t h a) (ranged_closed u k b) a b n o e

pub normal_terms_are_one : NormalTermsAreOne
normal_terms_are_one t u h k a b n o =
    (λ c. normal_codes_are_one t u h k a b n o ((code_is_congruence t u h k a b).1 c), λ e. subst (λ x. IsTrue (congruent t x)) e (congruent_self t))
