-- Trees of one sort with one code bind the same variables.
use Rattle.std.proofs.Common.{◌≡◌, ℕ, List, [], ◌∷◌, ◌++◌, refl, ap, sym, ◌∙◌, subst, inl, inr, ⊎_elim}
use Rattle.std.specs.Prelude.{Bool, false, ◌⊎◌}
use Rattle.calculus.specs.Tree.{Label, par, set, dict, rest, Tree, node, Trees, none, also}
use Rattle.calculus.specs.Kinds.{rest_number, rest_of, rest_of-number}
use Rattle.calculus.specs.declared.plain.TermRest.TheVariants as rests
use Rattle.calculus.specs.Bytes.{joined}
use Rattle.calculus.specs.Shape.{count}
use Rattle.calculus.specs.Congruence.{is_bag}
use Rattle.calculus.specs.Code.{head, arranged, code, codes}
use Rattle.calculus.specs.CodeLaws.{IsShort}
use Rattle.calculus.specs.Form.{Sort, term, part, row_of, pair_of, Kids, all, these, no_form, kids, Scope, Fits}
use Rattle.calculus.specs.Variables.{Sense, own, bound, bound_all}
use Rattle.calculus.proofs.Prefixes.{cut, one-joined}
use Rattle.calculus.proofs.Heads.{blank, tail}
use Rattle.calculus.proofs.Known.{IsForm}
use Rattle.calculus.proofs.Tails.{IsFine}
use Rattle.calculus.proofs.Formed.{Formed, Holds, is_form}
use Rattle.calculus.proofs.FromFits.{formed, fine}
use Rattle.calculus.proofs.Binding.{OfTerms, no_bound}
use Rattle.calculus.proofs.Splitting.{AreShort, kids-short, first-short, rest-short, heads_split, blanks, tails_equal, same_holds, sides, splits_kids}

own-blank : (m : Label) (vs : List Sense) → (blank m ≡ rest rests.No → ⊥) → own (blank m) vs ≡ own m vs
own-blank (rest x) vs h = absurd (h refl)
own-blank par vs h = refl
own-blank _ vs h = refl

first_of_one : List ℕ → ℕ
first_of_one [] = 0
first_of_one (x ∷ xs) = x

own-same : (l m : Label) (n k : ℕ) (vs : List Sense) → blank l ≡ blank m → tail l n ≡ tail m k → own l vs ≡ own m vs
unfolding first_of_one
own-same (rest x) (rest y) n k vs e f =
    let p : rest_number x ≡ rest_number y = ap first_of_one f in
    ap (λ z. own (rest z) vs) (sym (rest_of-number x) ∙ ap rest_of p ∙ rest_of-number y)
own-same (rest x) par n k vs e f = absurd (cc)
own-same (rest x) _ n k vs e f = absurd (cc)
own-same par m n k vs e f = ap (λ (z : Label). own z vs) e ∙ own-blank m vs (λ q. absurd (cc))
own-same l m n k vs e f = sym (own-blank l vs (λ q. absurd (cc))) ∙ ap (λ (z : Label). own z vs) e ∙ own-blank m vs (λ q. absurd (cc))

of_terms : (s : Sort) → OfTerms s ⊎ (OfTerms s → ⊥)
of_terms term = inl tt
of_terms part = inl tt
of_terms (row_of s) = of_terms s
of_terms (pair_of s) = of_terms s
of_terms _ = inr (λ h. h)

par-not : (s : Sort) → IsForm (kids s par 0) → (OfTerms s → ⊥) → is_bag par ≡ false
par-not term h n = absurd (n tt)
par-not part h n = absurd (n tt)
par-not _ h n = absurd h

set-not : (s : Sort) → IsForm (kids s set 0) → (OfTerms s → ⊥) → is_bag set ≡ false
set-not part h n = absurd (n tt)
set-not term h n = absurd (n tt)
set-not _ h n = absurd h

dict-not : (s : Sort) → IsForm (kids s dict 0) → (OfTerms s → ⊥) → is_bag dict ≡ false
dict-not part h n = absurd (n tt)
dict-not term h n = absurd (n tt)
dict-not _ h n = absurd h

unbagged : (s : Sort) (l : Label) → IsForm (kids s l 0) → (OfTerms s → ⊥) → is_bag l ≡ false
unbagged s par h n = par-not s h n
unbagged s set h n = set-not s h n
unbagged s dict h n = dict-not s h n
unbagged s _ h n = refl

heads-equal : (c d : List ℕ) (cs ds : List (List ℕ)) → c ∷ cs ≡ d ∷ ds → (c ≡ d) × (cs ≡ ds)
heads-equal c d cs ds e = (cc, cc)

unarranged : (b d : Bool) (cs ds : List (List ℕ)) → b ≡ false → d ≡ false → arranged b cs ≡ arranged d ds → cs ≡ ds
unarranged b d cs ds p q e = subst (λ (x : Bool). arranged x cs ≡ ds) p (subst (λ (x : Bool). arranged b cs ≡ arranged x ds) q e)

mutual
  both-bind : (s : Sort) (t u : Tree) → Formed IsFine s t → Formed IsFine s u → IsShort t → IsShort u → code t ≡ code u → bound t ≡ bound u
  both-bind s (node l ts) (node m us) h k a b e =
      let p = cut (head l (count ts)) (head m (count us)) (joined (arranged (is_bag l) (codes ts))) (joined (arranged (is_bag m) (codes us))) (heads_split s l m ts us h k a b) e in
      let g = same_holds s l m ts us h k a b p.0 in
      let apart = splits_kids (kids s l 0) ts us h.1 g (kids-short l ts a) (kids-short m us b) in
      let f = one-joined (arranged (is_bag l) (codes ts)) (arranged (is_bag m) (codes us)) (sides s l m ts us h k a b p.0 apart) p.1 in
      ⊎_elim (λ (o : OfTerms s). no_bound IsFine s (node l ts) o h ∙ sym (no_bound IsFine s (node m us) o k))
      (λ (o : OfTerms s → ⊥).
      let x = unbagged s l (is_form IsFine (kids s l 0) ts h.1) o in
      let y = unbagged s m (is_form IsFine (kids s m 0) us k.1) o in
      let c : codes ts ≡ codes us = unarranged (is_bag l) (is_bag m) (codes ts) (codes us) x y f in
      ap (own l) (all-bind (kids s l 0) ts us h.1 g (kids-short l ts a) (kids-short m us b) c)
      ∙ own-same l m (count ts) (count us) (bound_all us) (blanks s l m ts us h k a b p.0) (tails_equal s l m ts us h k a b p.0))
      (of_terms s)

  all-bind : (p : Kids) (ts us : Trees) → Holds IsFine p ts → Holds IsFine p us → AreShort ts → AreShort us → codes ts ≡ codes us → bound_all ts ≡ bound_all us
  all-bind p none none h k a b e = refl
  all-bind p none (also u us) h k a b e = absurd (cc)
  all-bind p (also t ts) none h k a b e = absurd (cc)
  all-bind (all s) (also t ts) (also u us) h k a b e =
      let q = heads-equal (code t) (code u) (codes ts) (codes us) e in
      ap (λ (vs : List Sense). vs ++ bound_all ts) (both-bind s t u h.0 k.0 (first-short t ts a) (first-short u us b) q.0)
      ∙ ap (λ (vs : List Sense). bound u ++ vs) (all-bind (all s) ts us h.1 k.1 (rest-short t ts a) (rest-short u us b) q.1)
  all-bind (these []) (also t ts) (also u us) h k a b e = absurd h
  all-bind (these (s ∷ ss)) (also t ts) (also u us) h k a b e =
      let q = heads-equal (code t) (code u) (codes ts) (codes us) e in
      ap (λ (vs : List Sense). vs ++ bound_all ts) (both-bind s t u h.0 k.0 (first-short t ts a) (first-short u us b) q.0)
      ∙ ap (λ (vs : List Sense). bound u ++ vs) (all-bind (these ss) ts us h.1 k.1 (rest-short t ts a) (rest-short u us b) q.1)
  all-bind no_form (also t ts) (also u us) h k a b e = absurd h

pub bound-code : (s : Sort) (v w : Scope) (t u : Tree) → Fits s v t → Fits s w u → IsShort t → IsShort u → code t ≡ code u → bound t ≡ bound u
bound-code s v w t u h k a b e = both-bind s t u (formed IsFine fine s v t h) (formed IsFine fine s w u k) a b e
