-- Of two trees of one sort neither has a code that is a proper prefix of the other's.
use Rattle.std.proofs.Common.{◌≡◌, ℕ, ◌<◌, ◌^◌, Bool, true, false, List, [], ◌∷◌, length, refl, sym, ◌∙◌, subst, arith, length-append}
use Rattle.calculus.specs.Tree.{Label, Tree, node, Trees, none, also}
use Rattle.calculus.specs.Bytes.{joined}
use Rattle.calculus.specs.Shape.{count}
use Rattle.calculus.specs.Congruence.{is_bag}
use Rattle.calculus.specs.Code.{head, arranged, code, codes}
use Rattle.calculus.specs.CodeLaws.{IsShort, Splits}
use Rattle.calculus.specs.Form.{Sort, Kids, all, these, no_form, kids}
use Rattle.calculus.proofs.Prefixes.{Splits-append, Splits-joined, Together}
use Rattle.calculus.proofs.Known.{IsForm}
use Rattle.calculus.proofs.Tails.{IsFine}
use Rattle.calculus.proofs.Sorting.{Each, together-arranged}
use Rattle.calculus.proofs.Counted.{counted, Fixed, fixed, Loose, loose}
use Rattle.calculus.proofs.Meeting.{heads, same-bag, same-count, same-kids, same-blank, same-tail}
use Rattle.calculus.proofs.Heads.{blank, tail}
use Rattle.calculus.proofs.Formed.{Formed, Holds, is_form, length-code, count-le}

-- the codes of these have room in four bytes together
abbrev pub AreShort : Trees → Type 0
AreShort ts = length (joined (codes ts)) < 2 ^ 32

-- of constituents of one sort each two split, and of those that stand in turn each two in one place
abbrev pub Apart : Kids → List (List ℕ) → List (List ℕ) → Type 0
Apart (all s) cs ds = Each (λ c. Each (Splits c) ds) cs
Apart (these ss) cs ds = Together cs ds
Apart no_form cs ds = ⊥

pub length-codes : (ts : Trees) → length (codes ts) ≡ count ts
length-codes none = refl
length-codes (also t ts) = omega (arith, length-codes ts)

pub first-short : (t : Tree) (ts : Trees) → AreShort (also t ts) → IsShort t
first-short t ts a = omega (arith, length-append (code t) (joined (codes ts)))

pub rest-short : (t : Tree) (ts : Trees) → AreShort (also t ts) → AreShort ts
rest-short t ts a = omega (arith, length-append (code t) (joined (codes ts)))

pub kids-short : (l : Label) (ts : Trees) → IsShort (node l ts) → AreShort ts
kids-short l ts a = omega (arith, length-code l ts)

pub head-short : (l : Label) (ts : Trees) → IsShort (node l ts) → length (head l (count ts)) < 2 ^ 32
head-short l ts a = omega (arith, length-code l ts)

-- where a test holds of a tree against each of one sort, it does so for all of these
pub against : (P : Label → Type 0) (s : Sort) (Q : List ℕ → Type 0) → ((u : Tree) → Formed P s u → IsShort u → Q (code u)) → (us : Trees) → Holds P (all s) us → AreShort us → Each Q (codes us)
against P s Q f none h a = tt
against P s Q f (also u us) h a = (f u h.0 (first-short u us a), against P s Q f us h.1 (rest-short u us a))

-- codes that are apart stand together once they are arranged
pub arrange : (b d : Bool) (p : Kids) (ts us : Trees) → Fixed d p → Loose b p → (d ≡ true → count ts ≡ count us) → Apart p (codes ts) (codes us) → Together (arranged b (codes ts)) (arranged b (codes us))
arrange b true (all s) ts us f o c h = together-arranged b (codes ts) (codes us) (length-codes ts ∙ c refl ∙ sym (length-codes us)) h
arrange b false (all s) ts us f o c h = absurd f
arrange true d (these ss) ts us f o c h = absurd o
arrange false d (these ss) ts us f o c h = h
arrange b d no_form ts us f o c h = absurd h

-- two forms of one sort
module _ (s : Sort) (l m : Label) (ts us : Trees) (h : Formed IsFine s (node l ts)) (k : Formed IsFine s (node m us)) (a : IsShort (node l ts)) (b : IsShort (node m us)) where
  one_is : IsForm (kids s l 0)
  one_is = is_form IsFine (kids s l 0) ts h.1

  other_is : IsForm (kids s m 0)
  other_is = is_form IsFine (kids s m 0) us k.1

  one_few : count ts < 2 ^ 32
  one_few = omega (arith, count-le IsFine (kids s l 0) ts h.1, kids-short l ts a)

  other_few : count us < 2 ^ 32
  other_few = omega (arith, count-le IsFine (kids s m 0) us k.1, kids-short m us b)

  pub heads_split : Splits (head l (count ts)) (head m (count us))
  heads_split = heads s l m (count ts) (count us) one_is other_is h.0 k.0 (head-short l ts a) (head-short m us b)

  -- with one head
  module _ (e : head l (count ts) ≡ head m (count us)) where
    pub blanks : blank l ≡ blank m
    blanks = same-blank s l m (count ts) (count us) one_is other_is e one_few other_few

    pub tails_equal : tail l (count ts) ≡ tail m (count us)
    tails_equal = same-tail s l m (count ts) (count us) one_is other_is e one_few other_few

    pub same_holds : Holds IsFine (kids s l 0) us
    same_holds = subst (λ (q : Kids). Holds IsFine q us) (same-kids s l m (count ts) (count us) one_is other_is e one_few other_few) k.1

    pub sides : Apart (kids s l 0) (codes ts) (codes us) → Together (arranged (is_bag l) (codes ts)) (arranged (is_bag m) (codes us))
    sides apart =
        subst (λ (x : Bool). Together (arranged (is_bag l) (codes ts)) (arranged x (codes us))) (same-bag s l m (count ts) (count us) one_is other_is e one_few other_few)
        (arrange (is_bag l) (counted l) (kids s l 0) ts us (fixed l s 0) (loose l s 0) (same-count s l m (count ts) (count us) one_is other_is e one_few other_few) apart)

mutual
  pub splits : (s : Sort) (t u : Tree) → Formed IsFine s t → Formed IsFine s u → IsShort t → IsShort u → Splits (code t) (code u)
  splits s (node l ts) (node m us) h k a b =
      Splits-append (head l (count ts)) (head m (count us)) (joined (arranged (is_bag l) (codes ts))) (joined (arranged (is_bag m) (codes us))) (heads_split s l m ts us h k a b)
      (λ e. let apart = splits_kids (kids s l 0) ts us h.1 (same_holds s l m ts us h k a b e) (kids-short l ts a) (kids-short m us b) in
      Splits-joined (arranged (is_bag l) (codes ts)) (arranged (is_bag m) (codes us)) (sides s l m ts us h k a b e apart))

  pub splits_kids : (p : Kids) (ts us : Trees) → Holds IsFine p ts → Holds IsFine p us → AreShort ts → AreShort us → Apart p (codes ts) (codes us)
  splits_kids (all s) none us h k a b = tt
  splits_kids (all s) (also t ts) us h k a b =
      (against IsFine s (Splits (code t)) (λ u g c. splits s t u h.0 g (first-short t ts a) c) us k b, splits_kids (all s) ts us h.1 k (rest-short t ts a) b)
  splits_kids (these []) none none h k a b = tt
  splits_kids (these []) none (also u us) h k a b = absurd k
  splits_kids (these []) (also t ts) us h k a b = absurd h
  splits_kids (these (s ∷ ss)) none us h k a b = absurd h
  splits_kids (these (s ∷ ss)) (also t ts) none h k a b = absurd k
  splits_kids (these (s ∷ ss)) (also t ts) (also u us) h k a b =
      (splits s t u h.0 k.0 (first-short t ts a) (first-short u us b), splits_kids (these ss) ts us h.1 k.1 (rest-short t ts a) (rest-short u us b))
  splits_kids no_form ts us h k a b = absurd h
