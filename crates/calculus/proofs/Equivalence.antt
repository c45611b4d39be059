-- Congruence is an equivalence that each form keeps, and congruent processes have one height.
use Rattle.std.proofs.Common.{◌≡◌, ℕ, suc, ◌<◌, ◌≤◌, ◌+◌, Bool, true, false, cond, List, [], ◌∷◌, length, refl, sym, ap, ◌∙◌, subst, arith, ⊎_elim}
use Rattle.std.specs.Prelude.{sum_by}
use Rattle.std.specs.Str.{bytes_eq}
use Rattle.std.specs.List.Sorted.{IsPermutation}
use Rattle.std.proofs.lemmas.Bool.{cases_Bool}
use Rattle.std.proofs.lemmas.List.Sums.{sum_by-cons}
use Rattle.std.proofs.lemmas.List.Sorted.{sum_by-IsPermutation, length_permutation}
use Rattle.calculus.specs.Tree.{Label, Tree, node, Trees, none, also, trees}
use Rattle.calculus.specs.Shape.{many}
use Rattle.calculus.specs.Order.{sorted}
use Rattle.calculus.specs.Size.{rise, height, heights}
use Rattle.calculus.specs.Congruence.{is_bag, congruent}
use Rattle.calculus.specs.Code.{arranged}
use Rattle.calculus.specs.CongruenceLaws.{CongruenceIsSymmetric, CongruenceIsTransitive, AreCongruent, CongruenceOfForms, OrderOfBag, CongruentHeights}
use Rattle.calculus.proofs.Sorting.{Each}
use Rattle.calculus.proofs.Counting.{hit, times, bytes_self, bytes_equal, order_from_counts, counts_from_order}
use Rattle.calculus.proofs.Alike.{EachTree, Agree, AgreeAll, AgreeBy, Pairs, nodes}
use Rattle.calculus.proofs.Keys.{key, key_all, keys-all, equal_nodes, equal_keys}

-- a tree agrees with each other one
abbrev Agrees : Tree → Type 0
Agrees t = (u : Tree) → Agree key t u

with_each : (t : Tree) → Agrees t → (us : Trees) → EachTree (Agree key t) us
with_each t f none = tt
with_each t f (also u us) = (f u, with_each t f us)

all_pairs : (rs ts us : Trees) → EachTree Agrees rs → EachTree (AgreeAll key ts us) rs
all_pairs none ts us h = tt
all_pairs (also r rs) ts us h = ((with_each r h.0 ts, with_each r h.0 us), all_pairs rs ts us h.1)

pairs : (ts us : Trees) → EachTree Agrees ts → Pairs key ts us
pairs none us h = tt
pairs (also t ts) none h = tt
pairs (also t ts) (also u us) h = (h.0 u, pairs ts us h.1)

by_form : (b : Bool) (ts us : Trees) → EachTree Agrees ts → AgreeBy key b ts us
by_form true ts us h = all_pairs ts ts us h
by_form false ts us h = pairs ts us h

forms_agree : (l m : Label) (ts us : Trees) → EachTree Agrees ts → Agree key (node l ts) (node m us)
forms_agree l m ts us h =
    let d = nodes key l m ts us (λ e. by_form (is_bag l) ts us h) in
    let there : congruent (node l ts) (node m us) ≡ true → key (node l ts) ≡ key (node m us) =
    λ e. (let s = d.0 e in equal_keys l m ts us s.0 (rw (← keys-all ts, ← keys-all us) s.1))
    in
    (there, λ e. (let s = equal_nodes l m ts us e in d.1 (s.0, rw (keys-all ts, keys-all us) s.1)))

mutual
  pub agree : (t u : Tree) → Agree key t u
  agree (node l ts) (node m us) = forms_agree l m ts us (agree_all ts)

  agree_all : (ts : Trees) → EachTree Agrees ts
  agree_all none = tt
  agree_all (also t ts) = (agree t, agree_all ts)

pub symmetric : CongruenceIsSymmetric
symmetric t u e = (agree u t).1 (sym ((agree t u).0 e))

pub transitive : CongruenceIsTransitive
transitive t u v e f = (agree t v).1 ((agree t u).0 e ∙ (agree u v).0 f)

same_keys : (ts us : List Tree) → AreCongruent ts us → key_all (trees ts) ≡ key_all (trees us)
same_keys [] [] h = refl
same_keys [] (u ∷ us) h = absurd h
same_keys (t ∷ ts) [] h = absurd h
same_keys (t ∷ ts) (u ∷ us) h =
    let a : key t ≡ key u = (agree t u).0 h.0 in
    let b : key_all (trees ts) ≡ key_all (trees us) = same_keys ts us h.1 in
    cc

pub of_forms : CongruenceOfForms
of_forms l ts us h = (agree (many l ts) (many l us)).1 (equal_keys l l (trees ts) (trees us) refl (ap (arranged (is_bag l)) (same_keys ts us h)))

-- how often a key stands among those of a list
times-trees : (c : List ℕ) (ts : List Tree) → times c (key_all (trees ts)) ≡ sum_by (λ t. hit c (key t)) ts
times-trees c [] = refl
times-trees c (t ∷ ts) =
    ap (λ n. hit c (key t) + n) (times-trees c ts) ∙ sym (sum_by-cons (λ x. hit c (key x)) t ts)

length-trees : (ts : List Tree) → length (key_all (trees ts)) ≡ length ts
length-trees [] = refl
length-trees (t ∷ ts) = ap suc (length-trees ts)

pub everywhere : (P : List ℕ → Type 0) → ((c : List ℕ) → P c) → (cs : List (List ℕ)) → Each P cs
everywhere P f [] = tt
everywhere P f (c ∷ cs) = (f c, everywhere P f cs)

same_order : (ts us : List Tree) → IsPermutation ts us → sorted (key_all (trees ts)) ≡ sorted (key_all (trees us))
same_order ts us h =
    let same : (c : List ℕ) → times c (key_all (trees ts)) ≡ times c (key_all (trees us)) =
    λ c. times-trees c ts ∙ sym (sum_by-IsPermutation (λ t. hit c (key t)) ts us h) ∙ sym (times-trees c us)
    in
    order_from_counts (key_all (trees ts)) (key_all (trees us)) (length-trees ts ∙ sym (length_permutation ts us h) ∙ sym (length-trees us))
    (everywhere (λ c. times c (key_all (trees ts)) ≡ times c (key_all (trees us))) same (key_all (trees ts)))

pub order_of_bag : OrderOfBag
order_of_bag l ts us b h =
    (agree (many l ts) (many l us)).1
    (equal_keys l l (trees ts) (trees us) refl (subst (λ (x : Bool). arranged x (key_all (trees ts)) ≡ arranged x (key_all (trees us))) (sym b) (same_order ts us h)))

-- heights

-- a tree is no higher than the highest of these, where one of them has its key
among : (t : Tree) → ((u : Tree) → key t ≡ key u → height t ≤ height u) → (us : Trees) → 0 < times (key t) (key_all us) → height t ≤ heights us
among t f none h = absurd (omega arith)
among t f (also u us) h =
    ⊎_elim (λ (e : bytes_eq (key t) (key u) ≡ true). omega (arith, f u (bytes_equal (key t) (key u) e)))
    (λ (e : bytes_eq (key t) (key u) ≡ false). (let k : hit (key t) (key u) ≡ 0 = ap (λ b. cond b 1 0) e in
    omega (arith, among t f us (omega arith))))
    (cases_Bool (bytes_eq (key t) (key u)))

counts_arranged : (b : Bool) (c : List ℕ) (cs ds : List (List ℕ)) → arranged b cs ≡ arranged b ds → times c cs ≡ times c ds
counts_arranged true c cs ds e = counts_from_order c cs ds e
counts_arranged false c cs ds e = ap (times c) e

mutual
  height-le : (t u : Tree) → key t ≡ key u → height t ≤ height u
  height-le (node l ts) (node m us) e =
      let p = equal_nodes l m ts us e in
      let h : heights ts ≤ heights us = heights-le ts us (λ c n. rw (← counts_arranged (is_bag l) c (key_all ts) (key_all us) p.1) n) in
      let r : rise l ≡ rise m = ap rise p.0 in
      omega arith

  heights-le : (ts us : Trees) → ((c : List ℕ) → 0 < times c (key_all ts) → 0 < times c (key_all us)) → heights ts ≤ heights us
  heights-le none us f = omega arith
  heights-le (also t ts) us f =
      let one : hit (key t) (key t) ≡ 1 = ap (λ b. cond b 1 0) (bytes_self (key t)) in
      let a = among t (height-le t) us (f (key t) (omega arith)) in
      let b = heights-le ts us (λ c n. f c (omega arith)) in
      omega (arith, a, b)

pub heights_equal : CongruentHeights
heights_equal t u e =
    let k = (agree t u).0 e in
    omega (arith, height-le t u k, height-le u t (sym k))
