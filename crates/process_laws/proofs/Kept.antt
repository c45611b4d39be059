-- Congruent trees have one code.
use Rattle.std.proofs.Common.{◌≡◌, ℕ, suc, ◌<◌, ◌+◌, Bool, true, false, cond, List, [], ◌∷◌, ◌++◌, length, refl, sym, ap, ◌∙◌, arith, ⊎_elim}
use Rattle.std.specs.Str.{bytes_eq}
use Rattle.std.proofs.lemmas.Bool.{cases_Bool}
use Rattle.calculus.specs.Tree.{Tree, node, Trees, none, also}
use Rattle.calculus.specs.Bytes.{joined}
use Rattle.calculus.specs.Shape.{count}
use Rattle.calculus.specs.Order.{sorted}
use Rattle.calculus.specs.Congruence.{is_bag}
use Rattle.calculus.specs.Code.{head, arranged, code, codes}
use Rattle.calculus.proofs.Sorting.{Each, length-arranged}
use Rattle.calculus.proofs.Counting.{hit, times, bytes_self, bytes_equal, order_from_counts, length_from_order, counts_from_order}
use Rattle.calculus.proofs.Splitting.{length-codes}
use Rattle.calculus.proofs.Keys.{key, key_all, equal_nodes}
use Rattle.calculus.proofs.Equivalence.{agree}
use Rattle.process_laws.specs.ValuedLaws.{CodesAreKept}

length-keys : (ts : Trees) → length (key_all ts) ≡ count ts
length-keys none = refl
length-keys (also t ts) = omega (arith, length-keys ts)

-- one tree taken out of these, with the key of t
record Taken (t : Tree) (us : Trees) : Type 0 where
  it : Tree
  rest : Trees
  same : key t ≡ key it
  keys_left : (k : List ℕ) → times k (key_all us) ≡ hit k (key it) + times k (key_all rest)
  codes_left : (c : List ℕ) → times c (codes us) ≡ hit c (code it) + times c (codes rest)
  number : length (key_all us) ≡ suc (length (key_all rest))

taken_first : (t u : Tree) (us : Trees) → key t ≡ key u → Taken t (also u us)
taken_first t u us e = record { it = u; rest = us; same = e; keys_left = λ k. refl; codes_left = λ c. refl; number = refl }

taken_later : (t u : Tree) (us : Trees) → Taken t us → Taken t (also u us)
taken_later t u us r = record {
  it = r.it;
  rest = also u r.rest;
  same = r.same;
  keys_left = λ k. omega (arith, r.keys_left k);
  codes_left = λ c. omega (arith, r.codes_left c);
  number = ap suc r.number;
}

taken : (t : Tree) (us : Trees) → 0 < times (key t) (key_all us) → Taken t us
taken t none h = absurd (omega arith)
taken t (also u us) h =
    ⊎_elim (λ (e : bytes_eq (key t) (key u) ≡ true). taken_first t u us (bytes_equal (key t) (key u) e))
    (λ (e : bytes_eq (key t) (key u) ≡ false). (let k : hit (key t) (key u) ≡ 0 = ap (λ b. cond b 1 0) e in taken_later t u us (taken t us (omega arith))))
    (cases_Bool (bytes_eq (key t) (key u)))

-- as many of each key on both sides
abbrev SameKeys : Trees → Trees → Type 0
SameKeys ts us = (length (key_all ts) ≡ length (key_all us)) × ((k : List ℕ) → times k (key_all ts) ≡ times k (key_all us))

same-keys : (ts us : Trees) → sorted (key_all ts) ≡ sorted (key_all us) → SameKeys ts us
same-keys ts us e = (length_from_order (key_all ts) (key_all us) e, λ k. counts_from_order k (key_all ts) (key_all us) e)

everywhere : (P : List ℕ → Type 0) → ((c : List ℕ) → P c) → (cs : List (List ℕ)) → Each P cs
everywhere P f [] = tt
everywhere P f (c ∷ cs) = (f c, everywhere P f cs)

same-number : (ts us : Trees) → length (key_all ts) ≡ length (key_all us) → count ts ≡ count us
same-number ts us e = sym (length-keys ts) ∙ e ∙ length-keys us

same-length : (b : Bool) (ts us : Trees) → arranged b (key_all ts) ≡ arranged b (key_all us) → count ts ≡ count us
same-length b ts us e = same-number ts us (sym (length-arranged b (key_all ts)) ∙ ap length e ∙ length-arranged b (key_all us))

-- in turn or as bags
arranged-kept : (b : Bool) (ts us : Trees) → (key_all ts ≡ key_all us → codes ts ≡ codes us) → ((c : List ℕ) → SameKeys ts us → times c (codes ts) ≡ times c (codes us))
    → arranged b (key_all ts) ≡ arranged b (key_all us) → arranged b (codes ts) ≡ arranged b (codes us)
arranged-kept true ts us f g e =
    let s = same-keys ts us e in
    order_from_counts (codes ts) (codes us) (length-codes ts ∙ same-number ts us s.0 ∙ sym (length-codes us))
    (everywhere (λ c. times c (codes ts) ≡ times c (codes us)) (λ c. g c s) (codes ts))
arranged-kept false ts us f g e = f e

mutual
  pub code-kept : (t u : Tree) → key t ≡ key u → code t ≡ code u
  code-kept (node l ts) (node m us) e =
      let n = equal_nodes l m ts us e in
      let f = arranged-kept (is_bag l) ts us (turn-kept ts us) (λ c. bag-kept c ts us) n.1 in
      ap (λ x. head l x ++ joined (arranged (is_bag l) (codes ts))) (same-length (is_bag l) ts us n.1) ∙ ap (λ x. head l (count us) ++ joined x) f
      ∙ ap (λ x. head x (count us) ++ joined (arranged (is_bag x) (codes us))) n.0

  turn-kept : (ts us : Trees) → key_all ts ≡ key_all us → codes ts ≡ codes us
  turn-kept none none e = refl
  turn-kept none (also u us) e = cc
  turn-kept (also t ts) none e = cc
  turn-kept (also t ts) (also u us) e =
      let x : code t ≡ code u = code-kept t u (cc) in
      let y : codes ts ≡ codes us = turn-kept ts us (cc) in
      cc

  bag-kept : (c : List ℕ) (ts us : Trees) → SameKeys ts us → times c (codes ts) ≡ times c (codes us)
  bag-kept c none none h = refl
  bag-kept c none (also u us) h = absurd (omega (arith, h.0))
  bag-kept c (also t ts) us h =
      let one : hit (key t) (key t) ≡ 1 = ap (λ b. cond b 1 0) (bytes_self (key t)) in
      let r : Taken t us = taken t us (omega (arith, h.1 (key t))) in
      let e : code t ≡ code r.it = code-kept t r.it r.same in
      let g : hit c (code t) ≡ hit c (code r.it) = ap (hit c) e in
      let left : SameKeys ts r.rest = (
        omega (arith, h.0, r.number),
        λ k. (let d : hit k (key t) ≡ hit k (key r.it) = ap (hit k) r.same in omega (arith, h.1 k, r.keys_left k)),
      ) in
      omega (arith, bag-kept c ts r.rest left, r.codes_left c)

pub codes_are_kept : CodesAreKept
codes_are_kept t u e = code-kept t u ((agree t u).0 e)
