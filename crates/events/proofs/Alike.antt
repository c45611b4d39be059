-- Congruent channels have one code, and so one shard.
use Rattle.std.proofs.Common.{◌≡◌, ℕ, ◌+◌, ◌<◌, Bool, true, false, cond, List, [], ◌∷◌, ◌++◌, length, refl, sym, ap, ◌∙◌, arith, ⊎_elim}
use Rattle.std.specs.Prelude.{◌%◌, slice_index}
use Rattle.std.specs.Str.{bytes_eq}
use Rattle.std.proofs.lemmas.Bool.{cases_Bool}
use Rattle.sha2.specs.Sha256.{sha256}
use Rattle.calculus.specs.Tree.{Label, Tree, node, Trees, none, also}
use Rattle.calculus.specs.Bytes.{joined}
use Rattle.calculus.specs.Shape.{count}
use Rattle.calculus.specs.Order.{placed, sorted}
use Rattle.calculus.specs.Congruence.{is_bag}
use Rattle.calculus.specs.Code.{head, arranged, code, codes}
use Rattle.calculus.proofs.Alike.{EachTree}
use Rattle.calculus.proofs.Ordered.{placed-placed}
use Rattle.calculus.proofs.Sorting.{length-arranged}
use Rattle.calculus.proofs.Counting.{hit, times, bytes_self, bytes_equal, counts_from_order}
use Rattle.calculus.proofs.Keys.{key, key_all, equal_nodes}
use Rattle.calculus.proofs.Equivalence.{agree}
use Rattle.events.specs.ShardLaws.{CongruentChannelsShareAShard}

keys-count : (ts : Trees) → length (key_all ts) ≡ count ts
keys-count none = refl
keys-count (also t ts) = omega (arith, keys-count ts)

-- as many keys, where they are equal once arranged
same-count : (b : Bool) (ts us : Trees) → arranged b (key_all ts) ≡ arranged b (key_all us) → count ts ≡ count us
same-count b ts us e = sym (keys-count ts) ∙ sym (length-arranged b (key_all ts)) ∙ ap length e ∙ length-arranged b (key_all us) ∙ keys-count us

sorted-cons : (x : List ℕ) (xs : List (List ℕ)) → sorted (x ∷ xs) ≡ placed x (sorted xs)
unfolding sorted
sorted-cons x xs = refl

sorted-none : sorted [] ≡ []
unfolding sorted
sorted-none = refl

-- a tree with this key, taken out of these
record Taken (k : List ℕ) (us : Trees) : Type 0 where
  tree : Tree
  rest : Trees
  same : k ≡ key tree
  order : sorted (codes us) ≡ placed (code tree) (sorted (codes rest))
  fewer : count us ≡ count rest + 1
  others : (x : List ℕ) → times x (key_all us) ≡ hit x k + times x (key_all rest)

take : (k : List ℕ) (us : Trees) → 0 < times k (key_all us) → Taken k us
take k none h = absurd (omega (arith, h))
take k (also u us) h =
    ⊎_elim (λ (e : bytes_eq k (key u) ≡ true). let s = bytes_equal k (key u) e in
    record { tree = u; rest = us; same = s; order = sorted-cons (code u) (codes us); fewer = refl; others = λ x. ap (λ y. hit x y + times x (key_all us)) (sym s) })
    (λ (e : bytes_eq k (key u) ≡ false). let z : hit k (key u) ≡ 0 = ap (λ b. cond b 1 0) e in
    let t : Taken k us = take k us (omega arith) in
    record {
      tree = t.tree;
      rest = also u t.rest;
      same = t.same;
      order = sorted-cons (code u) (codes us) ∙ ap (placed (code u)) t.order ∙ placed-placed (code u) (code t.tree) (sorted (codes t.rest)) ∙ sym (ap (placed (code t.tree)) (sorted-cons (code u) (codes t.rest)));
      fewer = omega (arith, t.fewer);
      others = λ x. omega (arith, t.others x);
    }) (cases_Bool (bytes_eq k (key u)))

-- whatever has the tree's key has its code
abbrev HasOneCode : Tree → Type 0
HasOneCode t = (u : Tree) → key t ≡ key u → code t ≡ code u

turn-alike : (ts us : Trees) → EachTree HasOneCode ts → key_all ts ≡ key_all us → codes ts ≡ codes us
turn-alike none none h e = refl
turn-alike none (also u us) h e = cc
turn-alike (also t ts) none h e = cc
turn-alike (also t ts) (also u us) h e = let a : key t ≡ key u = cc e in let b : key_all ts ≡ key_all us = cc e in cc (h.0 u a, turn-alike ts us h.1 b)

bag-alike : (ts us : Trees) → EachTree HasOneCode ts → count ts ≡ count us → ((x : List ℕ) → times x (key_all ts) ≡ times x (key_all us)) → sorted (codes ts) ≡ sorted (codes us)
bag-alike none none h n f = refl
bag-alike none (also u us) h n f = absurd (omega (arith, n))
bag-alike (also t ts) us h n f =
    let self : hit (key t) (key t) ≡ 1 = ap (λ b. cond b 1 0) (bytes_self (key t)) in
    let k : Taken (key t) us = take (key t) us (omega (arith, f (key t), self)) in
    sorted-cons (code t) (codes ts)
    ∙ ap (λ l. placed (code t) l) (bag-alike ts k.rest h.1 (omega (arith, n, k.fewer)) (λ x. omega (arith, f x, k.others x)))
    ∙ ap (λ c. placed c (sorted (codes k.rest))) (h.0 k.tree k.same) ∙ sym k.order

arranged-alike : (b : Bool) (ts us : Trees) → EachTree HasOneCode ts → count ts ≡ count us → arranged b (key_all ts) ≡ arranged b (key_all us) → arranged b (codes ts) ≡ arranged b (codes us)
arranged-alike true ts us h n e = bag-alike ts us h n (λ x. counts_from_order x (key_all ts) (key_all us) e)
arranged-alike false ts us h n e = turn-alike ts us h e

node-alike : (l m : Label) (ts us : Trees) → EachTree HasOneCode ts → key (node l ts) ≡ key (node m us) → code (node l ts) ≡ code (node m us)
node-alike l m ts us h e =
    let p = equal_nodes l m ts us e in
    let n : count ts ≡ count us = same-count (is_bag l) ts us p.1 in
    let a : arranged (is_bag l) (codes ts) ≡ arranged (is_bag l) (codes us) = arranged-alike (is_bag l) ts us h n p.1 in
    ap (λ k. head l k ++ joined (arranged (is_bag l) (codes ts))) n ∙ ap (λ cs. head l (count us) ++ joined cs) a ∙ ap (λ x. code (node x us)) p.0

mutual
  -- trees of one key have one code
  one-code : (t u : Tree) → key t ≡ key u → code t ≡ code u
  one-code (node l ts) (node m us) e = node-alike l m ts us (one-codes ts) e

  one-codes : (ts : Trees) → EachTree HasOneCode ts
  one-codes none = tt
  one-codes (also t ts) = (λ u e. one-code t u e, one-codes ts)

pub congruent_channels_share_a_shard : CongruentChannelsShareAShard
congruent_channels_share_a_shard t u e = ap (λ c. slice_index (sha256 c) 0 % 64) (one-code t u ((agree t u).0 e))
