-- A key of a tree, of numbers of any size: trees are congruent exactly where their keys are equal.
use Rattle.std.proofs.Common.{◌≡◌, ℕ, List, [], ◌∷◌, ◌++◌, length, refl, sym, ap, ◌∙◌, subst, arith}
use Rattle.std.specs.Prelude.{ℤ, pos, negsuc}
use Rattle.calculus.specs.Tree.{Label, Tree, node, Trees, none, also, plain, label_of as from_plain, label_of-plain}
use Rattle.calculus.specs.Bytes.{joined}
use Rattle.calculus.specs.Shape.{count}
use Rattle.calculus.specs.Congruence.{is_bag}
use Rattle.calculus.specs.Code.{arranged}
use Rattle.calculus.specs.CodeLaws.{Splits}
use Rattle.calculus.proofs.Prefixes.{Splits-append, Splits-length, Splits-joined, Together, cut, one-joined}
use Rattle.calculus.proofs.Sorting.{Each, together-arranged, length-arranged}
use Rattle.calculus.proofs.Alike.{keys}

-- 1 for a negative number
abbrev sign : ℤ → ℕ
sign (pos n) = 0
sign (negsuc n) = 1

abbrev size : ℤ → ℕ
size (pos n) = n
size (negsuc n) = n

same_number : (x y : ℤ) → sign x ≡ sign y → size x ≡ size y → x ≡ y
same_number (pos m) (pos n) e f = ap pos f
same_number (negsuc m) (negsuc n) e f = ap negsuc f
same_number (pos m) (negsuc n) e f = cc
same_number (negsuc m) (pos n) e f = cc

-- a label's number and its data
abbrev label_key : Label → List ℕ
label_key l = (plain l).0 ∷ sign (plain l).1.0 ∷ size (plain l).1.0 ∷ length (plain l).1.1 ∷ (plain l).1.1

labels_split : (l m : Label) → Splits (label_key l) (label_key m)
labels_split l m = λ a b c d. Splits-length (plain l).1.1 (plain m).1.1 d

first : List ℕ → ℕ
first [] = 0
first (x ∷ xs) = x

rest : List ℕ → List ℕ
rest [] = []
rest (x ∷ xs) = xs

one_label : (l m : Label) → label_key l ≡ label_key m → l ≡ m
unfolding first rest
one_label l m e =
    let x : (plain l).0 ≡ (plain m).0 = ap first e in
    let a : sign (plain l).1.0 ≡ sign (plain m).1.0 = ap (λ k. first (rest k)) e in
    let b : size (plain l).1.0 ≡ size (plain m).1.0 = ap (λ k. first (rest (rest k))) e in
    let y : (plain l).1.0 ≡ (plain m).1.0 = same_number (plain l).1.0 (plain m).1.0 a b in
    let z : (plain l).1.1 ≡ (plain m).1.1 = ap (λ k. rest (rest (rest (rest k)))) e in
    let w : plain l ≡ plain m = λ i. (x i, (y i, z i)) in
    sym (label_of-plain l) ∙ ap from_plain w ∙ label_of-plain m

-- what stands before the keys of a form's constituents
abbrev key_head : Label → ℕ → List ℕ
key_head l n = label_key l ++ n ∷ []

heads_split : (l m : Label) (n k : ℕ) → Splits (key_head l n) (key_head m k)
heads_split l m n k = Splits-append (label_key l) (label_key m) (n ∷ []) (k ∷ []) (labels_split l m) (λ e f. tt)

one_head : (l m : Label) (n k : ℕ) → key_head l n ≡ key_head m k → (l ≡ m) × (n ≡ k)
unfolding first
one_head l m n k e =
    let p = cut (label_key l) (label_key m) (n ∷ []) (k ∷ []) (labels_split l m) e in
    (one_label l m p.0, ap first p.1)

abbrev mutual
  pub key : Tree → List ℕ
  key (node l ts) = key_head l (count ts) ++ joined (arranged (is_bag l) (key_all ts))

  pub key_all : Trees → List (List ℕ)
  key_all none = []
  key_all (also t ts) = key t ∷ key_all ts

pub keys-all : (ts : Trees) → keys key ts ≡ key_all ts
keys-all none = refl
keys-all (also t ts) = ap (λ ks. key t ∷ ks) (keys-all ts)

length-all : (ts : Trees) → length (key_all ts) ≡ count ts
length-all none = refl
length-all (also t ts) = omega (arith, length-all ts)

-- each tree's key splits from each other one
each_splits : (t : Tree) → ((u : Tree) → Splits (key t) (key u)) → (us : Trees) → Each (Splits (key t)) (key_all us)
each_splits t f none = tt
each_splits t f (also u us) = (f u, each_splits t f us)

sides : (l m : Label) (ts us : Trees) → key_head l (count ts) ≡ key_head m (count us) → Each (λ c. Each (Splits c) (key_all us)) (key_all ts)
    → Together (arranged (is_bag l) (key_all ts)) (arranged (is_bag m) (key_all us))
sides l m ts us e h =
    let p = one_head l m (count ts) (count us) e in
    subst (λ (x : Label). Together (arranged (is_bag l) (key_all ts)) (arranged (is_bag x) (key_all us))) p.0
    (together-arranged (is_bag l) (key_all ts) (key_all us) (length-all ts ∙ p.1 ∙ sym (length-all us)) h)

mutual
  keys_split : (t u : Tree) → Splits (key t) (key u)
  keys_split (node l ts) (node m us) =
      Splits-append (key_head l (count ts)) (key_head m (count us)) (joined (arranged (is_bag l) (key_all ts))) (joined (arranged (is_bag m) (key_all us))) (heads_split l m (count ts) (count us))
      (λ e. Splits-joined (arranged (is_bag l) (key_all ts)) (arranged (is_bag m) (key_all us)) (sides l m ts us e (all_split ts us)))

  all_split : (ts us : Trees) → Each (λ c. Each (Splits c) (key_all us)) (key_all ts)
  all_split none us = tt
  all_split (also t ts) us = (each_splits t (keys_split t) us, all_split ts us)

-- equal keys belong to equal forms, with equal keys of their constituents
pub equal_nodes : (l m : Label) (ts us : Trees) → key (node l ts) ≡ key (node m us) → (l ≡ m) × (arranged (is_bag l) (key_all ts) ≡ arranged (is_bag l) (key_all us))
equal_nodes l m ts us e =
    let p = cut (key_head l (count ts)) (key_head m (count us)) (joined (arranged (is_bag l) (key_all ts))) (joined (arranged (is_bag m) (key_all us))) (heads_split l m (count ts) (count us)) e in
    let q = one_head l m (count ts) (count us) p.0 in
    let f = one-joined (arranged (is_bag l) (key_all ts)) (arranged (is_bag m) (key_all us)) (sides l m ts us p.0 (all_split ts us)) p.1 in
    (q.0, f ∙ ap (λ x. arranged (is_bag x) (key_all us)) (sym q.0))

pub equal_keys : (l m : Label) (ts us : Trees) → l ≡ m → arranged (is_bag l) (key_all ts) ≡ arranged (is_bag l) (key_all us) → key (node l ts) ≡ key (node m us)
equal_keys l m ts us e f =
    let n : count ts ≡ count us = sym (length-all ts) ∙ sym (length-arranged (is_bag l) (key_all ts)) ∙ ap length f ∙ length-arranged (is_bag l) (key_all us) ∙ length-all us in
    ap (λ x. key_head l x ++ joined (arranged (is_bag l) (key_all ts))) n ∙ ap (λ x. key_head l (count us) ++ joined x) f ∙ ap (λ x. key (node x us)) e
