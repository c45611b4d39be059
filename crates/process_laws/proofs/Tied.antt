-- Trees of one sort in ascending order of their codes: congruent bags give lists that are congruent one by one.
use Rattle.std.proofs.Common.{◌≡◌, ℕ, Bool, true, false, cond, List, [], ◌∷◌, map as each, refl, sym, ap, ◌∙◌}
use Rattle.std.specs.Prelude.{⊤}
use Rattle.std.specs.List.{AllZip}
use Rattle.calculus.specs.Tree.{par, Tree, node, Trees, none, also}
use Rattle.calculus.specs.Shape.{listed}
use Rattle.calculus.specs.Order.{up_to, placed, sorted}
use Rattle.calculus.specs.Code.{code}
use Rattle.calculus.specs.CodeLaws.{IsShort}
use Rattle.calculus.specs.Form.{Sort, all}
use Rattle.calculus.specs.Normal.{placed_by, by_code, ascending}
use Rattle.calculus.proofs.Reading.{IsRanged}
use Rattle.calculus.proofs.Formed.{Formed, Holds}
use Rattle.calculus.proofs.Alike.{EachTree, Agree, AgreeAll, keys, nodes}
use Rattle.calculus.proofs.Keys.{key, key_all, equal_keys}
use Rattle.calculus.proofs.Equivalence.{agree}
use Rattle.calculus.proofs.CodesAgree.{codes_agree}

-- a tree of this sort with a short code
abbrev pub Good : Sort → Tree → Type 0
Good s t = Formed IsRanged s t × IsShort t

-- congruent trees of one sort with short codes
abbrev pub Tied : Sort → Tree → Tree → Type 0
Tied s t u = (key t ≡ key u) × Good s t × Good s u

-- a tree beside its code
abbrev Coded : Type 0
Coded = List ℕ × Tree

abbrev firsts : List Coded → List (List ℕ)
firsts xs = each (λ p. p.0) xs

module _ (s : Sort) where
  -- each of these is of the sort and stands beside its code
  abbrev AllCoded : List Coded → Type 0
  AllCoded [] = ⊤
  AllCoded (x ∷ xs) = ((x.0 ≡ code x.1) × Good s x.1) × AllCoded xs

  placed-coded : (x : Coded) (xs : List Coded) → (x.0 ≡ code x.1) × Good s x.1 → AllCoded xs → AllCoded (placed_by x xs)
  unfolding placed_by
  placed-coded x [] h k = (h, tt)
  placed-coded x (y ∷ ys) h k =
      elim (up_to x.0 y.0) as (λ (b : Bool). AllCoded (cond b (x ∷ y ∷ ys) (y ∷ placed_by x ys))) [ true ↦ (h, k) | false ↦ (k.0, placed-coded x ys h k.1) ]

  by_code-coded : (xs : List Coded) → AllCoded xs → AllCoded (by_code xs)
  unfolding by_code
  by_code-coded [] h = tt
  by_code-coded (x ∷ xs) h = placed-coded x (by_code xs) h.0 (by_code-coded xs h.1)

  beside : (ts : Trees) → Holds IsRanged (all s) ts → EachTree IsShort ts → AllCoded (each (λ t. (code t, t)) (listed ts))
  beside none h a = tt
  beside (also t ts) h a = ((refl, (h.0, a.0)), beside ts h.1 a.1)

  -- such trees with equal codes in turn
  same_codes : (xs ys : List Coded) → AllCoded xs → AllCoded ys → firsts xs ≡ firsts ys → AllZip (Tied s) (each (λ p. p.1) xs) (each (λ p. p.1) ys)
  same_codes [] [] h k e = tt
  same_codes [] (y ∷ ys) h k e = cc
  same_codes (x ∷ xs) [] h k e = cc
  same_codes (x ∷ xs) (y ∷ ys) h k e =
      let f : x.0 ≡ y.0 = cc in
      let g : firsts xs ≡ firsts ys = cc in
      let c = (codes_agree s x.1 y.1 h.0.1.0 k.0.1.0 h.0.1.1 k.0.1.1).1 (sym h.0.0 ∙ f ∙ k.0.0) in
      (((agree x.1 y.1).0 c, h.0.1, k.0.1), same_codes xs ys h.1 k.1 g)

  agree-each : (t : Tree) → Good s t → (us : Trees) → Holds IsRanged (all s) us → EachTree IsShort us → EachTree (Agree code t) us
  agree-each t g none h a = tt
  agree-each t g (also u us) h a = (codes_agree s t u g.0 h.0 g.1 a.0, agree-each t g us h.1 a.1)

  agree-all : (rs ts us : Trees) → Holds IsRanged (all s) rs → Holds IsRanged (all s) ts → Holds IsRanged (all s) us → EachTree IsShort rs → EachTree IsShort ts → EachTree IsShort us → EachTree (AgreeAll code ts us) rs
  agree-all none ts us f h k c a b = tt
  agree-all (also r rs) ts us f h k c a b =
      ((agree-each r (f.0, c.0) ts h a, agree-each r (f.0, c.0) us k b), agree-all rs ts us f.1 h k c.1 a b)

firsts-placed : (x : Coded) (xs : List Coded) → firsts (placed_by x xs) ≡ placed x.0 (firsts xs)
unfolding placed_by placed
firsts-placed x [] = refl
firsts-placed x (y ∷ ys) =
    elim (up_to x.0 y.0) as (λ (b : Bool). firsts (cond b (x ∷ y ∷ ys) (y ∷ placed_by x ys)) ≡ cond b (x.0 ∷ y.0 ∷ firsts ys) (y.0 ∷ placed x.0 (firsts ys)))
    [ true ↦ refl | false ↦ ap (λ zs. y.0 ∷ zs) (firsts-placed x ys) ]

firsts-by_code : (xs : List Coded) → firsts (by_code xs) ≡ sorted (firsts xs)
unfolding by_code sorted
firsts-by_code [] = refl
firsts-by_code (x ∷ xs) = firsts-placed x (by_code xs) ∙ ap (placed x.0) (firsts-by_code xs)

firsts-beside : (ts : Trees) → firsts (each (λ t. (code t, t)) (listed ts)) ≡ keys code ts
firsts-beside none = refl
firsts-beside (also t ts) = ap (λ cs. code t ∷ cs) (firsts-beside ts)

-- congruent bags have members whose codes are the same once they ascend
same_sorted : (s : Sort) (ts us : Trees) → Holds IsRanged (all s) ts → Holds IsRanged (all s) us → EachTree IsShort ts → EachTree IsShort us → sorted (key_all ts) ≡ sorted (key_all us) → sorted (keys code ts) ≡ sorted (keys code us)
same_sorted s ts us h k a b e =
    let c = (agree (node par ts) (node par us)).1 (equal_keys par par ts us refl e) in
    ((nodes code par par ts us (λ x. agree-all s ts ts us h h k a a b)).0 c).1

pub ascending-tied : (s : Sort) (ts us : Trees) → Holds IsRanged (all s) ts → Holds IsRanged (all s) us → EachTree IsShort ts → EachTree IsShort us → sorted (key_all ts) ≡ sorted (key_all us)
    → AllZip (Tied s) (ascending (listed ts)) (ascending (listed us))
unfolding ascending
ascending-tied s ts us h k a b e =
    let xs = each (λ t. (code t, t)) (listed ts) in
    let ys = each (λ t. (code t, t)) (listed us) in
    same_codes s (by_code xs) (by_code ys) (by_code-coded s xs (beside s ts h a)) (by_code-coded s ys (beside s us k b))
    (firsts-by_code xs ∙ ap sorted (firsts-beside ts) ∙ same_sorted s ts us h k a b e ∙ sym (ap sorted (firsts-beside us)) ∙ sym (firsts-by_code ys))
