-- Values that agree in turn: congruent, and the constituents of what was evaluated are so one by one.
use Rattle.std.proofs.Common.{◌≡◌, ℕ, zero, suc, List, [], ◌∷◌, map as each, refl, sym, ap, ◌∙◌, subst}
use Rattle.std.specs.Prelude.{⊤, flat_map}
use Rattle.std.specs.List.{AllZip}
use Rattle.calculus.specs.Tree.{Label, par, row, list, tuple, set, dict, pair, bundle, Tree, node, Trees, none, also, trees}
use Rattle.calculus.specs.Shape.{many, only, listed, held, at}
use Rattle.calculus.specs.Order.{up_to}
use Rattle.calculus.specs.Code.{code}
use Rattle.calculus.specs.CongruenceLaws.{AreCongruent}
use Rattle.calculus.specs.Normal.{placed_by, by_code, arranged_by, ascending}
use Rattle.calculus.proofs.Keys.{key}
use Rattle.calculus.proofs.Equivalence.{agree, of_forms}
use Rattle.calculus.proofs.Placing.{listed-trees}
use Rattle.process_laws.proofs.Zips.{zip-cond, zip-map, zip-flat}
use Rattle.process_laws.proofs.Kept.{code-kept}

-- what a value is: a process, a part of one, a pair or a row
pub data Shape : Type 0 where
  a_process : Shape
  a_part : Shape
  a_pair : Shape
  a_row : Shape

-- what stands in a form of a value: each constituent of one shape, what is not evaluated, or nothing of the kind
pub data Inner : Type 0 where
  each_of : Shape → Inner
  as_it_is : Inner
  nothing : Inner

abbrev pub inner : Shape → Label → Inner
inner a_process par = each_of a_part
inner a_pair pair = each_of a_process
inner a_row row = each_of a_process
inner a_part list = each_of a_process
inner a_part tuple = each_of a_process
inner a_part set = each_of a_process
inner a_part dict = each_of a_pair
inner a_part (bundle r) = each_of a_process
inner a_part _ = as_it_is
inner _ _ = nothing

abbrev mutual
  pub Twin : Shape → Tree → Tree → Type 0
  Twin s (node l ts) u = (key (node l ts) ≡ key u) × Twins (inner s l) ts (held u)

  pub Twins : Inner → Trees → List Tree → Type 0
  Twins (each_of s) none [] = ⊤
  Twins (each_of s) none (u ∷ us) = ⊥
  Twins (each_of s) (also t ts) [] = ⊥
  Twins (each_of s) (also t ts) (u ∷ us) = Twin s t u × Twins (each_of s) ts us
  Twins as_it_is ts us = ⊤
  Twins nothing ts us = ⊥

pub twin-key : (s : Shape) (t u : Tree) → Twin s t u → key t ≡ key u
twin-key s (node l ts) u h = h.0

pub listed-twins : (s : Shape) (ts : Trees) (us : List Tree) → Twins (each_of s) ts us → AllZip (Twin s) (listed ts) us
listed-twins s none [] h = tt
listed-twins s none (u ∷ us) h = absurd h
listed-twins s (also t ts) [] h = absurd h
listed-twins s (also t ts) (u ∷ us) h = (h.0, listed-twins s ts us h.1)

twins-listed : (s : Shape) (ts us : List Tree) → AllZip (Twin s) ts us → Twins (each_of s) (trees ts) us
twins-listed s [] [] h = tt
twins-listed s [] (u ∷ us) h = absurd h
twins-listed s (t ∷ ts) [] h = absurd h
twins-listed s (t ∷ ts) (u ∷ us) h = (h.0, twins-listed s ts us h.1)

pub twins-congruent : (s : Shape) (ts us : List Tree) → AllZip (Twin s) ts us → AreCongruent ts us
twins-congruent s [] [] h = tt
twins-congruent s [] (u ∷ us) h = absurd h
twins-congruent s (t ∷ ts) [] h = absurd h
twins-congruent s (t ∷ ts) (u ∷ us) h = ((agree t u).1 (twin-key s t u h.0), twins-congruent s ts us h.1)

-- a form of twins
pub made : (s q : Shape) (l : Label) (ts us : List Tree) → inner s l ≡ each_of q → AllZip (Twin q) ts us → Twin s (many l ts) (many l us)
made s q l ts us e h = (
  (agree (many l ts) (many l us)).0 (of_forms l ts us (twins-congruent q ts us h)),
  subst (λ x. Twins x (trees ts) (listed (trees us))) (sym e) (subst (λ xs. Twins (each_of q) (trees ts) xs) (sym (listed-trees us)) (twins-listed q ts us h)),
)

-- a process of one part with twins in it
pub made_only : (q : Shape) (l : Label) (ts us : List Tree) → inner a_part l ≡ each_of q → AllZip (Twin q) ts us → Twin a_process (only (many l ts)) (only (many l us))
made_only q l ts us e h = made a_process a_part par (many l ts ∷ []) (many l us ∷ []) refl (made a_part q l ts us e h, tt)

-- a process of one part that is not evaluated
pub only_same : (t u : Tree) → Twin a_part t u → Twin a_process (only t) (only u)
only_same t u h = made a_process a_part par (t ∷ []) (u ∷ []) refl (h, tt)

-- what stands in twins
module _ where
  pub process_held : (t u : Tree) → Twin a_process t u → AllZip (Twin a_part) (held t) (held u)
  process_held (node par ts) u h = listed-twins a_part ts (held u) h.1
  process_held (node _ ts) u h = absurd h.1

  pub pair_held : (t u : Tree) → Twin a_pair t u → AllZip (Twin a_process) (held t) (held u)
  pair_held (node pair ts) u h = listed-twins a_process ts (held u) h.1
  pair_held (node _ ts) u h = absurd h.1

  pub row_held : (t u : Tree) → Twin a_row t u → AllZip (Twin a_process) (held t) (held u)
  row_held (node row ts) u h = listed-twins a_process ts (held u) h.1
  row_held (node _ ts) u h = absurd h.1

pub at-twin : (i : ℕ) (ts us : List Tree) → AllZip (Twin a_process) ts us → Twin a_process (at i ts) (at i us)
at-twin i [] [] h = (refl, tt)
at-twin i [] (u ∷ us) h = absurd h
at-twin i (t ∷ ts) [] h = absurd h
at-twin zero (t ∷ ts) (u ∷ us) h = h.0
at-twin (suc i) (t ∷ ts) (u ∷ us) h = at-twin i ts us h.1

-- lists beside equal codes are put in order alike
module _ {A B : Type 0} (R : A → B → Type 0) where
  abbrev pub Coupled : List ℕ × A → List ℕ × B → Type 0
  Coupled x y = (x.0 ≡ y.0) × R x.1 y.1

  placed-zip : (x : List ℕ × A) (y : List ℕ × B) (xs : List (List ℕ × A)) (ys : List (List ℕ × B)) → Coupled x y → AllZip Coupled xs ys → AllZip Coupled (placed_by x xs) (placed_by y ys)
  unfolding placed_by
  placed-zip x y [] [] h k = (h, tt)
  placed-zip x y [] (w ∷ ys) h k = absurd k
  placed-zip x y (v ∷ xs) [] h k = absurd k
  placed-zip x y (v ∷ xs) (w ∷ ys) h k =
      zip-cond Coupled (up_to x.0 v.0) (up_to y.0 w.0) (x ∷ v ∷ xs) (v ∷ placed_by x xs) (y ∷ w ∷ ys) (w ∷ placed_by y ys)
      (ap (λ c. up_to c v.0) h.0 ∙ ap (λ c. up_to y.0 c) k.0.0) (λ e. (h, k)) (λ e. (k.0, placed-zip x y xs ys h k.1))

  by_code-zip : (xs : List (List ℕ × A)) (ys : List (List ℕ × B)) → AllZip Coupled xs ys → AllZip Coupled (by_code xs) (by_code ys)
  unfolding by_code
  by_code-zip [] [] h = tt
  by_code-zip [] (y ∷ ys) h = absurd h
  by_code-zip (x ∷ xs) [] h = absurd h
  by_code-zip (x ∷ xs) (y ∷ ys) h = placed-zip x y (by_code xs) (by_code ys) h.0 (by_code-zip xs ys h.1)

  pub arranged-zip : (xs : List (List ℕ × A)) (ys : List (List ℕ × B)) → AllZip Coupled xs ys → AllZip R (arranged_by xs) (arranged_by ys)
  arranged-zip xs ys h = zip-map Coupled R (λ p. p.1) (λ p. p.1) (λ x y k. k.1) (by_code xs) (by_code ys) (by_code-zip xs ys h)

pub ascending-twins : (s : Shape) (ts us : List Tree) → AllZip (Twin s) ts us → AllZip (Twin s) (ascending ts) (ascending us)
unfolding ascending
ascending-twins s ts us h =
    arranged-zip (Twin s) (each (λ t. (code t, t)) ts) (each (λ t. (code t, t)) us)
    (zip-map (Twin s) (Coupled (Twin s)) (λ t. (code t, t)) (λ t. (code t, t)) (λ t u k. (code-kept t u (twin-key s t u k), k)) ts us h)

-- the parts of processes, one after another
pub flat-held : (ts us : List Tree) → AllZip (Twin a_process) ts us → AllZip (Twin a_part) (flat_map held ts) (flat_map held us)
flat-held ts us h = zip-flat (Twin a_process) (Twin a_part) held held process_held ts us h
