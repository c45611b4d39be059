-- Two lists hold the same, each as often, exactly where they are equal once they are put in order.
use Rattle.std.proofs.Common.{◌≡◌, ℕ, suc, ◌<◌, ◌+◌, true, false, cond, List, [], ◌∷◌, length, refl, sym, ap, ◌∙◌, arith, ⊎_elim}
use Rattle.std.specs.Str.{bytes_eq}
use Rattle.std.proofs.lemmas.Slice.Eq.{bytes_eq-Decides}
use Rattle.std.proofs.lemmas.Bool.{cases_Bool}
use Rattle.calculus.specs.Order.{placed, sorted}
use Rattle.calculus.proofs.Ordered.{placed-placed}
use Rattle.calculus.proofs.Sorting.{by_place, Each, Each-map, length-sorted}

-- 1 where the two are equal
abbrev pub hit : List ℕ → List ℕ → ℕ
hit c d = cond (bytes_eq c d) 1 0

-- how often a list of bytes stands among these
abbrev pub times : List ℕ → List (List ℕ) → ℕ
times c [] = 0
times c (d ∷ ds) = hit c d + times c ds

pub bytes_self : (c : List ℕ) → bytes_eq c c ≡ true
bytes_self c = (bytes_eq-Decides c c).1 refl

pub bytes_equal : (c d : List ℕ) → bytes_eq c d ≡ true → c ≡ d
bytes_equal c d e = (bytes_eq-Decides c d).0 e

times-placed : (c x : List ℕ) (xs : List (List ℕ)) → times c (placed x xs) ≡ hit c x + times c xs
unfolding placed
times-placed c x [] = refl
times-placed c x (y ∷ ys) =
    by_place x y ys (λ zs. times c zs ≡ hit c x + (hit c y + times c ys)) refl (omega (arith, times-placed c x ys))

pub times-sorted : (c : List ℕ) (xs : List (List ℕ)) → times c (sorted xs) ≡ times c xs
unfolding sorted
times-sorted c [] = refl
times-sorted c (x ∷ xs) = times-placed c x (sorted xs) ∙ ap (λ n. hit c x + n) (times-sorted c xs)

sorted-cons : (x : List ℕ) (xs : List (List ℕ)) → sorted (x ∷ xs) ≡ placed x (sorted xs)
unfolding sorted
sorted-cons x xs = refl

-- c taken once out of ds leaves rest
record Taken (c : List ℕ) (ds rest : List (List ℕ)) : Type 0 where
  order : sorted ds ≡ placed c (sorted rest)
  count : length ds ≡ suc (length rest)
  others : (x : List ℕ) → times x ds ≡ hit x c + times x rest

taken_first : (c d : List ℕ) (ds : List (List ℕ)) → c ≡ d → Taken c (d ∷ ds) ds
taken_first c d ds e = record {
  order = sorted-cons d ds ∙ ap (λ x. placed x (sorted ds)) (sym e);
  count = refl;
  others = λ x. ap (λ y. hit x y + times x ds) (sym e);
}

taken_further : (c d : List ℕ) (ds rest : List (List ℕ)) → Taken c ds rest → Taken c (d ∷ ds) (d ∷ rest)
taken_further c d ds rest t = record {
  order = sorted-cons d ds ∙ ap (placed d) t.order ∙ placed-placed d c (sorted rest) ∙ sym (ap (placed c) (sorted-cons d rest));
  count = ap suc t.count;
  others = λ x. omega (arith, t.others x);
}

taken_later : (c d : List ℕ) (ds : List (List ℕ)) → bytes_eq c d ≡ false → 0 < times c (d ∷ ds) → (0 < times c ds → (rest : List (List ℕ)) × Taken c ds rest) → (rest : List (List ℕ)) × Taken c (d ∷ ds) rest
taken_later c d ds e h f =
    let k : hit c d ≡ 0 = ap (λ b. cond b 1 0) e in
    let t : (rest : List (List ℕ)) × Taken c ds rest = f (omega arith) in
    (d ∷ t.0, taken_further c d ds t.0 t.1)

taken : (c : List ℕ) (ds : List (List ℕ)) → 0 < times c ds → (rest : List (List ℕ)) × Taken c ds rest
taken c [] h = absurd (omega arith)
taken c (d ∷ ds) h =
    ⊎_elim (λ (e : bytes_eq c d ≡ true). (ds, taken_first c d ds (bytes_equal c d e))) (λ (e : bytes_eq c d ≡ false). taken_later c d ds e h (taken c ds)) (cases_Bool (bytes_eq c d))

-- equal counts, and as many in all: equal in order
pub order_from_counts : (cs ds : List (List ℕ)) → length cs ≡ length ds → Each (λ c. times c cs ≡ times c ds) cs → sorted cs ≡ sorted ds
order_from_counts [] [] e h = refl
order_from_counts [] (d ∷ ds) e h = absurd (omega arith)
order_from_counts (c ∷ cs) ds e h =
    let k : hit c c ≡ 1 = ap (λ b. cond b 1 0) (bytes_self c) in
    let t : (rest : List (List ℕ)) × Taken c ds rest = taken c ds (omega (arith, h.0)) in
    let tail = Each-map (λ x. times x (c ∷ cs) ≡ times x ds) (λ x. times x cs ≡ times x t.0) (λ x p. omega (arith, p, t.1.others x)) cs h.1 in
    sorted-cons c cs ∙ ap (placed c) (order_from_counts cs t.0 (omega (arith, t.1.count)) tail) ∙ sym t.1.order

pub length_from_order : (cs ds : List (List ℕ)) → sorted cs ≡ sorted ds → length cs ≡ length ds
length_from_order cs ds e = sym (length-sorted cs) ∙ ap length e ∙ length-sorted ds

pub counts_from_order : (x : List ℕ) (cs ds : List (List ℕ)) → sorted cs ≡ sorted ds → times x cs ≡ times x ds
counts_from_order x cs ds e = sym (times-sorted x cs) ∙ ap (times x) e ∙ times-sorted x ds
