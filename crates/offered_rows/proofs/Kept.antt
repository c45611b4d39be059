-- A body in normal order whose variables keep their indices stays as it is, and so does a closed process with values put in.
use Rattle.std.proofs.Common.{◌≡◌, ℕ, zero, suc, ◌<◌, ◌≤◌, ◌+◌, ◌-◌, Bool, true, false, cond, inl, inr, List, [], ◌∷◌, ◌++◌, length, map as each, reverse, refl, sym, ap, ◌∙◌, subst, arith, length-append}
use Rattle.std.specs.Prelude.{leb, eqb}
use Rattle.std.proofs.lemmas.Bool.{cond_both, leb-true, cases_Bool}
use Rattle.std.proofs.lemmas.Bool.Decides.{nat_tests}
use Rattle.std.proofs.lemmas.List.{length-reverse}
use Rattle.calculus.specs.Tree.{Label, var, name_var, receive, new, match, Tree, node, Trees, none, also, trees}
use Rattle.calculus.specs.Shape.{leaf, count, held, at, listed, joined_trees}
use Rattle.calculus.specs.Variables.{Sense, a_process, a_name, binders}
use Rattle.calculus.specs.Order.{IsAscending}
use Rattle.calculus.specs.Congruence.{is_bag}
use Rattle.calculus.specs.Code.{code, codes}
use Rattle.calculus.specs.Normal.{placed_by, by_code, ascending, made_node}
use Rattle.calculus.specs.Substitution.{Change, changed, change, change_all, the_one, put, renumber}
use Rattle.calculus.specs.Unfolding.{from_on, place_in, new_index}
use Rattle.calculus.specs.Form.{Sort, term, part, pat_part, name_part, Kids, all, these, no_form, kids, Scope, outer, Fits, Hold, IsClosed}
use Rattle.calculus.proofs.Ranges.{in_scope}
use Rattle.calculus.proofs.Placing.{trees-listed}
use Rattle.rho_term.specs.Normal.{IsArranged, IsNormal, AreNormal}
use Rattle.offered_rows.proofs.Sorting.{length-from}

-- things whose codes ascend are in order
by_code-same : {A : Type 0} (xs : List (List ℕ × A)) → IsAscending (each (λ p. p.0) xs) → by_code xs ≡ xs
unfolding by_code placed_by
by_code-same [] h = refl
by_code-same (x ∷ []) h = refl
by_code-same (x ∷ y ∷ ys) h =
    ap (placed_by x) (by_code-same (y ∷ ys) h.1) ∙ ap (λ b. cond b (x ∷ y ∷ ys) (y ∷ placed_by x ys)) h.0

codes-beside : (ts : Trees) → each (λ (p : List ℕ × Tree). p.0) (each (λ t. (code t, t)) (listed ts)) ≡ codes ts
codes-beside none = refl
codes-beside (also t ts) = ap (λ cs. code t ∷ cs) (codes-beside ts)

without-codes : (ts : List Tree) → each (λ (p : List ℕ × Tree). p.1) (each (λ t. (code t, t)) ts) ≡ ts
without-codes [] = refl
without-codes (t ∷ ts) = ap (λ us. t ∷ us) (without-codes ts)

-- trees whose codes ascend are in order
ascending-same : (ts : Trees) → IsAscending (codes ts) → ascending (listed ts) ≡ listed ts
unfolding ascending
ascending-same ts h =
    ap (each (λ (p : List ℕ × Tree). p.1)) (by_code-same (each (λ t. (code t, t)) (listed ts)) (subst IsAscending (sym (codes-beside ts)) h)) ∙ without-codes (listed ts)

made-arranged : (b : Bool) (l : Label) (ts : Trees) → IsArranged b (codes ts) → node l (trees (cond b (ascending (listed ts)) (listed ts))) ≡ node l ts
made-arranged true l ts h = ap (λ us. node l (trees us)) (ascending-same ts h) ∙ ap (node l) (trees-listed ts)
made-arranged false l ts h = ap (node l) (trees-listed ts)

-- a form in normal order is what is made of its constituents
made-same : (l : Label) (ts : Trees) → IsArranged (is_bag l) (codes ts) → made_node l (listed ts) ≡ node l ts
made-same l ts h = made-arranged (is_bag l) l ts h

outer-fewer : (s : Sort) (l : Label) (v : Scope) (n : ℕ) → length v ≤ n → length (outer s l v) ≤ n
outer-fewer pat_part (receive k) v n h = omega arith
outer-fewer pat_part (new os) v n h = omega arith
outer-fewer pat_part match v n h = omega arith
outer-fewer name_part (receive k) v n h = omega arith
outer-fewer name_part (new os) v n h = omega arith
outer-fewer name_part match v n h = omega arith
outer-fewer s l v n h = h

no-kids : (s : Sort) (i : ℕ) (v : Scope) (o : List Sense) (ts : Trees) → Hold (kids s (var i) (count ts)) v o ts → ts ≡ none
no-kids s i v o none h = refl
no-kids part i v o (also t ts) h = absurd h
no-kids _ i v o (also t ts) h = absurd h

no-kids_name : (s : Sort) (i : ℕ) (v : Scope) (o : List Sense) (ts : Trees) → Hold (kids s (name_var i) (count ts)) v o ts → ts ≡ none
no-kids_name s i v o none h = refl
no-kids_name part i v o (also t ts) h = absurd h
no-kids_name _ i v o (also t ts) h = absurd h

one-more : (t : Tree) (rs us vs : Trees) → rs ≡ also t none → us ≡ vs → joined_trees rs us ≡ also t vs
one-more t rs us vs e k = rw (e, k) refl

made-whole : (l : Label) (ts us : Trees) → us ≡ ts → IsArranged (is_bag l) (codes ts) → also (made_node l (listed us)) none ≡ also (node l ts) none
made-whole l ts us k n = ap (λ ws. also (made_node l (listed ws)) none) k ∙ ap (λ u. also u none) (made-same l ts n)

module _ (F : Change) (m : ℕ) (keeps : (k d : ℕ) (form : ℕ → Label) → k < m → F k d form ≡ also (leaf (form (k + d))) none) where
  use-same : (d i : ℕ) (form : ℕ → Label) → i < d + m → changed F d form i ≡ also (leaf (form i)) none
  use-same d i form h =
      cond_both (leb d i) (F (i - d) d form) (also (leaf (form i)) none) (λ us. us ≡ also (leaf (form i)) none)
      (λ e. let k : d ≤ i = leb-true d i e in let w : (i - d) + d ≡ i = omega arith in keeps (i - d) d form (omega arith) ∙ ap (λ n. also (leaf (form n)) none) w)
      (λ e. refl)

  same-form : (s : Sort) (d : ℕ) (v : Scope) (l : Label) (ts : Trees) → Fits s v (node l ts) → IsNormal (node l ts) → length v ≤ d + m
      → change_all F d (length (binders l ts)) ts ≡ ts → change F d (node l ts) ≡ also (node l ts) none
  same-form s d v (var i) ts h n e k =
      use-same d i var (omega (arith, in_scope v i a_process h.0)) ∙ ap (λ us. also (node (var i) us) none) (sym (no-kids s i _ _ ts h.1))
  same-form s d v (name_var i) ts h n e k =
      use-same d i name_var (omega (arith, in_scope v i a_name h.0)) ∙ ap (λ us. also (node (name_var i) us) none) (sym (no-kids_name s i _ _ ts h.1))
  same-form s d v l ts h n e k = made-whole l ts _ k n.0

  mutual
    same : (s : Sort) (d : ℕ) (v : Scope) (t : Tree) → Fits s v t → IsNormal t → length v ≤ d + m → change F d t ≡ also t none
    same s d v (node l ts) h n e =
        same-form s d v l ts h n e
        (same-all (kids s l (count ts)) d (length (binders l ts)) (outer s l v) (reverse (binders l ts)) ts h.1 n.1 (outer-fewer s l v (d + m) e) (length-reverse (binders l ts)))

    same-all : (p : Kids) (d n : ℕ) (v : Scope) (o : List Sense) (ts : Trees) → Hold p v o ts → AreNormal ts → length v ≤ d + m → length o ≡ n → change_all F d n ts ≡ ts
    same-all p d n v o none h a e q = refl
    same-all (all s) d n v o (also t none) h a e q = same s (d + n) v t h.0 a.0 (omega arith)
    same-all (all s) d n v o (also t (also u us)) h a e q = one-more t (change F d t) _ _ (same s d v t h.0 a.0 e) (same-all (all s) d n v o (also u us) h.1 a.1 e q)
    same-all (these []) d n v o (also t ts) h a e q = absurd h
    same-all (these (s ∷ ss)) d n v o (also t none) h a e q = same s (d + n) (o ++ v) t h.0 a.0 (omega (arith, length-append o v))
    same-all (these (s ∷ ss)) d n v o (also t (also u us)) h a e q = one-more t (change F d t) _ _ (same s d v t h.0 a.0 e) (same-all (these ss) d n v o (also u us) h.1 a.1 e q)
    same-all no_form d n v o (also t ts) h a e q = absurd h

-- values put into a closed process
pub put-same : (vs : List Tree) (t : Tree) → IsClosed t → IsNormal t → put vs t ≡ t
unfolding put
put-same vs t h n = ap the_one (same (λ k d form. trees (held (at k (reverse vs)))) 0 (λ k d form q. absurd (omega (arith, q))) term 0 [] t h n (omega arith))

-- new indices that are the old ones
renumber-same : (s : Scope) (m : ℕ) (f : ℕ → ℕ) (body : Tree) → ((k : ℕ) → k < m → f k ≡ k) → length s ≤ m → Fits term s body → IsNormal body → renumber f body ≡ body
unfolding renumber
renumber-same s m f body e l h n =
    ap the_one (same (λ k d form. also (leaf (form (f k + d))) none) m (λ k d form q. ap (λ j. also (leaf (form (j + d))) none) (e k q)) term 0 s body h n (omega arith))

place-from : (i n q : ℕ) → i ≤ q → q < i + n → place_in (from_on i n) q ≡ q - i
place-from i zero q h k = absurd (omega arith)
place-from i (suc n) q h k =
    elim (cases_Bool (eqb i q)) [
      | inl e ↦
          let w : i ≡ q = grind (arith, nat_tests) in
          ap (λ b. cond b 0 (suc (place_in (from_on (suc i) n) q))) e ∙ omega arith
      | inr e ↦
          let w : i < q = grind (arith, nat_tests) in
          ap (λ b. cond b 0 (suc (place_in (from_on (suc i) n) q))) e ∙ (ap suc (place-from (suc i) n q (omega arith) (omega arith)) ∙ omega arith)
    ]

index-same : (n k : ℕ) → k < n → new_index (from_on 0 n) k ≡ k
index-same n k h = omega (arith, length-from 0 n, place-from 0 n ((length (from_on 0 n) - 1) - k) (omega arith) (omega (arith, length-from 0 n)))

-- a body whose variables are those of places in their old order
pub numbered-same : (s : Scope) (places : List ℕ) (body : Tree) → places ≡ from_on 0 (length places) → length s ≤ length places → Fits term s body → IsNormal body → renumber (new_index places) body ≡ body
numbered-same s places body e l h n =
    renumber-same s (length places) (new_index places) body (λ k q. ap (λ xs. new_index xs k) e ∙ index-same (length places) k q) l h n
