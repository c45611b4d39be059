-- The heights and the code lengths of what forms become, from those of what their constituents become.
use Rattle.std.proofs.Common.{◌≡◌, inl, inr, ℕ, ◌+◌, ◌-◌, ◌<◌, ◌≤◌, ◌^◌, max, Bool, true, false, cond, List, [], ◌∷◌, ◌++◌, length, reverse, refl, ap, sym, ◌∙◌, subst, arith}
use Rattle.calculus.specs.Tree.{Label, par, row, bool, int, str, uri, bytes, Tree, Trees, trees}
use Rattle.calculus.specs.Shape.{leaf, one, two, three, many, held, listed, at}
use Rattle.calculus.specs.Size.{rise, height, heights}
use Rattle.calculus.specs.Order.{up_to}
use Rattle.calculus.specs.Code.{code}
use Rattle.calculus.specs.Congruence.{is_bag}
use Rattle.calculus.specs.Variables.{bound_all, binders}
use Rattle.calculus.specs.Normal.{ascending, made_node}
use Rattle.calculus.specs.Substitution.{Change, change, change_all, changed, the_one, put}
use Rattle.calculus.proofs.Placing.{listed-trees}
use Rattle.term_encoder.proofs.Lengths.{size-code}
use Rattle.rho_term.specs.Measures.{in_u32}
use Rattle.rho_term.specs.Sizes.{in_u64, head_size, size, sizes}
use Rattle.term_bounds.specs.Bound.{bound_counts}
use Rattle.term_bounds.specs.Filled.{value_parts, filled, all_filled, IsFormLabel}
use Rattle.substituted_sizes.specs.Extent.{filled_height, filled_size, filled_heights, filled_sizes, IsHeight, IsLength, AreHeights, AreLengths}
use Rattle.code_order.proofs.Keys.{put_in, sort_in}
use Rattle.code_order.proofs.Made.{ascending-sort}
use Rattle.term_bounds.proofs.Binding.{counts-bound}
use Rattle.term_bounds.proofs.Filling.{IsFlat, change-form, filled-form, made-flat, two-flat, one-flat, value-becomes}
use Rattle.std.specs.Prelude.{leb, string_bytes}
use Rattle.std.proofs.lemmas.Bool.{leb-true, leb-false, cases_Bool}
use Rattle.calculus.specs.declared.plain.Ground.{Ground}
use Rattle.calculus.specs.declared.plain.Ground.TheVariants as ground
use Rattle.rho_term.specs.Parts.{ground_tree}

sizes-append : (ts us : List Tree) → sizes (trees (ts ++ us)) ≡ sizes (trees ts) + sizes (trees us)
sizes-append [] us = omega arith
sizes-append (t ∷ ts) us = omega (arith, sizes-append ts us)

heights-append : (ts us : List Tree) → heights (trees (ts ++ us)) ≡ max (heights (trees ts)) (heights (trees us))
heights-append [] us = omega arith
heights-append (t ∷ ts) us = omega (arith, heights-append ts us)

-- an order changes neither
sizes-put : (t : Tree) (ts : List Tree) → sizes (trees (put_in code t ts)) ≡ size t + sizes (trees ts)
unfolding put_in
sizes-put t [] = refl
sizes-put t (u ∷ us) =
    elim (up_to (code t) (code u)) as (λ (b : Bool). sizes (trees (cond b (t ∷ u ∷ us) (u ∷ put_in code t us))) ≡ size t + (size u + sizes (trees us))) [
      | true ↦ refl
      | false ↦ omega (arith, sizes-put t us)
    ]

sizes-sort : (ts : List Tree) → sizes (trees (sort_in code ts)) ≡ sizes (trees ts)
unfolding sort_in
sizes-sort [] = refl
sizes-sort (t ∷ ts) = omega (arith, sizes-put t (sort_in code ts), sizes-sort ts)

heights-put : (t : Tree) (ts : List Tree) → heights (trees (put_in code t ts)) ≡ max (height t) (heights (trees ts))
unfolding put_in
heights-put t [] = refl
heights-put t (u ∷ us) =
    elim (up_to (code t) (code u)) as (λ (b : Bool). heights (trees (cond b (t ∷ u ∷ us) (u ∷ put_in code t us))) ≡ max (height t) (max (height u) (heights (trees us)))) [
      | true ↦ refl
      | false ↦ omega (arith, heights-put t us)
    ]

heights-sort : (ts : List Tree) → heights (trees (sort_in code ts)) ≡ heights (trees ts)
unfolding sort_in
heights-sort [] = refl
heights-sort (t ∷ ts) = omega (arith, heights-put t (sort_in code ts), heights-sort ts)

size-made : (l : Label) (ts : List Tree) → size (made_node l ts) ≡ head_size l + sizes (trees ts)
size-made l ts =
    elim (is_bag l) as (λ (b : Bool). head_size l + sizes (trees (cond b (ascending ts) ts)) ≡ head_size l + sizes (trees ts)) [
      | true ↦ ap (λ us. head_size l + sizes (trees us)) (ascending-sort ts) ∙ ap (λ n. head_size l + n) (sizes-sort ts)
      | false ↦ refl
    ]

height-made : (l : Label) (ts : List Tree) → height (made_node l ts) ≡ rise l + heights (trees ts)
height-made l ts =
    elim (is_bag l) as (λ (b : Bool). rise l + heights (trees (cond b (ascending ts) ts)) ≡ rise l + heights (trees ts)) [
      | true ↦ ap (λ us. rise l + heights (trees us)) (ascending-sort ts) ∙ ap (λ n. rise l + n) (heights-sort ts)
      | false ↦ refl
    ]

module _ (vs : List Tree) (d : ℕ) where
  all-sizes : (ts : List Tree) → filled_sizes vs d ts ≡ sizes (trees (all_filled (value_parts vs) d ts))
  unfolding filled_size
  all-sizes [] = refl
  all-sizes (t ∷ ts) = omega (arith, all-sizes ts, sizes-append (filled (value_parts vs) d t) (all_filled (value_parts vs) d ts))

  all-heights : (ts : List Tree) → filled_heights vs d ts ≡ heights (trees (all_filled (value_parts vs) d ts))
  unfolding filled_height
  all-heights [] = refl
  all-heights (t ∷ ts) = omega (arith, all-heights ts, heights-append (filled (value_parts vs) d t) (all_filled (value_parts vs) d ts))

  -- what becomes one form
  made-size : (l : Label) (t : Tree) (us : List Tree) → filled (value_parts vs) d t ≡ made_node l us ∷ [] → filled_size vs d t ≡ head_size l + sizes (trees us)
  unfolding filled_size
  made-size l t us e =
      let f : sizes (trees (filled (value_parts vs) d t)) ≡ size (made_node l us) + 0 = ap (λ xs. sizes (trees xs)) e in
      omega (arith, f, size-made l us)

  made-height : (l : Label) (t : Tree) (us : List Tree) → filled (value_parts vs) d t ≡ made_node l us ∷ [] → filled_height vs d t ≡ rise l + heights (trees us)
  unfolding filled_height
  made-height l t us e =
      let f : heights (trees (filled (value_parts vs) d t)) ≡ max (height (made_node l us)) 0 = ap (λ xs. heights (trees xs)) e in
      omega (arith, f, height-made l us)

  pub form-size : (l : Label) → IsFlat l → (ts : List Tree) → filled_size vs d (many l ts) ≡ head_size l + filled_sizes vs d ts
  form-size l h ts = omega (arith, made-size l (many l ts) (all_filled (value_parts vs) d ts) (made-flat (value_parts vs) l h ts d), all-sizes ts)

  pub form-height : (l : Label) → IsFlat l → (ts : List Tree) → filled_height vs d (many l ts) ≡ rise l + filled_heights vs d ts
  form-height l h ts = omega (arith, made-height l (many l ts) (all_filled (value_parts vs) d ts) (made-flat (value_parts vs) l h ts d), all-heights ts)

  -- two constituents, the second under m more variables
  bind-size : (l : Label) → IsFormLabel l → (t u : Tree) (m : ℕ) → length (binders l (trees (t ∷ u ∷ []))) ≡ m → filled_size vs d (two l t u) ≡ head_size l + (filled_size vs d t + filled_size vs (d + m) u)
  unfolding filled_size
  bind-size l h t u m e =
      let f = filled-form (value_parts vs) d l (trees (t ∷ u ∷ [])) h ∙ ap (λ xs. made_node l xs ∷ []) (two-flat (value_parts vs) d (length (binders l (trees (t ∷ u ∷ [])))) t u ∙ ap (λ k. filled (value_parts vs) d t ++ filled (value_parts vs) (d + k) u) e) in
      omega (arith, made-size l (two l t u) (filled (value_parts vs) d t ++ filled (value_parts vs) (d + m) u) f, sizes-append (filled (value_parts vs) d t) (filled (value_parts vs) (d + m) u))

  bind-height : (l : Label) → IsFormLabel l → (t u : Tree) (m : ℕ) → length (binders l (trees (t ∷ u ∷ []))) ≡ m → filled_height vs d (two l t u) ≡ rise l + max (filled_height vs d t) (filled_height vs (d + m) u)
  unfolding filled_height
  bind-height l h t u m e =
      let f = filled-form (value_parts vs) d l (trees (t ∷ u ∷ [])) h ∙ ap (λ xs. made_node l xs ∷ []) (two-flat (value_parts vs) d (length (binders l (trees (t ∷ u ∷ [])))) t u ∙ ap (λ k. filled (value_parts vs) d t ++ filled (value_parts vs) (d + k) u) e) in
      omega (arith, made-height l (two l t u) (filled (value_parts vs) d t ++ filled (value_parts vs) (d + m) u) f, heights-append (filled (value_parts vs) d t) (filled (value_parts vs) (d + m) u))

  -- one constituent under m more variables
  under-size : (l : Label) → IsFormLabel l → (t : Tree) (m : ℕ) → length (binders l (trees (t ∷ []))) ≡ m → filled_size vs d (one l t) ≡ head_size l + filled_size vs (d + m) t
  unfolding filled_size
  under-size l h t m e =
      let f = filled-form (value_parts vs) d l (trees (t ∷ [])) h ∙ ap (λ xs. made_node l xs ∷ []) (one-flat (value_parts vs) d (length (binders l (trees (t ∷ [])))) t ∙ ap (λ k. filled (value_parts vs) (d + k) t) e) in
      made-size l (one l t) (filled (value_parts vs) (d + m) t) f

  under-height : (l : Label) → IsFormLabel l → (t : Tree) (m : ℕ) → length (binders l (trees (t ∷ []))) ≡ m → filled_height vs d (one l t) ≡ rise l + filled_height vs (d + m) t
  unfolding filled_height
  under-height l h t m e =
      let f = filled-form (value_parts vs) d l (trees (t ∷ [])) h ∙ ap (λ xs. made_node l xs ∷ []) (one-flat (value_parts vs) d (length (binders l (trees (t ∷ [])))) t ∙ ap (λ k. filled (value_parts vs) (d + k) t) e) in
      made-height l (one l t) (filled (value_parts vs) (d + m) t) f

-- the same as a u64 and a u32 hold it, under n inner variables as far as 64 bits count
module _ (vs : List Tree) (n : ℕ) where
  pub many-length : (l : Label) → IsFlat l → (ts : List Tree) (k a : ℕ) → k ≡ in_u64 (head_size l + a) → AreLengths vs n ts a → IsLength vs n (many l ts) k
  many-length l h ts k a e f = λ d i. omega (arith, form-size vs d l h ts, f d i)

  pub many-height : (l : Label) → IsFlat l → (ts : List Tree) (k a : ℕ) → k ≡ in_u32 (rise l + a) → AreHeights vs n ts a → IsHeight vs n (many l ts) k
  many-height l h ts k a e f = λ d i. omega (arith, form-height vs d l h ts, f d i)

  pub row-length : (ts : List Tree) (a : ℕ) → AreLengths vs n ts a → IsLength vs n (many row ts) (in_u64 (4 + a))
  row-length ts a f = many-length row (tt, λ ts. refl) ts (in_u64 (4 + a)) a refl f

  pub row-height : (ts : List Tree) (a : ℕ) → AreHeights vs n ts a → IsHeight vs n (many row ts) a
  row-height ts a f = λ d i. omega (arith, form-height vs d row (tt, λ ts. refl) ts, f d i)

  pub one-length : (l : Label) → IsFlat l → (t : Tree) (k a : ℕ) → k ≡ in_u64 (head_size l + a) → IsLength vs n t a → IsLength vs n (one l t) k
  one-length l h t k a e f = λ d i. omega (arith, form-size vs d l h (t ∷ []), f d i)

  pub one-height : (l : Label) → IsFlat l → (t : Tree) (k a : ℕ) → k ≡ in_u32 (rise l + a) → IsHeight vs n t a → IsHeight vs n (one l t) k
  one-height l h t k a e f = λ d i. omega (arith, form-height vs d l h (t ∷ []), f d i)

  pub two-length : (l : Label) → IsFlat l → (t u : Tree) (k a b : ℕ) → k ≡ in_u64 (head_size l + (a + b)) → IsLength vs n t a → IsLength vs n u b → IsLength vs n (two l t u) k
  two-length l h t u k a b e f g = λ d i. omega (arith, form-size vs d l h (t ∷ u ∷ []), f d i, g d i)

  pub two-height : (l : Label) → IsFlat l → (t u : Tree) (k a b : ℕ) → k ≡ in_u32 (rise l + max a b) → IsHeight vs n t a → IsHeight vs n u b → IsHeight vs n (two l t u) k
  two-height l h t u k a b e f g = λ d i. omega (arith, form-height vs d l h (t ∷ u ∷ []), f d i, g d i)

  pub three-length : (l : Label) → IsFlat l → (t u v : Tree) (k a b c : ℕ) → k ≡ in_u64 (head_size l + (a + (b + c))) → IsLength vs n t a → IsLength vs n u b → IsLength vs n v c → IsLength vs n (three l t u v) k
  three-length l h t u v k a b c e f g j = λ d i. omega (arith, form-size vs d l h (t ∷ u ∷ v ∷ []), f d i, g d i, j d i)

  pub three-height : (l : Label) → IsFlat l → (t u v : Tree) (k a b c : ℕ) → k ≡ in_u32 (rise l + max a (max b c)) → IsHeight vs n t a → IsHeight vs n u b → IsHeight vs n v c → IsHeight vs n (three l t u v) k
  three-height l h t u v k a b c e f g j = λ d i. omega (arith, form-height vs d l h (t ∷ u ∷ v ∷ []), f d i, g d i, j d i)

  pub leaf-length : (l : Label) → IsFlat l → (k : ℕ) → k ≡ in_u64 (head_size l) → IsLength vs n (leaf l) k
  leaf-length l h k e = λ d i. omega (arith, form-size vs d l h [])

  pub leaf-height : (l : Label) → IsFlat l → (k : ℕ) → k ≡ in_u32 (rise l) → IsHeight vs n (leaf l) k
  leaf-height l h k e = λ d i. omega (arith, form-height vs d l h [])

  -- a form whose own variables, q of them, stand bound in its last constituent
  pub bound-length : (l : Label) → IsFormLabel l → ((ts : Trees) → binders l ts ≡ bound_all ts) → (t u : Tree) (k a b q m : ℕ) → q ≡ in_u64 (bound_counts (trees (t ∷ u ∷ []))) → m ≡ in_u64 (n + q)
      → k ≡ in_u64 (head_size l + (a + b)) → IsLength vs n t a → IsLength vs m u b → IsLength vs n (two l t u) k
  bound-length l h o t u k a b q m x y e f g = λ d i.
      let p = length (binders l (trees (t ∷ u ∷ []))) in
      let z : p ≡ bound_counts (trees (t ∷ u ∷ [])) = ap length (o (trees (t ∷ u ∷ []))) ∙ sym (counts-bound (trees (t ∷ u ∷ []))) in
      let j : in_u64 (d + p) ≡ m = omega arith in
      omega (arith, bind-size vs d l h t u p refl, f d i, g (d + p) j)

  pub bound-height : (l : Label) → IsFormLabel l → ((ts : Trees) → binders l ts ≡ bound_all ts) → (t u : Tree) (k a b q m : ℕ) → q ≡ in_u64 (bound_counts (trees (t ∷ u ∷ []))) → m ≡ in_u64 (n + q)
      → k ≡ in_u32 (rise l + max a b) → IsHeight vs n t a → IsHeight vs m u b → IsHeight vs n (two l t u) k
  bound-height l h o t u k a b q m x y e f g = λ d i.
      let p = length (binders l (trees (t ∷ u ∷ []))) in
      let z : p ≡ bound_counts (trees (t ∷ u ∷ [])) = ap length (o (trees (t ∷ u ∷ []))) ∙ sym (counts-bound (trees (t ∷ u ∷ []))) in
      let j : in_u64 (d + p) ≡ m = omega arith in
      omega (arith, bind-height vs d l h t u p refl, f d i, g (d + p) j)

  pub under-length : (l : Label) → IsFormLabel l → (t : Tree) (k a q m : ℕ) → length (binders l (trees (t ∷ []))) ≡ q → m ≡ in_u64 (n + q) → k ≡ in_u64 (head_size l + a) → IsLength vs m t a → IsLength vs n (one l t) k
  under-length l h t k a q m x y e f = λ d i.
      let j : in_u64 (d + q) ≡ m = omega arith in
      omega (arith, under-size vs d l h t q x, f (d + q) j)

  pub under-high : (l : Label) → IsFormLabel l → (t : Tree) (k a q m : ℕ) → length (binders l (trees (t ∷ []))) ≡ q → m ≡ in_u64 (n + q) → k ≡ in_u32 (rise l + a) → IsHeight vs m t a → IsHeight vs n (one l t) k
  under-high l h t k a q m x y e f = λ d i.
      let j : in_u64 (d + q) ≡ m = omega arith in
      omega (arith, under-height vs d l h t q x, f (d + q) j)

-- a process, its parts alone
pub parts-size : (t : Tree) (ts : List Tree) → t ≡ many par ts → size t ≡ 4 + sizes (trees (held t))
parts-size t ts e =
    let h : size (many par ts) ≡ 4 + sizes (trees (held (many par ts))) = ap (λ us. 4 + sizes (trees us)) (sym (listed-trees ts)) in
    subst (λ u. size u ≡ 4 + sizes (trees (held u))) (sym e) h

pub parts-height : (t : Tree) (ts : List Tree) → t ≡ many par ts → height t ≡ heights (trees (held t))
parts-height t ts e =
    let f : heights (trees ts) ≡ heights (trees (held (many par ts))) = ap (λ us. heights (trees us)) (sym (listed-trees ts)) in
    let h : height (many par ts) ≡ heights (trees (held (many par ts))) = omega arith in
    subst (λ u. height u ≡ heights (trees (held u))) (sym e) h

-- a process becomes one, the process with the values put in
pub put-one : (vs : List Tree) (t : Tree) (ts : List Tree) → t ≡ many par ts → filled (value_parts vs) 0 t ≡ put vs t ∷ []
unfolding filled value_parts put
put-one vs t ts e =
    let us = listed (change_all (value_parts vs) 0 0 (trees ts)) in
    let h = change-form (value_parts vs) 0 par (trees ts) tt in
    subst (λ u. listed (change (value_parts vs) 0 u) ≡ the_one (change (value_parts vs) 0 u) ∷ []) (sym e) (ap listed h ∙ ap (λ xs. the_one xs ∷ []) (sym h))

pub put-length : (vs : List Tree) (t : Tree) (ts : List Tree) (k : ℕ) → t ≡ many par ts → IsLength vs 0 t k → k ≡ in_u64 (length (code (put vs t)))
unfolding filled_size
put-length vs t ts k e h =
    let f : sizes (trees (filled (value_parts vs) 0 t)) ≡ size (put vs t) + 0 = ap (λ xs. sizes (trees xs)) (put-one vs t ts e) in
    omega (arith, h 0 refl, f, size-code (put vs t))

pub put-height : (vs : List Tree) (t : Tree) (ts : List Tree) (k : ℕ) → t ≡ many par ts → IsHeight vs 0 t k → k ≡ in_u32 (height (put vs t))
unfolding filled_height
put-height vs t ts k e h =
    let f : heights (trees (filled (value_parts vs) 0 t)) ≡ max (height (put vs t)) 0 = ap (λ xs. heights (trees xs)) (put-one vs t ts e) in
    omega (arith, h 0 refl, f)

module _ (vs : List Tree) (n : ℕ) where
  pub ground-length : (g : Ground) (k : ℕ) → k ≡ in_u64 (size (ground_tree g)) → IsLength vs n (ground_tree g) k
  ground-length (ground.Bool x) k e = leaf-length vs n (bool x) (tt, λ ts. refl) k (omega arith)
  ground-length (ground.Int x) k e = leaf-length vs n (int x) (tt, λ ts. refl) k (omega arith)
  ground-length (ground.Str x) k e = leaf-length vs n (str (string_bytes x)) (tt, λ ts. refl) k (omega arith)
  ground-length (ground.Uri x) k e = leaf-length vs n (uri (string_bytes x)) (tt, λ ts. refl) k (omega arith)
  ground-length (ground.Bytes x) k e = leaf-length vs n (bytes x.items) (tt, λ ts. refl) k (omega arith)

  pub ground-height : (g : Ground) (k : ℕ) → k ≡ 0 → IsHeight vs n (ground_tree g) k
  ground-height (ground.Bool x) k e = leaf-height vs n (bool x) (tt, λ ts. refl) k (omega arith)
  ground-height (ground.Int x) k e = leaf-height vs n (int x) (tt, λ ts. refl) k (omega arith)
  ground-height (ground.Str x) k e = leaf-height vs n (str (string_bytes x)) (tt, λ ts. refl) k (omega arith)
  ground-height (ground.Uri x) k e = leaf-height vs n (uri (string_bytes x)) (tt, λ ts. refl) k (omega arith)
  ground-height (ground.Bytes x) k e = leaf-height vs n (bytes x.items) (tt, λ ts. refl) k (omega arith)

  -- a whole process or pattern
  pub whole-height : (l : Label) → IsFlat l → (t : Tree) (ts : List Tree) (a : ℕ) → t ≡ many l ts → rise l ≡ 0 → AreHeights vs n ts a → IsHeight vs n t a
  whole-height l h t ts a e z f = subst (λ u. IsHeight vs n u a) (sym e) (λ d i. omega (arith, form-height vs d l h ts, f d i))

  pub whole-length : (l : Label) → IsFlat l → (t : Tree) (ts : List Tree) (k : ℕ) → t ≡ many l ts → head_size l ≡ 4 → (d : ℕ) → k ≡ in_u64 (4 + filled_sizes vs d ts) → k ≡ in_u64 (filled_size vs d t)
  whole-length l h t ts k e z d f = subst (λ u. k ≡ in_u64 (filled_size vs d u)) (sym e) (omega (arith, form-size vs d l h ts))

-- a use of a variable, which stays or becomes the parts of a value
module _ (vs : List Tree) (form : ℕ → Label) (n i : ℕ) (c : (F : Change) (d : ℕ) → change F d (leaf (form i)) ≡ changed F d form i) (s : i < 2 ^ 32) where
  pub use-height : rise (form i) ≡ 0 → (base total : ℕ) → (i < n → total ≡ base) → (n ≤ i → total ≡ max base (in_u32 (heights (trees (held (at (i - n) (reverse vs)))))))
      → (d : ℕ) → in_u64 d ≡ n → total ≡ max base (in_u32 (filled_height vs d (leaf (form i))))
  unfolding filled_height
  use-height z base total inner outer d e =
      let r = value-becomes form n i c s vs d e in
      elim (cases_Bool (leb n i)) [
        | inl y ↦
            let f : heights (trees (filled (value_parts vs) d (leaf (form i)))) ≡ heights (trees (held (at (i - n) (reverse vs)))) = ap (λ xs. heights (trees xs)) (r.1 (leb-true n i y)) in
            omega (arith, f, outer (leb-true n i y))
        | inr y ↦
            let f : heights (trees (filled (value_parts vs) d (leaf (form i)))) ≡ max (rise (form i) + 0) 0 = ap (λ xs. heights (trees xs)) (r.0 (leb-false n i y)) in
            omega (arith, f, inner (leb-false n i y))
      ]

  pub use-length : head_size (form i) ≡ 5 → (base total : ℕ) → (i < n → total ≡ in_u64 (base + 5)) → (n ≤ i → total ≡ in_u64 (base + sizes (trees (held (at (i - n) (reverse vs))))))
      → (d : ℕ) → in_u64 d ≡ n → total ≡ in_u64 (base + filled_size vs d (leaf (form i)))
  unfolding filled_size
  use-length z base total inner outer d e =
      let r = value-becomes form n i c s vs d e in
      elim (cases_Bool (leb n i)) [
        | inl y ↦
            let f : sizes (trees (filled (value_parts vs) d (leaf (form i)))) ≡ sizes (trees (held (at (i - n) (reverse vs)))) = ap (λ xs. sizes (trees xs)) (r.1 (leb-true n i y)) in
            omega (arith, f, outer (leb-true n i y))
        | inr y ↦
            let f : sizes (trees (filled (value_parts vs) d (leaf (form i)))) ≡ head_size (form i) + 0 + 0 = ap (λ xs. sizes (trees xs)) (r.0 (leb-false n i y)) in
            omega (arith, f, inner (leb-false n i y))
      ]
