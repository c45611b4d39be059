-- Bare forms are at most twice as large as what is written, and declare as many names.
use Rattle.std.proofs.Common.{◌≡◌, ℕ, ◌≤◌, ◌+◌, ◌*◌, List, [], ◌∷◌, ◌++◌, reverse, refl, arith}
use Rattle.std.specs.Prelude.{max, flat_map}
use Rattle.std.proofs.lemmas.List.{length-map}
use Rattle.calculus.specs.Tree.{par, pattern, Tree, node, Trees, none, also, trees, weight, weights}
use Rattle.calculus.specs.Shape.{held, listed, at}
use Rattle.calculus.specs.Written.{Form, in_process, in_pattern, around, drop, quote, declare, bind_rest, quote_pattern, closed, Written, form, Writtens, no_more, more}
use Rattle.calculus.specs.Bare.{Names, binding_names, declared_origin, bare_parts, wrapped, bare_in, bare_each}
use Rattle.events.specs.Numbers.{most_names, most_names_of}
use Rattle.source_laws.proofs.Sizes.{names_of, size, sizes}

-- the number of nodes of these
abbrev heap : List Tree → ℕ
heap [] = 0
heap (t ∷ ts) = weight t + heap ts

-- the most names that a form in these declares
abbrev tops : List Tree → ℕ
tops [] = 0
tops (t ∷ ts) = max (most_names t) (tops ts)

heap-trees : (ts : List Tree) → weights (trees ts) ≡ heap ts
heap-trees [] = refl
heap-trees (t ∷ ts) = omega (arith, heap-trees ts)

heap-listed : (ts : Trees) → heap (listed ts) ≡ weights ts
heap-listed none = refl
heap-listed (also t ts) = omega (arith, heap-listed ts)

heap-append : (ts us : List Tree) → heap (ts ++ us) ≡ heap ts + heap us
heap-append [] us = omega arith
heap-append (t ∷ ts) us = omega (arith, heap-append ts us)

heap-held : (ts : List Tree) → heap (flat_map held ts) ≤ heap ts
heap-held [] = omega arith
heap-held (node l us ∷ ts) = omega (arith, heap-append (listed us) (flat_map held ts), heap-listed us, heap-held ts)

tops-trees : (ts : List Tree) → most_names_of (trees ts) ≡ tops ts
tops-trees [] = refl
tops-trees (t ∷ ts) = omega (arith, tops-trees ts)

tops-listed : (ts : Trees) → tops (listed ts) ≡ most_names_of ts
tops-listed none = refl
tops-listed (also t ts) = omega (arith, tops-listed ts)

tops-append : (ts us : List Tree) → tops (ts ++ us) ≡ max (tops ts) (tops us)
tops-append [] us = omega arith
tops-append (t ∷ ts) us = omega (arith, tops-append ts us)

tops-held : (ts : List Tree) → tops (flat_map held ts) ≤ tops ts
tops-held [] = omega arith
tops-held (node l us ∷ ts) = omega (arith, tops-append (listed us) (flat_map held ts), tops-listed us, tops-held ts)

parts-heap : (f : Form) (v : Names) (ts : List Tree) → heap (bare_parts f v ts) ≤ 1 + heap ts
parts-heap (in_process par) v ts = omega (arith, heap-held ts)
parts-heap (in_pattern pattern) v ts = omega (arith, heap-held ts)
parts-heap drop v ts = omega (arith, heap-held ts)
parts-heap quote v ts = omega (arith, heap-held ts)
parts-heap quote_pattern v ts = omega (arith, heap-held ts)
parts-heap closed v ts = omega (arith, heap-held ts)
parts-heap (in_process l) v ts = omega (arith, heap-trees ts)
parts-heap (in_pattern l) v ts = omega (arith, heap-trees ts)
parts-heap (around l) v ts = omega (arith, heap-trees ts)
parts-heap (declare ds) v ts = omega (arith, heap-trees ts)
parts-heap f v ts = omega arith

parts-tops : (f : Form) (v : Names) (ts : List Tree) → tops (bare_parts f v ts) ≤ names_of f + tops ts
parts-tops (in_process par) v ts = omega (arith, tops-held ts)
parts-tops (in_pattern pattern) v ts = omega (arith, tops-held ts)
parts-tops drop v ts = omega (arith, tops-held ts)
parts-tops quote v ts = omega (arith, tops-held ts)
parts-tops quote_pattern v ts = omega (arith, tops-held ts)
parts-tops closed v ts = omega (arith, tops-held ts)
parts-tops (in_process l) v ts = omega (arith, tops-trees ts)
parts-tops (in_pattern l) v ts = omega (arith, tops-trees ts)
parts-tops (around l) v ts = omega (arith, tops-trees ts)
parts-tops (declare ds) v ts = omega (arith, tops-trees ts, length-map ds (λ d. declared_origin d.1))
parts-tops f v ts = omega arith

at-heap : (ts : List Tree) → weight (at 0 ts) ≤ 1 + heap ts
at-heap [] = omega arith
at-heap (t ∷ ts) = omega arith

at-tops : (ts : List Tree) → most_names (at 0 ts) ≤ tops ts
at-tops [] = omega arith
at-tops (t ∷ ts) = omega arith

wrapped-heap : (f : Form) (ts : List Tree) → weight (wrapped f ts) ≤ 1 + heap ts
wrapped-heap (around l) ts = at-heap ts
wrapped-heap (bind_rest x) ts = at-heap ts
wrapped-heap f ts = omega (arith, heap-trees ts)

wrapped-tops : (f : Form) (ts : List Tree) → most_names (wrapped f ts) ≤ tops ts
wrapped-tops (around l) ts = at-tops ts
wrapped-tops (bind_rest x) ts = at-tops ts
wrapped-tops f ts = omega (arith, tops-trees ts)

mutual
  -- a bare form has at most two nodes for each written form
  pub bare-weight : (t : Written) (v : Names) → weight (bare_in t v) ≤ 2 * size t
  bare-weight (form f ts) v =
      let us : List Tree = bare_each ts v (reverse (binding_names f ts)) in
      omega (arith, wrapped-heap f (bare_parts f v us), parts-heap f v us, bare-heap ts v (reverse (binding_names f ts)))

  bare-heap : (ts : Writtens) (v xs : Names) → heap (bare_each ts v xs) ≤ 2 * sizes ts
  bare-heap no_more v xs = omega arith
  bare-heap (more t no_more) v xs = omega (arith, bare-weight t (xs ++ v))
  bare-heap (more t (more u us)) v xs = omega (arith, bare-weight t v, bare-heap (more u us) v xs)

mutual
  -- a bare form declares no more names than are written
  pub bare-names : (t : Written) (v : Names) → most_names (bare_in t v) ≤ size t
  bare-names (form f ts) v =
      let us : List Tree = bare_each ts v (reverse (binding_names f ts)) in
      omega (arith, wrapped-tops f (bare_parts f v us), parts-tops f v us, bare-tops ts v (reverse (binding_names f ts)))

  bare-tops : (ts : Writtens) (v xs : Names) → tops (bare_each ts v xs) ≤ sizes ts
  bare-tops no_more v xs = omega arith
  bare-tops (more t no_more) v xs = omega (arith, bare-names t (xs ++ v))
  bare-tops (more t (more u us)) v xs = omega (arith, bare-names t v, bare-tops (more u us) v xs)
