-- Turns and ends of loops, and what one step adds.
use Rattle.std.proofs.Common.{◌≡◌, ℕ, ◌+◌, ◌<◌, ◌≤◌, List, [], ◌∷◌, ◌++◌, length, get_or, drop, map, ap, sym, subst, ◌∙◌, append_assoc, append-nil}
use Rattle.std.proofs.lemmas.List.{drop_all, drop_more, map-append}
use Rattle.calculus.specs.Tree.{Tree}
use Rattle.calculus.specs.Written.{Written}
use Rattle.calculus.specs.Bare.{Names}
use Rattle.normal_parts.specs.Made.{normal_in, all_in, parts_in, pattern_parts_in, all_parts, all_pattern_parts}

-- what a loop over things has before it, and that it has nothing before it
pub next-one : {A : Type 0} (xs ys : List A) (i : ℕ) (x : A) → ys ≡ xs → i < length ys → x ≡ get_or ys i x → drop i xs ≡ x ∷ drop (i + 1) xs
next-one xs ys i x e h g = subst (λ zs. drop i zs ≡ x ∷ drop (i + 1) zs) e (drop_more ys i x h ∙ ap (λ z. z ∷ drop (i + 1) ys) (sym g))

pub no-more : {A : Type 0} (xs ys : List A) (i : ℕ) → ys ≡ xs → length ys ≤ i → drop i xs ≡ []
no-more xs ys i e h = subst (λ zs. drop i zs ≡ []) e (drop_all i ys h)

-- a thing that stands for what was wanted was added to these
pub added : {A : Type 0} (g : A → Tree) (o n : List A) (y : A) (ts : List Tree) → n ≡ o ++ y ∷ [] → g y ∷ [] ≡ ts → map g n ≡ map g o ++ ts
added g o n y ts p e = ap (map g) p ∙ map-append g o (y ∷ []) ∙ ap (λ z. map g o ++ z) e

-- trees that are the wanted ones were added to these
pub joined : (o n us ts : List Tree) → n ≡ o ++ us → us ≡ ts → n ≡ o ++ ts
joined o n us ts p e = p ∙ ap (λ z. o ++ z) e

-- what was added to nothing is all
pub alone : {A : Type 0} (g : A → Tree) (o n : List A) (ts : List Tree) → o ≡ [] → map g n ≡ map g o ++ ts → map g n ≡ ts
alone g o n ts z e = e ∙ ap (λ us. map g us ++ ts) z

-- loops over what is written, each in the scope that the one before it left
module _ {A : Type 0} (f : A → Written) (xs : List A) (i : ℕ) (v w : Names) where
  -- a turn of one that makes trees
  pub turn-tree : (x : A) (o n : List Tree) (u : Tree) → drop i xs ≡ x ∷ drop (i + 1) xs → w ≡ v → n ≡ o ++ u ∷ [] → u ≡ normal_in (f x) w
      → o ++ all_in (map f (drop i xs)) v ≡ all_in (map f xs) v → n ++ all_in (map f (drop (i + 1) xs)) v ≡ all_in (map f xs) v
  turn-tree x o n u m s p k e =
      ap (λ z. z ++ all_in (map f (drop (i + 1) xs)) v) p
      ∙ append_assoc o (u ∷ []) (all_in (map f (drop (i + 1) xs)) v)
      ∙ ap (λ z. o ++ (z ∷ all_in (map f (drop (i + 1) xs)) v)) (k ∙ ap (normal_in (f x)) s)
      ∙ ap (λ z. o ++ all_in (map f z) v) (sym m)
      ∙ e

  -- and of one that makes things that stand for trees
  pub turn-thing : {B : Type 0} (g : B → Tree) (x : A) (o n : List B) (y : B) → drop i xs ≡ x ∷ drop (i + 1) xs → w ≡ v → n ≡ o ++ y ∷ [] → g y ≡ normal_in (f x) w
      → map g o ++ all_in (map f (drop i xs)) v ≡ all_in (map f xs) v → map g n ++ all_in (map f (drop (i + 1) xs)) v ≡ all_in (map f xs) v
  turn-thing g x o n y m s p k e = turn-tree x (map g o) (map g n) (g y) m s (ap (map g) p ∙ map-append g o (y ∷ [])) k e

  -- a turn of one that adds parts
  pub turn-parts : (x : A) (o n b : List Tree) → drop i xs ≡ x ∷ drop (i + 1) xs → w ≡ v → n ≡ o ++ parts_in (f x) w
      → o ++ all_parts (map f (drop i xs)) v ≡ b → n ++ all_parts (map f (drop (i + 1) xs)) v ≡ b
  turn-parts x o n b m s p e =
      ap (λ z. z ++ all_parts (map f (drop (i + 1) xs)) v) (p ∙ ap (λ z. o ++ parts_in (f x) z) s)
      ∙ append_assoc o (parts_in (f x) v) (all_parts (map f (drop (i + 1) xs)) v)
      ∙ ap (λ z. o ++ all_parts (map f z) v) (sym m)
      ∙ e

  pub turn-pattern-parts : (x : A) (o n b : List Tree) → drop i xs ≡ x ∷ drop (i + 1) xs → w ≡ v → n ≡ o ++ pattern_parts_in (f x) w
      → o ++ all_pattern_parts (map f (drop i xs)) v ≡ b → n ++ all_pattern_parts (map f (drop (i + 1) xs)) v ≡ b
  turn-pattern-parts x o n b m s p e =
      ap (λ z. z ++ all_pattern_parts (map f (drop (i + 1) xs)) v) (p ∙ ap (λ z. o ++ pattern_parts_in (f x) z) s)
      ∙ append_assoc o (pattern_parts_in (f x) v) (all_pattern_parts (map f (drop (i + 1) xs)) v)
      ∙ ap (λ z. o ++ all_pattern_parts (map f z) v) (sym m)
      ∙ e

-- the ends of such loops
module _ {A : Type 0} (f : A → Written) (xs : List A) (i : ℕ) (v : Names) where
  pub end-trees : (o : List Tree) → drop i xs ≡ [] → o ++ all_in (map f (drop i xs)) v ≡ all_in (map f xs) v → o ≡ all_in (map f xs) v
  end-trees o m e = sym (append-nil o) ∙ ap (λ z. o ++ all_in (map f z) v) (sym m) ∙ e

  pub end-parts : (o b : List Tree) → drop i xs ≡ [] → o ++ all_parts (map f (drop i xs)) v ≡ b → o ≡ b
  end-parts o b m e = sym (append-nil o) ∙ ap (λ z. o ++ all_parts (map f z) v) (sym m) ∙ e

  pub end-pattern-parts : (o b : List Tree) → drop i xs ≡ [] → o ++ all_pattern_parts (map f (drop i xs)) v ≡ b → o ≡ b
  end-pattern-parts o b m e = sym (append-nil o) ∙ ap (λ z. o ++ all_pattern_parts (map f z) v) (sym m) ∙ e
