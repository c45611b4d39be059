-- Processes whose parts and names can be numbered in four bytes.
use Rattle.std.specs.Prelude.{max, ℕ, ◌≤◌, ◌+◌, ◌^◌, List, [], ◌∷◌, length, ⊤}
use Rattle.calculus.specs.Tree.{Label, new, Tree, node, Trees, none, also}
use Rattle.calculus.specs.Code.{codes}

-- 1 for a code that is not empty
abbrev pub one_if_full : List ℕ → ℕ
one_if_full [] = 0
one_if_full (x ∷ xs) = 1

-- how many of these codes are not empty
abbrev pub full_codes : List (List ℕ) → ℕ
full_codes [] = 0
full_codes (c ∷ cs) = one_if_full c + full_codes cs

-- how many names a form declares
abbrev pub name_count : Label → ℕ
name_count (new os) = length os
name_count _ = 0

abbrev mutual
  -- a tree in which no form has more than 2^32 names, or more than 2^32 constituents whose codes are not empty
  pub IsNumberable : Tree → Type 0
  IsNumberable (node l ts) = (full_codes (codes ts) ≤ 2 ^ 32) × (name_count l ≤ 2 ^ 32) × AreNumberable ts

  -- trees of that kind
  pub AreNumberable : Trees → Type 0
  AreNumberable none = ⊤
  AreNumberable (also t ts) = IsNumberable t × AreNumberable ts

abbrev mutual
  -- the most names that a form in a tree declares
  pub most_names : Tree → ℕ
  most_names (node l ts) = max (name_count l) (most_names_of ts)

  -- the same of trees
  pub most_names_of : Trees → ℕ
  most_names_of none = 0
  most_names_of (also t ts) = max (most_names t) (most_names_of ts)
