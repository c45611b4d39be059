-- Congruence of bare forms.
use Rattle.std.specs.Prelude.{Bool, true, false, ◌&&◌, cond, eqb, List, [], ◌∷◌, length, count_by, ℤ, pos, negsuc}
use Rattle.std.specs.Str.{bytes_eq}
use Rattle.calculus.specs.Tree.{Label, par, set, dict, Tree, node, Trees, none, also, plain}
use Rattle.calculus.specs.Shape.{listed, label_of, held}

-- whether two whole numbers are equal
abbrev pub same_int : ℤ → ℤ → Bool
same_int (pos m) (pos n) = eqb m n
same_int (negsuc m) (negsuc n) = eqb m n
same_int _ _ = false

-- whether two forms are equal, with the data in them
abbrev pub same_label : Label → Label → Bool
same_label l m = eqb (plain l).0 (plain m).0 && (same_int (plain l).1.0 (plain m).1.0 && bytes_eq (plain l).1.1 (plain m).1.1)

-- the forms whose constituents stand in no order: a process, a set and a map
abbrev pub is_bag : Label → Bool
is_bag par = true
is_bag set = true
is_bag dict = true
is_bag _ = false

-- whether each test holds of as many trees on the one side as on the other
abbrev pub as_many : List (Tree → Bool) → List Tree → List Tree → Bool
as_many [] ts us = true
as_many (f ∷ fs) ts us = eqb (count_by f ts) (count_by f us) && as_many fs ts us

-- whether there are as many trees as tests, and each test holds of its tree
abbrev pub in_turn : List (Tree → Bool) → List Tree → Bool
in_turn [] [] = true
in_turn [] (u ∷ us) = false
in_turn (f ∷ fs) [] = false
in_turn (f ∷ fs) (u ∷ us) = f u && in_turn fs us

unfoldable mutual
  -- whether two bare forms are congruent: each part or member is there as often on the one side as on the other, and all else agrees in turn
  pub congruent : Tree → Tree → Bool
  congruent (node l ts) u =
      same_label l (label_of u) && cond (is_bag l)
      (eqb (length (listed ts)) (length (held u)) && as_many (congruent_to ts) (listed ts) (held u))
      (in_turn (congruent_to ts) (held u))

  -- for each of these trees the test for being congruent to it
  pub congruent_to : Trees → List (Tree → Bool)
  congruent_to none = []
  congruent_to (also t ts) = congruent t ∷ congruent_to ts
