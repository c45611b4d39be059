-- Congruence is reflexive.
use Rattle.std.proofs.Common.{◌≡◌, ℕ, Bool, true, false, cond, List, [], ◌∷◌, length, refl}
use Rattle.std.specs.Prelude.{eqb, ℤ, pos, negsuc, count_by, T}
use Rattle.std.proofs.Math.Dec.{eqb_refl}
use Rattle.std.specs.Str.{bytes_eq}
use Rattle.std.proofs.lemmas.Slice.Eq.{bytes_eq-Decides}
use Rattle.calculus.specs.Tree.{Label, Tree, node, Trees, none, also, plain}
use Rattle.calculus.specs.Shape.{listed}
use Rattle.calculus.specs.Congruence.{same_int, same_label, is_bag, as_many, in_turn, congruent, congruent_to}
use Rattle.calculus.specs.Laws.{CongruenceIsReflexive}

is_true : (b : Bool) → T b → b ≡ true
is_true true t = refl
is_true false t = absurd t

pub eqb_self : (n : ℕ) → eqb n n ≡ true
eqb_self n = is_true (eqb n n) (eqb_refl n)

same_int_self : (z : ℤ) → same_int z z ≡ true
same_int_self (pos n) = eqb_self n
same_int_self (negsuc n) = eqb_self n

bytes_self : (xs : List ℕ) → bytes_eq xs xs ≡ true
bytes_self xs = (bytes_eq-Decides xs xs).1 refl

pub same_label_self : (l : Label) → same_label l l ≡ true
same_label_self l = rw (eqb_self (plain l).0, same_int_self (plain l).1.0, bytes_self (plain l).1.1)

as_many_self : (fs : List (Tree → Bool)) (ts : List Tree) → as_many fs ts ts ≡ true
as_many_self [] ts = refl
as_many_self (f ∷ fs) ts = rw (eqb_self (count_by f ts), as_many_self fs ts)

by_form : (b : Bool) (x y : Bool) → x ≡ true → y ≡ true → cond b x y ≡ true
by_form true x y p q = p
by_form false x y p q = q

mutual
  unfolding congruent congruent_to

  pub congruent_self : CongruenceIsReflexive
  congruent_self (node l ts) =
      rw (same_label_self l) (by_form (is_bag l) _ _ (rw (eqb_self (length (listed ts)), as_many_self (congruent_to ts) (listed ts))) (all_self ts))

  all_self : (ts : Trees) → in_turn (congruent_to ts) (listed ts) ≡ true
  all_self none = refl
  all_self (also t ts) = rw (congruent_self t, all_self ts)
