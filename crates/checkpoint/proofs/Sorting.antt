-- What a sort by codes gives ascends.
use Rattle.std.proofs.Common.{◌≡◌, ℕ, suc, Bool, not, List, [], ◌∷◌, map, refl, ap, sym, ◌∙◌, arith, add-one}
use Rattle.std.proofs.lemmas.Cmp.{nat_list_cmp_total}
use Rattle.std.specs.List.Sorted.{IsSortedBy}
use Rattle.std.specs.Ordering.{is_lt, is_le, ordering_reverse}
use Rattle.std.specs.declared.cmp.Ordering.{Ordering}
use Rattle.std.specs.declared.cmp.Ordering.TheVariants.{Less, Equal, Greater}
use Rattle.calculus.specs.Order.{up_to, byte_cmp, IsAscending}

turned : (o : Ordering) → not (is_lt o) ≡ is_le (ordering_reverse o)
turned Less = refl
turned Equal = refl
turned Greater = refl

-- not less is no greater, the other way round
not_low : (a b : List ℕ) → not (is_lt (byte_cmp a b)) ≡ up_to b a
not_low a b = turned (byte_cmp a b) ∙ sym (ap is_le (nat_list_cmp_total.antisymm b a))

module _ {X : Type 0} (k : X → List ℕ) where
  -- whether the bytes of the one are less
  abbrev pub low : X → X → Bool
  low x y = is_lt (byte_cmp (k x) (k y))

  tail : (x : X) (xs : List X) → IsSortedBy low (x ∷ xs) → IsSortedBy low xs
  tail x xs s i d least high =
      let e = s (suc i) d (omega arith) (omega arith) in
      rw add-one (rw add-one at e)

  pub ascending : (xs : List X) → IsSortedBy low xs → IsAscending (map k xs)
  ascending [] s = tt
  ascending (x ∷ []) s = (tt, tt)
  ascending (x ∷ y ∷ ys) s = (sym (not_low (k y) (k x)) ∙ ap not (s 0 x (omega arith) (omega arith)), ascending (y ∷ ys) (tail x (y ∷ ys) s))
