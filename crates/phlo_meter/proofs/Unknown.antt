-- The least unknown key of a table is the first one that is found, since its keys ascend.
use Rattle.std.proofs.Common.{◌≡◌, ◌∙◌, ap, sym, refl, ℕ, List, [], ◌∷◌, Bool, true, false, cond, not, find, map, filter, Some, None, option_map, String, string_bytes}
use Rattle.std.specs.declared.alloc.Global.{Global}
use Rattle.std.specs.declared.cmp.Ordering.TheVariants.{Less}
use Rattle.std.specs.List.{All}
use Rattle.std.specs.List.Sorted.{IsStrictlySortedBy}
use Rattle.std.specs.Ordering.{is_le}
use Rattle.std.specs.String.{string_cmp}
use Rattle.std.proofs.lemmas.List.Elements.{All-head, All-tail}
use Rattle.std.proofs.lemmas.Map.Keys.{sorted_tail}
use Rattle.std.proofs.lemmas.Map.Views.{All-after_first}
use Rattle.toml.specs.View.{members_view}
use Rattle.toml.specs.declared.value.Value.{Value}
use Rattle.calculus.specs.Order.{placed, sorted, IsBelowFirst}
use Rattle.phlo_meter.specs.PriceTable.{is_known, keys_of, first, least_unknown}

placed-first : (x : List ℕ) (xs : List (List ℕ)) → IsBelowFirst x xs → placed x xs ≡ x ∷ xs
unfolding placed
placed-first x [] h = refl
placed-first x (y ∷ ys) h = rw h

-- a test of keys
module _ (p : List ℕ → Bool) where
  below : (k : String Global) (ks : List (String Global)) → All (λ q. string_cmp k q ≡ Less) ks → IsBelowFirst (string_bytes k) (filter p (map string_bytes ks))
  below k [] h = tt
  below k (q ∷ ks) h =
      let bs = filter p (map string_bytes ks) in
      elim (p (string_bytes q)) as (λ b. IsBelowFirst (string_bytes k) (cond b (string_bytes q ∷ bs) bs)) [
        | true ↦ ap is_le (All-head (λ (q : String Global). string_cmp k q ≡ Less) q ks h)
        | false ↦ below k ks (All-tail (λ (q : String Global). string_cmp k q ≡ Less) q ks h)
      ]

  in_order : (ks : List (String Global)) → IsStrictlySortedBy string_cmp ks → sorted (filter p (map string_bytes ks)) ≡ filter p (map string_bytes ks)
  unfolding sorted
  in_order [] h = refl
  in_order (k ∷ ks) h =
      let ih = in_order ks (sorted_tail string_cmp k ks h) in
      let bs = filter p (map string_bytes ks) in
      elim (p (string_bytes k)) as (λ b. sorted (cond b (string_bytes k ∷ bs) bs) ≡ cond b (string_bytes k ∷ bs) bs) [
        | true ↦ ap (placed (string_bytes k)) ih ∙ placed-first (string_bytes k) bs (below k ks (All-after_first string_cmp k ks h))
        | false ↦ ih
      ]

  found : (ks : List (String Global)) → option_map string_bytes (find (λ k. p (string_bytes k)) ks) ≡ first (filter p (map string_bytes ks))
  found [] = refl
  found (k ∷ ks) =
      let bs = filter p (map string_bytes ks) in
      elim (p (string_bytes k)) as (λ b. option_map string_bytes (cond b (Some k) (find (λ k. p (string_bytes k)) ks)) ≡ first (cond b (string_bytes k ∷ bs) bs)) [ true ↦ refl | false ↦ found ks ]

keys-view : (es : List (String Global × Value)) → map string_bytes (map (λ e. e.0) es) ≡ keys_of (members_view es)
keys-view [] = refl
keys-view (e ∷ es) = ap (λ ks. string_bytes e.0 ∷ ks) (keys-view es)

-- the first key found that is unknown, where the keys ascend
pub found_is_least : (es : List (String Global × Value)) → IsStrictlySortedBy string_cmp (map (λ e. e.0) es) → option_map string_bytes (find (λ k. not (is_known (string_bytes k))) (map (λ e. e.0) es)) ≡ least_unknown (members_view es)
found_is_least es h =
    let p : List ℕ → Bool = λ k. not (is_known k) in
    let ks = map (λ (e : String Global × Value). e.0) es in
    found p ks ∙ (ap first (sym (in_order p ks h)) ∙ ap (λ bs. first (sorted (filter p bs))) (keys-view es))
