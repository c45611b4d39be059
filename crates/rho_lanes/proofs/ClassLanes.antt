-- From the bits of one step to the bytes of a class.
use Rattle.std.proofs.Common.{◌≡◌, ℕ, ◌+◌, ◌-◌, ◌%◌, ◌^◌, ◌<◌, ◌≤◌, eqb, cond, Bool, true, false, not, List, map, length, get_or, Fits, w8, sym, ap, ◌∙◌, subst, arith}
use Rattle.std.proofs.lemmas.Bool.{agree_below, agree_below_at, not-true, not-false}
use Rattle.std.proofs.lemmas.Simd.{map-map, mask_l-mod, length-chunk, get_or-chunk, first_set_mask_l}
use Rattle.std.proofs.lemmas.List.{length-map}
use Rattle.std.proofs.lemmas.List.Sums.{prefix_len-le-length, prefix_len_passes, prefix_len_stops}
use Rattle.std.specs.List.{prefix_len}
use Rattle.std.specs.Int.{w64, trailing_zeros}
use lib.Lanes.{chunk, mask_l, top}
use Rattle.rho_lanes.specs.declared.class.ByteClass.{ByteClass}
use Rattle.rho_lanes.specs.Classes.{is_in, IsRunOf}

module _ (class : ByteClass) (d : List ℕ) (i r : ℕ) (z : List ℕ) (room : i + 16 ≤ length d)
    (fits : (k : ℕ) → Fits w8 (get_or d k 0)) (found : r ≡ cond (eqb (mask_l (map (top 7) z) % 2 ^ 64) 0) 16 (trailing_zeros w64 (mask_l (map (top 7) z) % 2 ^ 64)))
    (f : ℕ → ℕ) (lanes : z ≡ map f (chunk i 16 d)) where
  abbrev stops : ℕ → Bool
  stops x = top 7 (f x)

  long : length (chunk i 16 d) ≡ 16
  long = length-chunk i 16 d room

  counted : r ≡ prefix_len (λ x. not (stops x)) (chunk i 16 d)
  counted =
      let v = chunk i 16 d in
      let mask : mask_l (map (top 7) z) % 2 ^ 64 ≡ mask_l (map stops v) = ap (λ l. mask_l l % 2 ^ 64) (ap (map (top 7)) lanes ∙ map-map (top 7) f v) ∙ mask_l-mod (map stops v) 64 (omega (arith, length-map v stops, long)) in
      found ∙ ap (λ m. cond (eqb m 0) 16 (trailing_zeros w64 m)) mask ∙ first_set_mask_l stops v 16 long (omega arith)

  few : r ≤ 16
  few = omega (arith, counted, long, prefix_len-le-length (λ x. not (stops x)) (chunk i 16 d))

  goes_on : (k : ℕ) → i ≤ k → k < i + r → stops (get_or d k 0) ≡ false
  goes_on k from to =
      let back : i + (k - i) ≡ k = omega arith in
      let at = get_or-chunk i 16 d (k - i) 0 (omega (arith, few)) ∙ ap (λ j. get_or d j 0) back in
      subst (λ x. stops x ≡ false) at (not-true _ (prefix_len_passes (λ x. not (stops x)) (chunk i 16 d) (k - i) 0 (omega (arith, counted))))

  -- a lane stops just where its byte is not of the class
  pub run_in : agree_below stops (λ x. not (is_in class x)) 256 ≡ true → IsRunOf 16 class d i r
  run_in all = record {
    few = few;
    run = record {
      within = omega (arith, few);
      each = λ k from to. not-false _ (sym (agree_below_at stops (λ x. not (is_in class x)) 256 (get_or d k 0) all (fits k).fits) ∙ goes_on k from to);
    };
    ends = λ short.
        let at = ap (λ j. get_or (chunk i 16 d) j 0) (sym counted) ∙ get_or-chunk i 16 d r 0 short in
        let set = subst (λ x. stops x ≡ true) at (not-false _ (prefix_len_stops (λ x. not (stops x)) (chunk i 16 d) 0 (omega (arith, counted, long)))) in
        not-true _ (sym (agree_below_at stops (λ x. not (is_in class x)) 256 (get_or d (i + r) 0) all (fits (i + r)).fits) ∙ set);
  }
