-- Lists that stand one behind the other.
use Rattle.std.proofs.Common.{◌≡◌, ◌≤◌, ◌<◌, ◌+◌, ◌-◌, ℕ, zero, suc, List, [], ◌∷◌, ◌++◌, length, refl, sym, ◌∙◌, ap, arith, append_assoc, append-nil, Some, None, take, drop, get_or, length-append}
use Rattle.std.specs.Prelude.{Option, slice_get, slice_range}
use Rattle.std.proofs.Math.Seq.{take-append_seam, drop-append-add}
use Rattle.std.specs.Option.{unwrap_or}
use Rattle.std.proofs.lemmas.Option.{get_or_from_slice_get, slice_get-get_or, slice_get_past}
use Rattle.replay_space.specs.Rigs.{ends_from, joined, list_of}

-- where one more list ends
pub ends-more : (n : ℕ) (ls : List (List ℕ)) (l : List ℕ) → ends_from n (ls ++ l ∷ []) ≡ ends_from n ls ++ (n + length (joined ls ++ l)) ∷ []
ends-more n [] l = refl
ends-more n (k ∷ ls) l = ap (λ us. (n + length k) ∷ us) (ends-more (n + length k) ls l ∙ ap (λ m. ends_from (n + length k) ls ++ m ∷ []) same)
  where
    same : n + length k + length (joined ls ++ l) ≡ n + length ((k ++ joined ls) ++ l)
    same = omega (arith, length-append (joined ls) l, length-append (k ++ joined ls) l, length-append k (joined ls))

pub joined-more : (ls : List (List ℕ)) (l : List ℕ) → joined (ls ++ l ∷ []) ≡ joined ls ++ l
joined-more [] l = append-nil l
joined-more (k ∷ ls) l = ap (λ us. k ++ us) (joined-more ls l) ∙ sym (append_assoc k (joined ls) l)

-- where a list ends
pub end-at : (n : ℕ) (ls : List (List ℕ)) (k : ℕ) (l : List ℕ) → slice_get ls k ≡ Some l → slice_get (ends_from n ls) k ≡ Some (n + length (joined (take k ls)) + length l)
end-at n [] k l e = cc
end-at n (m ∷ ls) zero l e = ap (λ j. Some j) same
  where
    here : m ≡ l
    here = cc e

    same : n + length m ≡ n + 0 + length l
    same = omega (arith, ap (λ (x : List ℕ). length x) here)
end-at n (m ∷ ls) (suc k) l e = end-at (n + length m) ls k l e ∙ ap (λ j. Some j) same
  where
    same : n + length m + length (joined (take k ls)) + length l ≡ n + length (m ++ joined (take k ls)) + length l
    same = omega (arith, length-append m (joined (take k ls)))

pub no-end : (n : ℕ) (ls : List (List ℕ)) (k : ℕ) → slice_get ls k ≡ None → slice_get (ends_from n ls) k ≡ None
no-end n [] k e = refl
no-end n (m ∷ ls) zero e = cc
no-end n (m ∷ ls) (suc k) e = no-end (n + length m) ls k e

-- where the one behind it begins
pub start-at : (n : ℕ) (ls : List (List ℕ)) (k : ℕ) → k < length ls → slice_get (ends_from n ls) k ≡ Some (n + length (joined (take (suc k) ls)))
start-at n [] k h = absurd (omega (arith, h))
start-at n (m ∷ ls) zero h = ap (λ j. Some j) (omega (arith, length-append m []))
start-at n (m ∷ ls) (suc k) h = start-at (n + length m) ls k (omega (arith, h)) ∙ ap (λ j. Some j) same
  where
    same : n + length m + length (joined (take (suc k) ls)) ≡ n + length (m ++ joined (take (suc k) ls))
    same = omega (arith, length-append m (joined (take (suc k) ls)))

-- what stands there
pub part-at : (ls : List (List ℕ)) (k : ℕ) (l : List ℕ) → slice_get ls k ≡ Some l → slice_range (joined ls) (length (joined (take k ls))) (length (joined (take k ls)) + length l) ≡ l
part-at [] k l e = cc
part-at (m ∷ ls) zero l e = ap (λ j. take j (m ++ joined ls)) plain ∙ take-append_seam m (joined ls) ∙ here
  where
    here : m ≡ l
    here = cc e

    plain : 0 + length l - 0 ≡ length m
    plain = omega (arith, ap (λ (x : List ℕ). length x) here)
part-at (m ∷ ls) (suc k) l e = ap (λ j. slice_range (m ++ joined ls) j (j + length l)) long ∙ shifted ∙ part-at ls k l e
  where
    a : ℕ
    a = length (joined (take k ls))

    long : length (m ++ joined (take k ls)) ≡ length m + a
    long = length-append m (joined (take k ls))

    less : length m + a + length l - (length m + a) ≡ a + length l - a
    less = omega arith

    shifted : slice_range (m ++ joined ls) (length m + a) (length m + a + length l) ≡ slice_range (joined ls) a (a + length l)
    shifted = ap (λ j. take j (drop (length m + a) (m ++ joined ls))) less ∙ ap (take (a + length l - a)) (drop-append-add m (joined ls) a)

pub room-at : (ls : List (List ℕ)) (k : ℕ) (l : List ℕ) → slice_get ls k ≡ Some l → length (joined (take k ls)) + length l ≤ length (joined ls)
room-at [] k l e = cc
room-at (m ∷ ls) zero l e = omega (arith, ap (λ (x : List ℕ). length x) here, length-append m (joined ls))
  where
    here : m ≡ l
    here = cc e
room-at (m ∷ ls) (suc k) l e = omega (arith, room-at ls k l e, length-append m (joined (take k ls)), length-append m (joined ls))

pub ends-many : (n : ℕ) (ls : List (List ℕ)) → length (ends_from n ls) ≡ length ls
ends-many n [] = refl
ends-many n (l ∷ ls) = ap suc (ends-many (n + length l) ls)

-- where a list begins, as it is read
pub begins : (ls : List (List ℕ)) (es : List ℕ) (k n end : ℕ) → es ≡ ends_from 0 ls → suc k ≡ n → n < length ls → end ≡ get_or es k end → end ≡ length (joined (take n ls))
begins ls es k n end ends next short at =
    at ∙ get_or_from_slice_get es k (0 + length (joined (take (suc k) ls))) end (ap (λ u. slice_get u k) ends ∙ start-at 0 ls k (omega (arith, short, next))) ∙ plain (length (joined (take (suc k) ls))) ∙ ap (λ m. length (joined (take m ls))) next
  where
    plain : (m : ℕ) → 0 + m ≡ m
    plain m = omega arith

pub some-end : (ls : List (List ℕ)) (es : List ℕ) (k n : ℕ) → es ≡ ends_from 0 ls → suc k ≡ n → n < length ls → length es ≤ k → ⊥
some-end ls es k n ends next short past = omega (arith, short, next, past, ap (λ (u : List ℕ). length u) ends, ends-many 0 ls)

pub not-listed : (ls : List (List ℕ)) (es : List ℕ) (n : ℕ) → es ≡ ends_from 0 ls → length es ≤ n → [] ≡ list_of ls (Some n)
not-listed ls es n ends past = sym (ap (λ (o : Option (List ℕ)). unwrap_or o []) (slice_get_past ls n (omega (arith, past, ap (λ (u : List ℕ). length u) ends, ends-many 0 ls))))

-- a list as it is read
module _ (ls : List (List ℕ)) (es vs : List ℕ) (n start end : ℕ) (ends : es ≡ ends_from 0 ls) (values : vs ≡ joined ls ++ []) (short : n < length es) (at : end ≡ get_or es n end) (from : n < length ls → start ≡ length (joined (take n ls))) where
  abbrev l : List ℕ
  l = get_or ls n []

  low : n < length ls
  low = omega (arith, short, ap (λ (u : List ℕ). length u) ends, ends-many 0 ls)

  here : slice_get ls n ≡ Some l
  here = slice_get-get_or ls n [] low

  whole : vs ≡ joined ls
  whole = values ∙ append-nil (joined ls)

  end-is : end ≡ length (joined (take n ls)) + length l
  end-is = at ∙ get_or_from_slice_get es n (0 + length (joined (take n ls)) + length l) end (ap (λ u. slice_get u n) ends ∙ end-at 0 ls n l here) ∙ plain (length (joined (take n ls)))
    where
      plain : (m : ℕ) → 0 + m + length l ≡ m + length l
      plain m = omega arith

  pub listed : slice_range vs start end ≡ list_of ls (Some n)
  listed = ap (λ u. slice_range u start end) whole ∙ ap (λ s. slice_range (joined ls) s end) (from low) ∙ ap (λ e. slice_range (joined ls) (length (joined (take n ls))) e) end-is ∙ part-at ls n l here
      ∙ sym (ap (λ (o : Option (List ℕ)). unwrap_or o []) here)

  pub up : start ≤ end
  up = omega (arith, from low, end-is)

  pub within : end ≤ length vs
  within = omega (arith, end-is, room-at ls n l here, ap (λ (u : List ℕ). length u) whole)
