-- Longest runs of a class.
use Rattle.std.proofs.Common.{◌≡◌, ◌≤◌, ◌<◌, ◌+◌, ◌-◌, ℕ, Bool, true, false, List, length, drop, get_or, length-drop, refl, sym, ◌∙◌, ap, subst, arith, inl, inr}
use Rattle.std.proofs.lemmas.Bool.{cases_lt}
use Rattle.std.proofs.lemmas.List.{get_or-drop}
use Rattle.std.proofs.lemmas.List.Sums.{prefix_len_is}
use Rattle.std.specs.List.{prefix_len}
use Rattle.rho_lanes.specs.declared.class.ByteClass.{ByteClass}
use Rattle.rho_lanes.specs.Classes.{is_in, IsRun, IsLongestRun}

-- a run is the longest where the byte after it is of another class, or there is none
pub longest_is : (class : ByteClass) (bytes : List ℕ) (from n : ℕ) → IsRun class bytes from n
    → (from + n < length bytes → is_in class (get_or bytes (from + n) 0) ≡ false) → IsLongestRun class bytes from n
longest_is class bytes from n run ends = record {
  run = run;
  longest = λ m other. elim (cases_lt n m) [
    | inl longer ↦ (let inside = other.within in
        let of : is_in class (get_or bytes (from + n) 0) ≡ true = other.each (from + n) (omega arith) (omega arith) in
        let none : is_in class (get_or bytes (from + n) 0) ≡ false = ends (omega arith) in absurd (cc))
    | inr up_to ↦ up_to
  ];
}

one_more : (class : ByteClass) (bytes : List ℕ) (from n : ℕ) → IsRun class bytes from n → from + n < length bytes
    → is_in class (get_or bytes (from + n) 0) ≡ true → IsRun class bytes from (n + 1)
one_more class bytes from n run inside e = record {
  within = omega arith;
  each = λ k low high. elim (cases_lt k (from + n)) [
    | inl early ↦ run.each k low early
    | inr late ↦ (let here : from + n ≡ k = omega arith in subst (λ j. is_in class (get_or bytes j 0) ≡ true) here e)
  ];
}

-- and after the longest run stands a byte of another class, or none
pub longest_ends : (class : ByteClass) (bytes : List ℕ) (from n : ℕ) → IsLongestRun class bytes from n
    → from + n < length bytes → is_in class (get_or bytes (from + n) 0) ≡ false
longest_ends class bytes from n h inside = by_test (is_in class (get_or bytes (from + n) 0)) refl
  where
    by_test : (t : Bool) → is_in class (get_or bytes (from + n) 0) ≡ t → t ≡ false
    by_test false e = refl
    by_test true e = let more = h.longest (n + 1) (one_more class bytes from n h.run inside e) in absurd (omega arith)

-- there is one longest run
pub one_longest : (class : ByteClass) (bytes : List ℕ) (from m n : ℕ) → IsLongestRun class bytes from m → IsLongestRun class bytes from n → m ≡ n
one_longest class bytes from m n g h =
    let up = g.longest n h.run in
    let down = h.longest m g.run in omega arith

-- it is the longest front of the rest that is of the class
pub longest_is_front : (class : ByteClass) (bytes : List ℕ) (from n : ℕ) → IsLongestRun class bytes from n → prefix_len (is_in class) (drop from bytes) ≡ n
longest_is_front class bytes from n h =
    let within = h.run.within in
    let rest = length-drop from bytes in
    prefix_len_is (is_in class) (drop from bytes) n 0 (omega arith)
    (λ k low. ap (is_in class) (get_or-drop from bytes k 0) ∙ h.run.each (from + k) (omega arith) (omega arith))
    (λ low. ap (is_in class) (get_or-drop from bytes n 0) ∙ longest_ends class bytes from n h (omega arith))

-- the bytes up to a place, each of the class, where the next is of another or there is none
pub longest_to : (class : ByteClass) (bytes : List ℕ) (from end : ℕ) → from ≤ end → end ≤ length bytes
    → ((k : ℕ) → from ≤ k → k < end → is_in class (get_or bytes k 0) ≡ true)
    → (end < length bytes → is_in class (get_or bytes end 0) ≡ false) → IsLongestRun class bytes from (end - from)
longest_to class bytes from end low high each ends =
    let back : from + (end - from) ≡ end = omega arith in
    longest_is class bytes from (end - from) (record { within = omega arith; each = λ k g h. each k g (omega arith) })
    (λ h. subst (λ j. is_in class (get_or bytes j 0) ≡ false) (sym back) (ends (omega arith)))
