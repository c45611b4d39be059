-- What the longest front is.
use Rattle.std.proofs.Common.{◌≡◌, ℕ, zero, suc, ◌<◌, ◌≤◌, Bool, true, false, cond, List, length, take, refl, arith}
use Rattle.tokens.specs.Fronts.{front_up_to, longest_front}

-- what a length of a front is: none longer passes, and it does, unless it is 0
pub record IsLongest (test : List ℕ → Bool) (text : List ℕ) (most len : ℕ) : Type 0 where
  pub within : len ≤ most
  pub passes : 0 < len → test (take len text) ≡ true
  pub longer : (k : ℕ) → len < k → k ≤ most → test (take k text) ≡ false

-- what the search comes to at one more byte
one_more : (test : List ℕ → Bool) (text : List ℕ) (m r : ℕ) (b : Bool) → test (take (suc m) text) ≡ b
    → IsLongest test text m r → IsLongest test text (suc m) (cond b (suc m) r)
one_more test text m r true e h = record {
  within = omega arith;
  passes = λ _. e;
  longer = λ k p q. absurd (omega arith);
}
one_more test text m r false e h = record {
  within = omega (arith, h.within);
  passes = h.passes;
  longer = λ k p q. longer_at k p q;
}
  where
    longer_at : (k : ℕ) → r < k → k ≤ suc m → test (take k text) ≡ false
    longer_at k p q = grind (arith, h.longer, e)

pub front_up_to-IsLongest : (test : List ℕ → Bool) (text : List ℕ) (m : ℕ) → IsLongest test text m (front_up_to test text m)
front_up_to-IsLongest test text zero = record { within = omega arith; passes = λ p. absurd (omega arith); longer = λ k p q. absurd (omega arith) }
front_up_to-IsLongest test text (suc m) = one_more test text m _ _ refl (front_up_to-IsLongest test text m)

pub longest_front-IsLongest : (test : List ℕ → Bool) (text : List ℕ) → IsLongest test text (length text) (longest_front test text)
unfolding longest_front
longest_front-IsLongest test text = front_up_to-IsLongest test text (length text)

-- there is one such length
pub same_longest : {test : List ℕ → Bool} {text : List ℕ} {most a b : ℕ} → IsLongest test text most a → IsLongest test text most b → a ≡ b
same_longest {test} {text} {most} {a} {b} g h = grind (arith, g.within, h.within, g.passes, h.passes, g.longer, h.longer)

pub longest_front_is : (test : List ℕ → Bool) (text : List ℕ) (n : ℕ) → IsLongest test text (length text) n → longest_front test text ≡ n
longest_front_is test text n h = same_longest (longest_front-IsLongest test text) h
