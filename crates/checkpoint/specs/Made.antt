-- How many digests are made for the root of a state: those of groups, and those of the nodes above them.
use Rattle.std.specs.Prelude.{◌≡◌, ◌≢◌, ◌≤◌, ◌*◌, ℕ, List, [], true, length}
use Rattle.calculus.specs.Steps.{differ, is_one_of}

-- so many digests are at most 65 for each of some keys, which are so and differ from one another
pub record AreFor (IsSo : List ℕ → Type 0) (n : ℕ) : Type 0 where
  pub keys : List (List ℕ)
  pub once : differ keys ≡ true
  pub so : (k : List ℕ) → is_one_of k keys ≡ true → IsSo k
  pub within : n ≤ 65 * length keys

-- so many digests are at most 65 for each key of which the codes changed
abbrev pub AreMade : (List ℕ → List (List ℕ)) → (List ℕ → List (List ℕ)) → ℕ → Type 0
AreMade old new n = AreFor (λ k. old k ≢ new k) n

-- no key has codes
abbrev pub no_codes : List ℕ → List (List ℕ)
no_codes k = []
