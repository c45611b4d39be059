-- Two of the texts that are hashed, with one digest.
use Rattle.std.specs.Prelude.{◌≡◌, ◌≢◌, ℕ, true, List}
use Rattle.sha2.specs.Sha256.{sha256}
use Rattle.calculus.specs.Form.{IsBytes}
use Rattle.calculus.specs.Steps.{is_one_of}

-- a collision of SHA-256 among these texts: two different lists of bytes with one digest
pub record Collision (texts : List (List ℕ)) : Type 0 where
  pub one : List ℕ
  pub other : List ℕ
  pub one_among : is_one_of one texts ≡ true
  pub other_among : is_one_of other texts ≡ true
  pub one_bytes : IsBytes one
  pub other_bytes : IsBytes other
  pub differ : one ≢ other
  pub same_digest : sha256 one ≡ sha256 other
