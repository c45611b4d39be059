-- What an encoder writes.
use Rattle.std.specs.Prelude.{◌≡◌, ℕ, false, List, ◌++◌}
use Rattle.term_encoder.specs.declared.encoder.Encoder.{Encoder}

-- these bytes came after those that were written before, unless memory was wanting
pub record Writes (old new : Encoder) (bytes : List ℕ) : Type 0 where
  pub written : new.failed ≡ false → (old.failed ≡ false) × (new.bytes.items ≡ old.bytes.items ++ bytes)
