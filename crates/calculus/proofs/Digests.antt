-- Digests have 32 bytes.
use Rattle.std.proofs.Common.{ℕ, zero, suc, ◌<◌, List, arith}
use Rattle.std.specs.Prelude.{slice_index}
use Rattle.std.specs.Int.{w32, to_be_bytes, byte_at, bytes_high_first}
use Rattle.std.proofs.lemmas.List.Elements.{All-cons, All-nil, All-append}
use Rattle.sha2.specs.Sha256.{sha256, digest_bytes, final_hash, initial_hash_256}
use Rattle.sha2.proofs.Facts256.{length-sha256}
use Rattle.calculus.specs.Form.{IsBytes, IsDigest}

byte-fits : (i n : ℕ) → byte_at i n < 256
byte-fits zero n = omega arith
byte-fits (suc i) n = omega arith

pub high-first : (k n : ℕ) → IsBytes (bytes_high_first k n)
high-first zero n = All-nil (λ b. b < 256)
high-first (suc k) n = All-cons (λ b. b < 256) (byte_at k n) (bytes_high_first k n) (byte-fits k n) (high-first k n)

are-bytes : (h : List ℕ) (n : ℕ) → IsBytes (digest_bytes h n)
unfolding digest_bytes
are-bytes h zero = All-nil (λ b. b < 256)
are-bytes h (suc n) = All-append (λ b. b < 256) (digest_bytes h n) (to_be_bytes w32 (slice_index h n)) (are-bytes h n) (high-first 4 (slice_index h n))

pub digest-fits : (m : List ℕ) → IsDigest (sha256 m)
unfolding sha256
digest-fits m = (length-sha256 m, are-bytes (final_hash initial_hash_256 m) 8)
