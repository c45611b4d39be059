-- Texts are lists of bytes.
use Rattle.std.proofs.Common.{ℕ, ◌<◌, ◌%◌, ◌^◌, List, [], ◌∷◌, ◌++◌}
use Rattle.std.proofs.lemmas.List.Elements.{All-nil, All-cons, All-append}
use Rattle.calculus.proofs.Members.{Every}
use Rattle.calculus.specs.Bytes.{be32, joined}
use Rattle.calculus.specs.Form.{IsBytes, IsDigest}
use Rattle.calculus.specs.Seeds.{Seed, message, digest_of}
use Rattle.calculus.proofs.Digests.{high-first, digest-fits}

-- a byte
abbrev Byte : ℕ → Type 0
Byte b = b < 256

pub no-bytes : IsBytes []
no-bytes = All-nil Byte

pub one-more-byte : (b : ℕ) (bs : List ℕ) → b < 256 → IsBytes bs → IsBytes (b ∷ bs)
one-more-byte b bs h k = All-cons Byte b bs h k

pub append-bytes : (xs ys : List ℕ) → IsBytes xs → IsBytes ys → IsBytes (xs ++ ys)
append-bytes xs ys h k = All-append Byte xs ys h k

pub be32-bytes : (n : ℕ) → IsBytes (be32 n)
unfolding be32
be32-bytes n = high-first 4 (n % 2 ^ 32)

pub joined-bytes : (xs : List (List ℕ)) → Every IsBytes xs → IsBytes (joined xs)
joined-bytes [] h = no-bytes
joined-bytes (x ∷ xs) h = append-bytes x (joined xs) h.0 (joined-bytes xs h.1)

pub seed-digest : (s : Seed) → IsDigest (digest_of s)
seed-digest s = digest-fits (message s)
