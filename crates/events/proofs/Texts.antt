-- The text of a seed tells the seed.
use Rattle.std.proofs.Common.{◌≡◌, ℕ, ◌<◌, ◌+◌, ◌*◌, ◌%◌, ◌^◌, List, [], ◌∷◌, ◌++◌, length, refl, sym, ap, ◌∙◌, arith, length-append, append_assoc}
use Rattle.std.specs.Int.{w32, to_be_bytes}
use Rattle.calculus.proofs.Members.{Every}
use Rattle.calculus.specs.Bytes.{be32, joined}
use Rattle.calculus.specs.Form.{IsBytes, IsDigest}
use Rattle.calculus.specs.Seeds.{Seed, System, Start, Split, Body, Fresh, Comm, message}
use Rattle.calculus.proofs.Prefixes.{Splits-length, cut}
use Rattle.calculus.proofs.Tails.{length-be32, one-be32}
use Rattle.events.proofs.Octets.{one-more-byte, append-bytes, be32-bytes, joined-bytes}

-- a seed whose text has room for its numbers, and whose digests have 32 bytes
abbrev pub IsSound : Seed → Type 0
IsSound (System k) = k < 2 ^ 32
IsSound (Start root source) = IsDigest root × IsBytes source
IsSound (Split s i) = IsDigest s × (i < 2 ^ 32)
IsSound (Body s) = IsDigest s
IsSound (Fresh s k) = IsDigest s × (k < 2 ^ 32)
IsSound (Comm c taken n) = IsDigest c × (Every IsDigest taken × (n < 2 ^ 32))

-- a number's bytes are those of what is left of it modulo 2^32
pub be32-rest : (n : ℕ) → be32 (n % 2 ^ 32) ≡ be32 n
unfolding be32
be32-rest n = ap (to_be_bytes w32) (omega arith)

-- fields of one length before other fields
fields : (x y us vs : List ℕ) → IsDigest x → IsDigest y → x ++ us ≡ y ++ vs → (x ≡ y) × (us ≡ vs)
fields x y us vs h k e = cut x y us vs (Splits-length x y (h.0 ∙ sym k.0)) e

length-joined : (xs : List (List ℕ)) → Every IsDigest xs → length (joined xs) ≡ 32 * length xs
length-joined [] h = refl
length-joined (x ∷ xs) h = omega (arith, h.0.0, length-joined xs h.1, length-append x (joined xs))

one-joined : (xs ys : List (List ℕ)) (us vs : List ℕ) → Every IsDigest xs → Every IsDigest ys → length xs ≡ length ys → joined xs ++ us ≡ joined ys ++ vs → (xs ≡ ys) × (us ≡ vs)
one-joined [] [] us vs h k n e = (refl, e)
one-joined [] (y ∷ ys) us vs h k n e = absurd (omega (arith, n))
one-joined (x ∷ xs) [] us vs h k n e = absurd (omega (arith, n))
one-joined (x ∷ xs) (y ∷ ys) us vs h k n e =
    let a = fields x y (joined xs ++ us) (joined ys ++ vs) h.0 k.0 (sym (append_assoc x (joined xs) us) ∙ e ∙ append_assoc y (joined ys) vs) in
    let b = one-joined xs ys us vs h.1 k.1 (omega (arith, n)) a.1 in
    (cc (a.0, b.0), b.1)

-- what follows the receiver in the text of a communication
abbrev rest_of : List (List ℕ) → ℕ → List ℕ
rest_of taken n = be32 (length taken) ++ (joined taken ++ be32 n)

length-rest : (xs : List (List ℕ)) (n : ℕ) → Every IsDigest xs → length (rest_of xs n) ≡ 8 + 32 * length xs
length-rest xs n h = omega (arith, length-append (be32 (length xs)) (joined xs ++ be32 n), length-append (joined xs) (be32 n), length-joined xs h, length-be32 (length xs), length-be32 n)

one-rest : (xs ys : List (List ℕ)) (n m : ℕ) → Every IsDigest xs → Every IsDigest ys → n < 2 ^ 32 → m < 2 ^ 32 → rest_of xs n ≡ rest_of ys m → (xs ≡ ys) × (n ≡ m)
one-rest xs ys n m h k a b e =
    let long : length xs ≡ length ys = omega (arith, length-rest xs n h, length-rest ys m k, ap length e) in
    let p = cut (be32 (length xs)) (be32 (length ys)) (joined xs ++ be32 n) (joined ys ++ be32 m) (Splits-length _ _ (length-be32 (length xs) ∙ sym (length-be32 (length ys)))) e in
    let q = one-joined xs ys (be32 n) (be32 m) h k long p.1 in
    (q.0, one-be32 n m a b q.1)

every-bytes : (xs : List (List ℕ)) → Every IsDigest xs → Every IsBytes xs
every-bytes [] h = tt
every-bytes (x ∷ xs) h = (h.0.1, every-bytes xs h.1)

-- the text of a sound seed is a list of bytes
pub sound-bytes : (s : Seed) → IsSound s → IsBytes (message s)
sound-bytes (System k) h = one-more-byte 0x01 (be32 k) (omega arith) (be32-bytes k)
sound-bytes (Start r s) h = one-more-byte 0x02 (r ++ s) (omega arith) (append-bytes r s h.0.1 h.1)
sound-bytes (Split s i) h = one-more-byte 0x03 (s ++ be32 i) (omega arith) (append-bytes s (be32 i) h.0.1 (be32-bytes i))
sound-bytes (Body s) h = one-more-byte 0x04 s (omega arith) h.1
sound-bytes (Fresh s k) h = one-more-byte 0x05 (s ++ be32 k) (omega arith) (append-bytes s (be32 k) h.0.1 (be32-bytes k))
sound-bytes (Comm c xs n) h =
    one-more-byte 0x06 (c ++ rest_of xs n) (omega arith)
    (append-bytes c (rest_of xs n) h.0.1 (append-bytes (be32 (length xs)) (joined xs ++ be32 n) (be32-bytes (length xs)) (append-bytes (joined xs) (be32 n) (joined-bytes xs (every-bytes xs h.1.0)) (be32-bytes n))))

-- two sound seeds with one text are one seed
pub one-seed : (s u : Seed) → IsSound s → IsSound u → message s ≡ message u → s ≡ u
one-seed (System k) (System j) a b e = ap System (one-be32 k j a b cc)
one-seed (Start r s) (Start q t) a b e = let p = fields r q s t a.0 b.0 cc in cc (p.0, p.1)
one-seed (Split s i) (Split t j) a b e = let p = fields s t (be32 i) (be32 j) a.0 b.0 cc in cc (p.0, one-be32 i j a.1 b.1 p.1)
one-seed (Body s) (Body t) a b e = cc
one-seed (Fresh s i) (Fresh t j) a b e = let p = fields s t (be32 i) (be32 j) a.0 b.0 cc in cc (p.0, one-be32 i j a.1 b.1 p.1)
one-seed (Comm c xs n) (Comm d ys m) a b e =
    let p = fields c d (rest_of xs n) (rest_of ys m) a.0 b.0 cc in
    let q = one-rest xs ys n m a.1.0 b.1.0 a.1.1 b.1.1 p.1 in
    cc (p.0, q.0, q.1)
one-seed s u a b e = cc
