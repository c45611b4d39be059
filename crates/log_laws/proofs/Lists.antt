-- Equal lists with fronts of one length, bytes, and numbers of four and of eight bytes.
use Rattle.std.proofs.Common.{◌≡◌, ◌≤◌, ◌<◌, ℕ, zero, suc, ◌^◌, List, [], ◌∷◌, ◌++◌, length, get_or, replicate, refl, ap, sym, ◌∙◌, arith}
use Rattle.std.specs.Int.{w32, w64, from_be_bytes}
use Rattle.std.proofs.lemmas.Nat.{be_bytes_4, be_bytes_8}
use Rattle.std.proofs.lemmas.List.{length-replicate}
use Rattle.calculus.specs.Bytes.{be32, be64}
use Rattle.calculus.proofs.BytesLemmas.{to_be_bytes-be32, to_be_bytes-be64}
use Rattle.calculus.proofs.Tails.{length-be32, one-be32, length-be64, number, number-be64}
use Rattle.event_log.specs.Laws.{AreBytes}

-- fronts of one length of equal lists are equal, and so is what follows them
pub same-front : {A : Type 0} (x y r q : List A) → length x ≡ length y → x ++ r ≡ y ++ q → (x ≡ y) × (r ≡ q)
same-front [] [] r q l e = (refl, e)
same-front [] (b ∷ y) r q l e = absurd (omega (arith, l))
same-front (a ∷ x) [] r q l e = absurd (omega (arith, l))
same-front (a ∷ x) (b ∷ y) r q l e =
    let f : a ∷ (x ++ r) ≡ b ∷ (y ++ q) = e in
    let h : a ≡ b = cc f in
    let t : x ++ r ≡ y ++ q = cc f in
    let s = same-front x y r q (omega (arith, l)) t in
    (cc (h, s.0), s.1)

-- the longer of two fronts of equal lists goes on from the shorter
pub longer : {A : Type 0} (x y r q : List A) → length x ≤ length y → x ++ r ≡ y ++ q → (m : List A) × (y ≡ x ++ m) × (r ≡ m ++ q)
longer [] y r q l e = (y, refl, e)
longer (a ∷ x) [] r q l e = absurd (omega (arith, l))
longer (a ∷ x) (b ∷ y) r q l e =
    let f : a ∷ (x ++ r) ≡ b ∷ (y ++ q) = e in
    let h : a ≡ b = cc f in
    let t : x ++ r ≡ y ++ q = cc f in
    let s = longer x y r q (omega (arith, l)) t in
    (s.0, cc (h, s.1), s.2)

-- so many zeros
pub zeros : ℕ → List ℕ
zeros n = replicate n 0

pub length-zeros : (n : ℕ) → length (zeros n) ≡ n
unfolding zeros
length-zeros n = length-replicate n 0

bytes-same : (n : ℕ) → AreBytes (replicate n 0)
bytes-same zero = tt
bytes-same (suc n) = (omega arith, bytes-same n)

pub bytes-zeros : (n : ℕ) → AreBytes (zeros n)
unfolding zeros
bytes-zeros n = bytes-same n

pub bytes-append : (a b : List ℕ) → AreBytes a → AreBytes b → AreBytes (a ++ b)
bytes-append [] b h k = k
bytes-append (x ∷ a) b h k = (h.0, bytes-append a b h.1 k)

pub bytes-first : (a r : List ℕ) → AreBytes (a ++ r) → AreBytes a
bytes-first [] r h = tt
bytes-first (b ∷ a) r h = (h.0, bytes-first a r h.1)

pub bytes-rest : (a r : List ℕ) → AreBytes (a ++ r) → AreBytes r
bytes-rest [] r h = h
bytes-rest (b ∷ a) r h = bytes-rest a r h.1

bytes-at : (a : List ℕ) → AreBytes a → (i : ℕ) → get_or a i 0 < 256
bytes-at [] h i = omega arith
bytes-at (b ∷ a) h zero = h.0
bytes-at (b ∷ a) h (suc i) = bytes-at a h.1 i

bound-four : (a b c d : ℕ) → a < 256 → b < 256 → c < 256 → d < 256 → from_be_bytes w32 (a ∷ b ∷ c ∷ d ∷ []) < 2 ^ 32
bound-four a b c d p q r s = omega arith

-- four bytes are those of a number
pub four-is : (xs : List ℕ) → length xs ≡ 4 → AreBytes xs → (from_be_bytes w32 xs < 2 ^ 32) × (be32 (from_be_bytes w32 xs) ≡ xs)
four-is (a ∷ b ∷ c ∷ d ∷ []) l s =
    let xs = a ∷ b ∷ c ∷ d ∷ [] in
    let n = from_be_bytes w32 xs in
    let k = bytes-at xs s in
    let m : n < 2 ^ 32 = bound-four a b c d (k 0) (k 1) (k 2) (k 3) in
    (m, sym (to_be_bytes-be32 n m) ∙ be_bytes_4 xs n refl k refl)
four-is [] l s = absurd (omega (arith, l))
four-is (a ∷ []) l s = absurd (omega (arith, l))
four-is (a ∷ b ∷ []) l s = absurd (omega (arith, l))
four-is (a ∷ b ∷ c ∷ []) l s = absurd (omega (arith, l))
four-is (a ∷ b ∷ c ∷ d ∷ e ∷ xs) l s = absurd (omega (arith, l))

bound-eight : (a b c d e f g h : ℕ) → a < 256 → b < 256 → c < 256 → d < 256 → e < 256 → f < 256 → g < 256 → h < 256 → from_be_bytes w64 (a ∷ b ∷ c ∷ d ∷ e ∷ f ∷ g ∷ h ∷ []) < 2 ^ 64
bound-eight a b c d e f g h p q r s t u v w = omega arith

-- eight bytes are those of a number
pub eight-is : (xs : List ℕ) → length xs ≡ 8 → AreBytes xs → (from_be_bytes w64 xs < 2 ^ 64) × (be64 (from_be_bytes w64 xs) ≡ xs)
eight-is (a ∷ b ∷ c ∷ d ∷ e ∷ f ∷ g ∷ h ∷ []) l s =
    let xs = a ∷ b ∷ c ∷ d ∷ e ∷ f ∷ g ∷ h ∷ [] in
    let n = from_be_bytes w64 xs in
    let k = bytes-at xs s in
    let m : n < 2 ^ 64 = bound-eight a b c d e f g h (k 0) (k 1) (k 2) (k 3) (k 4) (k 5) (k 6) (k 7) in
    (m, sym (to_be_bytes-be64 n m) ∙ be_bytes_8 xs n refl k refl)
eight-is [] l s = absurd (omega (arith, l))
eight-is (a ∷ []) l s = absurd (omega (arith, l))
eight-is (a ∷ b ∷ []) l s = absurd (omega (arith, l))
eight-is (a ∷ b ∷ c ∷ []) l s = absurd (omega (arith, l))
eight-is (a ∷ b ∷ c ∷ d ∷ []) l s = absurd (omega (arith, l))
eight-is (a ∷ b ∷ c ∷ d ∷ e ∷ []) l s = absurd (omega (arith, l))
eight-is (a ∷ b ∷ c ∷ d ∷ e ∷ f ∷ []) l s = absurd (omega (arith, l))
eight-is (a ∷ b ∷ c ∷ d ∷ e ∷ f ∷ g ∷ []) l s = absurd (omega (arith, l))
eight-is (a ∷ b ∷ c ∷ d ∷ e ∷ f ∷ g ∷ h ∷ i ∷ xs) l s = absurd (omega (arith, l))

-- numbers of which the bytes stand at the front of equal lists are equal, and so is what follows
pub same-four : (m n : ℕ) (r q : List ℕ) → m < 2 ^ 32 → n < 2 ^ 32 → be32 m ++ r ≡ be32 n ++ q → (m ≡ n) × (r ≡ q)
same-four m n r q h k e =
    let s = same-front (be32 m) (be32 n) r q (length-be32 m ∙ sym (length-be32 n)) e in
    (one-be32 m n h k s.0, s.1)

pub same-eight : (m n : ℕ) (r q : List ℕ) → m < 2 ^ 64 → n < 2 ^ 64 → be64 m ++ r ≡ be64 n ++ q → (m ≡ n) × (r ≡ q)
same-eight m n r q h k e =
    let s = same-front (be64 m) (be64 n) r q (length-be64 m ∙ sym (length-be64 n)) e in
    (sym (number-be64 m h) ∙ ap (number 0) s.0 ∙ number-be64 n k, s.1)

-- the bytes of 0
pub bytes-none_32 : AreBytes (be32 0)
unfolding be32
bytes-none_32 = (omega arith, (omega arith, (omega arith, (omega arith, tt))))

pub bytes-none_64 : AreBytes (be64 0)
unfolding be64
bytes-none_64 = (omega arith, (omega arith, (omega arith, (omega arith, (omega arith, (omega arith, (omega arith, (omega arith, tt))))))))
