-- Half bytes of keys.
use Rattle.std.proofs.Common.{◌≡◌, ℕ, zero, suc, ◌*◌, ◌/◌, ◌%◌, ◌<◌, ◌≤◌, Bool, true, false, List, [], ◌∷◌, length, get_or, refl, ap, sym, ◌∙◌, arith}
use Rattle.std.specs.Prelude.{eqb}
use Rattle.std.specs.Str.{bytes_eq}
use Rattle.std.proofs.lemmas.Bool.{eqb-true, eqb-false}
use Rattle.calculus.specs.Root.{halves}
use Rattle.radix_root.specs.Leaves.{Leaves, half_of}
use Rattle.radix_root.specs.Nodes.{AllHalf, Shares, AllShare}
use Rattle.radix_root.proofs.Found.{equal, keys-both}

high-half : (bs : List ℕ) (m : ℕ) → get_or (halves bs) (2 * m) 0 ≡ get_or bs m 0 / 16
high-half [] m = refl
high-half (b ∷ bs) zero = refl
high-half (b ∷ bs) (suc m) =
    let e : 2 * suc m ≡ suc (suc (2 * m)) = omega arith in
    ap (λ n. get_or (halves (b ∷ bs)) n 0) e ∙ high-half bs m

low-half : (bs : List ℕ) (m : ℕ) → get_or (halves bs) (suc (2 * m)) 0 ≡ get_or bs m 0 % 16
low-half [] m = refl
low-half (b ∷ bs) zero = refl
low-half (b ∷ bs) (suc m) =
    let e : suc (2 * suc m) ≡ suc (suc (suc (2 * m))) = omega arith in
    ap (λ n. get_or (halves (b ∷ bs)) n 0) e ∙ low-half bs m

-- the half byte at an even place
pub even-half : (bs : List ℕ) (n : ℕ) → n % 2 ≡ 0 → get_or bs (n / 2) 0 / 16 ≡ get_or (halves bs) n 0
even-half bs n e =
    let f : 2 * (n / 2) ≡ n = omega arith in
    sym (high-half bs (n / 2)) ∙ ap (λ m. get_or (halves bs) m 0) f

-- the half byte at an odd place
pub odd-half : (bs : List ℕ) (n : ℕ) → (n % 2 ≡ 0 → ⊥) → get_or bs (n / 2) 0 % 16 ≡ get_or (halves bs) n 0
odd-half bs n e =
    let f : suc (2 * (n / 2)) ≡ n = omega arith in
    sym (low-half bs (n / 2)) ∙ ap (λ m. get_or (halves bs) m 0) f

-- keys with one more half byte in common
pub shares-more : (d : ℕ) (k l : List ℕ) → Shares d k l → half_of d l ≡ half_of d k → Shares (suc d) k l
shares-more d k l s e i m = go (eqb i d) refl
  where
    go : (b : Bool) → eqb i d ≡ b → half_of i l ≡ half_of i k
    go true t = ap (λ j. half_of j l) (eqb-true i d t) ∙ e ∙ sym (ap (λ j. half_of j k) (eqb-true i d t))
    go false t = let n : i ≡ d → ⊥ = eqb-false i d t in s i (omega (arith, m, n))

pub all-share-more : (d : ℕ) (k : List ℕ) (ls : Leaves) → AllShare d k ls → AllHalf d (half_of d k) ls → AllShare (suc d) k ls
all-share-more d k ls a h = keys-both (Shares d k) (λ l. half_of d l ≡ half_of d k) (Shares (suc d) k) (shares-more d k) ls a h

bytes-same : (xs ys : List ℕ) → length xs ≡ length ys → ((i : ℕ) → i < 2 * length xs → get_or (halves xs) i 0 ≡ get_or (halves ys) i 0) → xs ≡ ys
bytes-same [] [] e h = refl
bytes-same [] (y ∷ ys) e h = absurd (omega (arith, e))
bytes-same (x ∷ xs) [] e h = absurd (omega (arith, e))
bytes-same (x ∷ xs) (y ∷ ys) e h =
    let high : x / 16 ≡ y / 16 = h 0 (omega arith) in
    let low : x % 16 ≡ y % 16 = h 1 (omega arith) in
    let one : x ≡ y = omega (arith, high, low) in
    ap (λ z. z ∷ xs) one ∙ ap (λ zs. y ∷ zs) (bytes-same xs ys (omega (arith, e)) (λ i l. h (suc (suc i)) (omega (arith, l))))

-- two keys part before their 64 half bytes end
pub apart-below : (d : ℕ) (own key : List ℕ) → d ≤ 64 → length own ≡ 32 → length key ≡ 32 → bytes_eq own key ≡ false → Shares d key own → d < 64
apart-below d own key l m n b s = go (eqb d 64) refl
  where
    go : (c : Bool) → eqb d 64 ≡ c → d < 64
    go true t =
        let same : own ≡ key = bytes-same own key (m ∙ sym n) (λ i h. s i (omega (arith, h, m, eqb-true d 64 t))) in
        cc (b, equal own key same)
    go false t = let e : d ≡ 64 → ⊥ = eqb-false d 64 t in omega (arith, l, e)
