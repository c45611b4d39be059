-- What strings, Uris, fresh names and byte arrays hold.
use Rattle.std.proofs.Common.{◌≡◌, ℕ, ◌+◌, ◌*◌, ◌-◌, ◌/◌, ◌%◌, ◌<◌, List, [], ◌∷◌, length, true, false, cond, refl, ap, ◌∙◌, subst, arith}
use Rattle.std.specs.Prelude.{◌&&◌, ◌||◌, ◌==◌, leb, nat_lt, Contains, IsUtf8, Option, Some, None, codes}
use Rattle.std.specs.List.{list_any}
use Rattle.std.specs.Str.{bytes_eq, encode_utf8_all}
use Rattle.std.proofs.Math.Utf8.{encode, scalars}
use Rattle.std.proofs.lemmas.Bool.{and_parts, cond_both, leb-true, ltb-true}
use Rattle.std.proofs.lemmas.List.Elements.{All-cons, All-nil, All-append}
use Rattle.std.proofs.lemmas.List.Folds.{list_any_at, list_any-append}
use Rattle.calculus.proofs.Counting.{bytes_self}
use Rattle.calculus.specs.Form.{IsBytes}
use Rattle.calculus.specs.Form.{keys as key_words}
use Rattle.calculus.specs.Texts.{digit, with_digits, from_hex}
use Rattle.tokens.specs.Tables.{keys, is_among}

-- a byte
abbrev Small : ℕ → Type 0
Small b = b < 256

one-byte : (a : ℕ) (bs : List ℕ) → a < 256 → IsBytes bs → IsBytes (a ∷ bs)
one-byte a bs h k = All-cons Small a bs h k

no-bytes : IsBytes []
no-bytes = All-nil Small

next-byte : (n : ℕ) → 128 + n % 64 < 256
next-byte n = omega arith

lead-byte : (c : ℕ) → c < 1114112 → 240 + c / 262144 < 256
lead-byte c h = omega (arith, h)

two-bytes : (a b : ℕ) → a < 256 → b < 256 → IsBytes (a ∷ b ∷ [])
two-bytes a b h k = one-byte a (b ∷ []) h (one-byte b [] k no-bytes)

three-bytes : (a b c : ℕ) → a < 256 → b < 256 → c < 256 → IsBytes (a ∷ b ∷ c ∷ [])
three-bytes a b c h k l = one-byte a (b ∷ c ∷ []) h (two-bytes b c k l)

encoded-bytes : (c : ℕ) → c < 1114112 → IsBytes (encode c)
unfolding encode
encoded-bytes c h =
    let x = 128 + c % 64 in
    let y = 128 + c / 64 % 64 in
    let z = 128 + c / 4096 % 64 in
    cond_both (nat_lt c 128) (c ∷ []) _ IsBytes
    (λ e. one-byte c [] (omega (arith, ltb-true c 128 e)) no-bytes)
    (λ e. cond_both (nat_lt c 2048) ((192 + c / 64) ∷ x ∷ []) _ IsBytes
    (λ f. two-bytes (192 + c / 64) x (omega (arith, ltb-true c 2048 f)) (next-byte c))
    (λ f. cond_both (nat_lt c 65536) ((224 + c / 4096) ∷ y ∷ x ∷ []) ((240 + c / 262144) ∷ z ∷ y ∷ x ∷ []) IsBytes
    (λ g. three-bytes (224 + c / 4096) y x (omega (arith, ltb-true c 65536 g)) (next-byte (c / 64)) (next-byte c))
    (λ g. one-byte (240 + c / 262144) (z ∷ y ∷ x ∷ []) (lead-byte c h) (three-bytes z y x (next-byte (c / 4096)) (next-byte (c / 64)) (next-byte c)))))

scalar-small : (c : ℕ) → cond (nat_lt c 55296) true (leb 57344 c && nat_lt c 1114112) ≡ true → c < 1114112
scalar-small c =
    cond_both (nat_lt c 55296) true (leb 57344 c && nat_lt c 1114112) (λ b. b ≡ true → c < 1114112)
    (λ e h. omega (arith, ltb-true c 55296 e))
    (λ e h. ltb-true c 1114112 (and_parts (leb 57344 c) (nat_lt c 1114112) h).1)

characters-bytes : (cs : List ℕ) → scalars cs ≡ true → IsBytes (encode_utf8_all cs)
characters-bytes [] h = no-bytes
characters-bytes (c ∷ cs) h =
    All-append Small (encode c) (encode_utf8_all cs) (encoded-bytes c (scalar-small c (and_parts _ (scalars cs) h).0)) (characters-bytes cs (and_parts _ (scalars cs) h).1)

-- UTF-8 is bytes
pub utf8-bytes : (bs : List ℕ) → IsUtf8 bs → IsBytes bs
utf8-bytes bs h = subst IsBytes h.1.1 (characters-bytes h.0 h.1.0)

below : (n a : ℕ) → Some n ≡ Some a → n < 16 → a < 16
below n a h k = let e : n ≡ a = cc in subst (λ m. m < 16) e k

-- a digit is below 16
digit-below : (c a : ℕ) → digit c ≡ Some a → a < 16
digit-below c =
    cond_both (leb 48 c && leb c 57) (Some (c - 48)) (cond (leb 97 c && leb c 102) (Some (c - 87)) (cond (leb 65 c && leb c 70) (Some (c - 55)) None)) (λ o. (a : ℕ) → o ≡ Some a → a < 16)
    (λ e a h. below (c - 48) a h (omega (arith, leb-true c 57 (and_parts (leb 48 c) (leb c 57) e).1)))
    (λ _. cond_both (leb 97 c && leb c 102) (Some (c - 87)) (cond (leb 65 c && leb c 70) (Some (c - 55)) None) (λ o. (a : ℕ) → o ≡ Some a → a < 16)
    (λ e a h. below (c - 87) a h (omega (arith, leb-true c 102 (and_parts (leb 97 c) (leb c 102) e).1)))
    (λ _. cond_both (leb 65 c && leb c 70) (Some (c - 55)) None (λ o. (a : ℕ) → o ≡ Some a → a < 16)
    (λ e a h. below (c - 55) a h (omega (arith, leb-true c 70 (and_parts (leb 65 c) (leb c 70) e).1)))
    (λ _ a h. cc)))

-- two digits before bytes
digits-made : (o p : Option ℕ) (q : Option (List ℕ)) (bs : List ℕ) → with_digits o p q ≡ Some bs → (x : ℕ) × ((y : ℕ) × ((zs : List ℕ) × ((o ≡ Some x) × ((p ≡ Some y) × ((q ≡ Some zs) × ((x * 16 + y) ∷ zs ≡ bs))))))
digits-made None p q bs h = cc
digits-made (Some x) None q bs h = cc
digits-made (Some x) (Some y) None bs h = cc
digits-made (Some x) (Some y) (Some zs) bs h = (x, (y, (zs, (refl, (refl, (refl, cc))))))

-- what digits spell is bytes, half as many
pub hex-bytes : (cs bs : List ℕ) → from_hex cs ≡ Some bs → IsBytes bs × (length bs + length bs ≡ length cs)
hex-bytes [] [] h = (no-bytes, refl)
hex-bytes [] (b ∷ bs) h = cc
hex-bytes (a ∷ []) bs h = cc
hex-bytes (a ∷ b ∷ cs) bs h =
    let m = digits-made (digit a) (digit b) (from_hex cs) bs h in
    let x = m.0 in
    let y = m.1.0 in
    let zs = m.1.1.0 in
    let k = hex-bytes cs zs m.1.1.1.1.1.0 in
    let small : x * 16 + y < 256 = omega (arith, digit-below a x m.1.1.1.0, digit-below b y m.1.1.1.1.0) in
    let whole : IsBytes ((x * 16 + y) ∷ zs) × (length ((x * 16 + y) ∷ zs) + length ((x * 16 + y) ∷ zs) ≡ length (a ∷ b ∷ cs)) = (one-byte (x * 16 + y) zs small k.0, omega (arith, k.1)) in
    subst (λ ws. IsBytes ws × (length ws + length ws ≡ length (a ∷ b ∷ cs))) m.1.1.1.1.1.1 whole

-- a Uri has no back quote
pub no-back-quote : (u : List ℕ) → list_any (λ b. b == 96) u ≡ false → Contains u 96 → ⊥
no-back-quote u h c = let e = list_any_at (λ b. b == 96) u c.0 96 c.1 (ap (λ b. b == 96) c.2) in cc

-- the keys of processes are among those of texts
key-among : (w : List ℕ) → Contains key_words w → is_among keys w ≡ true
unfolding keys
key-among w c =
    let e = list_any_at (λ row. bytes_eq row w) key_words c.0 w c.1 (ap (λ row. bytes_eq row w) c.2 ∙ bytes_self w) in
    list_any-append (λ row. bytes_eq row w) key_words (codes "bundle+" ∷ codes "bundle-" ∷ []) ∙ ap (λ b. b || list_any (λ row. bytes_eq row w) (codes "bundle+" ∷ codes "bundle-" ∷ [])) e

pub no-key : (w : List ℕ) → is_among keys w ≡ false → Contains key_words w → ⊥
no-key w h c = let e = key-among w c in cc
