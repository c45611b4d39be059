-- Hexadecimal digits.
use Rattle.std.proofs.Common.{◌≡◌, ℕ, zero, suc, ◌+◌, ◌-◌, ◌*◌, ◌/◌, ◌%◌, ◌<◌, ◌≤◌, Bool, true, false, cond, leb, ◌&&◌, List, [], ◌∷◌, IsUtf8, IsAscii, Option, Some, None, refl, arith}
use Rattle.std.specs.Prelude.{⊤}
use Rattle.std.proofs.lemmas.Bool.{and_parts, leb-true}
use Rattle.std.proofs.lemmas.Nat.{div-add-mod'}
use Rattle.std.proofs.lemmas.List.Elements.{All-cons, All-nil, All-head, All-tail}
use Rattle.std.proofs.lemmas.Str.{IsUtf8-from_ascii}
use Rattle.calculus.specs.Form.{IsBytes}
use Rattle.calculus.specs.Texts.{digit, with_digits, from_hex, hex_digit, to_hex}

abbrev IsByte : ℕ → Type 0
IsByte b = b < 256

abbrev pub BytesIf : Option (List ℕ) → Type 0
BytesIf (Some bs) = IsBytes bs
BytesIf None = ⊤

abbrev Below : Option ℕ → Type 0
Below (Some d) = d < 16
Below None = ⊤

by-test : (b : Bool) (x y : Option ℕ) → (b ≡ true → Below x) → Below y → Below (cond b x y)
by-test true x y f g = f refl
by-test false x y f g = g

in-range : (a b c : ℕ) → leb a c && leb c b ≡ true → (a ≤ c) × (c ≤ b)
in-range a b c e = let h = and_parts (leb a c) (leb c b) e in (leb-true a c h.0, leb-true c b h.1)

digit-below : (c : ℕ) → Below (digit c)
digit-below c =
    by-test (leb 0x30 c && leb c 0x39) (Some (c - 0x30)) (cond (leb 0x61 c && leb c 0x66) (Some (c - 0x57)) (cond (leb 0x41 c && leb c 0x46) (Some (c - 0x37)) None))
    (λ e. let h = in-range 0x30 0x39 c e in omega (arith, h.0, h.1))
    (by-test (leb 0x61 c && leb c 0x66) (Some (c - 0x57)) (cond (leb 0x41 c && leb c 0x46) (Some (c - 0x37)) None)
    (λ e. let h = in-range 0x61 0x66 c e in omega (arith, h.0, h.1))
    (by-test (leb 0x41 c && leb c 0x46) (Some (c - 0x37)) None
    (λ e. let h = in-range 0x41 0x46 c e in omega (arith, h.0, h.1))
    tt))

with-digits-bytes : (x y : Option ℕ) (z : Option (List ℕ)) → Below x → Below y → BytesIf z → BytesIf (with_digits x y z)
with-digits-bytes (Some a) (Some b) (Some bs) h k l = All-cons IsByte (a * 16 + b) bs (omega (arith, h, k)) l
with-digits-bytes _ _ _ h k l = tt

pub from-hex-bytes : (s : List ℕ) → BytesIf (from_hex s)
from-hex-bytes [] = All-nil IsByte
from-hex-bytes (a ∷ []) = tt
from-hex-bytes (a ∷ b ∷ cs) = with-digits-bytes (digit a) (digit b) (from_hex cs) (digit-below a) (digit-below b) (from-hex-bytes cs)

hex-digit-ascii : (n : ℕ) → n < 16 → hex_digit n < 128
hex-digit-ascii n h = elim (leb n 9) as (λ (b : Bool). cond b (n + 0x30) (n + 0x57) < 128) [ true ↦ omega (arith, h) | false ↦ omega (arith, h) ]

small : (n : ℕ) → n < 16 → hex_digit n < 256
small n h = omega (arith, hex-digit-ascii n h)

sixteenth : (b : ℕ) → b < 256 → b / 16 < 16
sixteenth b h = omega (arith, h, div-add-mod' b 16)

pub to-hex-ascii : (bs : List ℕ) → IsBytes bs → IsAscii (to_hex bs)
to-hex-ascii [] h i = omega arith
to-hex-ascii (b ∷ bs) h zero = hex-digit-ascii (b / 16) (sixteenth b (All-head IsByte b bs h))
to-hex-ascii (b ∷ bs) h (suc zero) = hex-digit-ascii (b % 16) (omega arith)
to-hex-ascii (b ∷ bs) h (suc (suc i)) = to-hex-ascii bs (All-tail IsByte b bs h) i

pub to-hex-utf8 : (bs : List ℕ) → IsBytes bs → IsUtf8 (to_hex bs)
to-hex-utf8 bs h = IsUtf8-from_ascii (to_hex bs) (to-hex-ascii bs h)

pub to-hex-bytes : (bs : List ℕ) → IsBytes bs → IsBytes (to_hex bs)
to-hex-bytes [] h = All-nil IsByte
to-hex-bytes (b ∷ bs) h =
    All-cons IsByte (hex_digit (b / 16)) (hex_digit (b % 16) ∷ to_hex bs) (omega (arith, hex-digit-ascii (b / 16) (sixteenth b (All-head IsByte b bs h))))
    (All-cons IsByte (hex_digit (b % 16)) (to_hex bs) (small (b % 16) (omega arith)) (to-hex-bytes bs (All-tail IsByte b bs h)))
