-- Characters, hexadecimal digits and decimal digits of texts, which are lists of UTF-8 bytes.
use Rattle.std.specs.Prelude.{ℕ, ◌+◌, ◌-◌, ◌*◌, ◌/◌, ◌%◌, Bool, cond, leb, ◌&&◌, List, [], ◌∷◌, Option, Some, None}

-- whether a byte goes on with a character
abbrev pub goes_on : ℕ → Bool
goes_on b = leb 0x80 b && leb b 0xBF

-- a byte before the characters of what follows it: it joins the first one where that begins inside a character
abbrev pub with_byte : ℕ → List (List ℕ) → List (List ℕ)
with_byte b [] = (b ∷ []) ∷ []
with_byte b ([] ∷ cs) = (b ∷ []) ∷ cs
with_byte b ((c ∷ bs) ∷ cs) = cond (goes_on c) ((b ∷ c ∷ bs) ∷ cs) ((b ∷ []) ∷ (c ∷ bs) ∷ cs)

-- the characters of a text, each as its bytes
abbrev pub characters : List ℕ → List (List ℕ)
characters [] = []
characters (b ∷ bs) = with_byte b (characters bs)

-- the number that a hexadecimal digit of either case stands for
abbrev pub digit : ℕ → Option ℕ
digit c = cond (leb 0x30 c && leb c 0x39) (Some (c - 0x30)) (cond (leb 0x61 c && leb c 0x66) (Some (c - 0x57)) (cond (leb 0x41 c && leb c 0x46) (Some (c - 0x37)) None))

-- a byte of two digits before the bytes of what follows it
abbrev pub with_digits : Option ℕ → Option ℕ → Option (List ℕ) → Option (List ℕ)
with_digits (Some a) (Some b) (Some bs) = Some ((a * 16 + b) ∷ bs)
with_digits _ _ _ = None

-- the bytes that an even number of digits spells
abbrev pub from_hex : List ℕ → Option (List ℕ)
from_hex [] = Some []
from_hex (a ∷ []) = None
from_hex (a ∷ b ∷ cs) = with_digits (digit a) (digit b) (from_hex cs)

-- the lower case digit of a number below 16
abbrev pub hex_digit : ℕ → ℕ
hex_digit n = cond (leb n 9) (n + 0x30) (n + 0x57)

-- two lower case digits for each byte
abbrev pub to_hex : List ℕ → List ℕ
to_hex [] = []
to_hex (b ∷ bs) = hex_digit (b / 16) ∷ hex_digit (b % 16) ∷ to_hex bs
