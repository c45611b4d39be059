-- UTF-8 that is cut within a character.
use Rattle.std.proofs.Common.{◌≡◌, ◌⊎◌, ℕ, ◌+◌, ◌-◌, ◌*◌, ◌/◌, ◌%◌, ◌<◌, ◌≤◌, true, false, List, [], ◌∷◌, ◌++◌, take, drop, length, IsUtf8, refl, sym, ap, subst, le-ltb, lt-ltb, ◌∙◌, arith, inl, inr, ⊎_elim, append_assoc, length-append, length-drop, take-append-drop}
use Rattle.std.proofs.lemmas.List.{take-append-le, drop-append-le, length-take-le, take_at}
use Rattle.std.specs.Prelude.{None}
use Rattle.std.specs.Char.{IsScalar, encode_utf8}
use Rattle.std.specs.Str.{encode_utf8_all, IsValidUpTo}
use Rattle.std.specs.Str.Lossy.{second_byte_min, second_byte_max, utf8_error_len}
use Rattle.std.proofs.lemmas.Bool.{cases_lt, cond-true, cond-false, and_parts}
use Rattle.std.proofs.lemmas.Bool.Decides.{nat_tests}
use Rattle.std.proofs.lemmas.Str.{IsUtf8-append, IsUtf8-encode, IsUtf8-drop, IsCharBoundary-from_take, length-encode, len_utf8_bounds}
use lib.Dec.{ltb}
use lib.Utf8.{scalar, scalars, scalar_cases, low_scalar}
use Rattle.code_faults.specs.Texts.{character_len, IsClear}

-- bytes that may begin a character and end within it
none-one : (x : ℕ) → 0xC2 ≤ x → x ≤ 0xF4 → utf8_error_len (x ∷ []) ≡ None
unfolding utf8_error_len
none-one x p q = grind (arith, nat_tests)

none-two : (x y : ℕ) → 0xC2 ≤ x → x ≤ 0xF4 → second_byte_min x ≤ y → y ≤ second_byte_max x → utf8_error_len (x ∷ y ∷ []) ≡ None
unfolding utf8_error_len
none-two x y p q r s = grind (arith, nat_tests)

none-three : (x y z : ℕ) → 0xC2 ≤ x → x ≤ 0xF4 → second_byte_min x ≤ y → y ≤ second_byte_max x → 0x80 ≤ z → z ≤ 0xBF → utf8_error_len (x ∷ y ∷ z ∷ []) ≡ None
unfolding utf8_error_len
none-three x y z p q r s t u = grind (arith, nat_tests)

-- a term of the type given
abbrev by : (A : Type 0) → A → A
by A a = a

-- the bytes of a character, by their number
pub shape : (c : ℕ) → (P : List ℕ → Type 0)
    → (c < 128 → P (c ∷ []))
    → (128 ≤ c → c < 2048 → P ((192 + c / 64) ∷ (128 + c % 64) ∷ []))
    → (2048 ≤ c → c < 65536 → P ((224 + c / 4096) ∷ (128 + (c / 64) % 64) ∷ (128 + c % 64) ∷ []))
    → (65536 ≤ c → P ((240 + c / 262144) ∷ (128 + (c / 4096) % 64) ∷ (128 + (c / 64) % 64) ∷ (128 + c % 64) ∷ []))
    → P (encode_utf8 c)
unfolding encode_utf8
shape c P p q r t = ⊎_elim
    (λ one. subst P (sym (cond-true _ _ _ (by (ltb c 128 ≡ true) (grind (arith, nat_tests))))) (p one))
    (λ more.
    let not_one : ltb c 128 ≡ false = grind (arith, nat_tests) in
    ⊎_elim
    (λ two. subst P (sym (cond-false _ _ _ not_one ∙ cond-true _ _ _ (by (ltb c 2048 ≡ true) (grind (arith, nat_tests))))) (q more two))
    (λ wide.
    let not_two : ltb c 2048 ≡ false = grind (arith, nat_tests) in
    ⊎_elim
    (λ three. subst P (sym (cond-false _ _ _ not_one ∙ cond-false _ _ _ not_two ∙ cond-true _ _ _ (by (ltb c 65536 ≡ true) (grind (arith, nat_tests))))) (r wide three))
    (λ four.
    let not_three : ltb c 65536 ≡ false = grind (arith, nat_tests) in
    subst P (sym (cond-false _ _ _ not_one ∙ cond-false _ _ _ not_two ∙ cond-false _ _ _ not_three)) (t four))
    (cases_lt c 65536))
    (cases_lt c 2048))
    (cases_lt c 128)

-- a lead byte says how many bytes there are
lead-two : (x : ℕ) (xs : List ℕ) → 0x80 ≤ x → x < 0xE0 → character_len (x ∷ xs) ≡ 2
lead-two x xs p q = grind (arith, nat_tests)

lead-three : (x : ℕ) (xs : List ℕ) → 0xE0 ≤ x → x < 0xF0 → character_len (x ∷ xs) ≡ 3
lead-three x xs p q = grind (arith, nat_tests)

lead-four : (x : ℕ) (xs : List ℕ) → 0xF0 ≤ x → character_len (x ∷ xs) ≡ 4
lead-four x xs p = grind (arith, nat_tests)

second-least : (x y : ℕ) → 0x80 ≤ y → (x ≡ 0xE0 → 0xA0 ≤ y) → (x ≡ 0xF0 → 0x90 ≤ y) → second_byte_min x ≤ y
second-least x y p q r = grind (arith, nat_tests)

second-most : (x y : ℕ) → y ≤ 0xBF → (x ≡ 0xED → y ≤ 0x9F) → (x ≡ 0xF4 → y ≤ 0x8F) → y ≤ second_byte_max x
second-most x y p q r = grind (arith, nat_tests)

head_same : (x y : ℕ) (xs ys : List ℕ) → x ∷ xs ≡ y ∷ ys → (x ≡ y) × (xs ≡ ys)
head_same x y xs ys e = (cc, cc)

-- what a character that is cut is like: so many bytes make it whole
abbrev IsCut : List ℕ → ℕ → Type 0
IsCut rest n = (utf8_error_len rest ≡ None) × (character_len rest ≡ n)

cut-two : (b d : ℕ) (rest more : List ℕ) → 0xC2 ≤ b → b < 0xE0 → rest ++ more ≡ b ∷ d ∷ [] → 0 < length rest → 0 < length more → IsCut rest 2
cut-two b d [] more p q e s m = absurd (omega arith)
cut-two b d (x ∷ []) more p q e s m =
    let h = head_same x b more (d ∷ []) e in
    (none-one x (omega (arith, h.0)) (omega (arith, h.0)), lead-two x [] (omega (arith, h.0)) (omega (arith, h.0)))
cut-two b d (x ∷ y ∷ zs) more p q e s m = absurd (omega (arith, ap length e, length-append zs more))

cut-three : (b d f : ℕ) (rest more : List ℕ) → 0xE0 ≤ b → b < 0xF0 → second_byte_min b ≤ d → d ≤ second_byte_max b → rest ++ more ≡ b ∷ d ∷ f ∷ []
    → 0 < length rest → 0 < length more → IsCut rest 3
cut-three b d f [] more p q u w e s m = absurd (omega arith)
cut-three b d f (x ∷ []) more p q u w e s m =
    let h = head_same x b more (d ∷ f ∷ []) e in
    (none-one x (omega (arith, h.0)) (omega (arith, h.0)), lead-three x [] (omega (arith, h.0)) (omega (arith, h.0)))
cut-three b d f (x ∷ y ∷ []) more p q u w e s m =
    let h = head_same x b (y ∷ more) (d ∷ f ∷ []) e in
    let k = head_same y d more (f ∷ []) h.1 in
    (none-two x y (omega (arith, h.0)) (omega (arith, h.0)) (rw (h.0, k.0) u) (rw (h.0, k.0) w), lead-three x (y ∷ []) (omega (arith, h.0)) (omega (arith, h.0)))
cut-three b d f (x ∷ y ∷ z ∷ zs) more p q u w e s m = absurd (omega (arith, ap length e, length-append zs more))

cut-four : (b d f g : ℕ) (rest more : List ℕ) → 0xF0 ≤ b → b ≤ 0xF4 → second_byte_min b ≤ d → d ≤ second_byte_max b → 0x80 ≤ f → f ≤ 0xBF → rest ++ more ≡ b ∷ d ∷ f ∷ g ∷ []
    → 0 < length rest → 0 < length more → IsCut rest 4
cut-four b d f g [] more p q u w i j e s m = absurd (omega arith)
cut-four b d f g (x ∷ []) more p q u w i j e s m =
    let h = head_same x b more (d ∷ f ∷ g ∷ []) e in
    (none-one x (omega (arith, h.0)) (omega (arith, h.0)), lead-four x [] (omega (arith, h.0)))
cut-four b d f g (x ∷ y ∷ []) more p q u w i j e s m =
    let h = head_same x b (y ∷ more) (d ∷ f ∷ g ∷ []) e in
    let k = head_same y d more (f ∷ g ∷ []) h.1 in
    (none-two x y (omega (arith, h.0)) (omega (arith, h.0)) (rw (h.0, k.0) u) (rw (h.0, k.0) w), lead-four x (y ∷ []) (omega (arith, h.0)))
cut-four b d f g (x ∷ y ∷ z ∷ []) more p q u w i j e s m =
    let h = head_same x b (y ∷ z ∷ more) (d ∷ f ∷ g ∷ []) e in
    let k = head_same y d (z ∷ more) (f ∷ g ∷ []) h.1 in
    let l = head_same z f more (g ∷ []) k.1 in
    (none-three x y z (omega (arith, h.0)) (omega (arith, h.0)) (rw (h.0, k.0) u) (rw (h.0, k.0) w) (omega (arith, l.0)) (omega (arith, l.0)), lead-four x (y ∷ z ∷ []) (omega (arith, h.0)))
cut-four b d f g (x ∷ y ∷ z ∷ w ∷ ws) more p q u v i j e s m = absurd (omega (arith, ap length e, length-append ws more))

-- the bytes of a character that are cut
pub cut-facts : (c : ℕ) (rest more : List ℕ) → IsScalar c → rest ++ more ≡ encode_utf8 c → 0 < length rest → 0 < length more → IsCut rest (length (encode_utf8 c))
cut-facts c rest more is e s m =
    let range = scalar_cases c is in
    let apart : (c < 55296) ⊎ (57344 ≤ c) = ⊎_elim (λ low. inl low) (λ high. inr high.0) range in
    let top : c < 1114112 = ⊎_elim (λ low. omega arith) (λ high. high.1) range in
    shape c (λ bs. rest ++ more ≡ bs → IsCut rest (length bs))
    (λ one e. absurd (omega (arith, ap length e, length-append rest more)))
    (λ low high e. cut-two (192 + c / 64) (128 + c % 64) rest more (omega arith) (omega arith) e s m)
    (λ low high e. cut-three (224 + c / 4096) (128 + (c / 64) % 64) (128 + c % 64) rest more (omega arith) (omega arith)
    (second-least (224 + c / 4096) (128 + (c / 64) % 64) (omega arith) (λ k. omega arith) (λ k. omega arith))
    (second-most (224 + c / 4096) (128 + (c / 64) % 64) (omega arith) (λ k. ⊎_elim (λ low. omega arith) (λ high. omega arith) apart) (λ k. omega arith)) e s m)
    (λ low e. cut-four (240 + c / 262144) (128 + (c / 4096) % 64) (128 + (c / 64) % 64) (128 + c % 64) rest more (omega arith) (omega arith)
    (second-least (240 + c / 262144) (128 + (c / 4096) % 64) (omega arith) (λ k. omega arith) (λ k. omega arith))
    (second-most (240 + c / 262144) (128 + (c / 4096) % 64) (omega arith) (λ k. omega arith) (λ k. omega arith)) (omega arith) (omega arith) e s m)
    e

-- the bytes that a shorter front lacks
pub record More (bs x : List ℕ) : Type 0 where
  pub more : List ℕ
  pub is : x ≡ bs ++ more

more : (bs x a z : List ℕ) → length bs ≤ length x → bs ++ a ≡ x ++ z → More bs x
more [] x a z l e = record { more = x; is = refl }
more (b ∷ bs) [] a z l e = absurd (omega arith)
more (b ∷ bs) (c ∷ x) a z l e =
    let p = head_same b c (bs ++ a) (x ++ z) e in
    let m = more bs x a z (omega arith) p.1 in
    record { more = m.more; is = ap (λ (k : ℕ). k ∷ x) (sym p.0) ∙ ap (λ (k : List ℕ). b ∷ k) m.is }

-- bytes that begin a character and end within it
pub record Begins (rest : List ℕ) (room : ℕ) : Type 0 where
  pub character : ℕ
  pub scalar : IsScalar character
  pub more : List ℕ
  pub is : encode_utf8 character ≡ rest ++ more
  pub some : 0 < length more
  pub fits : length (encode_utf8 character) ≤ room

-- no character ends where the longest front of characters has no more of them
no-whole : (bs : List ℕ) (v c : ℕ) (m : List ℕ) → IsValidUpTo bs v → IsScalar c → 0 < length (encode_utf8 c) → drop v bs ≡ encode_utf8 c ++ m → ⊥
no-whole bs v c m h s l e =
    let n = length (encode_utf8 c) in
    let k : length (take v bs) ≡ v = length-take-le v bs (omega (arith, h.short)) in
    let whole : bs ≡ (take v bs ++ encode_utf8 c) ++ m = sym (take-append-drop v bs) ∙ ap (λ (z : List ℕ). take v bs ++ z) e ∙ sym (append_assoc (take v bs) (encode_utf8 c) m) in
    let front : take (v + n) bs ≡ take v bs ++ encode_utf8 c = ap (take (v + n)) whole ∙ take_at (take v bs ++ encode_utf8 c) m (v + n) (omega (arith, length-append (take v bs) (encode_utf8 c), k)) in
    h.longest (v + n) (omega arith) (subst IsUtf8 (sym front) (IsUtf8-append (take v bs) (encode_utf8 c) h.front (IsUtf8-encode c s)))

begins-by : (bs x : List ℕ) (v : ℕ) (cs : List ℕ) → IsValidUpTo bs v → scalars cs ≡ true → encode_utf8_all cs ≡ drop v bs ++ x → Begins (drop v bs) (length (drop v bs ++ x))
begins-by bs x v [] h s e = absurd (omega (arith, ap length e, length-append (drop v bs) x, length-drop v bs, h.short))
begins-by bs x v (c ∷ cs) h s e =
    let p = and_parts (scalar c) (scalars cs) s in
    let some : 0 < length (encode_utf8 c) = omega (arith, length-encode c, len_utf8_bounds c) in
    ⊎_elim
    (λ (short : length (drop v bs) < length (encode_utf8 c)).
    let m = more (drop v bs) (encode_utf8 c) x (encode_utf8_all cs) (omega arith) (sym e) in
    record {
      character = c;
      scalar = p.0;
      more = m.more;
      is = m.is;
      some = omega (arith, short, ap length m.is, length-append (drop v bs) m.more);
      fits = omega (arith, ap length e, length-append (encode_utf8 c) (encode_utf8_all cs));
    })
    (λ (long : length (encode_utf8 c) ≤ length (drop v bs)).
    let m = more (encode_utf8 c) (drop v bs) (encode_utf8_all cs) x long e in
    absurd (no-whole bs v c m.more h p.0 some m.is))
    (cases_lt (length (drop v bs)) (length (encode_utf8 c)))

-- bytes that more bytes make UTF-8 end within a character, after their longest front of characters
pub cut-begins : (bs x : List ℕ) (v : ℕ) → IsUtf8 (bs ++ x) → IsValidUpTo bs v → Begins (drop v bs) (length (bs ++ x) - v)
cut-begins bs x v u h =
    let front : IsUtf8 (take v (bs ++ x)) = subst IsUtf8 (sym (take-append-le v bs x (omega (arith, h.short)))) h.front in
    let at = IsCharBoundary-from_take (bs ++ x) v u (omega (arith, h.short, length-append bs x)) front in
    let w = subst IsUtf8 (drop-append-le v bs x (omega (arith, h.short))) (IsUtf8-drop (bs ++ x) v u at) in
    let g = begins-by bs x v w.0 h w.1.0 w.1.1 in
    let room : length (drop v bs ++ x) ≡ length (bs ++ x) - v = omega (arith, length-append (drop v bs) x, length-append bs x, length-drop v bs, h.short) in
    subst (λ (n : ℕ). Begins (drop v bs) n) room g

-- so they are no fault but for their end, and there is room for the character
pub begins-facts : (rest : List ℕ) (room : ℕ) → 0 < length rest → Begins rest room → (utf8_error_len rest ≡ None) × (length rest < character_len rest) × (character_len rest ≤ room)
begins-facts rest room s g =
    let f = cut-facts g.character rest g.more g.scalar (sym g.is) s g.some in
    (f.0, omega (arith, f.1, ap length g.is, length-append rest g.more, g.some), omega (arith, f.1, g.fits))

-- a character of these bytes
two-is : (c : ℕ) → 128 ≤ c → c < 2048 → encode_utf8 c ≡ (192 + c / 64) ∷ (128 + c % 64) ∷ []
two-is c p q = shape c (λ bs. bs ≡ (192 + c / 64) ∷ (128 + c % 64) ∷ []) (λ h. absurd (omega arith)) (λ h k. refl) (λ h k. absurd (omega arith)) (λ h. absurd (omega arith))

three-is : (c : ℕ) → 2048 ≤ c → c < 65536 → encode_utf8 c ≡ (224 + c / 4096) ∷ (128 + (c / 64) % 64) ∷ (128 + c % 64) ∷ []
three-is c p q = shape c (λ bs. bs ≡ (224 + c / 4096) ∷ (128 + (c / 64) % 64) ∷ (128 + c % 64) ∷ []) (λ h. absurd (omega arith)) (λ h k. absurd (omega arith)) (λ h k. refl) (λ h. absurd (omega arith))

four-is : (c : ℕ) → 65536 ≤ c → encode_utf8 c ≡ (240 + c / 262144) ∷ (128 + (c / 4096) % 64) ∷ (128 + (c / 64) % 64) ∷ (128 + c % 64) ∷ []
four-is c p = shape c (λ bs. bs ≡ (240 + c / 262144) ∷ (128 + (c / 4096) % 64) ∷ (128 + (c / 64) % 64) ∷ (128 + c % 64) ∷ []) (λ h. absurd (omega arith)) (λ h k. absurd (omega arith)) (λ h k. absurd (omega arith)) (λ h. refl)

-- what bytes are that have no fault but for their end
one-none : (x : ℕ) → utf8_error_len (x ∷ []) ≡ None → (0xC2 ≤ x) × (x ≤ 0xF4)
unfolding utf8_error_len
one-none x e = (grind (arith, nat_tests), grind (arith, nat_tests))

two-none : (x y : ℕ) → utf8_error_len (x ∷ y ∷ []) ≡ None → (0xC2 ≤ x) × (x ≤ 0xF4) × (second_byte_min x ≤ y) × (y ≤ second_byte_max x)
unfolding utf8_error_len
two-none x y e = (grind (arith, nat_tests), grind (arith, nat_tests), grind (arith, nat_tests), grind (arith, nat_tests))

three-none : (x y z : ℕ) → utf8_error_len (x ∷ y ∷ z ∷ []) ≡ None → (0xC2 ≤ x) × (x ≤ 0xF4) × (second_byte_min x ≤ y) × (y ≤ second_byte_max x) × (0x80 ≤ z) × (z ≤ 0xBF)
unfolding utf8_error_len
three-none x y z e = (grind (arith, nat_tests), grind (arith, nat_tests), grind (arith, nat_tests), grind (arith, nat_tests), grind (arith, nat_tests), grind (arith, nat_tests))

-- the character that these bytes are
record Whole (bs : List ℕ) : Type 0 where
  pub character : ℕ
  pub scalar : IsScalar character
  pub is : encode_utf8 character ≡ bs

whole-two : (b c : ℕ) → 0xC2 ≤ b → b < 0xE0 → 0x80 ≤ c → c ≤ 0xBF → Whole (b ∷ c ∷ [])
unfolding encode_utf8
whole-two b c p q r s =
    let x = (b - 0xC0) * 64 + (c - 0x80) in
    let first : 192 + x / 64 ≡ b = omega arith in
    let last : 128 + x % 64 ≡ c = omega arith in
    record { character = x; scalar = low_scalar x (omega arith); is = rw (le-ltb x 128 (omega arith), lt-ltb x 2048 (omega arith), first, last) }

whole-three : (b c d : ℕ) → 0xE0 ≤ b → b < 0xF0 → second_byte_min b ≤ c → c ≤ second_byte_max b → 0x80 ≤ d → d ≤ 0xBF → Whole (b ∷ c ∷ d ∷ [])
unfolding encode_utf8
whole-three b c d p q r s t u =
    let range : (0x80 ≤ c) × (c < 0xC0) = (grind (arith, nat_tests), grind (arith, nat_tests)) in
    let narrow : (b ≡ 0xE0 → 0xA0 ≤ c) × (b ≡ 0xED → c < 0xA0) = (λ e. grind (arith, nat_tests), λ e. grind (arith, nat_tests)) in
    let x = ((b - 0xE0) * 64 + (c - 0x80)) * 64 + (d - 0x80) in
    let bounds : (2048 ≤ x) × (x < 65536) × (55296 ≤ x → 57344 ≤ x) = (grind arith, omega arith, λ h. grind arith) in
    let first : 224 + x / 4096 ≡ b = omega arith in
    let middle : 128 + (x / 64) % 64 ≡ c = omega arith in
    let last : 128 + x % 64 ≡ d = omega arith in
    record {
      character = x;
      scalar = grind (arith, nat_tests);
      is = rw (le-ltb x 128 (omega arith), le-ltb x 2048 (omega arith), lt-ltb x 65536 (omega arith), first, middle, last);
    }

whole-four : (b c d e : ℕ) → 0xF0 ≤ b → b ≤ 0xF4 → second_byte_min b ≤ c → c ≤ second_byte_max b → 0x80 ≤ d → d ≤ 0xBF → 0x80 ≤ e → e ≤ 0xBF → Whole (b ∷ c ∷ d ∷ e ∷ [])
unfolding encode_utf8
whole-four b c d e p q r s t u v w =
    let range : (0x80 ≤ c) × (c < 0xC0) = (grind (arith, nat_tests), grind (arith, nat_tests)) in
    let narrow : (b ≡ 0xF0 → 0x90 ≤ c) × (b ≡ 0xF4 → c < 0x90) = (λ h. grind (arith, nat_tests), λ h. grind (arith, nat_tests)) in
    let x = (((b - 0xF0) * 64 + (c - 0x80)) * 64 + (d - 0x80)) * 64 + (e - 0x80) in
    let bounds : (65536 ≤ x) × (x < 1114112) = (grind arith, grind arith) in
    let first : 240 + x / 262144 ≡ b = omega arith in
    let next : 128 + (x / 4096) % 64 ≡ c = omega arith in
    let middle : 128 + (x / 64) % 64 ≡ d = omega arith in
    let last : 128 + x % 64 ≡ e = omega arith in
    record {
      character = x;
      scalar = grind (arith, nat_tests);
      is = rw (le-ltb x 128 (omega arith), le-ltb x 2048 (omega arith), le-ltb x 65536 (omega arith), first, next, middle, last);
    }

-- more bytes, none of them a back quote, make these a character of this many bytes
pub record Ends (rest : List ℕ) (n : ℕ) : Type 0 where
  pub more : List ℕ
  pub whole : IsUtf8 (rest ++ more)
  pub clear : IsClear more
  pub long : length (rest ++ more) ≡ n

ends-by : (rest more : List ℕ) (n : ℕ) → Whole (rest ++ more) → IsClear more → length (rest ++ more) ≡ n → Ends rest n
ends-by rest more n w c f = record { more = more; whole = subst IsUtf8 w.is (IsUtf8-encode w.character w.scalar); clear = c; long = f }

second-high : (x : ℕ) → second_byte_min x ≡ 0x60 → ⊥
second-high x q = grind (arith, nat_tests)

least-most : (x : ℕ) → second_byte_min x ≤ second_byte_max x
least-most x = grind (arith, nat_tests)

-- bytes with no fault but for their end, fewer than their character has, are ended so
pub completed : (rest : List ℕ) → 0 < length rest → utf8_error_len rest ≡ None → length rest < character_len rest → Ends rest (character_len rest)
completed [] s e l = absurd (omega arith)
completed (x ∷ []) s e l =
    let f = one-none x e in
    ⊎_elim
    (λ (two : x < 0xE0). ends-by (x ∷ []) (0x80 ∷ []) _ (whole-two x 0x80 f.0 two (omega arith) (omega arith)) (λ q. omega arith, tt) (omega (arith, lead-two x [] (omega (arith, f.0)) two)))
    (λ (wide : 0xE0 ≤ x). ⊎_elim
    (λ (three : x < 0xF0). ends-by (x ∷ []) (second_byte_min x ∷ 0x80 ∷ []) _ (whole-three x (second_byte_min x) 0x80 wide three (omega arith) (least-most x) (omega arith) (omega arith)) (second-high x, (λ q. omega arith, tt)) (omega (arith, lead-three x [] wide three)))
    (λ (four : 0xF0 ≤ x). ends-by (x ∷ []) (second_byte_min x ∷ 0x80 ∷ 0x80 ∷ []) _ (whole-four x (second_byte_min x) 0x80 0x80 four f.1 (omega arith) (least-most x) (omega arith) (omega arith) (omega arith) (omega arith)) (second-high x, (λ q. omega arith, (λ q. omega arith, tt))) (omega (arith, lead-four x [] four)))
    (cases_lt x 0xF0))
    (cases_lt x 0xE0)
completed (x ∷ y ∷ []) s e l =
    let f = two-none x y e in
    ⊎_elim
    (λ (two : x < 0xE0). absurd (omega (arith, lead-two x (y ∷ []) (omega (arith, f.0)) two, l)))
    (λ (wide : 0xE0 ≤ x). ⊎_elim
    (λ (three : x < 0xF0). ends-by (x ∷ y ∷ []) (0x80 ∷ []) _ (whole-three x y 0x80 wide three f.2 f.3 (omega arith) (omega arith)) (λ q. omega arith, tt) (omega (arith, lead-three x (y ∷ []) wide three)))
    (λ (four : 0xF0 ≤ x). ends-by (x ∷ y ∷ []) (0x80 ∷ 0x80 ∷ []) _ (whole-four x y 0x80 0x80 four f.1 f.2 f.3 (omega arith) (omega arith) (omega arith) (omega arith)) (λ q. omega arith, (λ q. omega arith, tt)) (omega (arith, lead-four x (y ∷ []) four)))
    (cases_lt x 0xF0))
    (cases_lt x 0xE0)
completed (x ∷ y ∷ z ∷ []) s e l =
    let f = three-none x y z e in
    ⊎_elim
    (λ (two : x < 0xE0). absurd (omega (arith, lead-two x (y ∷ z ∷ []) (omega (arith, f.0)) two, l)))
    (λ (wide : 0xE0 ≤ x). ⊎_elim
    (λ (three : x < 0xF0). absurd (omega (arith, lead-three x (y ∷ z ∷ []) wide three, l)))
    (λ (four : 0xF0 ≤ x). ends-by (x ∷ y ∷ z ∷ []) (0x80 ∷ []) _ (whole-four x y z 0x80 four f.1 f.2 f.3 f.4 f.5 (omega arith) (omega arith)) (λ q. omega arith, tt) (omega (arith, lead-four x (y ∷ z ∷ []) four)))
    (cases_lt x 0xF0))
    (cases_lt x 0xE0)
completed (x ∷ y ∷ z ∷ w ∷ ws) s e l = absurd (omega (arith, most-four (x ∷ y ∷ z ∷ w ∷ ws), l))
  where
    most-four : (bs : List ℕ) → character_len bs ≤ 4
    most-four [] = omega arith
    most-four (b ∷ bs) = grind (arith, nat_tests)
