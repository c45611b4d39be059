-- The characters of texts, and where they begin.
use Rattle.std.proofs.Common.{◌≡◌, ◌≤◌, ◌<◌, ◌+◌, ℕ, suc, Bool, true, false, cond, List, [], ◌∷◌, ◌++◌, length, take, map as each, leb, ltb, ◌/◌, refl, sym, ap, ◌∙◌, subst, arith}
use Rattle.std.specs.Bool.{⊤}
use Rattle.std.proofs.lemmas.Bool.{and_left, and_right, and_from, le-leb, lt-leb, ltb-true, cond_both}
use Rattle.std.proofs.lemmas.Str.{chars-encodes}
use Rattle.std.specs.Str.{IsUtf8, IsCharBoundary, chars}
use Rattle.std.proofs.lemmas.List.{length-map}
use lib.Utf8.{encode, encodes, next}
use Rattle.calculus.specs.Bytes.{joined}
use Rattle.calculus.specs.Texts.{goes_on, with_byte, characters}

-- a text that goes on with no character
abbrev pub Starts : List ℕ → Type 0
Starts [] = ⊤
Starts (b ∷ bs) = goes_on b ≡ false

-- these bytes all go on with a character
abbrev pub GoOn : List ℕ → Type 0
GoOn [] = ⊤
GoOn (b ∷ bs) = (goes_on b ≡ true) × GoOn bs

joined-with : (b : ℕ) (cs : List (List ℕ)) → joined (with_byte b cs) ≡ b ∷ joined cs
joined-with b [] = refl
joined-with b ([] ∷ cs) = refl
joined-with b ((c ∷ bs) ∷ cs) =
    elim (goes_on c) as (λ v. joined (cond v ((b ∷ c ∷ bs) ∷ cs) ((b ∷ []) ∷ (c ∷ bs) ∷ cs)) ≡ b ∷ joined ((c ∷ bs) ∷ cs)) [ true ↦ refl | false ↦ refl ]

-- the characters of a text make it up
pub joined-characters : (s : List ℕ) → joined (characters s) ≡ s
joined-characters [] = refl
joined-characters (b ∷ bs) = joined-with b (characters bs) ∙ ap (λ x. b ∷ x) (joined-characters bs)

-- the first character begins with the first byte
record Begins (b : ℕ) (cs : List (List ℕ)) : Type 0 where
  more : List ℕ
  others : List (List ℕ)
  is : cs ≡ (b ∷ more) ∷ others

begins : (b : ℕ) (cs : List (List ℕ)) → Begins b (with_byte b cs)
begins b [] = record { more = []; others = []; is = refl }
begins b ([] ∷ cs) = record { more = []; others = cs; is = refl }
begins b ((c ∷ bs) ∷ cs) =
    elim (goes_on c) as (λ v. Begins b (cond v ((b ∷ c ∷ bs) ∷ cs) ((b ∷ []) ∷ (c ∷ bs) ∷ cs)))
    [ true ↦ record { more = c ∷ bs; others = cs; is = refl } | false ↦ record { more = []; others = (c ∷ bs) ∷ cs; is = refl } ]

with-alone : (x b : ℕ) (r : List ℕ) (rs : List (List ℕ)) → goes_on b ≡ false → with_byte x ((b ∷ r) ∷ rs) ≡ (x ∷ []) ∷ (b ∷ r) ∷ rs
with-alone x b r rs h = rw h

with-before : (x : ℕ) (ys : List ℕ) → Starts ys → with_byte x (characters ys) ≡ (x ∷ []) ∷ characters ys
with-before x [] h = refl
with-before x (b ∷ bs) h =
    let g = begins b (characters bs) in
    let P : List (List ℕ) → Type 0 = λ cs. with_byte x cs ≡ (x ∷ []) ∷ cs in
    subst P (sym g.is) (with-alone x b g.more g.others h)

with-more : (x y : ℕ) (r : List ℕ) (rs cs : List (List ℕ)) → with_byte x (((y ∷ r) ∷ rs) ++ cs) ≡ with_byte x ((y ∷ r) ∷ rs) ++ cs
with-more x y r rs cs =
    elim (goes_on y) as (λ v. cond v ((x ∷ y ∷ r) ∷ (rs ++ cs)) ((x ∷ []) ∷ (y ∷ r) ∷ (rs ++ cs)) ≡ cond v ((x ∷ y ∷ r) ∷ rs) ((x ∷ []) ∷ (y ∷ r) ∷ rs) ++ cs) [ true ↦ refl | false ↦ refl ]

with-append : (x y : ℕ) (cs ds : List (List ℕ)) → Begins y cs → with_byte x (cs ++ ds) ≡ with_byte x cs ++ ds
with-append x y cs ds g =
    let P : List (List ℕ) → Type 0 = λ es. with_byte x (es ++ ds) ≡ with_byte x es ++ ds in
    subst P (sym g.is) (with-more x y g.more g.others ds)

-- a text is cut before a character
pub characters-append : (xs ys : List ℕ) → Starts ys → characters (xs ++ ys) ≡ characters xs ++ characters ys
characters-append [] ys h = refl
characters-append (x ∷ []) ys h = with-before x ys h
characters-append (x ∷ y ∷ xs) ys h =
    ap (with_byte x) (characters-append (y ∷ xs) ys h) ∙ with-append x y (characters (y ∷ xs)) (characters ys) (begins y (characters xs))

characters-one : (b : ℕ) (ts : List ℕ) → GoOn ts → characters (b ∷ ts) ≡ (b ∷ ts) ∷ []
characters-one b [] h = refl
characters-one b (t ∷ ts) h = ap (with_byte b) (characters-one t ts h.1) ∙ rw h.0

low-starts : (b : ℕ) → b < 128 → goes_on b ≡ false
low-starts b h = and_left (leb 0x80 b) (leb b 0xBF) (lt-leb 0x80 b h)

lead-starts : (b : ℕ) → 192 ≤ b → goes_on b ≡ false
lead-starts b h = and_right (leb 0x80 b) (leb b 0xBF) (lt-leb b 0xBF (omega arith))

next-goes_on : (n : ℕ) → goes_on (next n) ≡ true
next-goes_on n = and_from (leb 0x80 (next n)) (leb (next n) 0xBF) (le-leb 0x80 (next n) (omega arith)) (le-leb (next n) 0xBF (omega arith))

-- the bytes of one character: the first begins it, and the others go on with it
record Encoded (bs : List ℕ) : Type 0 where
  lead : ℕ
  more : List ℕ
  is : bs ≡ lead ∷ more
  begins_it : goes_on lead ≡ false
  go_on : GoOn more

of_bytes : (b : ℕ) (ts : List ℕ) → goes_on b ≡ false → GoOn ts → Encoded (b ∷ ts)
of_bytes b ts h k = record { lead = b; more = ts; is = refl; begins_it = h; go_on = k }

encoded : (c : ℕ) → Encoded (encode c)
unfolding encode
encoded c =
    cond_both (ltb c 128) (c ∷ []) (cond (ltb c 2048) ((192 + c / 64) ∷ next c ∷ []) (cond (ltb c 65536) ((224 + c / 4096) ∷ next (c / 64) ∷ next c ∷ []) ((240 + c / 262144) ∷ next (c / 4096) ∷ next (c / 64) ∷ next c ∷ []))) Encoded
    (λ h. of_bytes c [] (low-starts c (ltb-true c 128 h)) tt)
    (λ h. cond_both (ltb c 2048) ((192 + c / 64) ∷ next c ∷ []) (cond (ltb c 65536) ((224 + c / 4096) ∷ next (c / 64) ∷ next c ∷ []) ((240 + c / 262144) ∷ next (c / 4096) ∷ next (c / 64) ∷ next c ∷ [])) Encoded
    (λ k. of_bytes (192 + c / 64) (next c ∷ []) (lead-starts (192 + c / 64) (omega arith)) (next-goes_on c, tt))
    (λ k. cond_both (ltb c 65536) ((224 + c / 4096) ∷ next (c / 64) ∷ next c ∷ []) ((240 + c / 262144) ∷ next (c / 4096) ∷ next (c / 64) ∷ next c ∷ []) Encoded
    (λ l. of_bytes (224 + c / 4096) (next (c / 64) ∷ next c ∷ []) (lead-starts (224 + c / 4096) (omega arith)) (next-goes_on (c / 64), (next-goes_on c, tt)))
    (λ l. of_bytes (240 + c / 262144) (next (c / 4096) ∷ next (c / 64) ∷ next c ∷ []) (lead-starts (240 + c / 262144) (omega arith)) (next-goes_on (c / 4096), (next-goes_on (c / 64), (next-goes_on c, tt))))))

pub encode-starts : (c : ℕ) (rest : List ℕ) → Starts (encode c ++ rest)
encode-starts c rest =
    let g = encoded c in
    let P : List ℕ → Type 0 = λ bs. Starts (bs ++ rest) in
    subst P (sym g.is) g.begins_it

pub encodes-start : (cs : List ℕ) → Starts (encodes cs)
encodes-start [] = tt
encodes-start (c ∷ cs) = encode-starts c (encodes cs)

characters-encode : (c : ℕ) → characters (encode c) ≡ encode c ∷ []
characters-encode c =
    let g = encoded c in
    let P : List ℕ → Type 0 = λ bs. characters bs ≡ bs ∷ [] in
    subst P (sym g.is) (characters-one g.lead g.more g.go_on)

-- a text's characters are the encodings of its code points
pub characters-encodes : (cs : List ℕ) → characters (encodes cs) ≡ each encode cs
characters-encodes [] = refl
characters-encodes (c ∷ cs) =
    characters-append (encode c) (encodes cs) (encodes-start cs) ∙ (ap (λ x. x ++ characters (encodes cs)) (characters-encode c) ∙ ap (λ x. encode c ∷ x) (characters-encodes cs))

-- a text has as many characters as code points
pub characters-counted : (s : List ℕ) → IsUtf8 s → length (characters s) ≡ length (chars s)
characters-counted s u =
    let P : List ℕ → Type 0 = λ bs. length (characters bs) ≡ length (chars bs) in
    subst P u.1.1 (ap length (characters-encodes u.0) ∙ length-map u.0 encode ∙ sym (ap length (chars-encodes u.0 u.1.0)))
