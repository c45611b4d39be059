-- Texts and bytes that stay texts and bytes.
use Rattle.std.proofs.Common.{◌≡◌, ℕ, zero, suc, ◌+◌, ◌<◌, ◌≤◌, Bool, true, false, cond, leb, List, [], ◌∷◌, ◌++◌, length, take, drop, get_or, IsUtf8, IsCharBoundary, inl, inr, take_at, drop_at, get_or-append-add, refl, sym, ap, ◌∙◌, subst, arith, append_assoc, length-append, take-append-drop}
use Rattle.std.specs.Prelude.{⊤}
use Rattle.std.proofs.lemmas.Bool.{and_cases, leb-false}
use Rattle.std.proofs.lemmas.List.Elements.{All-cons, All-nil, All-head, All-tail}
use Rattle.std.proofs.lemmas.Str.{IsUtf8-take, IsUtf8-drop}
use Rattle.calculus.specs.Bytes.{joined}
use Rattle.calculus.specs.Form.{IsBytes}
use Rattle.calculus.specs.Texts.{goes_on, with_byte, characters}

-- a character begins here
abbrev pub Begins : List ℕ → Type 0
Begins [] = ⊥
Begins (c ∷ bs) = goes_on c ≡ false

abbrev pub AllBegin : List (List ℕ) → Type 0
AllBegin [] = ⊤
AllBegin (c ∷ cs) = Begins c × AllBegin cs

-- all but the first
abbrev pub RestBegins : List (List ℕ) → Type 0
RestBegins [] = ⊤
RestBegins (c ∷ cs) = AllBegin cs

split-begins : (b c : ℕ) (bs : List ℕ) (cs : List (List ℕ)) (g : Bool) → goes_on c ≡ g → AllBegin cs → RestBegins (cond g ((b ∷ c ∷ bs) ∷ cs) ((b ∷ []) ∷ (c ∷ bs) ∷ cs))
split-begins b c bs cs true e h = h
split-begins b c bs cs false e h = (e, h)

with-byte-begins : (b : ℕ) (cs : List (List ℕ)) → RestBegins cs → RestBegins (with_byte b cs)
with-byte-begins b [] h = tt
with-byte-begins b ([] ∷ cs) h = h
with-byte-begins b ((c ∷ bs) ∷ cs) h = split-begins b c bs cs (goes_on c) refl h

pub characters-begin : (s : List ℕ) → RestBegins (characters s)
characters-begin [] = tt
characters-begin (b ∷ bs) = with-byte-begins b (characters bs) (characters-begin bs)

joined-with-byte : (b : ℕ) (cs : List (List ℕ)) → joined (with_byte b cs) ≡ b ∷ joined cs
joined-with-byte b [] = refl
joined-with-byte b ([] ∷ cs) = refl
joined-with-byte b ((c ∷ bs) ∷ cs) =
    elim (goes_on c) as (λ (g : Bool). joined (cond g ((b ∷ c ∷ bs) ∷ cs) ((b ∷ []) ∷ (c ∷ bs) ∷ cs)) ≡ b ∷ (c ∷ bs ++ joined cs)) [ true ↦ refl | false ↦ refl ]

pub joined-characters : (s : List ℕ) → joined (characters s) ≡ s
joined-characters [] = refl
joined-characters (b ∷ bs) = joined-with-byte b (characters bs) ∙ ap (λ x. b ∷ x) (joined-characters bs)

joined-split : (j : ℕ) (cs : List (List ℕ)) → joined (take j cs) ++ joined (drop j cs) ≡ joined cs
joined-split zero cs = refl
joined-split (suc j) [] = refl
joined-split (suc j) (c ∷ cs) = append_assoc c (joined (take j cs)) (joined (drop j cs)) ∙ ap (λ x. c ++ x) (joined-split j cs)

drop-begin : (j : ℕ) (cs : List (List ℕ)) → AllBegin cs → AllBegin (drop j cs)
drop-begin zero cs h = h
drop-begin (suc j) [] h = tt
drop-begin (suc j) (c ∷ cs) h = drop-begin j cs h.1

take-begin : (j : ℕ) (cs : List (List ℕ)) → AllBegin cs → AllBegin (take j cs)
take-begin zero cs h = tt
take-begin (suc j) [] h = tt
take-begin (suc j) (c ∷ cs) h = (h.0, take-begin j cs h.1)

pub take-begins : (j : ℕ) (cs : List (List ℕ)) → RestBegins cs → RestBegins (take j cs)
take-begins zero cs h = tt
take-begins (suc j) [] h = tt
take-begins (suc j) (c ∷ cs) h = take-begin j cs h

-- a byte that begins a character
above : (b : ℕ) → goes_on b ≡ false → 128 ≤ b → 192 ≤ b
above b e l = elim (and_cases (leb 0x80 b) (leb b 0xBF) e) [ inl f ↦ omega (arith, l, leb-false 0x80 b f) | inr f ↦ omega (arith, leb-false b 0xBF f) ]

seam : (x : List ℕ) (c : ℕ) (bs : List ℕ) → get_or (x ++ c ∷ bs) (length x) 0 ≡ c
seam x c bs =
    let e : length x + 0 ≡ length x = omega arith in
    subst (λ (k : ℕ). get_or (x ++ c ∷ bs) k 0 ≡ c) e (get_or-append-add x (c ∷ bs) 0 0)

-- what follows some bytes begins where they end
front : (x : List ℕ) (ys : List (List ℕ)) → AllBegin ys → IsCharBoundary (x ++ joined ys) (length x)
front x [] h = (omega (arith, length-append x []), λ l. absurd (omega (arith, l, length-append x [])))
front x ([] ∷ ys) h = absurd h.0
front x ((c ∷ bs) ∷ ys) h = (
  omega (arith, length-append x (c ∷ (bs ++ joined ys))),
  λ l. subst (λ b. 128 ≤ b → 192 ≤ b) (sym (seam x c (bs ++ joined ys))) (above c h.0),
)

halves : (x : List ℕ) (ys : List (List ℕ)) → AllBegin ys → IsUtf8 (x ++ joined ys) → IsUtf8 x × IsUtf8 (joined ys)
halves x ys h u = (
  subst IsUtf8 (take_at x (joined ys) (length x) refl) (IsUtf8-take (x ++ joined ys) (length x) u (front x ys h)),
  subst IsUtf8 (drop_at x (joined ys) (length x) refl) (IsUtf8-drop (x ++ joined ys) (length x) u (front x ys h)),
)

pub cut : (j : ℕ) (cs : List (List ℕ)) → RestBegins cs → IsUtf8 (joined cs) → IsUtf8 (joined (take j cs)) × IsUtf8 (joined (drop j cs))
cut zero cs h u = (([], (refl, refl)), u)
cut (suc j) [] h u = (u, u)
cut (suc j) (c ∷ cs) h u = halves (joined (take (suc j) (c ∷ cs))) (drop j cs) (drop-begin j cs h) (subst IsUtf8 (sym (joined-split (suc j) (c ∷ cs))) u)

pub slice-utf8 : (i j : ℕ) (s : List ℕ) → IsUtf8 s → IsUtf8 (joined (drop i (take j (characters s))))
slice-utf8 i j s u =
    let a = cut j (characters s) (characters-begin s) (subst IsUtf8 (sym (joined-characters s)) u) in
    (cut i (take j (characters s)) (take-begins j (characters s) (characters-begin s)) a.0).1

-- bytes
pub bytes-append : (x y : List ℕ) → IsBytes x → IsBytes y → IsBytes (x ++ y)
bytes-append [] y h k = k
bytes-append (b ∷ x) y h k = All-cons (λ c. c < 256) b (x ++ y) (All-head (λ c. c < 256) b x h) (bytes-append x y (All-tail (λ c. c < 256) b x h) k)

bytes-left : (x y : List ℕ) → IsBytes (x ++ y) → IsBytes x
bytes-left [] y h = All-nil (λ c. c < 256)
bytes-left (b ∷ x) y h = All-cons (λ c. c < 256) b x (All-head (λ c. c < 256) b (x ++ y) h) (bytes-left x y (All-tail (λ c. c < 256) b (x ++ y) h))

bytes-right : (x y : List ℕ) → IsBytes (x ++ y) → IsBytes y
bytes-right [] y h = h
bytes-right (b ∷ x) y h = bytes-right x y (All-tail (λ c. c < 256) b (x ++ y) h)

cut-bytes : (j : ℕ) (cs : List (List ℕ)) → IsBytes (joined cs) → IsBytes (joined (take j cs)) × IsBytes (joined (drop j cs))
cut-bytes j cs h =
    let k = subst IsBytes (sym (joined-split j cs)) h in
    (bytes-left (joined (take j cs)) (joined (drop j cs)) k, bytes-right (joined (take j cs)) (joined (drop j cs)) k)

pub slice-text : (i j : ℕ) (s : List ℕ) → IsBytes s → IsBytes (joined (drop i (take j (characters s))))
slice-text i j s h = (cut-bytes i (take j (characters s)) (cut-bytes j (characters s) (subst IsBytes (sym (joined-characters s)) h)).0).1

take-bytes : (j : ℕ) (x : List ℕ) → IsBytes x → IsBytes (take j x)
take-bytes j x h = bytes-left (take j x) (drop j x) (subst IsBytes (sym (take-append-drop j x)) h)

drop-bytes : (j : ℕ) (x : List ℕ) → IsBytes x → IsBytes (drop j x)
drop-bytes j x h = bytes-right (take j x) (drop j x) (subst IsBytes (sym (take-append-drop j x)) h)

pub slice-bytes : (i j : ℕ) (x : List ℕ) → IsBytes x → IsBytes (drop i (take j x))
slice-bytes i j x h = drop-bytes i (take j x) (take-bytes j x h)

with-byte-length : (b : ℕ) (cs : List (List ℕ)) → length (with_byte b cs) ≤ length cs + 1
with-byte-length b [] = omega arith
with-byte-length b ([] ∷ cs) = omega arith
with-byte-length b ((c ∷ bs) ∷ cs) =
    elim (goes_on c) as (λ (g : Bool). length (cond g ((b ∷ c ∷ bs) ∷ cs) ((b ∷ []) ∷ (c ∷ bs) ∷ cs)) ≤ length ((c ∷ bs) ∷ cs) + 1) [ true ↦ omega arith | false ↦ omega arith ]

pub characters-no-more : (s : List ℕ) → length (characters s) ≤ length s
characters-no-more [] = omega arith
characters-no-more (b ∷ bs) = omega (arith, with-byte-length b (characters bs), characters-no-more bs)
