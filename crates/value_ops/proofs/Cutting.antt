-- Parts of texts, from one character to another.
use Rattle.std.proofs.Common.{◌≡◌, ⊎_elim, Bool, true, false, ◌≤◌, ◌<◌, ◌+◌, ◌-◌, ℕ, List, [], ◌∷◌, ◌++◌, length, take, drop, get_or, map as each, refl, sym, ap, ◌∙◌, subst, arith, leb, append_assoc}
use Rattle.std.proofs.Math.Seq.{take-append_seam, drop-append_seam, take-append-add, get_or-append_seam}
use Rattle.std.proofs.lemmas.List.{take-append-drop, drop-take, length-take-le, length-append, length-map, append-nil}
use Rattle.std.proofs.lemmas.Bool.{leb-false, and_from, le-leb, both_ways, cases_Bool}
use Rattle.std.specs.Str.{IsCharBoundary}
use lib.Utf8.{encode, encodes}
use Rattle.calculus.specs.Bytes.{joined}
use Rattle.calculus.specs.Texts.{goes_on, characters}
use Rattle.value_ops.specs.Places.{IsPlace}
use Rattle.value_ops.proofs.Characters.{Starts, encode-starts, joined-characters, characters-append, characters-encodes}

joined-append : (xs ys : List (List ℕ)) → joined (xs ++ ys) ≡ joined xs ++ joined ys
joined-append [] ys = refl
joined-append (x ∷ xs) ys = ap (λ z. x ++ z) (joined-append xs ys) ∙ sym (append_assoc x (joined xs) (joined ys))

joined-encode : (cs : List ℕ) → joined (each encode cs) ≡ encodes cs
joined-encode [] = refl
joined-encode (c ∷ cs) = ap (λ z. encode c ++ z) (joined-encode cs)

-- the part of a list of texts from one index on, k of them
module _ (cs : List (List ℕ)) (i k : ℕ) (h : i ≤ length cs) where
  front : List ℕ
  front = joined (take i cs)

  part : List ℕ
  part = joined (take k (drop i cs))

  taken : take (i + k) cs ≡ take i cs ++ take k (drop i cs)
  taken = rw (length-take-le i cs h, take-append-drop i cs) at (take-append-add (take i cs) (drop i cs) k)

  ends : joined (take (i + k) cs) ≡ front ++ part
  unfolding front part
  ends = ap joined taken ∙ joined-append (take i cs) (take k (drop i cs))

  dropped : drop (length front) (joined cs) ≡ joined (drop i cs)
  unfolding front
  dropped =
      let whole : joined cs ≡ joined (take i cs) ++ joined (drop i cs) = ap joined (sym (take-append-drop i cs)) ∙ joined-append (take i cs) (drop i cs) in
      ap (drop (length (joined (take i cs)))) whole ∙ drop-append_seam (joined (take i cs)) (joined (drop i cs))

  parted : take (length part) (joined (drop i cs)) ≡ part
  unfolding part
  parted =
      let rest = drop i cs in
      let whole : joined rest ≡ joined (take k rest) ++ joined (drop k rest) = ap joined (sym (take-append-drop k rest)) ∙ joined-append (take k rest) (drop k rest) in
      ap (take (length (joined (take k rest)))) whole ∙ take-append_seam (joined (take k rest)) (joined (drop k rest))

  long : length (joined (take (i + k) cs)) ≡ length front + length part
  long = ap length ends ∙ length-append front part

  pub cut_from : length (joined (take i cs)) ≤ length (joined (take (i + k) cs))
  unfolding front
  cut_from = omega (arith, long)

  cut_length : length (joined (take (i + k) cs)) - length front ≡ length part
  cut_length = omega (arith, long)

  pub cut_out : take (length (joined (take (i + k) cs)) - length (joined (take i cs))) (drop (length (joined (take i cs))) (joined cs)) ≡ joined (drop i (take (i + k) cs))
  unfolding front part
  cut_out =
      ap (λ n. take n (drop (length (joined (take i cs))) (joined cs))) cut_length ∙ (ap (take (length (joined (take k (drop i cs))))) dropped ∙ (parted ∙ ap joined (sym (drop-take i k cs))))

leads : (b : ℕ) → goes_on b ≡ false → 128 ≤ b → 192 ≤ b
leads b h l =
    ⊎_elim
    (λ (t : leb b 0xBF ≡ true). absurd (both_ways (goes_on b) h (and_from (leb 0x80 b) (leb b 0xBF) (le-leb 0x80 b l) t)))
    (λ (f : leb b 0xBF ≡ false). omega (arith, leb-false b 0xBF f))
    (cases_Bool (leb b 0xBF))

starts-here : (xs rest : List ℕ) → Starts rest → length xs < length (xs ++ rest) → 128 ≤ get_or (xs ++ rest) (length xs) 0 → 192 ≤ get_or (xs ++ rest) (length xs) 0
starts-here xs [] h l g = omega (arith, ap length (append-nil xs))
starts-here xs (b ∷ bs) h l g =
    let e = get_or-append_seam xs b bs 0 in
    let P : ℕ → Type 0 = λ n. 192 ≤ n in
    let Q : ℕ → Type 0 = λ n. 128 ≤ n in
    subst P (sym e) (leads b h (subst Q e g))

-- a text of these code points and what follows them
module _ (s ys rest : List ℕ) (e : s ≡ encodes ys ++ rest) (h : Starts rest) where
  parts : characters s ≡ each encode ys ++ characters rest
  parts = ap characters e ∙ (characters-append (encodes ys) rest h ∙ ap (λ x. x ++ characters rest) (characters-encodes ys))

  place-within : length ys ≤ length (characters s)
  place-within = omega (arith, ap length parts ∙ length-append (each encode ys) (characters rest), length-map ys encode)

  place-before : length (encodes ys) ≡ length (joined (take (length ys) (characters s)))
  place-before =
      let cut : take (length ys) (each encode ys ++ characters rest) ≡ each encode ys = subst (λ (n : ℕ). take n (each encode ys ++ characters rest) ≡ each encode ys) (length-map ys encode) (take-append_seam (each encode ys) (characters rest)) in
      ap length (sym (joined-encode ys) ∙ ap joined (sym (ap (take (length ys)) parts ∙ cut)))

  place-boundary : IsCharBoundary s (length (encodes ys))
  place-boundary = (
    omega (arith, ap length e ∙ length-append (encodes ys) rest),
    subst (λ (x : List ℕ). length (encodes ys) < length x → 128 ≤ get_or x (length (encodes ys)) 0 → 192 ≤ get_or x (length (encodes ys)) 0) (sym e) (starts-here (encodes ys) rest h),
  )

  pub place_found : IsPlace s (length ys) (length (encodes ys))
  place_found = record { within = place-within; before = place-before; boundary = place-boundary }

-- ---- places of a text of which these code points were read, each with its place

abbrev pub read : List (ℕ × ℕ) → List ℕ
read ps = encodes (each (λ p. p.1) ps)

pub found_at : (s rest tail : List ℕ) (ps : List (ℕ × ℕ)) (c n i at : ℕ) → s ≡ read ps ++ rest → rest ≡ encode c ++ tail → n ≡ length ps → n ≡ i → at ≡ length (read ps) → IsPlace s i at
found_at s rest tail ps c n i at e f k m h =
    let ys = each (λ (p : ℕ × ℕ). p.1) ps in
    let g = place_found s ys rest e (subst Starts (sym f) (encode-starts c tail)) in
    let l : length ys ≡ i = length-map ps (λ (p : ℕ × ℕ). p.1) ∙ (sym k ∙ m) in
    subst (IsPlace s i) (sym h) (subst (λ (x : ℕ). IsPlace s x (length (encodes ys))) l g)

pub end_at : (s rest : List ℕ) (ps : List (ℕ × ℕ)) (n i : ℕ) → s ≡ read ps ++ rest → length rest ≡ 0 → n ≡ length ps → n ≡ i → IsPlace s i (length s)
end_at s [] ps n i e z k m =
    let ys = each (λ (p : ℕ × ℕ). p.1) ps in
    let g = place_found s ys [] e tt in
    let l : length ys ≡ i = length-map ps (λ (p : ℕ × ℕ). p.1) ∙ (sym k ∙ m) in
    let w : length s ≡ length (encodes ys) = ap length (e ∙ append-nil (encodes ys)) in
    subst (IsPlace s i) (sym w) (subst (λ (x : ℕ). IsPlace s x (length (encodes ys))) l g)
end_at s (b ∷ rest) ps n i e z k m = absurd (omega arith)

pub all_read : (s rest : List ℕ) (ps : List (ℕ × ℕ)) → s ≡ read ps ++ rest → length rest ≡ 0 → length (characters s) ≡ length ps
all_read s [] ps e z =
    let ys = each (λ (p : ℕ × ℕ). p.1) ps in
    ap length (ap characters (e ∙ append-nil (encodes ys)) ∙ characters-encodes ys) ∙ (length-map ys encode ∙ length-map ps (λ (p : ℕ × ℕ). p.1))
all_read s (b ∷ rest) ps e z = absurd (omega arith)

read_more : (ps : List (ℕ × ℕ)) (at c : ℕ) → read (ps ++ (at, c) ∷ []) ≡ read ps ++ encode c
read_more [] at c = append-nil (encode c)
read_more (p ∷ ps) at c = ap (λ x. encode p.1 ++ x) (read_more ps at c) ∙ sym (append_assoc (encode p.1) (read ps) (encode c))

pub text_read : (s rest tail : List ℕ) (ps : List (ℕ × ℕ)) (at c : ℕ) → s ≡ read ps ++ rest → rest ≡ encode c ++ tail → s ≡ read (ps ++ (at, c) ∷ []) ++ tail
text_read s rest tail ps at c e f =
    e ∙ (ap (λ x. read ps ++ x) f ∙ (sym (append_assoc (read ps) (encode c) tail) ∙ ap (λ x. x ++ tail) (sym (read_more ps at c))))

pub place_read : (ps : List (ℕ × ℕ)) (at c m n : ℕ) → m ≡ length (read ps) → n ≡ m + length (encode c) → n ≡ length (read (ps ++ (at, c) ∷ []))
place_read ps at c m n e f = omega (arith, ap length (read_more ps at c) ∙ length-append (read ps) (encode c))

-- ---- the part between two places

between : (i j : ℕ) → i ≤ j → i + (j - i) ≡ j
between i j h = omega arith

pub places_rise : (s : List ℕ) (i j a b : ℕ) → i ≤ j → IsPlace s i a → IsPlace s j b → a ≤ b
places_rise s i j a b h p q =
    let l = subst (λ (n : ℕ). length (joined (take i (characters s))) ≤ length (joined (take n (characters s)))) (between i j h) (cut_from (characters s) i (j - i) p.within) in
    omega (arith, l, p.before, q.before)

pub places_cut : (s : List ℕ) (i j a b : ℕ) → i ≤ j → IsPlace s i a → IsPlace s j b → take (b - a) (drop a s) ≡ joined (drop i (take j (characters s)))
places_cut s i j a b h p q =
    let cs = characters s in
    let cut = subst (λ (n : ℕ). take (length (joined (take n cs)) - length (joined (take i cs))) (drop (length (joined (take i cs))) (joined cs)) ≡ joined (drop i (take n cs))) (between i j h) (cut_out cs i (j - i) p.within) in
    let pa = p.before in
    let qb = q.before in
    rw (pa, qb) (subst (λ (x : List ℕ). take (length (joined (take j cs)) - length (joined (take i cs))) (drop (length (joined (take i cs))) x) ≡ joined (drop i (take j cs))) (joined-characters s) cut)
