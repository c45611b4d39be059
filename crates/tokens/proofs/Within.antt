-- Each step but the last takes bytes that are there.
use Rattle.std.proofs.Common.{◌≡◌, ◌≤◌, ◌<◌, ◌+◌, ℕ, zero, suc, Bool, true, false, cond, not, ◌&&◌, List, [], ◌∷◌, length, take, drop, length-drop, refl, ap, subst, arith}
use Rattle.std.specs.Prelude.{◌==◌, nat_eq, Option, Some, None, is_some, codes}
use Rattle.std.specs.List.{starts_with, position_or_len}
use Rattle.std.specs.Cmp.Lexicographic.{pointwise}
use Rattle.std.specs.Option.{option_map}
use Rattle.std.proofs.lemmas.List.{length-take}
use Rattle.std.proofs.lemmas.List.Sums.{prefix_len-le-length}
use Rattle.std.proofs.lemmas.Bool.{eqb-true}
use Rattle.tokens.specs.Bytes.{is_blank, line_feed}
use Rattle.tokens.specs.Fronts.{longest_front, place_of}
use Rattle.tokens.specs.Reading.{gap, takes, refuses, step, token_step, longest, is_too_large, block_comment}
use Rattle.tokens.specs.Spelling.{token_of, spells}
use Rattle.tokens.specs.Tables.{keys, signs}
use Rattle.tokens.specs.Token.{Notation, source, printed, Token, literal_too_large, refusal}
use Rattle.tokens.proofs.Fronts.{longest_front-IsLongest}

pub nothing_spelt : (n : Notation) → token_of n [] ≡ None
unfolding token_of keys signs
nothing_spelt source = refl
nothing_spelt printed = refl

taken : (at : ℕ) (text : List ℕ) (len : ℕ) (o : Option Token) (t : Token) (k : ℕ) → longest at text len o ≡ takes t k → (len ≡ k) × (is_some o ≡ true)
taken at text len None t k e = cc
taken at text len (Some u) t k e = by_size (is_too_large u) e
  where
    by_size : (b : Bool) → cond b (refuses (refusal literal_too_large at)) (takes u len) ≡ takes t k → (len ≡ k) × (true ≡ true)
    by_size true g = cc
    by_size false g = (cc, refl)

-- a token has bytes, and they are there
pub token_within : (n : Notation) (at : ℕ) (text : List ℕ) (t : Token) (k : ℕ) → token_step n at text ≡ takes t k → (0 < k) × (k ≤ length text)
unfolding token_step
token_within n at text t k e =
    let len = longest_front (spells n) text in
    let most = longest_front-IsLongest (spells n) text in
    let same = taken at text len (token_of n (take len text)) t k e in
    by_len len same.0 most.within same.1
  where
    by_len : (len : ℕ) → len ≡ k → len ≤ length text → is_some (token_of n (take len text)) ≡ true → (0 < k) × (k ≤ length text)
    by_len zero g h s = absurd (let none = ap is_some (nothing_spelt n) in cc)
    by_len (suc len) g h s = (omega arith, omega arith)

same_length : (xs ys : List ℕ) → pointwise nat_eq xs ys ≡ true → length xs ≡ length ys
same_length [] [] e = refl
same_length [] (y ∷ ys) e = cc
same_length (x ∷ xs) [] e = cc
same_length (x ∷ xs) (y ∷ ys) e = ap suc (same_length xs ys (second (nat_eq x y) (pointwise nat_eq xs ys) e))
  where
    second : (a b : Bool) → (a && b) ≡ true → b ≡ true
    second true b h = h
    second false b h = cc

-- what a text begins with is no longer than it
pub starts_within : (text needle : List ℕ) → starts_with nat_eq text needle ≡ true → length needle ≤ length text
starts_within text needle e =
    let same = same_length needle (take (length needle) text) e in
    let cut = length-take (length needle) text in omega arith

-- the place of a needle is one where it is there
pub place_within : (needle text : List ℕ) (n : ℕ) → place_of needle text ≡ Some n → n + length needle ≤ length text
unfolding place_of
place_within needle [] n e = cc
place_within needle (b ∷ bs) n e = by_start (starts_with nat_eq (b ∷ bs) needle) (place_of needle bs) refl (place_within needle bs) e
  where
    by_start : (t : Bool) (o : Option ℕ) → starts_with nat_eq (b ∷ bs) needle ≡ t → ((m : ℕ) → o ≡ Some m → m + length needle ≤ length bs)
        → cond t (Some 0) (option_map (λ m. m + 1) o) ≡ Some n → n + length needle ≤ suc (length bs)
    by_start true o f more g = let here : 0 ≡ n = cc in let within = starts_within (b ∷ bs) needle f in omega arith
    by_start false None f more g = cc
    by_start false (Some m) f more g = let here : m + 1 ≡ n = cc in let within = more m refl in omega arith

-- the longest token is no gap
not_gap : (at : ℕ) (text : List ℕ) (len : ℕ) (o : Option Token) (k : ℕ) → longest at text len o ≡ gap k → ⊥
not_gap at text len None k e = cc
not_gap at text len (Some u) k e = by_size (is_too_large u) e
  where
    by_size : (b : Bool) → cond b (refuses (refusal literal_too_large at)) (takes u len) ≡ gap k → ⊥
    by_size true g = cc
    by_size false g = cc

no_gap : (n : Notation) (at : ℕ) (text : List ℕ) (k : ℕ) → token_step n at text ≡ gap k → (0 < k) × (k ≤ length text)
unfolding token_step
no_gap n at text k e = absurd (not_gap at text (longest_front (spells n) text) (token_of n (take (longest_front (spells n) text) text)) k e)

-- a line comment has bytes
line_some : (b : ℕ) (bs : List ℕ) → starts_with nat_eq (b ∷ bs) (codes "//") ≡ true → 0 < position_or_len (λ c. c == line_feed) (b ∷ bs)
line_some b bs e = by_slash (nat_eq 47 b) refl e
  where
    by_slash : (t : Bool) → nat_eq 47 b ≡ t → (t && pointwise nat_eq (47 ∷ []) (take 1 bs)) ≡ true → 0 < position_or_len (λ c. c == line_feed) (b ∷ bs)
    by_slash false f g = cc
    by_slash true f g =
        let same : 47 ≡ b = eqb-true 47 b f in
        let P : ℕ → Type 0 = λ x. 0 < position_or_len (λ c. c == line_feed) (x ∷ bs) in
        subst P same (omega arith)

-- a gap has bytes, and they are there
pub gap_within : (n : Notation) (at : ℕ) (text : List ℕ) (k : ℕ) → step n at text ≡ gap k → (0 < k) × (k ≤ length text)
unfolding step
gap_within n at [] k e = cc
gap_within n at (b ∷ bs) k e =
    by_tests (is_blank b) (starts_with nat_eq (b ∷ bs) (codes "//")) (starts_with nat_eq (b ∷ bs) (codes "/*")) refl refl e
  where
    by_block : (o : Option ℕ) → place_of (codes "*/") (drop 2 (b ∷ bs)) ≡ o → starts_with nat_eq (b ∷ bs) (codes "/*") ≡ true → block_comment at o ≡ gap k → (0 < k) × (k ≤ suc (length bs))
    by_block None f g h = cc
    by_block (Some m) f g h =
        let same : m + 4 ≡ k = cc in
        let there = place_within (codes "*/") (drop 2 (b ∷ bs)) m f in
        let begins = starts_within (b ∷ bs) (codes "/*") g in
        let rest = length-drop 2 (b ∷ bs) in
        (omega arith, omega arith)

    by_tests : (s t u : Bool) → starts_with nat_eq (b ∷ bs) (codes "//") ≡ t → starts_with nat_eq (b ∷ bs) (codes "/*") ≡ u
        → cond s (gap 1) (cond t (gap (position_or_len (λ c. c == line_feed) (b ∷ bs))) (cond u (block_comment at (place_of (codes "*/") (drop 2 (b ∷ bs)))) (token_step n at (b ∷ bs)))) ≡ gap k
        → (0 < k) × (k ≤ suc (length bs))
    by_tests true t u f g h = let same : 1 ≡ k = cc in (omega arith, omega arith)
    by_tests false true u f g h =
        let same : position_or_len (λ c. c == line_feed) (b ∷ bs) ≡ k = cc in
        let some = line_some b bs f in
        let bound = prefix_len-le-length (λ c. not (c == line_feed)) (b ∷ bs) in
        (omega arith, omega arith)
    by_tests false false true f g h = by_block (place_of (codes "*/") (drop 2 (b ∷ bs))) refl g h
    by_tests false false false f g h = no_gap n at (b ∷ bs) k h
