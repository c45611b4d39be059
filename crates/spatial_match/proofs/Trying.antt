-- What stands in a pattern is known as the pattern is.
use Rattle.std.proofs.Common.{◌≡◌, ℕ, zero, suc, ◌+◌, ◌<◌, ◌≤◌, Bool, true, false, cond, List, [], ◌∷◌, length, map as each, get_or, refl, sym, ap, ◌∙◌, arith}
use Rattle.std.proofs.lemmas.List.Sums.{sum_by-cons}
use Rattle.calculus.specs.Tree.{Tree, trees, row, tuple, pattern}
use Rattle.calculus.specs.Shape.{many, label_of}
use Rattle.calculus.specs.Variables.{is_wide}
use Rattle.calculus.specs.Form.{wides}
use Rattle.spatial_match.specs.Given.{Tries, TriesIn, AllTries}
use Rattle.spatial_match.specs.Search.{no_wide, AtMostOne}
use Rattle.spatial_match.specs.Found.{member}
use Rattle.spatial_match.proofs.Rows.{member-wide}

pub tries-at : (ts : List Tree) (i : ℕ) (d : Tree) → i < length ts → AllTries ts → Tries (get_or ts i d)
tries-at [] i d h k = absurd (omega arith)
tries-at (t ∷ ts) zero d h k = k.0
tries-at (t ∷ ts) (suc i) d h k = tries-at ts i d (omega arith) k.1

pub tries-of : {A : Type 0} (f : A → Tree) (xs : List A) (i : ℕ) (d : A) → i < length xs → AllTries (each f xs) → Tries (f (get_or xs i d))
tries-of f [] i d h k = absurd (omega arith)
tries-of f (x ∷ xs) zero d h k = k.0
tries-of f (x ∷ xs) (suc i) d h k = tries-of f xs i d (omega arith) k.1

in_pattern : (ts : List Tree) → TriesIn pattern (trees ts) → AllTries ts
in_pattern [] h = tt
in_pattern (t ∷ ts) h = (h.0, in_pattern ts h.1)

pub pattern-tries : (ts : List Tree) → Tries (many pattern ts) → AllTries ts
pattern-tries ts h = in_pattern ts h.1

in_tuple : (ts : List Tree) → TriesIn tuple (trees ts) → AllTries ts
in_tuple [] h = tt
in_tuple (t ∷ ts) h = (h.0, in_tuple ts h.1)

pub tuple-tries : (ts : List Tree) → Tries (many tuple ts) → AllTries ts
tuple-tries ts h = in_tuple ts h.1

in_row : (ts : List Tree) → TriesIn row (trees ts) → AllTries ts
in_row [] h = tt
in_row (t ∷ ts) h = (h.0, in_row ts h.1)

pub row-tries : (ts : List Tree) → Tries (many row ts) → AllTries ts
row-tries ts h = in_row ts h.1

not_one : (b : Bool) (n : ℕ) → cond b 1 0 + n ≤ 0 → b ≡ false
not_one true n h = absurd (omega arith)
not_one false n h = refl

no_more : (b : Bool) (n : ℕ) → cond b 1 0 + n ≤ 0 → n ≤ 0
no_more true n h = omega arith
no_more false n h = omega arith

one_less : (b : Bool) (n : ℕ) → b ≡ true → cond b 1 0 + n ≤ 1 → n ≤ 0
one_less true n e h = omega arith
one_less false n e h = cc

fewer : (b : Bool) (n : ℕ) → cond b 1 0 + n ≤ 1 → n ≤ 1
fewer true n h = omega arith
fewer false n h = omega arith

-- of parts of which one at most is wide
module _ {A : Type 0} (f : A → Tree) where
  count : (x : A) (xs : List A) → wides (each f (x ∷ xs)) ≡ cond (is_wide (label_of (f x))) 1 0 + wides (each f xs)
  count x xs = sum_by-cons (λ t. cond (is_wide (label_of t)) 1 0) (f x) (each f xs)

  none_wide : (xs : List A) → wides (each f xs) ≤ 0 → no_wide (each (λ x. member (f x)) xs) ≡ true
  none_wide [] h = refl
  none_wide (x ∷ xs) h =
      let b = is_wide (label_of (f x)) in
      let n = wides (each f xs) in
      let k : cond b 1 0 + n ≤ 0 = omega (arith, h, count x xs) in
      ap (λ c. cond c false (no_wide (each (λ (y : A). member (f y)) xs))) (member-wide (f x) ∙ not_one b n k) ∙ none_wide xs (no_more b n k)

  pub one_wide : (xs : List A) → wides (each f xs) ≤ 1 → AtMostOne (each (λ x. member (f x)) xs)
  one_wide [] h = tt
  one_wide (x ∷ xs) h =
      let b = is_wide (label_of (f x)) in
      let n = wides (each f xs) in
      let k : cond b 1 0 + n ≤ 1 = omega (arith, h, count x xs) in
      (λ e. none_wide xs (one_less b n (sym (member-wide (f x)) ∙ e) k), one_wide xs (fewer b n k))
