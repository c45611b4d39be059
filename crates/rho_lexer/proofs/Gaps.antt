-- Blanks and comments.
use Rattle.std.proofs.Common.{◌≡◌, ◌≤◌, ◌<◌, ◌+◌, ℕ, zero, suc, true, false, List, [], ◌∷◌, length, drop, get_or, refl, ap, subst, arith}
use Rattle.std.specs.Prelude.{Option, Some, None, nat_eq, codes}
use Rattle.std.specs.List.{starts_with, position_or_len, prefix_len}
use Rattle.std.proofs.lemmas.List.Sums.{prefix_len-le-length, prefix_len_passes}
use Rattle.tokens.specs.Bytes.{is_blank, line_feed}
use Rattle.tokens.specs.Fronts.{place_of}
use Rattle.tokens.specs.Reading.{Outcome, Reads, over_gap, step, token_step, gap, block_comment}
use Rattle.tokens.specs.Token.{source}
use Rattle.tokens.proofs.Within.{gap_within}
use Rattle.rho_lexer.specs.Meaning.{AreGaps}

-- the first place from which a text goes on with the needle
pub place_some : (needle text : List ℕ) (n : ℕ) → n < length text → starts_with nat_eq (drop n text) needle ≡ true
    → ((k : ℕ) → k < n → starts_with nat_eq (drop k text) needle ≡ false) → place_of needle text ≡ Some n
unfolding place_of
place_some needle [] n within here before = absurd (omega arith)
place_some needle (b ∷ bs) zero within here before = rw here refl
place_some needle (b ∷ bs) (suc n) within here before =
    let first : starts_with nat_eq (b ∷ bs) needle ≡ false = before 0 (omega arith) in
    let rest = place_some needle bs n (omega arith) here (λ k p. before (suc k) (omega arith)) in
    let next : n + 1 ≡ suc n = omega arith in
    rw (first, rest, next) refl

pub place_none : (needle text : List ℕ) → ((k : ℕ) → k < length text → starts_with nat_eq (drop k text) needle ≡ false) → place_of needle text ≡ None
unfolding place_of
place_none needle [] before = refl
place_none needle (b ∷ bs) before =
    let first : starts_with nat_eq (b ∷ bs) needle ≡ false = before 0 (omega arith) in
    let rest = place_none needle bs (λ k p. before (suc k) (omega arith)) in
    rw (first, rest) refl

-- what stands where a blank does, a comment does, and neither does
pub blank_step : (at : ℕ) (text : List ℕ) → 0 < length text → is_blank (get_or text 0 0) ≡ true → step source at text ≡ gap 1
unfolding step
blank_step at [] some e = absurd (omega arith)
blank_step at (b ∷ bs) some e = rw e refl

pub line_step : (at : ℕ) (text : List ℕ) → 0 < length text → is_blank (get_or text 0 0) ≡ false → starts_with nat_eq text (codes "//") ≡ true
    → step source at text ≡ gap (position_or_len (λ c. nat_eq c line_feed) text)
unfolding step
line_step at [] some e f = absurd (omega arith)
line_step at (b ∷ bs) some e f = rw (e, f) refl

pub block_step : (at : ℕ) (text : List ℕ) (end : Option ℕ) → 0 < length text → is_blank (get_or text 0 0) ≡ false → starts_with nat_eq text (codes "//") ≡ false
    → starts_with nat_eq text (codes "/*") ≡ true → place_of (codes "*/") (drop 2 text) ≡ end → step source at text ≡ block_comment at end
unfolding step
block_step at [] end some e f g h = absurd (omega arith)
block_step at (b ∷ bs) end some e f g h = rw (e, f, g) (ap (block_comment at) h)

pub no_gap_step : (at : ℕ) (text : List ℕ) → 0 < length text → is_blank (get_or text 0 0) ≡ false → starts_with nat_eq text (codes "//") ≡ false
    → starts_with nat_eq text (codes "/*") ≡ false → step source at text ≡ token_step source at text
unfolding step
no_gap_step at [] some e f g = absurd (omega arith)
no_gap_step at (b ∷ bs) some e f g = rw (e, f, g) refl

-- a gap alone
pub one_gap : (at : ℕ) (text : List ℕ) (len : ℕ) → step source at text ≡ gap len → AreGaps at text len
one_gap at text len e =
    let there = gap_within source at text len e in
    record { some = there.0; within = there.1; passed = λ o h. over_gap e h }

over_blanks : (n at : ℕ) (text : List ℕ) → n ≤ length text → ((k : ℕ) → k < n → is_blank (get_or text k 0) ≡ true)
    → (o : Outcome) → Reads source (at + n) (drop n text) o → Reads source at text o
over_blanks zero at text within all o h = let here : at + 0 ≡ at = omega arith in subst (λ i. Reads source i text o) here h
over_blanks (suc n) at [] within all o h = absurd (omega arith)
over_blanks (suc n) at (b ∷ bs) within all o h =
    let first = blank_step at (b ∷ bs) (omega arith) (all 0 (omega arith)) in
    let next : at + suc n ≡ at + 1 + n = omega arith in
    over_gap first (over_blanks n (at + 1) bs (omega arith) (λ k low. all (suc k) (omega arith)) o (subst (λ i. Reads source i (drop n bs) o) next h))

some_blank : (text : List ℕ) → 0 < length text → is_blank (get_or text 0 0) ≡ true → 0 < prefix_len is_blank text
some_blank [] some e = absurd (omega arith)
some_blank (b ∷ bs) some e = rw e (omega arith)

-- all blanks at the front
pub blanks : (at : ℕ) (text : List ℕ) (n : ℕ) → n ≡ prefix_len is_blank text → 0 < length text → is_blank (get_or text 0 0) ≡ true → AreGaps at text n
blanks at text n len some e = record {
  some = omega (arith, some_blank text some e);
  within = omega (arith, prefix_len-le-length is_blank text);
  passed = over_blanks n at text (omega (arith, prefix_len-le-length is_blank text)) (λ k low. prefix_len_passes is_blank text k 0 (omega arith));
}
