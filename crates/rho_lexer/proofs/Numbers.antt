-- Integers, by their digits.
use Rattle.std.proofs.Common.{◌≡◌, ◌≤◌, ◌<◌, ◌+◌, ◌-◌, ◌*◌, ◌^◌, ℕ, zero, suc, min, Bool, true, false, List, [], ◌∷◌, length, take, get_or, refl, ◌∙◌, ap, arith}
use Rattle.std.specs.Prelude.{Some, None, nat_lt as ltb}
use Rattle.std.specs.List.{list_all, prefix_len}
use Rattle.std.specs.Option.{option_or}
use Rattle.std.proofs.lemmas.List.Sums.{fold-append}
use Rattle.std.proofs.Math.Seq.{take-suc}
use Rattle.tokens.specs.Bytes.{is_digit}
use Rattle.std.proofs.lemmas.Bool.{lt-ltb, le-ltb}
use Rattle.tokens.specs.Reading.{token_step, longest, takes, refuses}
use Rattle.tokens.specs.Spelling.{token_of, only_if, decimal}
use Rattle.tokens.specs.Token.{source, integer, literal_too_large, refusal}
use Rattle.rho_lexer.proofs.Heads.{digits_only}
use Rattle.rho_lexer.proofs.Steps.{takes_is, run_passes, run_ends}
use Rattle.std.proofs.lemmas.List.Sums.{prefix_len-le-length}

-- one more digit
pub decimal_more : (digits : List ℕ) (i : ℕ) → i < length digits → decimal (take (suc i) digits) ≡ decimal (take i digits) * 10 + (get_or digits i 0 - 48)
decimal_more digits i h = ap decimal (take-suc digits i 0 h) ∙ fold-append _ 0 (take i digits) (get_or digits i 0 ∷ [])

front_integer : (b : ℕ) (bs : List ℕ) (k : ℕ) (test : Bool) → is_digit b ≡ true → 0 < k → list_all is_digit (take k (b ∷ bs)) ≡ test
    → token_of source (take k (b ∷ bs)) ≡ option_or (only_if test (integer (decimal (take k (b ∷ bs))))) None
front_integer b bs zero test digit some e = absurd (omega arith)
front_integer b bs (suc j) test digit some e =
    digits_only b (take j bs) digit ∙ ap (λ t. option_or (only_if t (integer (decimal (b ∷ take j bs)))) None) e

run_some : (b : ℕ) (bs : List ℕ) → is_digit b ≡ true → 0 < prefix_len is_digit (b ∷ bs)
run_some b bs e = rw e (omega arith)

-- what stands where a digit does
pub integer_step : (at : ℕ) (text : List ℕ) → 0 < length text → is_digit (get_or text 0 0) ≡ true
    → token_step source at text ≡ longest at text (prefix_len is_digit text) (Some (integer (decimal (take (prefix_len is_digit text) text))))
integer_step at [] some digit = absurd (omega arith)
integer_step at (b ∷ bs) some digit =
    let n = prefix_len is_digit (b ∷ bs) in
    takes_is at (b ∷ bs) n _ (front_integer b bs n true digit (run_some b bs digit) (run_passes is_digit (b ∷ bs) n (omega arith)))
    (prefix_len-le-length is_digit (b ∷ bs))
    (λ k p q. front_integer b bs k false digit (omega arith) (run_ends is_digit (b ∷ bs) k p q))

-- what stands where a digit does, by the value as the code has it
pub too_large : (at : ℕ) (text : List ℕ) (n v : ℕ) → 0 < length text → is_digit (get_or text 0 0) ≡ true → n ≡ prefix_len is_digit text
    → v ≡ min (decimal (take n text)) (2 ^ 64 - 1) → 2 ^ 63 < v → token_step source at text ≡ refuses (refusal literal_too_large at)
too_large at text n v some digit run value large =
    let above : ltb (2 ^ 63) (decimal (take n text)) ≡ true = lt-ltb (2 ^ 63) (decimal (take n text)) (omega arith) in
    integer_step at text some digit ∙ rw (← run) (rw above refl)

pub fits : (at : ℕ) (text : List ℕ) (n v : ℕ) → 0 < length text → is_digit (get_or text 0 0) ≡ true → n ≡ prefix_len is_digit text
    → v ≡ min (decimal (take n text)) (2 ^ 64 - 1) → v ≤ 2 ^ 63 → token_step source at text ≡ takes (integer v) n
fits at text n v some digit run value small =
    let same : decimal (take n text) ≡ v = omega arith in
    let below : ltb (2 ^ 63) v ≡ false = le-ltb (2 ^ 63) v small in
    integer_step at text some digit ∙ rw (← run) (rw same (rw below refl))
