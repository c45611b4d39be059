-- What stands at a place, from what its fronts spell.
use Rattle.std.proofs.Common.{◌≡◌, ◌≤◌, ◌<◌, ◌+◌, ℕ, zero, suc, Bool, true, false, cond, ◌&&◌, List, [], ◌∷◌, ◌-◌, length, take, drop, length-drop, refl, sym, ◌∙◌, ap, arith}
use Rattle.std.specs.Prelude.{Some, None, is_some}
use Rattle.std.specs.List.{list_all, prefix_len}
use Rattle.std.proofs.Math.Seq.{take-length}
use Rattle.tokens.specs.Fronts.{longest_front}
use Rattle.tokens.specs.Reading.{token_step, longest, refuses, no_token}
use Rattle.tokens.specs.Spelling.{token_of, spells}
use Rattle.tokens.specs.Tables.{keys, signs}
use Rattle.tokens.specs.Token.{source, Token}
use Rattle.tokens.proofs.Fronts.{longest_front_is}

-- the longest token is one that a front spells while no longer front spells any
pub takes_is : (at : ℕ) (text : List ℕ) (n : ℕ) (t : Token) → token_of source (take n text) ≡ Some t → n ≤ length text
    → ((k : ℕ) → n < k → k ≤ length text → token_of source (take k text) ≡ None) → token_step source at text ≡ longest at text n (Some t)
unfolding token_step
takes_is at text n t e within none =
    let len : longest_front (spells source) text ≡ n = longest_front_is (spells source) text n
    (record { within = within; passes = λ _. ap is_some e; longer = λ k p q. ap is_some (none k p q) }) in
    rw (len, e) refl

nothing : token_of source [] ≡ None
unfolding token_of keys signs
nothing = refl

-- there is no token where no front spells one
pub none_is : (at : ℕ) (text : List ℕ) → ((k : ℕ) → 0 < k → k ≤ length text → token_of source (take k text) ≡ None)
    → token_step source at text ≡ refuses (no_token at text)
unfolding token_step
none_is at text none =
    let len : longest_front (spells source) text ≡ 0 = longest_front_is (spells source) text 0
    (record { within = omega arith; passes = λ p. absurd (omega arith); longer = λ k p q. ap is_some (none k p q) }) in
    rw (len, nothing) refl

passes_on : (q rest : Bool) (k n : ℕ) → (k ≤ n → rest ≡ true) → suc k ≤ cond q (1 + n) 0 → (q && rest) ≡ true
passes_on true rest k n more h = more (omega arith)
passes_on false rest k n more h = absurd (omega arith)

-- the fronts of a run pass
pub run_passes : (p : ℕ → Bool) (text : List ℕ) (k : ℕ) → k ≤ prefix_len p text → list_all p (take k text) ≡ true
run_passes p [] zero h = refl
run_passes p [] (suc k) h = refl
run_passes p (b ∷ bs) zero h = refl
run_passes p (b ∷ bs) (suc k) h = passes_on (p b) _ k (prefix_len p bs) (run_passes p bs k) h

fails_on : (q rest : Bool) (k n : ℕ) → (n < k → rest ≡ false) → cond q (1 + n) 0 < suc k → (q && rest) ≡ false
fails_on true rest k n more h = more (omega arith)
fails_on false rest k n more h = refl

-- and no longer front does
pub run_ends : (p : ℕ → Bool) (text : List ℕ) (k : ℕ) → prefix_len p text < k → k ≤ length text → list_all p (take k text) ≡ false
run_ends p [] k h within = absurd (omega arith)
run_ends p (b ∷ bs) zero h within = absurd (omega arith)
run_ends p (b ∷ bs) (suc k) h within = fails_on (p b) _ k (prefix_len p bs) (λ g. run_ends p bs k g (omega arith)) h

-- what `&text[i..]` has
pub rest_is : (i : ℕ) (text : List ℕ) → take (length text - i) (drop i text) ≡ drop i text
rest_is i text =
    let len : length (drop i text) ≡ length text - i = length-drop i text in
    ap (λ n. take n (drop i text)) (sym len) ∙ take-length (drop i text)
