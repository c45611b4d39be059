-- The tokens of a text stand in order, and each text comes to something.
use Rattle.std.proofs.Common.{◌≡◌, ◌≤◌, ◌<◌, ◌+◌, ◌-◌, ℕ, zero, suc, Bool, true, false, cond, List, [], ◌∷◌, length, take, drop, length-drop, refl, sym, ◌∙◌, ap, subst, arith, Ok, Err}
use Rattle.std.specs.Prelude.{◌==◌, nat_eq, Option, Some, None, is_some, codes}
use Rattle.std.specs.List.{starts_with, position_or_len}
use Rattle.tokens.specs.Bytes.{is_blank, line_feed}
use Rattle.tokens.specs.Fronts.{longest_front, place_of}
use Rattle.tokens.specs.Reading.{Step, finish, gap, takes, refuses, step, token_step, longest, is_too_large, block_comment, Outcome, Reads, at_end, over_gap, over_token, refused, after_tokens, AreInOrder, HasTokens, IsLongestToken}
use Rattle.tokens.specs.Spelling.{token_of, spells, HasForm}
use Rattle.tokens.specs.Token.{Notation, Token, Spanned, end_of_text, literal_too_large, refusal, spanned}
use Rattle.tokens.proofs.Form.{form_of}
use Rattle.tokens.proofs.Fronts.{IsLongest, longest_front-IsLongest}
use Rattle.tokens.proofs.Within.{token_within, gap_within}

-- a step that is a token's is that of the longest token
is_token : (n : Notation) (at b : ℕ) (bs : List ℕ) (u : Token) (k : ℕ) → step n at (b ∷ bs) ≡ takes u k → token_step n at (b ∷ bs) ≡ takes u k
unfolding step
is_token n at b bs u k e =
    by_tests (is_blank b) (starts_with nat_eq (b ∷ bs) (codes "//")) (starts_with nat_eq (b ∷ bs) (codes "/*")) (place_of (codes "*/") (drop 2 (b ∷ bs))) e
  where
    by_tests : (r s t : Bool) (o : Option ℕ)
        → cond r (gap 1) (cond s (gap (position_or_len (λ c. c == line_feed) (b ∷ bs))) (cond t (block_comment at o) (token_step n at (b ∷ bs)))) ≡ takes u k
        → token_step n at (b ∷ bs) ≡ takes u k
    by_tests true s t o h = cc
    by_tests false true t o h = cc
    by_tests false false true None h = cc
    by_tests false false true (Some m) h = cc
    by_tests false false false o h = h

not_finish : (at : ℕ) (text : List ℕ) (len : ℕ) (o : Option Token) → longest at text len o ≡ finish → ⊥
not_finish at text len None e = cc
not_finish at text len (Some u) e = by_size (is_too_large u) e
  where
    by_size : (b : Bool) → cond b (refuses (refusal literal_too_large at)) (takes u len) ≡ finish → ⊥
    by_size true g = cc
    by_size false g = cc

token_not_finish : (n : Notation) (at : ℕ) (text : List ℕ) → token_step n at text ≡ finish → ⊥
unfolding token_step
token_not_finish n at text e = not_finish at text (longest_front (spells n) text) (token_of n (take (longest_front (spells n) text) text)) e

-- the text ends only at its end
pub finished : (n : Notation) (at : ℕ) (text : List ℕ) → step n at text ≡ finish → text ≡ []
unfolding step
finished n at [] e = refl
finished n at (b ∷ bs) e =
    absurd (by_tests (is_blank b) (starts_with nat_eq (b ∷ bs) (codes "//")) (starts_with nat_eq (b ∷ bs) (codes "/*")) (place_of (codes "*/") (drop 2 (b ∷ bs))) e)
  where
    by_tests : (r s t : Bool) (o : Option ℕ)
        → cond r (gap 1) (cond s (gap (position_or_len (λ c. c == line_feed) (b ∷ bs))) (cond t (block_comment at o) (token_step n at (b ∷ bs)))) ≡ finish → ⊥
    by_tests true s t o h = cc
    by_tests false true t o h = cc
    by_tests false false true None h = cc
    by_tests false false true (Some m) h = cc
    by_tests false false false o h = token_not_finish n at (b ∷ bs) h

pub step_within : (n : Notation) (at : ℕ) (text : List ℕ) (u : Token) (k : ℕ) → step n at text ≡ takes u k → (0 < k) × (k ≤ length text)
unfolding step
step_within n at [] u k e = cc
step_within n at (b ∷ bs) u k e = token_within n at (b ∷ bs) u k (is_token n at b bs u k e)

-- each text comes to something
comes_to : (m : ℕ) (n : Notation) (at : ℕ) (text : List ℕ) → length text ≤ m → (s : Step) → step n at text ≡ s → (o : Outcome) × Reads n at text o
comes_to m n at text small finish e = (_, at_end e)
comes_to m n at text small (refuses r) e = (_, refused e)
comes_to zero n at text small (gap k) e = let some = gap_within n at text k e in absurd (omega arith)
comes_to (suc m) n at text small (gap k) e =
    let some = gap_within n at text k e in
    let less : length (drop k text) ≡ length text - k = length-drop k text in
    let more = comes_to m n (at + k) (drop k text) (omega arith) (step n (at + k) (drop k text)) refl in
    (more.0, over_gap e more.1)
comes_to zero n at text small (takes u k) e = let some = step_within n at text u k e in absurd (omega arith)
comes_to (suc m) n at text small (takes u k) e =
    let some = step_within n at text u k e in
    let less : length (drop k text) ≡ length text - k = length-drop k text in
    let more = comes_to m n (at + k) (drop k text) (omega arith) (step n (at + k) (drop k text)) refl in
    (_, over_token e more.1 refl)

pub each_comes_to : (n : Notation) (text : List ℕ) → (o : Outcome) × Reads n 0 text o
each_comes_to n text = comes_to (length text) n 0 text (omega arith) (step n 0 text) refl

longest_form : (n : Notation) (at : ℕ) (text bs : List ℕ) (len : ℕ) (o : Option Token) (u : Token) (k : ℕ) → token_of n bs ≡ o → longest at text len o ≡ takes u k → HasForm u
longest_form n at text bs len None u k f e = cc
longest_form n at text bs len (Some v) u k f e = by_size (is_too_large v) refl e
  where
    by_size : (b : Bool) → is_too_large v ≡ b → cond b (refuses (refusal literal_too_large at)) (takes v len) ≡ takes u k → HasForm u
    by_size true small g = cc
    by_size false small g = let same : v ≡ u = cc in subst HasForm same (form_of n bs v f small)

token_form : (n : Notation) (at : ℕ) (text : List ℕ) (u : Token) (k : ℕ) → token_step n at text ≡ takes u k → HasForm u
unfolding token_step
token_form n at text u k e =
    let len = longest_front (spells n) text in longest_form n at text (take len text) len (token_of n (take len text)) u k refl e

step_form : (n : Notation) (at : ℕ) (text : List ℕ) (u : Token) (k : ℕ) → step n at text ≡ takes u k → HasForm u
unfolding step
step_form n at [] u k e = cc
step_form n at (b ∷ bs) u k e = token_form n at (b ∷ bs) u k (is_token n at b bs u k e)

-- the tokens of an outcome stand in order
abbrev OutcomeInOrder : ℕ → ℕ → Outcome → Type 0
OutcomeInOrder at last (Ok tokens) = AreInOrder at last tokens
OutcomeInOrder at last (Err r) = Unit {0}

sooner : (at at' last : ℕ) (tokens : List Spanned) → at ≤ at' → AreInOrder at' last tokens → AreInOrder at last tokens
sooner at at' last [] low h = h
sooner at at' last (t ∷ []) low h = let first = h.0 in (omega arith, h.1)
sooner at at' last (t ∷ u ∷ ts) low h = let first = h.0 in (omega arith, h.1, h.2, h.3)

outcome_sooner : (at at' last : ℕ) (o : Outcome) → at ≤ at' → OutcomeInOrder at' last o → OutcomeInOrder at last o
outcome_sooner at at' last (Ok tokens) low h = sooner at at' last tokens low h
outcome_sooner at at' last (Err r) low h = tt

one_before : (at last k : ℕ) (u : Token) (tokens : List Spanned) → 0 < k → HasForm u → AreInOrder (at + k) last tokens → AreInOrder at last (spanned u at (at + k) ∷ tokens)
one_before at last k u [] some form h = absurd h
one_before at last k u (t ∷ ts) some form h = (omega arith, omega arith, form, h)

outcome_before : (at last k : ℕ) (u : Token) (o whole : Outcome) → 0 < k → HasForm u → OutcomeInOrder (at + k) last o → whole ≡ after_tokens (spanned u at (at + k) ∷ []) o
    → OutcomeInOrder at last whole
outcome_before at last k u (Ok tokens) whole some form h e = subst (OutcomeInOrder at last) (sym e) (one_before at last k u tokens some form h)
outcome_before at last k u (Err r) whole some form h e = subst (OutcomeInOrder at last) (sym e) tt

same_end : (at k : ℕ) (text : List ℕ) (o : Outcome) → k ≤ length text → OutcomeInOrder (at + k) (at + k + length (drop k text)) o → OutcomeInOrder (at + k) (at + length text) o
same_end at k text o within h =
    let less : length (drop k text) ≡ length text - k = length-drop k text in
    let same : at + k + length (drop k text) ≡ at + length text = omega arith in subst (λ last. OutcomeInOrder (at + k) last o) same h

pub in_order : {n : Notation} {at : ℕ} {text : List ℕ} {o : Outcome} → Reads n at text o → OutcomeInOrder at (at + length text) o
in_order {n} {at} {text} (at_end e) =
    let none : length text ≡ 0 = ap length (finished n at text e) in
    let same : at ≡ at + length text = omega arith in
    let P : ℕ → Type 0 = λ last. OutcomeInOrder at last (Ok (spanned end_of_text at at ∷ [])) in subst P same (omega arith, refl)
in_order {n} {at} {text} (over_gap {len = k} {outcome = o} e h) =
    let there = gap_within n at text k e in
    outcome_sooner at (at + k) (at + length text) o (omega arith) (same_end at k text o there.1 (in_order h))
in_order {n} {at} {text} (over_token {len = k} {token = u} {outcome = o} {whole = w} e h f) =
    let there = step_within n at text u k e in
    outcome_before at (at + length text) k u o w there.0 (step_form n at text u k e) (same_end at k text o there.1 (in_order h)) f
in_order (refused e) = tt

pub tokens_in_order : (n : Notation) (text : List ℕ) (tokens : List Spanned) → HasTokens n text tokens → AreInOrder 0 (length text) tokens
tokens_in_order n text tokens h = let same : 0 + length text ≡ length text = omega arith in subst (λ last. AreInOrder 0 last tokens) same (in_order h)

longest_is : (n : Notation) (at : ℕ) (text : List ℕ) (len : ℕ) (o : Option Token) (u : Token) (k : ℕ) → IsLongest (spells n) text (length text) len
    → token_of n (take len text) ≡ o → longest at text len o ≡ takes u k → IsLongestToken n text u k
longest_is n at text len None u k most f e = cc
longest_is n at text len (Some v) u k most f e = by_size (is_too_large v) e
  where
    none_of : (o : Option Token) → is_some o ≡ false → o ≡ None
    none_of None g = refl
    none_of (Some w) g = cc

    by_size : (b : Bool) → cond b (refuses (refusal literal_too_large at)) (takes v len) ≡ takes u k → IsLongestToken n text u k
    by_size true g = cc
    by_size false g =
        let same : v ≡ u = cc in
        let there : len ≡ k = cc in
        let P : ℕ → Type 0 = λ j. IsLongestToken n text u j in
        subst P there (record { spelt = f ∙ ap Some same; longer = λ j p q. none_of (token_of n (take j text)) (most.longer j p q) })

token_is_longest : (n : Notation) (at : ℕ) (text : List ℕ) (u : Token) (k : ℕ) → token_step n at text ≡ takes u k → IsLongestToken n text u k
unfolding token_step
token_is_longest n at text u k e =
    let len = longest_front (spells n) text in
    longest_is n at text len (token_of n (take len text)) u k (longest_front-IsLongest (spells n) text) refl e

pub step_is_longest : (n : Notation) (at : ℕ) (text : List ℕ) (u : Token) (k : ℕ) → step n at text ≡ takes u k → IsLongestToken n text u k
unfolding step
step_is_longest n at [] u k e = cc
step_is_longest n at (b ∷ bs) u k e = token_is_longest n at (b ∷ bs) u k (is_token n at b bs u k e)
