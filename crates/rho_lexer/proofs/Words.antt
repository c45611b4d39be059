-- Words and keys.
use Rattle.std.proofs.Common.{◌≡◌, ◌≤◌, ◌<◌, ◌+◌, ◌-◌, ℕ, zero, suc, Bool, true, false, cond, not, List, [], ◌∷◌, length, take, refl, sym, ◌∙◌, ap, subst, arith}
use Rattle.std.specs.Prelude.{◌==◌, Some, None}
use Rattle.std.specs.List.{list_all, prefix_len}
use Rattle.std.specs.Option.{option_or}
use Rattle.std.proofs.lemmas.List.Sums.{prefix_len-le-length}
use Rattle.std.proofs.lemmas.Bool.{eqb-true, cases_lt}
use Rattle.std.proofs.lemmas.List.{length-take-le, take-take}
use Rattle.std.proofs.Math.Logic.{⊎_elim}
use Rattle.tokens.specs.Bytes.{is_word_start, is_word_byte}
use Rattle.tokens.specs.Reading.{token_step, takes}
use Rattle.tokens.specs.Spelling.{token_of, key_of, word_of, only_if, is_word, some_all}
use Rattle.tokens.specs.Tables.{keys, signs, is_among}
use Rattle.tokens.specs.Token.{source, key, word}
use Rattle.rho_lexer.specs.Meaning.{begins_word}
use Rattle.rho_lexer.proofs.Heads.{not_among, no_key, words_only, underscores_only}
use Rattle.rho_lexer.proofs.Steps.{takes_is, run_passes, run_ends}

-- a second byte, and it passes the test
abbrev second_passes : (ℕ → Bool) → List ℕ → Bool
second_passes test [] = false
second_passes test (b ∷ []) = false
second_passes test (b ∷ c ∷ bs) = test c

signs_go_on : list_all (λ row. not (second_passes is_word_byte row)) signs ≡ true
unfolding signs
signs_go_on = refl

-- the bytes of a key before its last one go on a word
abbrev pub goes_on : List ℕ → Bool
goes_on row = list_all is_word_byte (take (length row - 1) row)

keys_go_on : list_all goes_on keys ≡ true
unfolding keys
keys_go_on = refl

-- what the fronts of a text are that a word begins with the run of this length
pub record IsWordText (text : List ℕ) (n : ℕ) : Type 0 where
  pub some : 0 < n
  pub fronts : (k : ℕ) → n ≤ k → k ≤ length text
      → token_of source (take k text) ≡ option_or (key_of (take k text)) (option_or (word_of (take k text)) None)
  pub whole : is_word (take n text) ≡ true
  pub longer : (k : ℕ) → n < k → k ≤ length text → is_word (take k text) ≡ false

start_goes_on : (b : ℕ) → is_word_start b ≡ true → is_word_byte b ≡ true
start_goes_on b e = rw e refl

-- where the first byte begins a word whatever follows
by_start : (b : ℕ) (bs : List ℕ) → is_word_start b ≡ true → IsWordText (b ∷ bs) (suc (prefix_len is_word_byte bs))
by_start b bs e = record {
  some = omega arith;
  fronts = λ k p q. front k p;
  whole = let run = run_passes is_word_byte bs (prefix_len is_word_byte bs) (omega arith) in rw (e, run) refl;
  longer = λ k p q. beyond k p q;
}
  where
    front : (k : ℕ) → suc (prefix_len is_word_byte bs) ≤ k
        → token_of source (take k (b ∷ bs)) ≡ option_or (key_of (take k (b ∷ bs))) (option_or (word_of (take k (b ∷ bs))) None)
    front zero p = absurd (omega arith)
    front (suc j) p = words_only b (take j bs) e

    some_false : (xs : List ℕ) → list_all is_word_byte xs ≡ false → some_all is_word_byte xs ≡ false
    some_false [] h = refl
    some_false (x ∷ xs) h = h

    beyond : (k : ℕ) → suc (prefix_len is_word_byte bs) < k → k ≤ suc (length bs) → is_word (take k (b ∷ bs)) ≡ false
    beyond zero p q = absurd (omega arith)
    beyond (suc j) p q =
        let run : list_all is_word_byte (take j bs) ≡ false = run_ends is_word_byte bs j (omega arith) (omega arith) in
        let others = some_false (take j bs) run in
        grind (arith, run, others)

-- where it is an underscore
by_underscore : (c : ℕ) (cs : List ℕ) → is_word_byte c ≡ true → IsWordText (95 ∷ c ∷ cs) (suc (suc (prefix_len is_word_byte cs)))
by_underscore c cs e = record {
  some = omega arith;
  fronts = λ k p q. front k p;
  whole = let run = run_passes is_word_byte cs (prefix_len is_word_byte cs) (omega arith) in rw (e, run) refl;
  longer = λ k p q. beyond k p q;
}
  where
    front : (k : ℕ) → suc (suc (prefix_len is_word_byte cs)) ≤ k
        → token_of source (take k (95 ∷ c ∷ cs)) ≡ option_or (key_of (take k (95 ∷ c ∷ cs))) (option_or (word_of (take k (95 ∷ c ∷ cs))) None)
    front zero p = absurd (omega arith)
    front (suc zero) p = absurd (omega arith)
    front (suc (suc j)) p =
        let no : is_among signs (95 ∷ c ∷ take j cs) ≡ false = not_among _ signs (95 ∷ c ∷ take j cs) signs_go_on (ap not e) in
        underscores_only (c ∷ take j cs) ∙ rw (no, no_key 95 (c ∷ take j cs) refl) refl

    beyond : (k : ℕ) → suc (suc (prefix_len is_word_byte cs)) < k → k ≤ suc (suc (length cs)) → is_word (take k (95 ∷ c ∷ cs)) ≡ false
    beyond zero p q = absurd (omega arith)
    beyond (suc zero) p q = absurd (omega arith)
    beyond (suc (suc j)) p q =
        let run : list_all is_word_byte (take j cs) ≡ false = run_ends is_word_byte cs j (omega arith) (omega arith) in
        rw (e, run) refl

at_length : {text : List ℕ} {m n : ℕ} → m ≡ n → IsWordText text m → IsWordText text n
at_length {text} {m} {n} e h = subst (IsWordText text) e h

one_on : (p : ℕ → Bool) (b : ℕ) (bs : List ℕ) → p b ≡ true → suc (prefix_len p bs) ≡ prefix_len p (b ∷ bs)
one_on p b bs e = rw e (omega arith)

by_second : (b c : ℕ) (cs : List ℕ) (test : Bool) → (b == 95) ≡ test → cond test (is_word_byte c) (is_word_start b) ≡ true
    → IsWordText (b ∷ c ∷ cs) (prefix_len is_word_byte (b ∷ c ∷ cs))
by_second b c cs false f e = at_length (one_on is_word_byte b (c ∷ cs) (start_goes_on b e)) (by_start b (c ∷ cs) e)
by_second b c cs true f e =
    let same : 95 ≡ b = sym (eqb-true b 95 f) in
    let P : ℕ → Type 0 = λ x. IsWordText (x ∷ c ∷ cs) (prefix_len is_word_byte (x ∷ c ∷ cs)) in
    subst P same (at_length (ap suc (one_on is_word_byte c cs e) ∙ one_on is_word_byte 95 (c ∷ cs) refl) (by_underscore c cs e))

-- where a word begins, the run of its bytes is the word
pub word_text : (text : List ℕ) → begins_word text ≡ true → IsWordText text (prefix_len is_word_byte text)
word_text [] e = cc
word_text (b ∷ []) e = at_length (one_on is_word_byte b [] (start_goes_on b e)) (by_start b [] e)
word_text (b ∷ c ∷ cs) e = by_second b c cs (b == 95) refl e

-- no front passes by two or more bytes what a word may go on with, and is a key
no_long_key : (text : List ℕ) (k : ℕ) → suc (prefix_len is_word_byte text) < k → k ≤ length text → is_among keys (take k text) ≡ false
no_long_key text k p q =
    let len : length (take k text) ≡ k = length-take-le k text q in
    let front : take (k - 1) (take k text) ≡ take (k - 1) text = take-take (k - 1) k text (omega arith) in
    let run : list_all is_word_byte (take (k - 1) text) ≡ false = run_ends is_word_byte text (k - 1) (omega arith) (omega arith) in
    let fails : goes_on (take k text) ≡ false = rw len (rw front run) in
    not_among goes_on keys (take k text) keys_go_on fails

-- one byte more makes a key
pub longer_key : (at : ℕ) (text : List ℕ) → begins_word text ≡ true → prefix_len is_word_byte text < length text
    → is_among keys (take (suc (prefix_len is_word_byte text)) text) ≡ true
    → token_step source at text ≡ takes (key (take (suc (prefix_len is_word_byte text)) text)) (suc (prefix_len is_word_byte text))
longer_key at text begins within found =
    let h = word_text text begins in
    let n = prefix_len is_word_byte text in
    takes_is at text (suc n) (key (take (suc n) text)) (h.fronts (suc n) (omega arith) (omega arith) ∙ rw found refl) (omega arith)
    (λ k p q. h.fronts k (omega arith) q ∙ rw (no_long_key text k p q, h.longer k (omega arith) q) refl)

-- it doesn't
pub word_or_key : (at : ℕ) (text : List ℕ) (found : Bool) → begins_word text ≡ true
    → (prefix_len is_word_byte text < length text → is_among keys (take (suc (prefix_len is_word_byte text)) text) ≡ false)
    → is_among keys (take (prefix_len is_word_byte text) text) ≡ found
    → token_step source at text ≡ takes (cond found (key (take (prefix_len is_word_byte text) text)) (word (take (prefix_len is_word_byte text) text))) (prefix_len is_word_byte text)
word_or_key at text found begins shorter is =
    let h = word_text text begins in
    let n = prefix_len is_word_byte text in
    takes_at found (h.fronts n (omega arith) (prefix_len-le-length is_word_byte text) ∙ rw (is, h.whole) refl)
    (λ k p q. h.fronts k (omega arith) q ∙ rw (no_key_at k p q, h.longer k (omega arith) q) refl)
  where
    no_key_at : (k : ℕ) → prefix_len is_word_byte text < k → k ≤ length text → is_among keys (take k text) ≡ false
    no_key_at k p q = ⊎_elim
        (λ l. no_long_key text k l q)
        (λ l. let e : suc (prefix_len is_word_byte text) ≡ k = omega arith in
        let P : ℕ → Type 0 = λ j. is_among keys (take j text) ≡ false in subst P e (shorter (omega arith)))
        (cases_lt (suc (prefix_len is_word_byte text)) k)

    takes_at : (found : Bool) → token_of source (take (prefix_len is_word_byte text) text)
        ≡ option_or (only_if found (key (take (prefix_len is_word_byte text) text))) (option_or (Some (word (take (prefix_len is_word_byte text) text))) None)
        → ((k : ℕ) → prefix_len is_word_byte text < k → k ≤ length text → token_of source (take k text) ≡ None)
        → token_step source at text ≡ takes (cond found (key (take (prefix_len is_word_byte text) text)) (word (take (prefix_len is_word_byte text) text))) (prefix_len is_word_byte text)
    takes_at true e none = takes_is at text (prefix_len is_word_byte text) (key _) e (prefix_len-le-length is_word_byte text) none
    takes_at false e none = takes_is at text (prefix_len is_word_byte text) (word _) e (prefix_len-le-length is_word_byte text) none

-- the same of the length and the name as the code has them
pub reads_longer_key : (at : ℕ) (text : List ℕ) (n : ℕ) (name : List ℕ) → n ≡ prefix_len is_word_byte text → begins_word text ≡ true → n < length text
    → is_among keys (take (n + 1) text) ≡ true → name ≡ take (n + 1) text → token_step source at text ≡ takes (key name) (n + 1)
reads_longer_key at text n name run begins within found is =
    let later : n + 1 ≡ suc (prefix_len is_word_byte text) = omega arith in
    let there : is_among keys (take (suc (prefix_len is_word_byte text)) text) ≡ true = rw (← later) found in
    rw (is, later) (longer_key at text begins (omega arith) there)

pub reads_word_or_key : (at : ℕ) (text : List ℕ) (n : ℕ) (name : List ℕ) (found : Bool) → n ≡ prefix_len is_word_byte text → begins_word text ≡ true
    → (n < length text → is_among keys (take (n + 1) text) ≡ false) → is_among keys (take n text) ≡ found → name ≡ take n text
    → token_step source at text ≡ takes (cond found (key name) (word name)) n
reads_word_or_key at text n name found run begins shorter here is =
    let shorter_at : prefix_len is_word_byte text < length text → is_among keys (take (suc (prefix_len is_word_byte text)) text) ≡ false =
    (λ l. let later : n + 1 ≡ suc (prefix_len is_word_byte text) = omega arith in rw (← later) (shorter (omega arith))) in
    let there : is_among keys (take (prefix_len is_word_byte text) text) ≡ found = rw (← run) here in
    rw (is, run) (word_or_key at text found begins shorter_at there)
