-- The pieces of a string, as the code takes them.
use Rattle.std.proofs.Common.{◌≡◌, ◌≢◌, ◌≤◌, ◌<◌, ◌+◌, ◌-◌, ℕ, suc, false, List, [], ◌∷◌, ◌++◌, length, take, drop, get_or, length-drop, refl, sym, ◌∙◌, ap, subst, arith}
use Rattle.std.specs.Prelude.{Some, None}
use Rattle.std.specs.List.{prefix_len}
use Rattle.std.specs.Str.{IsUtf8}
use Rattle.std.proofs.lemmas.List.{get_or-drop}
use Rattle.std.proofs.lemmas.List.Sums.{prefix_len_stops}
use Rattle.std.proofs.lemmas.Bool.Decides.{nat_tests}
use Rattle.tokens.specs.Quoted.{string_contents, escaped, after_backslash}
use Rattle.tokens.specs.Reading.{token_step, takes, refuses}
use Rattle.tokens.specs.Token.{source, string}
use Rattle.rho_lexer.specs.Meaning.{is_plain, IsFault, IsRefusal}
use Rattle.rho_lexer.specs.declared.token.LexFault.{LexFault}
use Rattle.rho_lexer.proofs.Contents.{strings}
use Rattle.rho_lexer.proofs.Faults.{fault_is}
use Rattle.rho_lexer.proofs.Marks.{closed_step}
use Rattle.rho_lexer.proofs.Steps.{rest_is}
use Rattle.rho_lexer.proofs.Strings.{plain_more, string_bad_escape, escape_more}

-- the run of plain bytes from a place on
pub run_is : (rest : List ℕ) (n m : ℕ) → m ≡ prefix_len is_plain (take (length rest - n) (drop n rest)) → m ≡ prefix_len is_plain (drop n rest)
run_is rest n m e = e ∙ ap (prefix_len is_plain) (rest_is n rest)

-- the bytes of it
pub piece_is : (rest : List ℕ) (n m : ℕ) → take (n + m - n) (drop n rest) ≡ take m (drop n rest)
piece_is rest n m = let same : n + m - n ≡ m = omega arith in rw same refl

pub pieces_on : (rest : List ℕ) (n m : ℕ) (x text : List ℕ) → string_contents (take n rest) ≡ Some x → m ≡ prefix_len is_plain (take (length rest - n) (drop n rest))
    → text ≡ take (n + m - n) (drop n rest) → IsUtf8 (take (n + m - n) (drop n rest)) → string_contents (take (n + m) rest) ≡ Some (x ++ text)
pieces_on rest n m x text good run is u =
    let bytes : text ≡ take m (drop n rest) = is ∙ piece_is rest n m in
    let run_here = run_is rest n m run in
    plain_more rest n m x good (omega arith) (subst IsUtf8 (piece_is rest n m) u) ∙ ap (λ y. Some (x ++ y)) (sym bytes)

-- what follows the run
not_plain : (b : ℕ) → is_plain b ≡ false → b ≢ 34 → b ≡ 92
not_plain b e f = grind (arith, nat_tests, e)

pub backslash_there : (rest : List ℕ) (n m : ℕ) → m ≡ prefix_len is_plain (take (length rest - n) (drop n rest)) → n + m < length rest → get_or rest (n + m) 0 ≢ 34
    → get_or rest (n + m) 0 ≡ 92
backslash_there rest n m run within other =
    let run_here = run_is rest n m run in
    let len : length (drop n rest) ≡ length rest - n = length-drop n rest in
    let ends : is_plain (get_or (drop n rest) (prefix_len is_plain (drop n rest)) 0) ≡ false = prefix_len_stops is_plain (drop n rest) 0 (omega arith) in
    let here : is_plain (get_or (drop n rest) m 0) ≡ false = rw run_here ends in
    not_plain (get_or rest (n + m) 0) (ap is_plain (sym (get_or-drop n rest m 0)) ∙ here) other

pub string_closed : (at : ℕ) (rest : List ℕ) (n : ℕ) (x : List ℕ) → n < length rest → string_contents (take n rest) ≡ Some x → get_or rest n 0 ≡ 34
    → token_step source at (34 ∷ rest) ≡ takes (string x) (n + 2)
string_closed at rest n x within good there =
    let two : suc (suc n) ≡ n + 2 = omega arith in closed_step strings at rest n x within good there ∙ rw two refl

-- what stands behind the backslash
behind_is : (rest : List ℕ) (n : ℕ) → take (length rest - (n + 1)) (drop (n + 1) rest) ≡ drop (suc n) rest
behind_is rest n = let next : n + 1 ≡ suc n = omega arith in rw next (rest_is (suc n) rest)

first_behind : (rest : List ℕ) (n : ℕ) → get_or (drop (suc n) rest) 0 0 ≡ get_or rest (suc n) 0
first_behind rest n = get_or-drop (suc n) rest 0 0 ∙ (let same : suc n + 0 ≡ suc n = omega arith in rw same refl)

pub escape_fault : (at : ℕ) (rest : List ℕ) (n : ℕ) (x behind : List ℕ) (fault : LexFault) → n < length rest → string_contents (take n rest) ≡ Some x → get_or rest n 0 ≡ 92
    → behind ≡ take (length rest - (n + 1)) (drop (n + 1) rest) → (0 < length behind → escaped (get_or behind 0 0) ≡ None)
    → IsRefusal fault (after_backslash at (at + 1 + n) behind) → IsFault (token_step source at (34 ∷ rest)) fault
escape_fault at rest n x behind fault within good there is none refusal =
    let here : behind ≡ drop (suc n) rest = is ∙ behind_is rest n in
    let len : length behind ≡ length rest - suc n = ap length here ∙ length-drop (suc n) rest in
    let byte : get_or behind 0 0 ≡ get_or rest (suc n) 0 = ap (λ bs. get_or bs 0 0) here ∙ first_behind rest n in
    fault_is (token_step source at (34 ∷ rest)) fault (after_backslash at (at + 1 + n) behind) refusal
    (string_bad_escape at rest n x within good there (λ l. ap escaped (sym byte) ∙ none (omega arith)) ∙ ap (λ bs. refuses (after_backslash at (at + 1 + n) bs)) (sym here))

pub escaped_on : (rest : List ℕ) (n : ℕ) (x behind : List ℕ) (v : ℕ) → n < length rest → string_contents (take n rest) ≡ Some x → get_or rest n 0 ≡ 92
    → behind ≡ take (length rest - (n + 1)) (drop (n + 1) rest) → 0 < length behind → escaped (get_or behind 0 0) ≡ Some v
    → string_contents (take (n + 2) rest) ≡ Some (x ++ v ∷ [])
escaped_on rest n x behind v within good there is some e =
    let here : behind ≡ drop (suc n) rest = is ∙ behind_is rest n in
    let len : length behind ≡ length rest - suc n = ap length here ∙ length-drop (suc n) rest in
    let byte : get_or behind 0 0 ≡ get_or rest (suc n) 0 = ap (λ bs. get_or bs 0 0) here ∙ first_behind rest n in
    escape_more rest n x v (omega arith) good there (ap escaped (sym byte) ∙ e)

-- a place before the end
pub before_end : (rest : List ℕ) (n m : ℕ) → n ≤ length rest → m ≤ length (take (length rest - n) (drop n rest)) → (n + m ≡ length rest → ⊥) → n + m < length rest
before_end rest n m low bound other =
    let len : length (take (length rest - n) (drop n rest)) ≡ length rest - n = ap length (rest_is n rest) ∙ length-drop n rest in omega arith

-- two bytes are there where one stands behind the backslash
pub two_there : (rest : List ℕ) (n : ℕ) → 0 < length (take (length rest - (n + 1)) (drop (n + 1) rest)) → n + 2 ≤ length rest
two_there rest n some =
    let len : length (take (length rest - (n + 1)) (drop (n + 1) rest)) ≡ length rest - suc n = ap length (behind_is rest n) ∙ length-drop (suc n) rest in omega arith

pub escaped_small : (b v : ℕ) → escaped b ≡ Some v → v < 128
escaped_small b v e = grind (arith, nat_tests, e)
