-- Strings, as they are read.
use Rattle.std.proofs.Common.{◌≡◌, ◌≢◌, ◌≤◌, ◌<◌, ◌+◌, ◌-◌, ℕ, suc, true, false, List, [], ◌∷◌, ◌++◌, length, take, drop, get_or, length-drop, refl, sym, ◌∙◌, ap, subst, arith}
use Rattle.std.specs.Prelude.{◌==◌, Option, Some, None}
use Rattle.std.specs.List.{prefix_len}
use Rattle.std.specs.Str.{IsUtf8, IsValidUpTo}
use Rattle.std.proofs.lemmas.Bool.{cases_lt}
use Rattle.std.proofs.lemmas.Bool.Decides.{nat_tests}
use Rattle.std.proofs.lemmas.List.{length-take-le, take-take, get_or-take, get_or-drop}
use Rattle.std.proofs.lemmas.List.Sums.{prefix_len_passes, prefix_len_stops, prefix_len-le-length}
use Rattle.std.proofs.lemmas.Str.{IsUtf8-nil}
use Rattle.std.proofs.Math.Seq.{drop-cons, drop-length, take-add}
use Rattle.std.proofs.Math.Logic.{⊎_elim}
use Rattle.tokens.specs.Quoted.{unescaped_after, escaped, string_contents, unfinished, after_backslash}
use Rattle.tokens.specs.Reading.{token_step, refuses}
use Rattle.tokens.specs.Token.{source, Token, bad_byte, open_string, refusal}
use Rattle.rho_lexer.specs.Meaning.{is_plain}
use Rattle.rho_lexer.proofs.Contents.{strings, string_from, plain_on, escape_on, no_escape_on}
use Rattle.rho_lexer.proofs.IllFormed.{ill_formed}
use Rattle.rho_lexer.proofs.Marks.{IsQuoting, front_past, stuck_step}
use Rattle.rho_lexer.proofs.Steps.{run_passes}

pub nothing_yet : string_contents [] ≡ Some []
unfolding unescaped_after
nothing_yet = string_from [] [] IsUtf8-nil refl

-- a run of plain bytes more
pub plain_more : (rest : List ℕ) (n m : ℕ) (x : List ℕ) → string_contents (take n rest) ≡ Some x → m ≤ prefix_len is_plain (drop n rest) → IsUtf8 (take m (drop n rest))
    → string_contents (take (n + m) rest) ≡ Some (x ++ take m (drop n rest))
plain_more rest n m x e run u = ap string_contents (take-add n m rest) ∙ plain_on (take n rest) (take m (drop n rest)) x e u (run_passes is_plain (drop n rest) m run)

-- what isn't UTF-8 means nothing
pub not_utf8_none : {mark : ℕ} {contents : List ℕ → Option (List ℕ)} {form : List ℕ → Token} → IsQuoting mark contents form → (bs : List ℕ) → (IsUtf8 bs → ⊥) → contents bs ≡ None
not_utf8_none {mark} {contents} {form} q bs h = none_of (contents bs) refl
  where
    none_of : (o : Option (List ℕ)) → contents bs ≡ o → o ≡ None
    none_of None e = refl
    none_of (Some x) e = absurd (h (q.utf8 bs x e))

not_plain_small : (b : ℕ) → is_plain b ≡ false → b < 128
not_plain_small b e = grind (arith, nat_tests, e)

plain_no_quote : (b : ℕ) → is_plain b ≡ true → b ≢ 34
plain_no_quote b e = grind (arith, nat_tests, e)

plain_no_backslash : (b : ℕ) → is_plain b ≡ true → (b == 92) ≡ false
plain_no_backslash b e = grind (arith, nat_tests, e)

pub at_plain : (start place b : ℕ) (bs : List ℕ) → (b == 92) ≡ false → unfinished start place (b ∷ bs) ≡ refusal bad_byte place
at_plain start place b bs e = rw e refl

-- a string that stops being UTF-8
pub string_ill_formed : (at : ℕ) (rest : List ℕ) (n m v : ℕ) (x : List ℕ) → n ≤ length rest → string_contents (take n rest) ≡ Some x → m ≡ prefix_len is_plain (drop n rest)
    → IsValidUpTo (take m (drop n rest)) v → (IsUtf8 (take m (drop n rest)) → ⊥) → token_step source at (34 ∷ rest) ≡ refuses (refusal bad_byte (at + 1 + n + v))
string_ill_formed at rest n m v x within e run most not_utf8 =
    let len : length (drop n rest) ≡ length rest - n = length-drop n rest in
    let bound = prefix_len-le-length is_plain (drop n rest) in
    let cut : length (take m (drop n rest)) ≡ m = length-take-le m (drop n rest) (omega arith) in
    let short : v < m = omega (arith, most.short) in
    let front : IsUtf8 (take v (drop n rest)) = subst IsUtf8 (take-take v m (drop n rest) (omega arith)) most.front in
    let plain : is_plain (get_or rest (n + v) 0) ≡ true = ap is_plain (sym (get_or-drop n rest v 0)) ∙ prefix_len_passes is_plain (drop n rest) v 0 (omega arith) in
    let place : at + 1 + (n + v) ≡ at + 1 + n + v = omega arith in
    stuck_step strings at rest (n + v) (x ++ take v (drop n rest)) (omega arith) (plain_more rest n v x e (omega arith) front)
    (λ k p q. not_utf8_none strings (take k rest) (ill_formed rest n m v k (strings.utf8 (take n rest) x e) (omega arith) ascii most not_utf8 p q))
    (λ _. plain_no_quote (get_or rest (n + v) 0) plain)
    ∙ ap refuses (ap (unfinished at (at + 1 + (n + v))) (drop-cons rest (n + v) 0 (omega arith))
    ∙ at_plain at (at + 1 + (n + v)) (get_or rest (n + v) 0) (drop (suc (n + v)) rest) (plain_no_backslash (get_or rest (n + v) 0) plain) ∙ ap (refusal bad_byte) place)
  where
    ascii : n + m < length rest → get_or rest (n + m) 0 < 128
    ascii l =
        let len : length (drop n rest) ≡ length rest - n = length-drop n rest in
        let ends : is_plain (get_or (drop n rest) (prefix_len is_plain (drop n rest)) 0) ≡ false = prefix_len_stops is_plain (drop n rest) 0 (omega arith) in
        let here : is_plain (get_or (drop n rest) m 0) ≡ false = rw run ends in
        not_plain_small (get_or rest (n + m) 0) (ap is_plain (sym (get_or-drop n rest m 0)) ∙ here)

-- one that the text ends in
pub string_open : (at : ℕ) (rest : List ℕ) (n : ℕ) (x : List ℕ) → n ≡ length rest → string_contents (take n rest) ≡ Some x
    → token_step source at (34 ∷ rest) ≡ refuses (refusal open_string at)
string_open at rest n x whole e =
    stuck_step strings at rest n x (omega arith) e (λ k p q. absurd (omega arith)) (λ l. absurd (omega arith))
    ∙ ap refuses (ap (unfinished at (at + 1 + n)) (ap (λ i. drop i rest) whole ∙ drop-length rest))

-- after a backslash with no escape behind it nothing means anything
after_no_escape : (rest : List ℕ) (n k : ℕ) → n < k → k ≤ length rest → (suc n < length rest → escaped (get_or rest (suc n) 0) ≡ None)
    → unescaped_after true (drop (suc n) (take k rest)) ≡ None
unfolding unescaped_after
after_no_escape rest n k p q none = ⊎_elim
    (λ l. let len : length (take k rest) ≡ k = length-take-le k rest q in
    let byte : get_or (take k rest) (suc n) 0 ≡ get_or rest (suc n) 0 = get_or-take k rest (suc n) 0 l in
    let here = none (omega arith) in
    let cut : drop (suc n) (take k rest) ≡ get_or (take k rest) (suc n) 0 ∷ drop (suc (suc n)) (take k rest) = drop-cons (take k rest) (suc n) 0 (omega arith) in
    rw (cut, byte, here) refl)
    (λ l. let len : suc n ≡ length (take k rest) = (let cut : length (take k rest) ≡ k = length-take-le k rest q in omega arith) in
    let nothing : drop (suc n) (take k rest) ≡ [] = ap (λ i. drop i (take k rest)) len ∙ drop-length (take k rest) in
    rw nothing refl)
    (cases_lt (suc n) k)

-- one that goes wrong at a backslash
pub string_bad_escape : (at : ℕ) (rest : List ℕ) (n : ℕ) (x : List ℕ) → n < length rest → string_contents (take n rest) ≡ Some x → get_or rest n 0 ≡ 92
    → (suc n < length rest → escaped (get_or rest (suc n) 0) ≡ None)
    → token_step source at (34 ∷ rest) ≡ refuses (after_backslash at (at + 1 + n) (drop (suc n) rest))
string_bad_escape at rest n x within e there none =
    stuck_step strings at rest n x (omega arith) e stuck (λ l g. absurd (omega arith))
    ∙ ap refuses (ap (unfinished at (at + 1 + n)) (drop-cons rest n 0 within ∙ ap (λ b. b ∷ drop (suc n) rest) there))
  where
    stuck : (k : ℕ) → n < k → k ≤ length rest → string_contents (take k rest) ≡ None
    stuck k p q =
        ap string_contents (front_past rest n k p q ∙ ap (λ b. take n rest ++ (b ∷ drop (suc n) (take k rest))) there)
        ∙ no_escape_on (take n rest) (drop (suc n) (take k rest)) x e (after_no_escape rest n k p q none)

-- an escape more
pub escape_more : (rest : List ℕ) (n : ℕ) (x : List ℕ) (v : ℕ) → suc n < length rest → string_contents (take n rest) ≡ Some x → get_or rest n 0 ≡ 92
    → escaped (get_or rest (suc n) 0) ≡ Some v → string_contents (take (n + 2) rest) ≡ Some (x ++ v ∷ [])
escape_more rest n x v within e there is =
    let two : take 2 (drop n rest) ≡ 92 ∷ get_or rest (suc n) 0 ∷ [] =
    ap (take 2) (drop-cons rest n 0 (omega arith) ∙ ap (λ bs. get_or rest n 0 ∷ bs) (drop-cons rest (suc n) 0 within) ∙ ap (λ b. b ∷ get_or rest (suc n) 0 ∷ drop (suc (suc n)) rest) there) in
    ap string_contents (take-add n 2 rest ∙ ap (λ bs. take n rest ++ bs) two)
    ∙ escape_on (take n rest) x (get_or rest (suc n) 0) v e is (escaped_small (get_or rest (suc n) 0) v is)
  where
    escaped_small : (c v : ℕ) → escaped c ≡ Some v → c < 128
    escaped_small c v e = grind (arith, nat_tests, e)
