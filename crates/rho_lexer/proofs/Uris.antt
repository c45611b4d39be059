-- Uris, as they are read.
use Rattle.std.proofs.Common.{◌≡◌, ◌≤◌, ◌<◌, ◌+◌, ℕ, zero, suc, Bool, true, false, not, ◌&&◌, ◌||◌, List, [], ◌∷◌, length, take, drop, get_or, refl, sym, ◌∙◌, ap, subst, arith}
use Rattle.std.specs.Prelude.{◌==◌, Some, None}
use Rattle.std.specs.List.{list_all, list_any, prefix_len}
use Rattle.std.specs.Str.{IsUtf8, IsValidUpTo}
use Rattle.std.proofs.lemmas.Bool.Decides.{nat_tests}
use Rattle.std.proofs.lemmas.List.{length-take-le, take-take, get_or-take}
use Rattle.std.proofs.lemmas.List.Sums.{prefix_len_stops, prefix_len-le-length}
use Rattle.std.proofs.lemmas.Str.{IsUtf8-append, IsUtf8-from_ascii, IsUtf8-nil}
use Rattle.std.proofs.Math.Seq.{drop-cons, drop-length, take-suc}
use borrow.Author.Tests.{ne_eqb}
use Rattle.tokens.specs.Quoted.{uri_contents, unfinished}
use Rattle.tokens.specs.Reading.{token_step, takes, refuses}
use Rattle.tokens.specs.Token.{source, uri, bad_byte, open_string, refusal}
use Rattle.rho_lexer.specs.Meaning.{is_inside}
use Rattle.rho_lexer.proofs.Contents.{uris, uri_from}
use Rattle.rho_lexer.proofs.IllFormed.{ill_formed}
use Rattle.rho_lexer.proofs.Marks.{closed_step, stuck_step}
use Rattle.rho_lexer.proofs.Steps.{run_passes}
use Rattle.rho_lexer.proofs.Strings.{not_utf8_none, at_plain}

inside_none : (xs : List ℕ) → list_all is_inside xs ≡ true → list_any (λ b. b == 96) xs ≡ false
inside_none [] e = refl
inside_none (b ∷ bs) e = none_of (b == 96) (list_all is_inside bs) e (inside_none bs)
  where
    none_of : (t r : Bool) → (not t && r) ≡ true → (r ≡ true → list_any (λ b. b == 96) bs ≡ false) → (t || list_any (λ b. b == 96) bs) ≡ false
    none_of true r e h = cc
    none_of false r e h = h e

-- a front with no back quote
pub inside_front : (rest : List ℕ) (m : ℕ) → m ≤ prefix_len is_inside rest → IsUtf8 (take m rest) → uri_contents (take m rest) ≡ Some (take m rest)
inside_front rest m run u = uri_from (take m rest) u (inside_none (take m rest) (run_passes is_inside rest m run))

not_inside : (b : ℕ) → is_inside b ≡ false → b ≡ 96
not_inside b e = grind (arith, nat_tests, e)

after_run : (rest : List ℕ) (m : ℕ) → m ≡ prefix_len is_inside rest → m < length rest → get_or rest m 0 ≡ 96
after_run rest m run l =
    let ends : is_inside (get_or rest (prefix_len is_inside rest) 0) ≡ false = prefix_len_stops is_inside rest 0 (omega arith) in
    let here : is_inside (get_or rest m 0) ≡ false = rw run ends in
    not_inside (get_or rest m 0) here

-- one that is closed
pub uri_closed : (at : ℕ) (rest : List ℕ) (m : ℕ) (name : List ℕ) → m ≡ prefix_len is_inside rest → m < length rest → IsUtf8 (take m rest) → name ≡ take m rest
    → token_step source at (96 ∷ rest) ≡ takes (uri name) (m + 2)
uri_closed at rest m name run within u is =
    let two : suc (suc m) ≡ m + 2 = omega arith in
    closed_step uris at rest m (take m rest) within (inside_front rest m (omega arith) u) (after_run rest m run within)
    ∙ rw (is, two) refl

-- one that the text ends in
pub uri_open : (at : ℕ) (rest : List ℕ) (m : ℕ) → m ≡ prefix_len is_inside rest → m ≡ length rest → IsUtf8 (take m rest)
    → token_step source at (96 ∷ rest) ≡ refuses (refusal open_string at)
uri_open at rest m run whole u =
    stuck_step uris at rest m (take m rest) (omega arith) (inside_front rest m (omega arith) u) (λ k p q. absurd (omega arith)) (λ l. absurd (omega arith))
    ∙ ap refuses (ap (unfinished at (at + 1 + m)) (ap (λ i. drop i rest) whole ∙ drop-length rest))

-- where bytes stop being UTF-8, none stands that is ASCII
no_ascii : (run : List ℕ) (v : ℕ) → IsValidUpTo run v → get_or run v 0 < 128 → ⊥
no_ascii run v most small =
    let short = most.short in
    let one : IsUtf8 (get_or run v 0 ∷ []) = IsUtf8-from_ascii (get_or run v 0 ∷ []) (only (get_or run v 0) small) in
    most.longest (suc v) (omega arith) (subst IsUtf8 (sym (take-suc run v 0 short)) (IsUtf8-append (take v run) (get_or run v 0 ∷ []) most.front one))
  where
    only : (b : ℕ) → b < 128 → (i : ℕ) → get_or (b ∷ []) i 0 < 128
    only b h zero = h
    only b h (suc i) = omega arith

-- one that stops being UTF-8
pub uri_ill_formed : (at : ℕ) (rest : List ℕ) (m v : ℕ) → m ≡ prefix_len is_inside rest → IsValidUpTo (take m rest) v → (IsUtf8 (take m rest) → ⊥)
    → token_step source at (96 ∷ rest) ≡ refuses (refusal bad_byte (at + 1 + v))
uri_ill_formed at rest m v run most not_utf8 =
    let bound = prefix_len-le-length is_inside rest in
    let cut : length (take m rest) ≡ m = length-take-le m rest (omega arith) in
    let short : v < m = omega (arith, most.short) in
    let front : IsUtf8 (take v rest) = subst IsUtf8 (take-take v m rest (omega arith)) most.front in
    let same : get_or (take m rest) v 0 ≡ get_or rest v 0 = get_or-take m rest v 0 short in
    let other : (get_or rest v 0 == 92) ≡ false = ne_eqb (get_or rest v 0) 92 (λ e. no_ascii (take m rest) v most (omega arith)) in
    let mark : get_or rest v 0 ≡ 96 → ⊥ = λ e. no_ascii (take m rest) v most (omega arith) in
    stuck_step uris at rest v (take v rest) (omega arith) (inside_front rest v (omega arith) front) stuck (λ _. mark)
    ∙ ap refuses (ap (unfinished at (at + 1 + v)) (drop-cons rest v 0 (omega arith)) ∙ at_plain at (at + 1 + v) (get_or rest v 0) (drop (suc v) rest) other)
  where
    ascii : 0 + m < length rest → get_or rest (0 + m) 0 < 128
    ascii l =
        let sum : 0 + m ≡ m = omega arith in
        let there : get_or rest m 0 ≡ 96 = after_run rest m run (omega arith) in
        rw sum (omega arith)

    stuck : (k : ℕ) → v < k → k ≤ length rest → uri_contents (take k rest) ≡ None
    stuck k p q =
        let bound = prefix_len-le-length is_inside rest in
        not_utf8_none uris (take k rest) (ill_formed rest 0 m v k IsUtf8-nil (omega arith) ascii most not_utf8 (omega arith) q)
