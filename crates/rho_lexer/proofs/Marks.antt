-- Strings and Uris: what stands where one begins.
use Rattle.std.proofs.Common.{◌≡◌, ◌≢◌, ◌≤◌, ◌<◌, ◌+◌, ℕ, zero, suc, Bool, true, false, cond, List, [], ◌∷◌, ◌++◌, length, take, drop, get_or, refl, sym, ◌∙◌, ap, subst, arith}
use Rattle.std.specs.Prelude.{◌==◌, Option, Some, None, is_some}
use Rattle.std.specs.Option.{option_map, option_and_then, option_or}
use Rattle.std.specs.Str.{IsUtf8}
use Rattle.std.proofs.lemmas.Bool.{eqb-true, cases_lt}
use Rattle.std.proofs.Math.Logic.{⊎_elim}
use Rattle.std.proofs.Math.Seq.{drop-cons}
use Rattle.std.proofs.lemmas.List.{length-take-le, take-take, take-append-drop, get_or-take}
use borrow.Author.Tests.{eq-eqb}
use Rattle.tokens.specs.Fronts.{longest_front}
use Rattle.tokens.specs.Quoted.{before_mark, with_first, quoted_refusal, unfinished}
use Rattle.tokens.specs.Reading.{token_step, takes, refuses, no_token, is_too_large}
use Rattle.tokens.specs.Spelling.{token_of}
use Rattle.tokens.specs.Token.{source, Token}
use Rattle.tokens.proofs.Fronts.{longest_front_is}
use Rattle.rho_lexer.proofs.Steps.{takes_is, none_is}

-- what holds of a form between marks
pub record IsQuoting (mark : ℕ) (contents : List ℕ → Option (List ℕ)) (form : List ℕ → Token) : Type 0 where
  pub whole : (bs : List ℕ) → token_of source (mark ∷ bs) ≡ option_or (option_map form (option_and_then contents (before_mark mark bs))) None
  pub fault : (at : ℕ) (bs : List ℕ) → no_token at (mark ∷ bs) ≡ quoted_refusal contents at bs
  pub closes : (front more x : List ℕ) → contents front ≡ Some x → contents (front ++ mark ∷ more) ≡ None
  pub utf8 : (bs x : List ℕ) → contents bs ≡ Some x → IsUtf8 bs
  pub small : (x : List ℕ) → is_too_large (form x) ≡ false

first_of_choice : (t : Bool) (b : ℕ) (bs : List ℕ) → with_first b (cond t (Some bs) None) ≡ cond t (Some (b ∷ bs)) None
first_of_choice true b bs = refl
first_of_choice false b bs = refl

-- the bytes before a mark, of a front
before_mark_front : (mark : ℕ) (rest : List ℕ) (m : ℕ) → m < length rest → before_mark mark (take (suc m) rest) ≡ cond (get_or rest m 0 == mark) (Some (take m rest)) None
unfolding before_mark
before_mark_front mark [] m h = absurd (omega arith)
before_mark_front mark (b ∷ bs) zero h = refl
before_mark_front mark (b ∷ []) (suc m) h = absurd (omega arith)
before_mark_front mark (b ∷ c ∷ cs) (suc m) h =
    ap (with_first b) (before_mark_front mark (c ∷ cs) m (omega arith)) ∙ first_of_choice (get_or (c ∷ cs) m 0 == mark) b (take m (c ∷ cs))

choice : {A : Type 0} (form : List ℕ → A) (contents : List ℕ → Option (List ℕ)) (t : Bool) (xs : List ℕ)
    → option_or (option_map form (option_and_then contents (cond t (Some xs) None))) None ≡ cond t (option_or (option_map form (contents xs)) None) None
choice form contents true xs = refl
choice form contents false xs = refl

-- what a front of a text between marks spells
quoted_front : {mark : ℕ} {contents : List ℕ → Option (List ℕ)} {form : List ℕ → Token} → IsQuoting mark contents form → (rest : List ℕ) (m : ℕ) → m < length rest
    → token_of source (mark ∷ take (suc m) rest) ≡ cond (get_or rest m 0 == mark) (option_or (option_map form (contents (take m rest))) None) None
quoted_front {mark} {contents} {form} q rest m h =
    q.whole (take (suc m) rest) ∙ rw (before_mark_front mark rest m h) (choice form contents (get_or rest m 0 == mark) (take m rest))

mark_alone : {mark : ℕ} {contents : List ℕ → Option (List ℕ)} {form : List ℕ → Token} → IsQuoting mark contents form → token_of source (mark ∷ []) ≡ None
unfolding before_mark
mark_alone q = q.whole []

-- a front that goes past a place is the front up to it, what stands there, and more
pub front_past : (rest : List ℕ) (n k : ℕ) → n < k → k ≤ length rest → take k rest ≡ take n rest ++ (get_or rest n 0 ∷ drop (suc n) (take k rest))
front_past rest n k p q =
    let len : length (take k rest) ≡ k = length-take-le k rest q in
    let same : get_or (take k rest) n 0 ≡ get_or rest n 0 = get_or-take k rest n 0 p in
    let cut : drop n (take k rest) ≡ get_or (take k rest) n 0 ∷ drop (suc n) (take k rest) = drop-cons (take k rest) n 0 (omega arith) in
    sym (take-append-drop n (take k rest)) ∙ rw (take-take n k rest (omega arith), cut, same) refl

-- nothing that goes past the mark means something, once what stands before it does
pub past_mark : {mark : ℕ} {contents : List ℕ → Option (List ℕ)} {form : List ℕ → Token} → IsQuoting mark contents form → (rest : List ℕ) (n k : ℕ) (x : List ℕ)
    → contents (take n rest) ≡ Some x → get_or rest n 0 ≡ mark → n < k → k ≤ length rest → contents (take k rest) ≡ None
past_mark {mark} {contents} {form} q rest n k x e there p within =
    ap contents (front_past rest n k p within ∙ ap (λ b. take n rest ++ (b ∷ drop (suc n) (take k rest))) there)
    ∙ q.closes (take n rest) (drop (suc n) (take k rest)) x e

no_choice : {A : Type 0} (t : Bool) (form : List ℕ → A) (o : Option (List ℕ)) → (t ≡ true → o ≡ None) → cond t (option_or (option_map form o) None) None ≡ None
no_choice true form o h = let none = h refl in rw none refl
no_choice false form o h = refl

-- what stands where a string or Uri is closed
pub closed_step : {mark : ℕ} {contents : List ℕ → Option (List ℕ)} {form : List ℕ → Token} → IsQuoting mark contents form → (at : ℕ) (rest : List ℕ) (n : ℕ) (x : List ℕ)
    → n < length rest → contents (take n rest) ≡ Some x → get_or rest n 0 ≡ mark → token_step source at (mark ∷ rest) ≡ takes (form x) (suc (suc n))
closed_step {mark} {contents} {form} q at rest n x within e there =
    let test : (get_or rest n 0 == mark) ≡ true = eq-eqb (get_or rest n 0) mark there in
    takes_is at (mark ∷ rest) (suc (suc n)) (form x) (quoted_front q rest n within ∙ rw (test, e) refl) (omega arith) longer
    ∙ (let small = q.small x in rw small refl)
  where
    longer : (k : ℕ) → suc (suc n) < k → k ≤ suc (length rest) → token_of source (take k (mark ∷ rest)) ≡ None
    longer zero p h = absurd (omega arith)
    longer (suc zero) p h = absurd (omega arith)
    longer (suc (suc m)) p h =
        let none : contents (take m rest) ≡ None = past_mark q rest n m x e there (omega arith) (omega arith) in
        quoted_front q rest m (omega arith) ∙ no_choice (get_or rest m 0 == mark) form (contents (take m rest)) (λ _. none)

none_before : {mark : ℕ} {contents : List ℕ → Option (List ℕ)} {form : List ℕ → Token} → IsQuoting mark contents form → (rest : List ℕ) (m n : ℕ) (x : List ℕ)
    → contents (take n rest) ≡ Some x → get_or rest m 0 ≡ mark → m < n → n ≤ length rest → (o : Option (List ℕ)) → contents (take m rest) ≡ o → o ≡ None
none_before q rest m n x e there p within None f = refl
none_before q rest m n x e there p within (Some y) f = let none = past_mark q rest m n y f there p within in absurd (cc)

-- what stands where it goes wrong after n bytes
pub stuck_step : {mark : ℕ} {contents : List ℕ → Option (List ℕ)} {form : List ℕ → Token} → IsQuoting mark contents form → (at : ℕ) (rest : List ℕ) (n : ℕ) (x : List ℕ)
    → n ≤ length rest → contents (take n rest) ≡ Some x → ((k : ℕ) → n < k → k ≤ length rest → contents (take k rest) ≡ None)
    → (n < length rest → get_or rest n 0 ≢ mark) → token_step source at (mark ∷ rest) ≡ refuses (unfinished at (at + 1 + n) (drop n rest))
stuck_step {mark} {contents} {form} q at rest n x within e stuck other =
    let len : longest_front (λ front. is_some (contents front)) rest ≡ n = longest_front_is (λ front. is_some (contents front)) rest n
    (record { within = within; passes = λ _. ap is_some e; longer = λ k p h. ap is_some (stuck k p h) }) in
    none_is at (mark ∷ rest) none ∙ ap refuses (q.fault at rest ∙ ap (λ m. unfinished at (at + 1 + m) (drop m rest)) len)
  where
    none_at : (m : ℕ) → m < length rest → (get_or rest m 0 == mark) ≡ true → contents (take m rest) ≡ None
    none_at m h t =
        let there : get_or rest m 0 ≡ mark = eqb-true (get_or rest m 0) mark t in
        ⊎_elim (λ l. stuck m l (omega arith))
        (λ l. ⊎_elim (λ g. none_before q rest m n x e there g within (contents (take m rest)) refl)
        (λ g. let same : m ≡ n = omega arith in absurd (other (omega arith) (subst (λ j. get_or rest j 0 ≡ mark) same there)))
        (cases_lt m n))
        (cases_lt n m)

    none : (k : ℕ) → 0 < k → k ≤ suc (length rest) → token_of source (take k (mark ∷ rest)) ≡ None
    none zero p h = absurd (omega arith)
    none (suc zero) p h = mark_alone q
    none (suc (suc m)) p h = quoted_front q rest m (omega arith) ∙ no_choice (get_or rest m 0 == mark) form (contents (take m rest)) (none_at m (omega arith))
