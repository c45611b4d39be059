-- Escapes, byte by byte.
use Rattle.std.proofs.Common.{◌≡◌, ℕ, Bool, true, false, cond, not, ◌&&◌, List, [], ◌∷◌, ◌++◌, refl, ◌∙◌, ap}
use Rattle.std.specs.Prelude.{◌==◌, Option, Some, None}
use Rattle.std.specs.List.{list_all}
use Rattle.std.specs.Option.{option_map, option_and_then}
use Rattle.tokens.specs.Bytes.{quote, backslash}
use Rattle.tokens.specs.Quoted.{unescaped_after, escaped, with_first}
use Rattle.rho_lexer.specs.Meaning.{is_plain}

after_nothing : (o : Option (List ℕ)) → o ≡ option_map (λ y. [] ++ y) o
after_nothing None = refl
after_nothing (Some y) = refl

after_first : (c : ℕ) (y : List ℕ) (b : Option (List ℕ)) → with_first c (option_map (λ z. y ++ z) b) ≡ option_map (λ z. (c ∷ y) ++ z) b
after_first c y None = refl
after_first c y (Some z) = refl

-- one byte more before what was unescaped
one_more : (c : ℕ) (o r b : Option (List ℕ)) (x : List ℕ) → with_first c o ≡ Some x → ((y : List ℕ) → o ≡ Some y → r ≡ option_map (λ z. y ++ z) b)
    → with_first c r ≡ option_map (λ z. x ++ z) b
one_more c None r b x e h = cc
one_more c (Some y) r b x e h =
    let same : c ∷ y ≡ x = cc in
    ap (with_first c) (h y refl) ∙ after_first c y b ∙ ap (λ w. option_map (λ z. w ++ z) b) same

one_escape : (v : Option ℕ) (o r b : Option (List ℕ)) (x : List ℕ) → option_and_then (λ c. with_first c o) v ≡ Some x
    → ((y : List ℕ) → o ≡ Some y → r ≡ option_map (λ z. y ++ z) b) → option_and_then (λ c. with_first c r) v ≡ option_map (λ z. x ++ z) b
one_escape None o r b x e h = cc
one_escape (Some c) o r b x e h = one_more c o r b x e h

by_tests : (s t : Bool) (c : ℕ) (o o' r r' b : Option (List ℕ)) (x : List ℕ) → cond s None (cond t o (with_first c o')) ≡ Some x
    → (o ≡ Some x → r ≡ option_map (λ z. x ++ z) b) → ((y : List ℕ) → o' ≡ Some y → r' ≡ option_map (λ z. y ++ z) b)
    → cond s None (cond t r (with_first c r')) ≡ option_map (λ z. x ++ z) b
by_tests true t c o o' r r' b x e g h = cc
by_tests false true c o o' r r' b x e g h = g e
by_tests false false c o o' r r' b x e g h = one_more c o' r' b x e h

-- bytes after those that mean something
pub unescaped-append : (s : Bool) (a b x : List ℕ) → unescaped_after s a ≡ Some x → unescaped_after s (a ++ b) ≡ option_map (λ y. x ++ y) (unescaped_after false b)
unfolding unescaped_after
unescaped-append false [] b x e =
    let same : [] ≡ x = cc in after_nothing (unescaped_after false b) ∙ ap (λ w. option_map (λ y. w ++ y) (unescaped_after false b)) same
unescaped-append true [] b x e = cc
unescaped-append false (c ∷ cs) b x e =
    by_tests (c == quote) (c == backslash) c (unescaped_after true cs) (unescaped_after false cs) (unescaped_after true (cs ++ b)) (unescaped_after false (cs ++ b))
    (unescaped_after false b) x e (λ g. unescaped-append true cs b x g) (λ y g. unescaped-append false cs b y g)
unescaped-append true (c ∷ cs) b x e =
    one_escape (escaped c) (unescaped_after false cs) (unescaped_after false (cs ++ b)) (unescaped_after false b) x e (λ y g. unescaped-append false cs b y g)

plain_test : (c : ℕ) (o r : Option (List ℕ)) (s t : Bool) (rest : Bool) (bs : List ℕ) → ((not s && not t) && rest) ≡ true → (rest ≡ true → r ≡ Some bs)
    → cond s None (cond t o (with_first c r)) ≡ Some (c ∷ bs)
plain_test c o r true t rest bs e h = cc
plain_test c o r false true rest bs e h = cc
plain_test c o r false false rest bs e h = ap (with_first c) (h e)

-- plain bytes stand for themselves
pub unescaped-plain : (bs : List ℕ) → list_all is_plain bs ≡ true → unescaped_after false bs ≡ Some bs
unfolding unescaped_after
unescaped-plain [] e = refl
unescaped-plain (c ∷ cs) e = plain_test c (unescaped_after true cs) (unescaped_after false cs) (c == quote) (c == backslash) (list_all is_plain cs) cs e (unescaped-plain cs)
