-- Strings and Uris of printed texts.
use Rattle.std.proofs.Common.{◌≡◌, ℕ, Bool, true, false, cond, not, eqb, ◌&&◌, ◌||◌, List, [], ◌∷◌, ◌++◌, refl, sym, ap, ◌∙◌, arith}
use Rattle.std.specs.Prelude.{◌==◌, flat_map, codes, Option, Some, None, IsUtf8, Contains}
use Rattle.std.specs.List.{list_any}
use Rattle.std.specs.Option.{option_map, option_and_then, option_or}
use Rattle.std.specs.Str.{is_utf8}
use Rattle.std.proofs.lemmas.Bool.{eqb-true, ne_eqb}
use Rattle.std.proofs.lemmas.List.{append_assoc}
use Rattle.std.proofs.lemmas.List.Elements.{Contains-append_right}
use Rattle.std.proofs.lemmas.Str.{is_utf8-from_IsUtf8}
use Rattle.calculus.specs.Printed.{escaped as printed_escape}
use Rattle.tokens.specs.Quoted.{string_contents, uri_contents, unescaped_after, with_first, before_mark}
use Rattle.tokens.specs.Spelling.{token_of, string_of, uri_of}
use Rattle.tokens.specs.Tables.{keys, signs}
use Rattle.tokens.specs.Token.{printed, Token, string, uri}
use Rattle.grammar.specs.Terminals.{text, a_string, a_uri}
use Rattle.printed_spelling.proofs.Scanning.{Lexed}
use Rattle.printed_spelling.proofs.Signs.{whole}

-- bytes before a mark that is the last of them
module _ (m : ℕ) (same : (m == m) ≡ true) where
  only_mark : before_mark m (m ∷ []) ≡ Some []
  unfolding before_mark
  only_mark = rw same refl

  before_last : (xs : List ℕ) → before_mark m (xs ++ (m ∷ [])) ≡ Some xs
  unfolding before_mark
  before_last [] = only_mark
  before_last (x ∷ []) = ap (with_first x) only_mark
  before_last (x ∷ y ∷ xs) = ap (with_first x) (before_last (y ∷ xs))

-- bytes with a mark among them, before more of them
behind_map : (x : ℕ) (xs : List ℕ) (o : Option (List ℕ)) → with_first x (option_map (λ z. xs ++ z) o) ≡ option_map (λ z. (x ∷ xs) ++ z) o
behind_map x xs None = refl
behind_map x xs (Some z) = refl

before_later : (m : ℕ) (xs : List ℕ) (c : ℕ) (e : List ℕ) → before_mark m (xs ++ (m ∷ c ∷ e)) ≡ option_map (λ z. xs ++ (m ∷ z)) (before_mark m (c ∷ e))
unfolding before_mark
before_later m [] c e = first (before_mark m (c ∷ e))
  where
    first : (o : Option (List ℕ)) → with_first m o ≡ option_map (λ z. m ∷ z) o
    first None = refl
    first (Some z) = refl
before_later m (x ∷ []) c e = more (before_mark m (c ∷ e))
  where
    more : (o : Option (List ℕ)) → with_first x (with_first m o) ≡ option_map (λ z. x ∷ (m ∷ z)) o
    more None = refl
    more (Some z) = refl
before_later m (x ∷ y ∷ xs) c e = ap (with_first x) (before_later m (y ∷ xs) c e) ∙ more (before_mark m (c ∷ e))
  where
    more : (o : Option (List ℕ)) → with_first x (option_map (λ z. (y ∷ xs) ++ (m ∷ z)) o) ≡ option_map (λ z. (x ∷ y ∷ xs) ++ (m ∷ z)) o
    more None = refl
    more (Some z) = refl

-- with a mark among them they mean nothing
none_means : (m : ℕ) (contents : List ℕ → Option (List ℕ)) (xs : List ℕ) (c : ℕ) (e : List ℕ) → ((z : List ℕ) → contents (xs ++ (m ∷ z)) ≡ None)
    → option_and_then contents (before_mark m (xs ++ (m ∷ c ∷ e))) ≡ None
none_means m contents xs c e h = ap (option_and_then contents) (before_later m xs c e) ∙ each (before_mark m (c ∷ e))
  where
    each : (o : Option (List ℕ)) → option_and_then contents (option_map (λ z. xs ++ (m ∷ z)) o) ≡ None
    each None = refl
    each (Some z) = h z

strings_only : (bs : List ℕ) → token_of printed (34 ∷ bs) ≡ option_or (string_of (34 ∷ bs)) None
unfolding token_of keys signs
strings_only bs = refl

uris_only : (bs : List ℕ) → token_of printed (96 ∷ bs) ≡ option_or (uri_of (96 ∷ bs)) None
unfolding token_of keys signs
uris_only bs = refl

-- the form of a text that means this, and of one that means nothing
formed : (form : List ℕ → Token) (o : Option (List ℕ)) (x : List ℕ) → o ≡ Some x → option_or (option_map form o) None ≡ Some (form x)
formed form o x e = ap (λ p. option_or (option_map form p) None) e

unformed : (form : List ℕ → Token) (o : Option (List ℕ)) → o ≡ None → option_or (option_map form o) None ≡ None
unformed form o e = ap (λ p. option_or (option_map form p) None) e

-- a string whose bytes mean this
pub string_here : (xs x : List ℕ) → string_contents xs ≡ Some x → ((z : List ℕ) → string_contents (xs ++ (34 ∷ z)) ≡ None) → Lexed false (34 ∷ (xs ++ (34 ∷ []))) (λ r. text a_string x ∷ r)
string_here xs x e h =
    whole 34 (xs ++ (34 ∷ [])) (string x) refl refl
    (strings_only (xs ++ (34 ∷ [])) ∙ formed string _ x (ap (option_and_then string_contents) (before_last 34 refl xs) ∙ e)) refl
    (λ c z. ap (λ bs. token_of printed (34 ∷ bs)) (append_assoc xs (34 ∷ []) (c ∷ z)) ∙ strings_only (xs ++ (34 ∷ c ∷ z)) ∙ unformed string _ (none_means 34 string_contents xs c z h))

uri_here : (x : List ℕ) → uri_contents x ≡ Some x → ((z : List ℕ) → uri_contents (x ++ (96 ∷ z)) ≡ None) → Lexed false (96 ∷ (x ++ (96 ∷ []))) (λ r. text a_uri x ∷ r)
uri_here x e h =
    whole 96 (x ++ (96 ∷ [])) (uri x) refl refl
    (uris_only (x ++ (96 ∷ [])) ∙ formed uri _ x (ap (option_and_then uri_contents) (before_last 96 refl x) ∙ e)) refl
    (λ c z. ap (λ bs. token_of printed (96 ∷ bs)) (append_assoc x (96 ∷ []) (c ∷ z)) ∙ uris_only (x ++ (96 ∷ c ∷ z)) ∙ unformed uri _ (none_means 96 uri_contents x c z h))

-- a Uri
uri_means : (x : List ℕ) → is_utf8 x ≡ true → list_any (λ b. b == 96) x ≡ false → uri_contents x ≡ Some x
unfolding uri_contents
uri_means x e f = rw (e, f) refl

or_true : (a : Bool) → (a || true) ≡ true
or_true true = refl
or_true false = refl

marked_within : (x z : List ℕ) → list_any (λ b. b == 96) (x ++ (96 ∷ z)) ≡ true
marked_within [] z = refl
marked_within (b ∷ x) z = ap (λ t. (b == 96) || t) (marked_within x z) ∙ or_true (b == 96)

and_none : (a : Bool) (x : List ℕ) → cond (a && not true) (Some x) None ≡ None
and_none true x = refl
and_none false x = refl

uri_ends : (x z : List ℕ) → uri_contents (x ++ (96 ∷ z)) ≡ None
unfolding uri_contents
uri_ends x z = ap (λ t. cond (is_utf8 (x ++ (96 ∷ z)) && not t) (Some (x ++ (96 ∷ z))) None) (marked_within x z) ∙ and_none (is_utf8 (x ++ (96 ∷ z))) (x ++ (96 ∷ z))

pub lex_uri_of : (x : List ℕ) → is_utf8 x ≡ true → list_any (λ b. b == 96) x ≡ false → Lexed false (codes "`" ++ (x ++ codes "`")) (λ r. text a_uri x ∷ r)
lex_uri_of x e f = uri_here x (uri_means x e f) (uri_ends x)

unmarked : (x : List ℕ) → (Contains x 0x60 → ⊥) → list_any (λ b. b == 96) x ≡ false
unmarked [] h = refl
unmarked (b ∷ bs) h =
    let other : (b == 96) ≡ false = ne_eqb b 96 (λ e. h (0, omega arith, e)) in
    rw (other, unmarked bs (λ c. h (Contains-append_right (b ∷ []) bs 0x60 c))) refl

pub lex_uri : (x : List ℕ) → IsUtf8 x → (Contains x 0x60 → ⊥) → Lexed false (codes "`" ++ (x ++ codes "`")) (λ r. text a_uri x ∷ r)
lex_uri x u h = lex_uri_of x (is_utf8-from_IsUtf8 x u) (unmarked x h)

-- the bytes of a character, escaped, mean it
one_means : (c : ℕ) (rest : List ℕ) (q s l t : Bool) → eqb c 0x22 ≡ q → eqb c 0x5C ≡ s → eqb c 0x0A ≡ l → eqb c 0x09 ≡ t
    → unescaped_after false (cond q (0x5C ∷ 0x22 ∷ []) (cond s (0x5C ∷ 0x5C ∷ []) (cond l (0x5C ∷ 0x6E ∷ []) (cond t (0x5C ∷ 0x74 ∷ []) (c ∷ [])))) ++ rest) ≡ with_first c (unescaped_after false rest)
unfolding unescaped_after
one_means c rest true s l t e f g h = ap (λ b. with_first b (unescaped_after false rest)) (sym (eqb-true c 0x22 e))
one_means c rest false true l t e f g h = ap (λ b. with_first b (unescaped_after false rest)) (sym (eqb-true c 0x5C f))
one_means c rest false false true t e f g h = ap (λ b. with_first b (unescaped_after false rest)) (sym (eqb-true c 0x0A g))
one_means c rest false false false true e f g h = ap (λ b. with_first b (unescaped_after false rest)) (sym (eqb-true c 0x09 h))
one_means c rest false false false false e f g h = rw (e, f) refl

pub all_mean : (x rest : List ℕ) → unescaped_after false (flat_map printed_escape x ++ rest) ≡ option_map (λ z. x ++ z) (unescaped_after false rest)
all_mean [] rest = nothing (unescaped_after false rest)
  where
    nothing : (o : Option (List ℕ)) → o ≡ option_map (λ z. [] ++ z) o
    nothing None = refl
    nothing (Some z) = refl
all_mean (c ∷ x) rest =
    ap (unescaped_after false) (append_assoc (printed_escape c) (flat_map printed_escape x) rest)
    ∙ one_means c (flat_map printed_escape x ++ rest) (eqb c 0x22) (eqb c 0x5C) (eqb c 0x0A) (eqb c 0x09) refl refl refl refl
    ∙ ap (with_first c) (all_mean x rest) ∙ behind_map c x (unescaped_after false rest)
