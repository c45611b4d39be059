-- What strings and Uris may hold.
use Rattle.std.proofs.Common.{◌≡◌, ◌<◌, ℕ, zero, suc, Bool, true, false, cond, not, ◌&&◌, ◌||◌, List, [], ◌∷◌, ◌++◌, get_or, refl, ◌∙◌, ap, arith}
use Rattle.std.specs.Prelude.{◌==◌, Option, Some, None}
use Rattle.std.specs.List.{list_all, list_any}
use Rattle.std.specs.Option.{option_map}
use Rattle.std.specs.Str.{IsUtf8, is_utf8}
use Rattle.std.proofs.lemmas.Str.{IsUtf8-from_is_utf8, is_utf8-from_IsUtf8, IsUtf8-append, IsUtf8-from_ascii}
use Rattle.std.proofs.lemmas.List.Folds.{list_any-append}
use Rattle.tokens.specs.Bytes.{back_quote}
use Rattle.tokens.specs.Quoted.{unescaped_after, unescaped, escaped, string_contents, uri_contents}
use Rattle.tokens.specs.Token.{string, uri}
use Rattle.rho_lexer.specs.Meaning.{is_plain}
use Rattle.rho_lexer.proofs.Escapes.{unescaped-append, unescaped-plain}
use Rattle.rho_lexer.proofs.Heads.{strings_only, uris_only}
use Rattle.rho_lexer.proofs.Marks.{IsQuoting}

if_some : {A : Type 0} (t : Bool) (o : Option A) (x : A) → cond t o None ≡ Some x → (t ≡ true) × (o ≡ Some x)
if_some true o x e = (refl, e)
if_some false o x e = cc

-- a string's contents: UTF-8, with its escapes replaced
pub string_says : (bs x : List ℕ) → string_contents bs ≡ Some x → IsUtf8 bs × (unescaped bs ≡ Some x)
unfolding string_contents
string_says bs x e = let parts = if_some (is_utf8 bs) (unescaped bs) x e in (IsUtf8-from_is_utf8 bs parts.0, parts.1)

pub string_from : (bs x : List ℕ) → IsUtf8 bs → unescaped bs ≡ Some x → string_contents bs ≡ Some x
unfolding string_contents
string_from bs x u e = let test = is_utf8-from_IsUtf8 bs u in rw test e

if_none : {A : Type 0} (t : Bool) (o : Option A) → o ≡ None → cond t o None ≡ None
if_none true o e = e
if_none false o e = refl

pub string_none : (bs : List ℕ) → unescaped bs ≡ None → string_contents bs ≡ None
unfolding string_contents
string_none bs e = if_none (is_utf8 bs) (unescaped bs) e

-- a Uri's contents: UTF-8 with no back quote
pub uri_says : (bs x : List ℕ) → uri_contents bs ≡ Some x → IsUtf8 bs × (list_any (λ b. b == back_quote) bs ≡ false)
unfolding uri_contents
uri_says bs x e = says (is_utf8 bs) (list_any (λ b. b == back_quote) bs) refl refl e
  where
    says : (s t : Bool) → is_utf8 bs ≡ s → list_any (λ b. b == back_quote) bs ≡ t → cond (s && not t) (Some bs) None ≡ Some x
        → IsUtf8 bs × (list_any (λ b. b == back_quote) bs ≡ false)
    says true false u f g = (IsUtf8-from_is_utf8 bs u, f)
    says true true u f g = cc
    says false t u f g = cc

pub uri_from : (bs : List ℕ) → IsUtf8 bs → list_any (λ b. b == back_quote) bs ≡ false → uri_contents bs ≡ Some bs
unfolding uri_contents
uri_from bs u e = let test = is_utf8-from_IsUtf8 bs u in rw (test, e) refl

pub uri_none : (bs : List ℕ) → list_any (λ b. b == back_quote) bs ≡ true → uri_contents bs ≡ None
unfolding uri_contents
uri_none bs e = rw e (fails (is_utf8 bs))
  where
    fails : (t : Bool) → cond (t && false) (Some bs) None ≡ None
    fails true = refl
    fails false = refl

quote_in_string : (front more x : List ℕ) → string_contents front ≡ Some x → string_contents (front ++ 34 ∷ more) ≡ None
unfolding unescaped_after
quote_in_string front more x e = string_none (front ++ 34 ∷ more) (unescaped-append false front (34 ∷ more) x (string_says front x e).1)

or_true : (t : Bool) → (t || true) ≡ true
or_true true = refl
or_true false = refl

mark_in_uri : (front more x : List ℕ) → uri_contents front ≡ Some x → uri_contents (front ++ 96 ∷ more) ≡ None
mark_in_uri front more x e = uri_none (front ++ 96 ∷ more) (list_any-append (λ b. b == back_quote) front (96 ∷ more) ∙ or_true (list_any (λ b. b == back_quote) front))

pub strings : IsQuoting 34 string_contents string
strings = record {
  whole = strings_only;
  fault = λ at bs. refl;
  closes = quote_in_string;
  utf8 = λ bs x e. (string_says bs x e).0;
  small = λ x. refl;
}

pub uris : IsQuoting 96 uri_contents uri
uris = record {
  whole = uris_only;
  fault = λ at bs. refl;
  closes = mark_in_uri;
  utf8 = λ bs x e. (uri_says bs x e).0;
  small = λ x. refl;
}

-- plain text after a front of a string
pub plain_on : (front run x : List ℕ) → string_contents front ≡ Some x → IsUtf8 run → list_all is_plain run ≡ true → string_contents (front ++ run) ≡ Some (x ++ run)
plain_on front run x e u p =
    let says = string_says front x e in
    string_from (front ++ run) (x ++ run) (IsUtf8-append front run says.0 u)
    (unescaped-append false front run x says.1 ∙ ap (option_map (λ y. x ++ y)) (unescaped-plain run p))

-- an escape after it
pub escape_on : (front x : List ℕ) (c v : ℕ) → string_contents front ≡ Some x → escaped c ≡ Some v → c < 128 → string_contents (front ++ 92 ∷ c ∷ []) ≡ Some (x ++ v ∷ [])
unfolding unescaped_after
escape_on front x c v e f small =
    let says = string_says front x e in
    let pair : IsUtf8 (92 ∷ c ∷ []) = IsUtf8-from_ascii (92 ∷ c ∷ []) (two_small c small) in
    string_from (front ++ 92 ∷ c ∷ []) (x ++ v ∷ []) (IsUtf8-append front (92 ∷ c ∷ []) says.0 pair)
    (unescaped-append false front (92 ∷ c ∷ []) x says.1 ∙ rw f refl)
  where
    two_small : (c : ℕ) → c < 128 → (i : ℕ) → get_or (92 ∷ c ∷ []) i 0 < 128
    two_small c small zero = omega arith
    two_small c small (suc zero) = small
    two_small c small (suc (suc i)) = omega arith

-- a backslash that makes no escape after it
pub no_escape_on : (front more x : List ℕ) → string_contents front ≡ Some x → unescaped_after true more ≡ None → string_contents (front ++ 92 ∷ more) ≡ None
unfolding unescaped_after
no_escape_on front more x e f =
    string_none (front ++ 92 ∷ more) (unescaped-append false front (92 ∷ more) x (string_says front x e).1 ∙ rw f refl)
