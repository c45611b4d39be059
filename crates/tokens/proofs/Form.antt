-- What a token spelt by some bytes has for content.
use Rattle.std.proofs.Common.{◌≡◌, ◌^◌, ◌%◌, ℕ, Bool, true, false, ◌&&◌, List, [], ◌∷◌, length, refl, ◌∙◌, ap, subst}
use Rattle.std.specs.Prelude.{◌==◌, Option, Some, None}
use Rattle.std.specs.List.{list_all}
use Rattle.std.specs.Option.{option_map, option_and_then, option_or}
use Rattle.std.proofs.lemmas.Bool.{ltb-false, eqb-true}
use Rattle.tokens.specs.Bytes.{quote, back_quote, is_hex_digit, is_digit}
use Rattle.tokens.specs.Quoted.{string_contents, uri_contents, between_marks}
use Rattle.tokens.specs.Reading.{is_too_large}
use Rattle.tokens.specs.Spelling.{token_of, only_if, is_word, some_all, decimal, key_of, word_of, sign_of, integer_of, string_of, uri_of, fresh_name_of, byte_array_of, printed_form_of, HasForm}
use Rattle.tokens.specs.Tables.{keys, signs, is_among}
use Rattle.tokens.specs.Token.{Notation, source, printed, Token, word, key, sign, integer, string, uri, fresh_name, byte_array}
use Rattle.tokens.proofs.Contents.{string_utf8, uri_form}

one_of : {P : Type 0} (a b : Option Token) (t : Token) → option_or a b ≡ Some t → (a ≡ Some t → P) → (a ≡ None → b ≡ Some t → P) → P
one_of None b t e first second = second refl e
one_of (Some u) b t e first second = first e

given : (b : Bool) (u t : Token) → only_if b u ≡ Some t → (b ≡ true) × (u ≡ t)
given true u t e = (refl, cc)
given false u t e = cc

not_given : (b : Bool) (u : Token) → only_if b u ≡ None → b ≡ false
not_given true u e = cc
not_given false u e = refl

mapped : (form : List ℕ → Token) (o : Option (List ℕ)) (t : Token) → option_map form o ≡ Some t → (x : List ℕ) × (o ≡ Some x) × (form x ≡ t)
mapped form None t e = cc
mapped form (Some x) t e = (x, refl, cc)

chained : (f : List ℕ → Option (List ℕ)) (o : Option (List ℕ)) (x : List ℕ) → option_and_then f o ≡ Some x → (y : List ℕ) × (f y ≡ Some x)
chained f None x e = cc
chained f (Some y) x e = (y, e)

three : (a b c : Bool) → (a && b && c) ≡ true → (b ≡ true) × (c ≡ true)
three true true true e = (refl, refl)
three true true false e = cc
three true false c e = cc
three false b c e = cc

printed_form : (n : Notation) (bs : List ℕ) (t : Token) → printed_form_of n bs ≡ Some t → HasForm t
printed_form source bs t e = cc
printed_form printed [] t e = cc
printed_form printed (b ∷ bs) t e = one_of (fresh_name_of (b ∷ bs)) (byte_array_of (b ∷ bs)) t e
    (λ h. let is = given (b == 36 && length bs == 64 && list_all is_hex_digit bs) (fresh_name bs) t h in
    let parts = three (b == 36) (length bs == 64) (list_all is_hex_digit bs) is.0 in
    let ok : HasForm (fresh_name bs) = (eqb-true (length bs) 64 parts.0, parts.1) in subst HasForm is.1 ok)
    (λ _ h. let is = given (b == 35 && length bs % 2 == 0 && list_all is_hex_digit bs) (byte_array bs) t h in
    let parts = three (b == 35) (length bs % 2 == 0) (list_all is_hex_digit bs) is.0 in
    let ok : HasForm (byte_array bs) = (eqb-true (length bs % 2) 0 parts.0, parts.1) in subst HasForm is.1 ok)

number_form : (n : ℕ) (t : Token) → integer n ≡ t → is_too_large t ≡ false → HasForm t
number_form n t e small =
    let fits : is_too_large (integer n) ≡ false = ap is_too_large e ∙ small in
    let ok : HasForm (integer n) = ltb-false (2 ^ 63) n fits in subst HasForm e ok

pub form_of : (n : Notation) (bs : List ℕ) (t : Token) → token_of n bs ≡ Some t → is_too_large t ≡ false → HasForm t
unfolding token_of
form_of n bs t e small =
    one_of (key_of bs) _ t e (λ h. let is = given (is_among keys bs) (key bs) t h in let ok : HasForm (key bs) = is.0 in subst HasForm is.1 ok)
    (λ no_key e. one_of (word_of bs) _ t e
    (λ h. let is = given (is_word bs) (word bs) t h in let ok : HasForm (word bs) = (is.0, not_given (is_among keys bs) (key bs) no_key) in subst HasForm is.1 ok)
    (λ _ e. one_of (sign_of bs) _ t e (λ h. let is = given (is_among signs bs) (sign bs) t h in let ok : HasForm (sign bs) = is.0 in subst HasForm is.1 ok)
    (λ _ e. one_of (integer_of bs) _ t e (λ h. number_form (decimal bs) t (given (some_all is_digit bs) (integer (decimal bs)) t h).1 small)
    (λ _ e. one_of (string_of bs) _ t e
    (λ h. let is = mapped string (option_and_then string_contents (between_marks quote bs)) t h in
    let from = chained string_contents (between_marks quote bs) is.0 is.1 in
    let ok : HasForm (string is.0) = string_utf8 from.0 is.0 from.1 in subst HasForm is.2 ok)
    (λ _ e. one_of (uri_of bs) _ t e
    (λ h. let is = mapped uri (option_and_then uri_contents (between_marks back_quote bs)) t h in
    let from = chained uri_contents (between_marks back_quote bs) is.0 is.1 in
    let ok : HasForm (uri is.0) = uri_form from.0 is.0 from.1 in subst HasForm is.2 ok)
    (λ _ e. printed_form n bs t e))))))
