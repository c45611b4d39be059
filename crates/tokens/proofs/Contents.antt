-- What a string or Uri means is text.
use Rattle.std.proofs.Common.{◌≡◌, ◌≤◌, ◌<◌, ℕ, zero, suc, Bool, true, false, cond, not, ◌&&◌, List, [], ◌∷◌, ◌++◌, length, get_or, append-nil, refl, sym, ◌∙◌, ap, subst, arith}
use Rattle.std.specs.Prelude.{◌==◌, nat_le, Option, Some, None}
use Rattle.std.specs.List.{list_all, list_any}
use Rattle.std.specs.Option.{option_map, option_and_then}
use Rattle.std.specs.Str.{IsUtf8, is_utf8}
use lib.Utf8.{encode, encodes, scalar, scalars}
use Rattle.std.proofs.lemmas.Bool.{cases_lt, le-leb}
use Rattle.std.proofs.lemmas.Bool.Decides.{nat_tests}
use Rattle.std.proofs.lemmas.Grind.{get_or_default_zero}
use Rattle.std.proofs.lemmas.List.Sums.{list_all-from_AllPass}
use Rattle.std.proofs.lemmas.Str.{IsUtf8-from_is_utf8, IsUtf8-append, IsUtf8-from_ascii, IsUtf8-nil, encode_ascii, inside_one, len_utf8_bounds, length-encode}
use Rattle.std.proofs.Math.Logic.{⊎_elim}
use Rattle.tokens.specs.Bytes.{back_quote}
use Rattle.tokens.specs.Quoted.{string_contents, uri_contents, unescaped_after, escaped, with_first}

pub uri_form : (bs x : List ℕ) → uri_contents bs ≡ Some x → IsUtf8 x × (list_any (λ b. b == back_quote) x ≡ false)
unfolding uri_contents
uri_form bs x e = says (is_utf8 bs) (list_any (λ b. b == back_quote) bs) refl refl e
  where
    says : (s t : Bool) → is_utf8 bs ≡ s → list_any (λ b. b == back_quote) bs ≡ t → cond (s && not t) (Some bs) None ≡ Some x
        → IsUtf8 x × (list_any (λ b. b == back_quote) x ≡ false)
    says true false u f g =
        let same : bs ≡ x = cc in
        let P : List ℕ → Type 0 = λ y. IsUtf8 y × (list_any (λ b. b == back_quote) y ≡ false) in subst P same (IsUtf8-from_is_utf8 bs u, f)
    says true true u f g = cc
    says false t u f g = cc

-- a byte of a character beyond ASCII
abbrev is_high : ℕ → Bool
is_high b = nat_le 128 b

high_byte : (c : ℕ) → 128 ≤ c → (k d : ℕ) → k < length (encode c) → is_high (get_or (encode c) k d) ≡ true
high_byte c high k d h =
    let zero_default : get_or (encode c) k d ≡ get_or (encode c) k 0 = get_or_default_zero (encode c) k d h in
    ⊎_elim
    (λ l. let same : c ≡ get_or (encode c) k 0 = inside_one c [] (encode c) k (sym (append-nil (encode c))) h l in absurd (omega arith))
    (λ l. le-leb 128 (get_or (encode c) k d) (omega arith))
    (cases_lt (get_or (encode c) k 0) 128)

high_bytes : (c : ℕ) → 128 ≤ c → list_all is_high (encode c) ≡ true
high_bytes c high = list_all-from_AllPass is_high (encode c) (λ k d h. high_byte c high k d h)

not_marks : (b : ℕ) → is_high b ≡ true → ((b == 34) ≡ false) × ((b == 92) ≡ false) × (escaped b ≡ None)
not_marks b e = (grind (arith, nat_tests, e), grind (arith, nat_tests, e), grind (arith, nat_tests, e))

after_nothing : (o : Option (List ℕ)) → o ≡ option_map (λ y. [] ++ y) o
after_nothing None = refl
after_nothing (Some y) = refl

after_first : (c : ℕ) (p : List ℕ) (o : Option (List ℕ)) → with_first c (option_map (λ y. p ++ y) o) ≡ option_map (λ y. (c ∷ p) ++ y) o
after_first c p None = refl
after_first c p (Some y) = refl

both_parts : (a b : Bool) → (a && b) ≡ true → (a ≡ true) × (b ≡ true)
both_parts true b e = (refl, e)
both_parts false b e = cc

-- bytes beyond ASCII stand for themselves
high_front : (p rest : List ℕ) → list_all is_high p ≡ true → unescaped_after false (p ++ rest) ≡ option_map (λ y. p ++ y) (unescaped_after false rest)
unfolding unescaped_after
high_front [] rest h = after_nothing (unescaped_after false rest)
high_front (b ∷ bs) rest h =
    let parts = both_parts (is_high b) (list_all is_high bs) h in
    let apart = not_marks b parts.0 in
    let quotes = apart.0 in
    let slashes = apart.1 in
    rw (quotes, slashes) (ap (with_first b) (high_front bs rest parts.1) ∙ after_first b bs (unescaped_after false rest))

-- none makes an escape
high_escape : (p rest : List ℕ) → 0 < length p → list_all is_high p ≡ true → unescaped_after true (p ++ rest) ≡ None
unfolding unescaped_after
high_escape [] rest some h = absurd (omega arith)
high_escape (b ∷ bs) rest some h =
    let parts = both_parts (is_high b) (list_all is_high bs) h in
    let apart = not_marks b parts.0 in
    let none = apart.2 in rw none refl

one_char : (c : ℕ) → scalar c ≡ true → IsUtf8 (encode c)
one_char c e = (c ∷ [], (rw e refl, append-nil (encode c)))

ascii_char : (c : ℕ) → c < 128 → IsUtf8 (c ∷ [])
ascii_char c small = IsUtf8-from_ascii (c ∷ []) (only c small)
  where
    only : (b : ℕ) → b < 128 → (i : ℕ) → get_or (b ∷ []) i 0 < 128
    only b h zero = h
    only b h (suc i) = omega arith

escape_small : (b v : ℕ) → escaped b ≡ Some v → v < 128
escape_small b v e = grind (arith, nat_tests, e)

-- a byte of ASCII before what means text
first_text : (c : ℕ) (o : Option (List ℕ)) (x : List ℕ) → c < 128 → ((y : List ℕ) → o ≡ Some y → IsUtf8 y) → with_first c o ≡ Some x → IsUtf8 x
first_text c None x small more e = cc
first_text c (Some y) x small more e =
    let same : c ∷ y ≡ x = cc in subst IsUtf8 same (IsUtf8-append (c ∷ []) y (ascii_char c small) (more y refl))

escape_text : (v : Option ℕ) (o : Option (List ℕ)) (x : List ℕ) → ((c : ℕ) → v ≡ Some c → c < 128) → ((y : List ℕ) → o ≡ Some y → IsUtf8 y)
    → option_and_then (λ c. with_first c o) v ≡ Some x → IsUtf8 x
escape_text None o x small more e = cc
escape_text (Some c) o x small more e = first_text c o x (small c refl) more e

plain_text : (s t : Bool) (c : ℕ) (o o' : Option (List ℕ)) (x : List ℕ) → c < 128 → ((y : List ℕ) → o ≡ Some y → IsUtf8 y) → ((y : List ℕ) → o' ≡ Some y → IsUtf8 y)
    → cond s None (cond t o (with_first c o')) ≡ Some x → IsUtf8 x
plain_text true t c o o' x small f g e = cc
plain_text false true c o o' x small f g e = f x e
plain_text false false c o o' x small f g e = first_text c o' x small g e

high_text : (p : List ℕ) (o : Option (List ℕ)) (x : List ℕ) → IsUtf8 p → ((y : List ℕ) → o ≡ Some y → IsUtf8 y) → option_map (λ y. p ++ y) o ≡ Some x → IsUtf8 x
high_text p None x u more e = cc
high_text p (Some y) x u more e = let same : p ++ y ≡ x = cc in subst IsUtf8 same (IsUtf8-append p y u (more y refl))

low_text : (s : Bool) (c : ℕ) (rest x : List ℕ) → c < 128 → ((t : Bool) (y : List ℕ) → unescaped_after t rest ≡ Some y → IsUtf8 y)
    → unescaped_after s (c ∷ rest) ≡ Some x → IsUtf8 x
unfolding unescaped_after
low_text true c rest x small more e = escape_text (escaped c) (unescaped_after false rest) x (escape_small c) (more false) e
low_text false c rest x small more e = plain_text (c == 34) (c == 92) c (unescaped_after true rest) (unescaped_after false rest) x small (more true) (more false) e

beyond_text : (s : Bool) (p rest x : List ℕ) → 0 < length p → IsUtf8 p → list_all is_high p ≡ true → ((t : Bool) (y : List ℕ) → unescaped_after t rest ≡ Some y → IsUtf8 y)
    → unescaped_after s (p ++ rest) ≡ Some x → IsUtf8 x
beyond_text true p rest x some u high more e = let none = high_escape p rest some high in absurd (cc)
beyond_text false p rest x some u high more e =
    high_text p (unescaped_after false rest) x u (more false) (sym (high_front p rest high) ∙ e)

-- characters with their escapes replaced are characters
means_text : (cs : List ℕ) (s : Bool) (x : List ℕ) → scalars cs ≡ true → unescaped_after s (encodes cs) ≡ Some x → IsUtf8 x
unfolding unescaped_after
means_text [] true x h e = cc
means_text [] false x h e = let same : [] ≡ x = cc in subst IsUtf8 same IsUtf8-nil
means_text (c ∷ cs) s x h e =
    let parts = both_parts (scalar c) (scalars cs) h in
    let more = λ (t : Bool) (y : List ℕ) (g : unescaped_after t (encodes cs) ≡ Some y). means_text cs t y parts.1 g in
    ⊎_elim
    (λ l. let P : List ℕ → Type 0 = λ p. unescaped_after s (p ++ encodes cs) ≡ Some x in
    low_text s c (encodes cs) x l more (subst P (encode_ascii c l) e))
    (λ l. let some : 0 < length (encode c) = (let bounds = len_utf8_bounds c in let len = length-encode c in omega arith) in
    beyond_text s (encode c) (encodes cs) x some (one_char c parts.0) (high_bytes c l) more e)
    (cases_lt c 128)

if_some : (t : Bool) (o : Option (List ℕ)) (x : List ℕ) → cond t o None ≡ Some x → (t ≡ true) × (o ≡ Some x)
if_some true o x e = (refl, e)
if_some false o x e = cc

pub string_utf8 : (bs x : List ℕ) → string_contents bs ≡ Some x → IsUtf8 x
unfolding string_contents
string_utf8 bs x e =
    let parts = if_some (is_utf8 bs) (unescaped_after false bs) x e in
    let text = IsUtf8-from_is_utf8 bs parts.0 in
    means_text text.0 false x text.1.0 (ap (unescaped_after false) text.1.1 ∙ parts.1)
