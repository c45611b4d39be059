-- Strings of printed texts: what is escaped is text still.
use Rattle.std.proofs.Common.{◌≡◌, ◌≤◌, ◌<◌, ℕ, zero, suc, Bool, true, false, cond, eqb, List, [], ◌∷◌, ◌++◌, length, get_or, append-nil, refl, sym, ap, ◌∙◌, subst, arith}
use Rattle.std.specs.Prelude.{flat_map, codes, Option, Some, None, IsUtf8, nat_le}
use Rattle.std.specs.List.{list_all}
use Rattle.std.specs.Str.{is_utf8}
use lib.Utf8.{encode, encodes, scalar, scalars}
use Rattle.std.proofs.Math.Logic.{⊎_elim}
use Rattle.std.proofs.lemmas.Bool.{cases_lt, le-leb}
use Rattle.std.proofs.lemmas.Bool.Decides.{nat_tests}
use Rattle.std.proofs.lemmas.Grind.{get_or_default_zero}
use Rattle.std.proofs.lemmas.List.Concat.{flat_map-append}
use Rattle.std.proofs.lemmas.List.Sums.{list_all-from_AllPass}
use Rattle.std.proofs.lemmas.Str.{IsUtf8-append, IsUtf8-from_ascii, IsUtf8-nil, encode_ascii, inside_one, is_utf8-from_IsUtf8}
use Rattle.calculus.specs.Printed.{escaped}
use Rattle.tokens.specs.Quoted.{string_contents, unescaped_after}
use Rattle.grammar.specs.Terminals.{text, a_string}
use Rattle.printed_spelling.proofs.Heads.{and_halves}
use Rattle.printed_spelling.proofs.Scanning.{Lexed}
use Rattle.printed_spelling.proofs.Quoted.{string_here, all_mean}

-- a byte of a character beyond ASCII
abbrev is_high : ℕ → Bool
is_high b = nat_le 128 b

high_byte : (c : ℕ) → 128 ≤ c → (k d : ℕ) → k < length (encode c) → is_high (get_or (encode c) k d) ≡ true
high_byte c high k d h =
    let zero_default : get_or (encode c) k d ≡ get_or (encode c) k 0 = get_or_default_zero (encode c) k d h in
    ⊎_elim
    (λ l. let same : c ≡ get_or (encode c) k 0 = inside_one c [] (encode c) k (sym (append-nil (encode c))) h l in absurd (omega arith))
    (λ l. le-leb 128 (get_or (encode c) k d) (omega arith))
    (cases_lt (get_or (encode c) k 0) 128)

high_bytes : (c : ℕ) → 128 ≤ c → list_all is_high (encode c) ≡ true
high_bytes c high = list_all-from_AllPass is_high (encode c) (λ k d h. high_byte c high k d h)

-- it is not escaped
high_escape : (b : ℕ) → is_high b ≡ true → escaped b ≡ b ∷ []
high_escape b e =
    let q : eqb b 0x22 ≡ false = grind (arith, nat_tests, e) in
    let s : eqb b 0x5C ≡ false = grind (arith, nat_tests, e) in
    let l : eqb b 0x0A ≡ false = grind (arith, nat_tests, e) in
    let t : eqb b 0x09 ≡ false = grind (arith, nat_tests, e) in
    rw (q, s, l, t) refl

high_stay : (bs : List ℕ) → list_all is_high bs ≡ true → flat_map escaped bs ≡ bs
high_stay [] h = refl
high_stay (b ∷ bs) h =
    let k = and_halves (is_high b) (list_all is_high bs) h in
    ap (λ xs. xs ++ flat_map escaped bs) (high_escape b k.0) ∙ ap (λ xs. b ∷ xs) (high_stay bs k.1)

-- a byte of ASCII, escaped or not, is text
two_small : (a b : ℕ) → a < 128 → b < 128 → (i : ℕ) → get_or (a ∷ b ∷ []) i 0 < 128
two_small a b h k zero = h
two_small a b h k (suc zero) = k
two_small a b h k (suc (suc i)) = omega arith

one_small : (a : ℕ) → a < 128 → (i : ℕ) → get_or (a ∷ []) i 0 < 128
one_small a h zero = h
one_small a h (suc i) = omega arith

ascii_escape : (c : ℕ) (q s l t : Bool) → c < 128 → IsUtf8 (cond q (0x5C ∷ 0x22 ∷ []) (cond s (0x5C ∷ 0x5C ∷ []) (cond l (0x5C ∷ 0x6E ∷ []) (cond t (0x5C ∷ 0x74 ∷ []) (c ∷ [])))))
ascii_escape c true s l t h = IsUtf8-from_ascii _ (two_small 0x5C 0x22 (omega arith) (omega arith))
ascii_escape c false true l t h = IsUtf8-from_ascii _ (two_small 0x5C 0x5C (omega arith) (omega arith))
ascii_escape c false false true t h = IsUtf8-from_ascii _ (two_small 0x5C 0x6E (omega arith) (omega arith))
ascii_escape c false false false true h = IsUtf8-from_ascii _ (two_small 0x5C 0x74 (omega arith) (omega arith))
ascii_escape c false false false false h = IsUtf8-from_ascii _ (one_small c h)

one_char : (c : ℕ) → scalar c ≡ true → IsUtf8 (encode c)
one_char c e = (c ∷ [], (rw e refl, append-nil (encode c)))

char_text : (c : ℕ) → scalar c ≡ true → IsUtf8 (flat_map escaped (encode c))
char_text c e = ⊎_elim
    (λ l. subst (λ bs. IsUtf8 (flat_map escaped bs)) (sym (encode_ascii c l)) (subst IsUtf8 (sym (append-nil (escaped c))) (ascii_escape c (eqb c 0x22) (eqb c 0x5C) (eqb c 0x0A) (eqb c 0x09) l)))
    (λ l. subst IsUtf8 (sym (high_stay (encode c) (high_bytes c l))) (one_char c e))
    (cases_lt c 128)

chars_text : (cs : List ℕ) → scalars cs ≡ true → IsUtf8 (flat_map escaped (encodes cs))
chars_text [] h = IsUtf8-nil
chars_text (c ∷ cs) h =
    let k = and_halves (scalar c) (scalars cs) h in
    subst IsUtf8 (sym (flat_map-append escaped (encode c) (encodes cs))) (IsUtf8-append _ _ (char_text c k.0) (chars_text cs k.1))

-- the escaped bytes mean the string
string_means : (x : List ℕ) → IsUtf8 x → string_contents (flat_map escaped x) ≡ Some x
unfolding string_contents unescaped_after
string_means x u =
    let e : IsUtf8 (flat_map escaped x) = subst (λ bs. IsUtf8 (flat_map escaped bs)) u.1.1 (chars_text u.0 u.1.0) in
    let m : unescaped_after false (flat_map escaped x) ≡ Some x = ap (unescaped_after false) (sym (append-nil (flat_map escaped x))) ∙ all_mean x [] ∙ ap (λ z. Some z) (append-nil x) in
    rw (is_utf8-from_IsUtf8 (flat_map escaped x) e, m) refl

none_either : (b : Bool) (o : Option (List ℕ)) → o ≡ None → cond b o None ≡ None
none_either true o e = e
none_either false o e = refl

string_ends : (x z : List ℕ) → string_contents (flat_map escaped x ++ (34 ∷ z)) ≡ None
unfolding string_contents unescaped_after
string_ends x z = none_either (is_utf8 (flat_map escaped x ++ (34 ∷ z))) _ (all_mean x (34 ∷ z))

pub lex_str : (x : List ℕ) → IsUtf8 x → Lexed false (codes "\"" ++ (flat_map escaped x ++ codes "\"")) (λ r. text a_string x ∷ r)
lex_str x u = string_here (flat_map escaped x) x (string_means x u) (string_ends x)
