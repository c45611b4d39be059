-- Texts that are cut, and bytes that end them.
use Rattle.std.proofs.Common.{◌≡◌, ℕ, zero, suc, ◌-◌, ◌<◌, ◌≤◌, Bool, true, false, List, [], ◌∷◌, ◌++◌, take, drop, length, get_or, IsUtf8, refl, sym, ap, subst, ◌∙◌, arith, append_assoc, length-append, length-drop, take-append-drop, lt-ltb, le-leb, ltb-true, take_all}
use Rattle.std.specs.Prelude.{Contains, replicate, not, ◌&&◌, ◌||◌, eqb, leb, nat_lt, Option, None, Some, is_some}
use Rattle.std.specs.List.{list_all}
use Rattle.std.specs.Str.{IsValidUpTo}
use Rattle.std.specs.Str.Lossy.{utf8_error_len}
use Rattle.std.proofs.lemmas.Bool.{and_parts, and_from, leb-true}
use Rattle.std.proofs.lemmas.Str.{IsUtf8-nil, IsUtf8-append, IsUtf8-encode, encode_ascii}
use Rattle.calculus.specs.Form.{is_letter, goes_on_word, all_go_on, is_word, keys}
use Rattle.code_faults.specs.declared.sort.TextKind.TheVariants as kind
use Rattle.code_faults.specs.Texts.{BeginsText, IsClear, EndsClear, character_len, begins_word}
use Rattle.code_faults.proofs.Utf8.{Ends, completed, cut-begins, begins-facts}

-- so many letters
pad-utf8 : (n : ℕ) → IsUtf8 (replicate n 0x61)
pad-utf8 zero = IsUtf8-nil
pad-utf8 (suc n) = IsUtf8-append (0x61 ∷ []) (replicate n 0x61) (subst IsUtf8 (encode_ascii 0x61 (omega arith)) (IsUtf8-encode 0x61 refl)) (pad-utf8 n)

pad-clear : (n : ℕ) → IsClear (replicate n 0x61)
pad-clear zero = tt
pad-clear (suc n) = (λ q. omega arith, pad-clear n)

length-pad : (n k : ℕ) → length (replicate n k) ≡ n
length-pad zero k = refl
length-pad (suc n) k = omega (arith, length-pad n k)

clear-append : (xs ys : List ℕ) → IsClear xs → IsClear ys → IsClear (xs ++ ys)
clear-append [] ys h k = k
clear-append (x ∷ xs) ys h k = (h.0, clear-append xs ys h.1 k)

-- what is UTF-8 is ended by letters
pub whole-ends : (bs : List ℕ) (len : ℕ) → IsUtf8 bs → length bs < len → EndsClear bs len
whole-ends bs len u l =
    let n = len - length bs in
    record { more = replicate n 0x61; whole = IsUtf8-append bs (replicate n 0x61) u (pad-utf8 n); clear = pad-clear n; long = omega (arith, length-append bs (replicate n 0x61), length-pad n 0x61) }

-- bytes that end in a character that is cut are ended by what makes it whole, and letters
pub cut-ends : (bs : List ℕ) (v n len : ℕ) → IsUtf8 (take v bs) → v < length bs → Ends (drop v bs) n → n ≤ len - v → v ≤ len → EndsClear bs len
cut-ends bs v n len u s e f g =
    let k = len - v - n in
    let pad = replicate k 0x61 in
    let is : bs ++ (e.more ++ pad) ≡ take v bs ++ ((drop v bs ++ e.more) ++ pad) =
    ap (λ (z : List ℕ). z ++ (e.more ++ pad)) (sym (take-append-drop v bs)) ∙ append_assoc (take v bs) (drop v bs) (e.more ++ pad)
    ∙ ap (λ (z : List ℕ). take v bs ++ z) (sym (append_assoc (drop v bs) e.more pad)) in
    record {
      more = e.more ++ pad;
      whole = subst IsUtf8 (sym is) (IsUtf8-append (take v bs) ((drop v bs ++ e.more) ++ pad) u (IsUtf8-append (drop v bs ++ e.more) pad e.whole (pad-utf8 k)));
      clear = clear-append e.more pad e.clear (pad-clear k);
      long = omega (arith, length-append bs (e.more ++ pad), length-append e.more pad, length-pad k 0x61, length-append (drop v bs) e.more, length-drop v bs, e.long);
    }

-- without a back quote, by place and one by one
clear-at : (xs : List ℕ) → IsClear xs → (k : ℕ) → k < length xs → get_or xs k 0x60 ≡ 0x60 → ⊥
clear-at [] h k l e = omega arith
clear-at (x ∷ xs) h zero l e = h.0 e
clear-at (x ∷ xs) h (suc k) l e = clear-at xs h.1 k (omega arith) e

clear-from : (xs : List ℕ) → ((k : ℕ) → k < length xs → get_or xs k 0x60 ≡ 0x60 → ⊥) → IsClear xs
clear-from [] h = tt
clear-from (x ∷ xs) h = (λ e. h 0 (omega arith) e, clear-from xs (λ k l e. h (suc k) (omega arith) e))

clear-front : (xs ys : List ℕ) → IsClear (xs ++ ys) → IsClear xs
clear-front [] ys h = tt
clear-front (x ∷ xs) ys h = (h.0, clear-front xs ys h.1)

-- a Uri that is cut
pub uri-ends : (bs : List ℕ) (len : ℕ) → EndsClear bs len → (Contains bs 0x60 → ⊥) → BeginsText kind.Uri bs len
uri-ends bs len e n =
    let all = clear-append bs e.more (clear-from bs (λ k l q. n (k, l, q))) e.clear in
    record { more = e.more; form = (e.whole, λ c. clear-at (bs ++ e.more) all c.0 c.1 c.2); long = e.long }

pub str-ends : (bs : List ℕ) (len : ℕ) → EndsClear bs len → BeginsText kind.Str bs len
str-ends bs len e = record { more = e.more; form = e.whole; long = e.long }

-- the front of a Uri has no back quote
pub uri-front : (bs more : List ℕ) → (Contains (bs ++ more) 0x60 → ⊥) → Contains bs 0x60 → ⊥
uri-front bs more n c = clear-at bs (clear-front bs more (clear-from (bs ++ more) (λ k l q. n (k, l, q)))) c.0 c.1 c.2

-- words

-- whether bytes begin with `z` or have a `_`, as no key does
abbrev has_line : List ℕ → Bool
has_line [] = false
has_line (x ∷ xs) = eqb x 0x5F || has_line xs

abbrev is_odd : List ℕ → Bool
is_odd [] = false
is_odd (x ∷ xs) = eqb x 0x7A || has_line (x ∷ xs)

abbrev none_odd : List (List ℕ) → Bool
none_odd [] = true
none_odd (x ∷ xs) = not (is_odd x) && none_odd xs

keys-even : none_odd keys ≡ true
keys-even = refl

not_both : (b : Bool) → b ≡ true → not b ≡ true → ⊥
not_both true p q = cc
not_both false p q = cc

no-odd : (ks : List (List ℕ)) (w : List ℕ) → none_odd ks ≡ true → is_odd w ≡ true → (k : ℕ) → k < length ks → get_or ks k w ≡ w → ⊥
no-odd [] w h o k l e = omega arith
no-odd (x ∷ xs) w h o zero l e = not_both (is_odd w) o (subst (λ (z : List ℕ). not (is_odd z) ≡ true) e ((and_parts (not (is_odd x)) (none_odd xs) h).0))
no-odd (x ∷ xs) w h o (suc k) l e = no-odd xs w ((and_parts (not (is_odd x)) (none_odd xs) h).1) o k (omega arith) e

or-second : (a b : Bool) → b ≡ true → (a || b) ≡ true
or-second true b e = refl
or-second false b e = e

line-there : (bs : List ℕ) (n : ℕ) → has_line (bs ++ replicate (suc n) 0x5F) ≡ true
line-there [] n = refl
line-there (b ∷ bs) n = or-second (eqb b 0x5F) (has_line (bs ++ replicate (suc n) 0x5F)) (line-there bs n)

lines-go : (n : ℕ) → all_go_on (replicate n 0x5F) ≡ true
lines-go zero = refl
lines-go (suc n) = lines-go n

go-append : (xs ys : List ℕ) → list_all goes_on_word xs ≡ true → all_go_on ys ≡ true → all_go_on (xs ++ ys) ≡ true
go-append [] ys h k = k
go-append (x ∷ xs) ys h k =
    let p = and_parts (goes_on_word x) (list_all goes_on_word xs) h in
    and_from (goes_on_word x) (all_go_on (xs ++ ys)) p.0 (go-append xs ys p.1 k)

-- a letter or `_`, and more
word-on : (b : ℕ) (xs : List ℕ) (n : ℕ) → (is_letter b || eqb b 0x5F) ≡ true → all_go_on (xs ++ replicate (suc n) 0x5F) ≡ true → is_word (b ∷ (xs ++ replicate (suc n) 0x5F)) ≡ true
word-on b [] n h k = and_from (is_letter b || eqb b 0x5F) (all_go_on (replicate (suc n) 0x5F)) h k
word-on b (x ∷ xs) n h k = and_from (is_letter b || eqb b 0x5F) (all_go_on ((x ∷ xs) ++ replicate (suc n) 0x5F)) h k

z-word : (n : ℕ) → is_word (0x7A ∷ replicate n 0x5F) ≡ true
z-word zero = refl
z-word (suc n) = lines-go (suc n)

-- a word of this length, which begins with nothing
pub word-any : (len : ℕ) → 0 < len → BeginsText kind.Word [] len
word-any zero l = absurd (omega arith)
word-any (suc n) l = record { more = 0x7A ∷ replicate n 0x5F; form = (z-word n, λ c. no-odd keys (0x7A ∷ replicate n 0x5F) keys-even refl c.0 c.1 c.2); long = omega (arith, length-pad n 0x5F) }

-- a word that is cut
pub word-ends : (b : ℕ) (xs : List ℕ) (len : ℕ) → length (b ∷ xs) < len → (is_letter b || eqb b 0x5F) ≡ true → list_all goes_on_word xs ≡ true → BeginsText kind.Word (b ∷ xs) len
word-ends b xs len l h k =
    let n = len - length (b ∷ xs) - 1 in
    let pad = replicate (suc n) 0x5F in
    let there : is_odd (b ∷ (xs ++ pad)) ≡ true = or-second (eqb b 0x7A) (has_line (b ∷ (xs ++ pad))) (line-there (b ∷ xs) n) in
    record {
      more = pad;
      form = (word-on b xs n h (go-append xs pad k (lines-go (suc n))), λ c. no-odd keys (b ∷ (xs ++ pad)) keys-even there c.0 c.1 c.2);
      long = omega (arith, length-append (b ∷ xs) pad, length-pad (suc n) 0x5F);
    }

go-front : (xs ys : List ℕ) → all_go_on (xs ++ ys) ≡ true → list_all goes_on_word xs ≡ true
go-front [] ys h = refl
go-front (x ∷ xs) ys h =
    let p = and_parts (goes_on_word x) (all_go_on (xs ++ ys)) h in
    and_from (goes_on_word x) (list_all goes_on_word xs) p.0 (go-front xs ys p.1)

-- what a word that is cut is like
pub word-front : (b : ℕ) (xs more : List ℕ) → 0 < length more → is_word (b ∷ (xs ++ more)) ≡ true → ((is_letter b || eqb b 0x5F) && list_all goes_on_word xs) ≡ true
word-front b [] [] l h = absurd (omega arith)
word-front b [] (m ∷ more) l h =
    let p = and_parts (is_letter b || eqb b 0x5F) (all_go_on (m ∷ more)) h in
    and_from (is_letter b || eqb b 0x5F) true p.0 refl
word-front b (x ∷ xs) more l h =
    let p = and_parts (is_letter b || eqb b 0x5F) (all_go_on ((x ∷ xs) ++ more)) h in
    and_from (is_letter b || eqb b 0x5F) (list_all goes_on_word (x ∷ xs)) p.0 (go-front (x ∷ xs) more p.1)

pub word-only : (bs : List ℕ) (len : ℕ) → length bs < len → begins_word bs ≡ true → BeginsText kind.Word bs len
word-only [] len l h = word-any len l
word-only (b ∷ xs) len l h =
    let p = and_parts (is_letter b || eqb b 0x5F) (list_all goes_on_word xs) h in
    word-ends b xs len l p.0 p.1

pub word-all : (bs : List ℕ) (len : ℕ) → length bs < len → BeginsText kind.Word bs len → begins_word bs ≡ true
word-all [] len l h = refl
word-all (b ∷ xs) len l h = word-front b xs h.more (omega (arith, l, h.long, length-append (b ∷ xs) h.more)) h.form.0

-- a text that is UTF-8 as far as it goes, or is cut within a character
pub ends-only : (bs : List ℕ) (v len : ℕ) → length bs < len → IsValidUpTo bs v → utf8_error_len (drop v bs) ≡ None → (nat_lt (length (drop v bs)) (character_len (drop v bs)) && leb (character_len (drop v bs)) (len - v)) ≡ true → EndsClear bs len
ends-only bs v len l h n t =
    let p = and_parts (nat_lt (length (drop v bs)) (character_len (drop v bs))) (leb (character_len (drop v bs)) (len - v)) t in
    let s : length (drop v bs) < character_len (drop v bs) = ltb-true _ _ p.0 in
    let m : character_len (drop v bs) ≤ len - v = leb-true _ _ p.1 in
    cut-ends bs v (character_len (drop v bs)) len h.front h.short (completed (drop v bs) (omega (arith, length-drop v bs, h.short)) n s) m (omega (arith, l, h.short))

pub ends-all : (bs x : List ℕ) (v len : ℕ) → IsValidUpTo bs v → IsUtf8 (bs ++ x) → length (bs ++ x) ≡ len
    → (utf8_error_len (drop v bs) ≡ None) × ((nat_lt (length (drop v bs)) (character_len (drop v bs)) && leb (character_len (drop v bs)) (len - v)) ≡ true)
ends-all bs x v len h u e =
    let f = begins-facts (drop v bs) (length (bs ++ x) - v) (omega (arith, length-drop v bs, h.short)) (cut-begins bs x v u h) in
    (f.0, and_from (nat_lt (length (drop v bs)) (character_len (drop v bs))) (leb (character_len (drop v bs)) (len - v)) (lt-ltb _ _ f.1) (le-leb (character_len (drop v bs)) (len - v) (omega (arith, f.2, e))))

true-false : true ≡ false → ⊥
true-false e = cc

none-from : (o : Option ℕ) (b : Bool) → is_some o ≡ not b → b ≡ true → o ≡ None
none-from None b e f = refl
none-from (Some x) b e f = absurd (true-false (e ∙ ap not f))

pub is-none : (o : Option ℕ) (b : Bool) → is_some o ≡ not b → o ≡ None → b ≡ true
is-none None true e f = refl
is-none None false e f = absurd (true-false (sym e))
is-none (Some x) b e f = absurd (cc)

-- whether so many bytes are fewer than a character's, which has room
abbrev is_cut : List ℕ → ℕ → Bool
is_cut bs room = nat_lt (length bs) (character_len bs) && leb (character_len bs) room

after : (bs : List ℕ) (v w len : ℕ) → v ≡ w → is_cut (take (length bs - v) (drop v bs)) (len - v) ≡ is_cut (drop w bs) (len - w)
after bs v w len p =
    ap (λ (z : List ℕ). is_cut z (len - v)) (take_all (length bs - v) (drop v bs) (omega (arith, length-drop v bs))) ∙ ap (λ (n : ℕ). is_cut (drop n bs) (len - n)) p

-- what a reader of UTF-8 says of bytes that are cut
pub cut-only : (bs : List ℕ) (v w len : ℕ) (o : Option ℕ) (b t : Bool) → length bs < len → IsValidUpTo bs w → v ≡ w → o ≡ utf8_error_len (drop w bs) → is_some o ≡ not b → b ≡ true
    → t ≡ is_cut (take (length bs - v) (drop v bs)) (len - v) → t ≡ true → EndsClear bs len
cut-only bs v w len o b t l h p q r s u k = ends-only bs w len l h (sym q ∙ none-from o b r s) (sym (after bs v w len p) ∙ sym u ∙ k)

pub cut-all : (bs x : List ℕ) (v w len : ℕ) (t : Bool) → IsValidUpTo bs w → v ≡ w → t ≡ is_cut (take (length bs - v) (drop v bs)) (len - v) → IsUtf8 (bs ++ x) → length (bs ++ x) ≡ len → t ≡ true
cut-all bs x v w len t h p u y e = u ∙ after bs v w len p ∙ (ends-all bs x w len h y e).1
