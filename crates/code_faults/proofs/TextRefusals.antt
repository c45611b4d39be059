-- Refused texts, origins and indices.
use Rattle.std.proofs.Common.{◌≡◌, ℕ, zero, suc, ◌<◌, ◌≤◌, ◌^◌, List, [], ◌∷◌, ◌++◌, map, get_or, length, refl, ap, sym, ◌∙◌, subst, arith, append-nil}
use Rattle.std.specs.Prelude.{Bool, true, false, not, ◌&&◌, ◌||◌, leb, eqb, IsUtf8}
use Rattle.std.specs.List.{list_any, list_all}
use Rattle.std.specs.Str.{bytes_eq}
use Rattle.std.proofs.lemmas.Bool.{and_parts, and_from}
use Rattle.std.proofs.lemmas.Bool.Decides.{nat_tests}
use Rattle.std.proofs.lemmas.Str.{IsUtf8-from_ascii}
use Rattle.std.proofs.lemmas.Slice.Eq.{bytes_eq-Decides}
use Rattle.std.proofs.lemmas.Map.Views.{Contains-from_any}
use Rattle.calculus.specs.Bytes.{be32}
use Rattle.calculus.specs.Kinds.{origin_number}
use Rattle.calculus.specs.declared.plain.Origin.{Origin}
use Rattle.calculus.specs.declared.plain.Origin.TheVariants as origins
use Rattle.calculus.specs.Code.{text}
use Rattle.calculus.specs.Variables.{Sense}
use Rattle.calculus.specs.Form.{Scope, HasVariable, is_letter, goes_on_word, is_word, all_go_on, keys}
use Rattle.calculus.proofs.Prefixes.{Splits-length}
use Rattle.code_faults.specs.declared.fault.ReadFault.{ReadFault}
use Rattle.code_faults.specs.declared.sort.TextKind.{TextKind}
use Rattle.code_faults.specs.declared.sort.TextKind.TheVariants as kind
use Rattle.code_faults.specs.declared.sort.Sense.{Sense as Read}
use Rattle.code_faults.specs.declared.sort.Sense.TheVariants as read
use Rattle.code_faults.specs.Scopes.{sense_of}
use Rattle.code_faults.specs.Texts.{HasForm, BeginsText}
use Rattle.code_faults.specs.Refusing.{Denies, RefusesByte, RefusesOrigins}
use Rattle.code_faults.proofs.Denying.{first-denied, next-denied, byte-next, number-next}

-- a length, and then another text
pub text-refused : {e : ReadFault} {bs : List ℕ} (n : ℕ) (next x : List ℕ) → bs ≡ be32 n ++ next → n < 2 ^ 32 → length x < 2 ^ 32 → (length x ≡ n → Denies e next x) → Denies e bs (text x)
text-refused n next x is h k f = number-next (length x) x is h k (λ w. f (sym w))

-- as many bytes, which are others
pub others-denied : {e : ReadFault} {bs : List ℕ} (taken x next : List ℕ) → bs ≡ taken ++ next → length taken ≡ length x → (taken ≡ x → ⊥) → Denies e bs x
others-denied {e = e} {bs = bs} taken x next is l k = subst (λ (z : List ℕ). Denies e bs z) (append-nil x) (next-denied [] is (Splits-length taken x l) (λ w. absurd (k w)))

cons-same : (a b : ℕ) (xs ys : List ℕ) → a ∷ xs ≡ b ∷ ys → (a ≡ b) × (xs ≡ ys)
cons-same a b xs ys e = (cc, cc)

-- the bytes that a shorter front lacks
pub record More (bs x : List ℕ) : Type 0 where
  pub more : List ℕ
  pub is : x ≡ bs ++ more

pub more : (bs x a z : List ℕ) → length bs ≤ length x → bs ++ a ≡ x ++ z → More bs x
more [] x a z l e = record { more = x; is = refl }
more (b ∷ bs) [] a z l e = absurd (omega arith)
more (b ∷ bs) (c ∷ x) a z l e =
    let p = cons-same b c (bs ++ a) (x ++ z) e in
    let m = more bs x a z (omega arith) p.1 in
    record { more = m.more; is = ap (λ (k : ℕ). k ∷ x) (sym p.0) ∙ ap (λ (k : List ℕ). b ∷ k) m.is }

-- a front that no more bytes make a text
pub not-begun : {e : ReadFault} {k : TextKind} (next x : List ℕ) (len : ℕ) → length next < len → length x ≡ len → HasForm k x → (BeginsText k next len → ⊥) → Denies e next x
not-begun {k = k} next x len l w f n = record {
  no = λ a z m q.
      let r = more next x a z (omega (arith, l, w)) q in
      n (record { more = r.more; form = subst (HasForm k) r.is f; long = ap length (sym r.is) ∙ w });
}

-- words

not_both : (b : Bool) → b ≡ true → not b ≡ true → ⊥
not_both true p q = cc
not_both false p q = cc

not_true : (b : Bool) → (b ≡ true → ⊥) → not b ≡ true
not_true true h = absurd (h refl)
not_true false h = refl

key-is : (x y : List ℕ) → bytes_eq y x ≡ true → x ≡ y
key-is x y e = sym ((bytes_eq-Decides y x).0 e)

pub no_key : (bs : List ℕ) (b : Bool) → b ≡ list_any (λ (row : List ℕ). bytes_eq row bs) keys → HasForm kind.Word bs → not b ≡ true
no_key bs b e h = not_true b (λ t. h.1 (Contains-from_any {eq = λ x y. bytes_eq y x} key-is bs keys (sym e ∙ t)))

pub goes-on : (bs x : List ℕ) → all_go_on (bs ++ x) ≡ true → list_all goes_on_word bs ≡ true
goes-on [] x h = refl
goes-on (b ∷ bs) x h =
    let p = and_parts (goes_on_word b) (all_go_on (bs ++ x)) h in
    and_from (goes_on_word b) (list_all goes_on_word bs) p.0 (goes-on bs x p.1)

or-more : (a d u : Bool) → (a || u) ≡ true → (a || (d || u)) ≡ true
or-more true d u e = refl
or-more false true u e = refl
or-more false false u e = e

or-first : (a d : Bool) → a ≡ true → (a || d) ≡ true
or-first true d e = refl
or-first false d e = absurd (cc)

words-go : (bs : List ℕ) → is_word bs ≡ true → all_go_on bs ≡ true
words-go [] e = absurd (cc)
words-go (c ∷ []) e = and_from (goes_on_word c) true (or-first (is_letter c) ((leb 0x30 c && leb c 0x39) || eqb c 0x5F) e) refl
words-go (c ∷ d ∷ cs) e =
    let p = and_parts (is_letter c || eqb c 0x5F) (all_go_on (d ∷ cs)) e in
    and_from (goes_on_word c) (all_go_on (d ∷ cs)) (or-more (is_letter c) (leb 0x30 c && leb c 0x39) (eqb c 0x5F) p.0) p.1

pub word-goes : (bs x : List ℕ) → is_word (bs ++ x) ≡ true → list_all goes_on_word bs ≡ true
word-goes bs x e = goes-on bs x (words-go (bs ++ x) e)

or-other : (a u : Bool) → (a || u) ≡ true → a ≡ false → u ≡ true
or-other true u e f = absurd (cc)
or-other false u e f = e

-- a word that begins with no letter begins with `_` and goes on
pub underscore : (bs x : List ℕ) → 0 < length bs → is_word (bs ++ x) ≡ true → is_letter (get_or bs 0 0) ≡ false → (eqb (get_or bs 0 0) 0x5F ≡ true) × (1 < length (bs ++ x))
underscore [] x l e f = absurd (omega arith)
underscore (b ∷ bs) x l e f = on (bs ++ x) e
  where
    on : (cs : List ℕ) → is_word (b ∷ cs) ≡ true → (eqb b 0x5F ≡ true) × (1 < length (b ∷ cs))
    on [] e = absurd (cc (e, f))
    on (d ∷ cs) e = (or-other (is_letter b) (eqb b 0x5F) ((and_parts (is_letter b || eqb b 0x5F) (all_go_on (d ∷ cs)) e).0) f, omega arith)

goes-small : (c : ℕ) → goes_on_word c ≡ true → c < 128
goes-small c e = grind (arith, nat_tests)

go-ascii : (bs : List ℕ) → all_go_on bs ≡ true → (i : ℕ) → get_or bs i 0 < 128
go-ascii [] e i = omega arith
go-ascii (b ∷ bs) e zero = goes-small b ((and_parts (goes_on_word b) (all_go_on bs) e).0)
go-ascii (b ∷ bs) e (suc i) = go-ascii bs ((and_parts (goes_on_word b) (all_go_on bs) e).1) i

-- each text is UTF-8
pub form-utf8 : (k : TextKind) (bs : List ℕ) → HasForm k bs → IsUtf8 bs
form-utf8 kind.Str bs h = h
form-utf8 kind.Uri bs h = h.0
form-utf8 kind.Word bs h = IsUtf8-from_ascii bs (go-ascii bs (words-go bs h.0))

-- origins

pub origin-le : (x : Origin) → origin_number x ≤ 2
origin-le origins.Plain = omega arith
origin-le origins.Stdout = omega arith
origin-le origins.StdoutAck = omega arith

origins-go : {e : ReadFault} (ps os : List Origin) (start now : List ℕ) → start ≡ map origin_number ps ++ now → RefusesByte 2 e now → length ps < length os → Denies e start (map origin_number os)
origins-go [] [] start now is h l = absurd (omega arith)
origins-go {e = e} [] (o ∷ os) start now is h l = subst (λ (z : List ℕ). Denies e z (map origin_number (o ∷ os))) (sym is) (first-denied (map origin_number os) (h (origin_number o) (origin-le o)))
origins-go (p ∷ ps) [] start now is h l = absurd (omega arith)
origins-go (p ∷ ps) (o ∷ os) start now is h l = byte-next (origin_number o) (map origin_number os) is (λ w. origins-go ps os (map origin_number ps ++ now) now refl h (omega arith))

pub origins-refused : {e : ReadFault} {bs : List ℕ} (n : ℕ) (ps : List Origin) (start now : List ℕ) → bs ≡ be32 n ++ start → n < 2 ^ 32 → start ≡ map origin_number ps ++ now → RefusesByte 2 e now → length ps < n → RefusesOrigins e bs
origins-refused n ps start now is f p h l = record { no = λ os some few. number-next (length os) (map origin_number os) is f few (λ w. origins-go ps os start now p h (omega arith)) }

-- variables

pub has-at : (ws : Scope) (i : ℕ) (v d : Sense) → HasVariable ws i v → get_or ws i d ≡ v
has-at [] i v d h = absurd h
has-at (w ∷ ws) zero v d h = h
has-at (w ∷ ws) (suc i) v d h = has-at ws i v d h

pub sense-same : (a b : Read) → sense_of a ≡ sense_of b → a ≡ b
sense-same read.Process read.Process e = refl
sense-same read.Process read.Name e = absurd (cc)
sense-same read.Name read.Process e = absurd (cc)
sense-same read.Name read.Name e = refl

pub index-refused : {e : ReadFault} {bs : List ℕ} (n i : ℕ) (next : List ℕ) → bs ≡ be32 n ++ next → n < 2 ^ 32 → i < 2 ^ 32 → (n ≡ i → ⊥) → Denies e bs (be32 i)
index-refused {e = e} {bs = bs} n i next is h k f = subst (λ (z : List ℕ). Denies e bs z) (append-nil (be32 i)) (number-next i [] is h k (λ w. absurd (f w)))
