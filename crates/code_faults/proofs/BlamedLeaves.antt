-- Blamed places in bytes, numbers, texts, origins and plain values.
use Rattle.std.proofs.Common.{◌≡◌, ℕ, ◌<◌, ◌≤◌, ◌+◌, ◌^◌, List, [], ◌∷◌, ◌++◌, map, length, refl, ap, sym, ◌∙◌, subst, arith, append_assoc, append-nil, length-append, inl, inr, ⊎_elim}
use Rattle.std.specs.Prelude.{Bool, false, ◌⊎◌}
use Rattle.calculus.specs.Tree.{Label, bool, int, str, uri, bytes, none}
use Rattle.calculus.specs.Kinds.{origin_number, rest_number}
use Rattle.calculus.specs.declared.plain.Origin.{Origin}
use Rattle.calculus.specs.declared.plain.TermRest.{TermRest}
use Rattle.calculus.specs.declared.plain.TermRest.TheVariants as rests
use Rattle.std.proofs.lemmas.Str.{IsUtf8-nil}
use Rattle.calculus.specs.Bytes.{be32}
use Rattle.calculus.specs.Shape.{leaf}
use Rattle.calculus.specs.Code.{byte_of, text, code}
use Rattle.calculus.specs.CodeLaws.{IsShort}
use Rattle.calculus.specs.Variables.{Sense}
use Rattle.calculus.specs.Form.{part, Scope, HasVariable, IsPlain}
use Rattle.calculus.proofs.Prefixes.{cut, Splits-length}
use Rattle.calculus.proofs.Tails.{length-be32, one-be32, length-text}
use Rattle.code_faults.specs.declared.fault.ReadFault.{ReadFault}
use Rattle.code_faults.specs.declared.fault.ReadFault.TheVariants as fault
use Rattle.code_faults.specs.declared.sort.TextKind.{TextKind}
use Rattle.code_faults.specs.declared.sort.TextKind.TheVariants as kind
use Rattle.code_faults.specs.Texts.{HasForm, BeginsText}
use Rattle.code_faults.specs.Refusing.{IsGround, Denies}
use Rattle.code_faults.specs.Places.{Item, field, name_length, items, Stop, these, Breaks, differs, misses, unnamed, past}
use Rattle.code_faults.specs.Blaming.{text_items, IsShallow, Blames, Parts, Wrong, InByte, InNumber, InBytes, InText, InOrigins, InRest, InGround, WrongVariable}
use Rattle.code_faults.proofs.TextRefusals.{not-begun, others-denied, origin-le}
use Rattle.code_faults.proofs.Exits.{byte-le}
use Rattle.code_faults.proofs.Blaming.{first-blamed, field-differs, byte-passed, tag-passed, number-passed, length-passed, behind, no-name}

heads : (n m : ℕ) (xs ys : List ℕ) → n ∷ xs ≡ m ∷ ys → n ≡ m
heads n m xs ys e = cc

-- a byte that is too great
pub byte-wrong : {n at most : ℕ} {bs next : List ℕ} → at ≡ length bs → bs ≡ n ∷ next → (n ≤ most → ⊥) → Parts (λ after before. InByte most (these after) before) at bs
byte-wrong {n = n} {bs = bs} {next = next} p is k = record {
  before = [];
  after = bs;
  are = refl;
  place = p;
  blames = λ room b l. field-differs (b ∷ []) [] (λ x y q. k (omega (arith, l, heads n b (next ++ x) y (ap (λ (z : List ℕ). z ++ x) (sym is) ∙ q))));
}

-- a variable for a remainder where none may be bound
pub rest-wrong : {b : Bool} {n at : ℕ} {bs next : List ℕ} → at ≡ length bs → bs ≡ n ∷ next → n ≡ 1 → b ≡ false → Parts (λ after before. InRest b (these after) before) at bs
rest-wrong {b = b} {n = n} {bs = bs} {next = next} p is one f = record {
  before = [];
  after = bs;
  are = refl;
  place = p;
  blames = record { no = λ room r k. field-differs (rest_number r ∷ []) [] (λ x y q. k f (var r (sym one ∙ heads n (rest_number r) (next ++ x) y (ap (λ (z : List ℕ). z ++ x) (sym is) ∙ q)))) };
}
  where
    var : (r : TermRest) → 1 ≡ rest_number r → r ≡ rests.Var
    var rests.Var e = refl
    var rests.No e = absurd (omega arith)
    var rests.Wild e = absurd (omega arith)

rest-le : (r : TermRest) → rest_number r ≤ 2
rest-le rests.No = omega arith
rest-le rests.Var = omega arith
rest-le rests.Wild = omega arith

pub byte-rest : {b : Bool} {e : ReadFault} {bs : List ℕ} → Wrong (InByte 2) e bs → Wrong (InRest b) e bs
byte-rest {b = b} {e = e} h = behind (InByte 2) (InRest b) e [] refl (λ stop before k. record { no = λ room r f. k room (rest_number r) (rest-le r) }) h

-- no number from `least` to `most` begins so
pub number-wrong : {least most at : ℕ} {bs : List ℕ} → at ≡ length bs → ((n : ℕ) → least ≤ n → n ≤ most → n < 2 ^ 32 → (x y : List ℕ) → bs ++ x ≡ be32 n ++ y → ⊥) → Parts (λ after before. InNumber least most (these after) before) at bs
number-wrong {bs = bs} p k = record { before = []; after = bs; are = refl; place = p; blames = record { no = λ room n a b c. field-differs (be32 n) [] (k n a b c) } }

-- bytes that begin with a number
pub number-is : (n m : ℕ) (next : List ℕ) {bs : List ℕ} (x y : List ℕ) → bs ≡ be32 n ++ next → n < 2 ^ 32 → m < 2 ^ 32 → bs ++ x ≡ be32 m ++ y → n ≡ m
number-is n m next x y is a b q =
    one-be32 n m a b (cut (be32 n) (be32 m) (next ++ x) y (Splits-length (be32 n) (be32 m) (length-be32 n ∙ sym (length-be32 m))) (sym (append_assoc (be32 n) next x) ∙ ap (λ (z : List ℕ). z ++ x) (sym is) ∙ q)).0

-- the length of a text is there
text-passed : {stop : Stop} {room : ℕ} {before : List ℕ} {n : ℕ} (k : TextKind) (x : List ℕ) → n < 2 ^ 32 → length x < 2 ^ 32 → (n ≡ length x → Blames stop room before (field x ∷ [])) → Blames stop room (be32 n ++ before) (text_items k x)
text-passed kind.Str x a b f = number-passed (length x) (field x ∷ []) a b f
text-passed kind.Uri x a b f = number-passed (length x) (field x ∷ []) a b f
text-passed kind.Word x a b f = length-passed (length x) (field x ∷ []) a b f

module _ (k : TextKind) {n at : ℕ} {bs : List ℕ} (next : List ℕ) (is : bs ≡ be32 n ++ next) (m : n < 2 ^ 32) (p : at ≡ length next) where
  -- the content of a text
  content-wrong : ((x : List ℕ) → HasForm k x → length x ≡ n → (a z : List ℕ) → next ++ a ≡ x ++ z → ⊥) → Parts (λ after before. InText k (these after) before) at bs
  content-wrong f = record {
    before = be32 n ++ [];
    after = next;
    are = is ∙ sym (append_assoc (be32 n) [] next);
    place = p;
    blames = λ room x h l. text-passed k x m l (λ w. field-differs x [] (f x h (sym w)));
  }

  pub unbegun-wrong : length next < n → (BeginsText k next n → ⊥) → Parts (λ after before. InText k (these after) before) at bs
  unbegun-wrong l f = content-wrong (λ x h w a z q. (not-begun {e = fault.NotCanonical 0} next x n l w h f).no a z tt q)

  pub other-wrong : (taken left : List ℕ) → next ≡ taken ++ left → length taken ≡ n → (HasForm k taken → ⊥) → Parts (λ after before. InText k (these after) before) at bs
  other-wrong taken left e l f = content-wrong (λ x h w a z q. (others-denied {e = fault.NotCanonical 0} taken x left e (l ∙ sym w) (λ j. f (subst (HasForm k) (sym j) h))).no a z tt q)

first-field : {after f : List ℕ} {room : ℕ} {before : List ℕ} → Breaks (these after) room (field f ∷ []) before → (others : List ℕ) → after ≡ f ++ others → ⊥
first-field (differs after room f is k) others e = k [] others (append-nil after ∙ e)
first-field (past stop room i is before k) others e = elim k [ ]

-- a field that is blamed is not there
at-field : {after f : List ℕ} {room : ℕ} → Blames (these after) room [] (field f ∷ []) → (others : List ℕ) → after ≡ f ++ others → ⊥
at-field {f = f} h others e = first-field (h.wrong f [] (sym (append-nil (f ++ []) ∙ append-nil f))) others e

-- bytes that are no number are no length
as-length : {stop : Stop} {room n : ℕ} {before : List ℕ} → ((after : List ℕ) → stop ≡ these after → before ≡ [] → (others : List ℕ) → after ≡ be32 0 ++ others → ⊥) → Breaks stop room (field (be32 n) ∷ []) before → Breaks stop room (name_length n ∷ []) before
as-length {n = n} z (differs after room f is h) = misses after room n [] h (z after refl refl)
as-length z (past stop room i is before h) = elim h [ ]

text-number : {stop : Stop} {room : ℕ} {before : List ℕ} (k : TextKind) (x : List ℕ) → Blames stop room before (field (be32 0) ∷ []) → Blames stop room before (field (be32 (length x)) ∷ []) → Blames stop room before (text_items k x)
text-number kind.Str x z h = first-blamed (field (be32 (length x)) ∷ []) (field x ∷ []) h
text-number kind.Uri x z h = first-blamed (field (be32 (length x)) ∷ []) (field x ∷ []) h
text-number {room = room} {before = before} kind.Word x z h = first-blamed (name_length (length x) ∷ []) (field x ∷ []) (record {
  wrong = λ a y q. as-length (λ after is at. at-field (subst (λ (b : List ℕ). Blames (these after) room b (field (be32 0) ∷ [])) at (subst (λ (s : Stop). Blames s room before (field (be32 0) ∷ [])) is z))) (h.wrong a y q);
})

pub number-text : (k : TextKind) {e : ReadFault} {bs : List ℕ} → Wrong (InNumber 0 0xFFFFFFFF) e bs → Wrong (InText k) e bs
number-text k {e = e} h = behind (InNumber 0 0xFFFFFFFF) (InText k) e [] refl (λ stop before j room x f l. text-number k x (j.no room 0 (omega arith) (omega arith) (omega arith)) (j.no room (length x) (omega arith) (omega (arith, l)) l)) h

-- a word has bytes
some-word : (x : List ℕ) → HasForm kind.Word x → 1 ≤ length x
some-word [] f = absurd (cc (f.0))
some-word (y ∷ x) f = omega arith

-- a length of 0 is that of no word
pub nameless-wrong : (k : TextKind) {n at : ℕ} {bs next : List ℕ} (taken left : List ℕ) → bs ≡ be32 n ++ next → n ≡ 0 → next ≡ taken ++ left → length taken ≡ n → (HasForm k taken → ⊥) → at ≡ length bs → Wrong (InText k) (fault.Unnamed at) bs
nameless-wrong kind.Str [] left is z e l f p = absurd (f IsUtf8-nil)
nameless-wrong kind.Uri [] left is z e l f p = absurd (f (IsUtf8-nil, λ c. omega (arith, c.1)))
nameless-wrong kind.Word {n = n} {bs = bs} {next = next} [] left is z e l f p = no-name (omega (arith, p, ap length is, length-append (be32 n) next, length-be32 n)) (record {
  before = [];
  after = bs;
  are = refl;
  place = p;
  blames = λ room x g few. record {
    wrong = λ a y q. unnamed bs next room (length x) (field x ∷ []) (is ∙ ap (λ (m : ℕ). be32 m ++ next) z)
        (λ b c w. let o = number-is n (length x) next b c is (omega (arith, z)) few w in omega (arith, o, z, some-word x g));
  };
})
nameless-wrong k (t ∷ taken) left is z e l f p = absurd (omega (arith, l, z))

pub number-bytes : {e : ReadFault} {bs : List ℕ} → Wrong (InNumber 0 0xFFFFFFFF) e bs → Wrong InBytes e bs
number-bytes {e = e} h = behind (InNumber 0 0xFFFFFFFF) InBytes e [] refl (λ stop before j room x l. first-blamed (field (be32 (length x)) ∷ []) (field x ∷ []) (j.no room (length x) (omega arith) (omega (arith, l)) l)) h

-- the fields of these origins
abbrev origin_fields : List Origin → List Item
origin_fields os = map (λ o. field (origin_number o ∷ [])) os

pub number-origins : {e : ReadFault} {bs : List ℕ} → Wrong (InNumber 1 0xFFFFFFFF) e bs → Wrong InOrigins e bs
number-origins {e = e} h = behind (InNumber 1 0xFFFFFFFF) InOrigins e [] refl (λ stop before j. record { no = λ room os some few. first-blamed (field (be32 (length os)) ∷ []) (origin_fields os) (j.no room (length os) some (omega (arith, few)) few) }) h

origins-go : {stop : Stop} {before : List ℕ} (room : ℕ) (ps os : List Origin) → InByte 2 stop before → length ps < length os → Blames stop room (map origin_number ps ++ before) (origin_fields os)
origins-go room [] [] h l = absurd (omega arith)
origins-go room [] (o ∷ os) h l = first-blamed (field (origin_number o ∷ []) ∷ []) (origin_fields os) (h room (origin_number o) (origin-le o))
origins-go room (p ∷ ps) [] h l = absurd (omega arith)
origins-go room (p ∷ ps) (o ∷ os) h l = byte-passed (origin_number o) (origin_fields os) (λ w. origins-go room ps os h (omega arith))

pub origins-wrong : {e : ReadFault} {bs : List ℕ} (n : ℕ) (ps : List Origin) (start now : List ℕ) → bs ≡ be32 n ++ start → n < 2 ^ 32 → start ≡ map origin_number ps ++ now → Wrong (InByte 2) e now → length ps < n → Wrong InOrigins e bs
origins-wrong {e = e} n ps start now is f p h l =
    behind (InByte 2) InOrigins e (be32 n ++ map origin_number ps) (is ∙ ap (λ (z : List ℕ). be32 n ++ z) p ∙ sym (append_assoc (be32 n) (map origin_number ps) now))
    (λ stop before k. record {
      no = λ room os some few.
          subst (λ (z : List ℕ). Blames stop room z (field (be32 (length os)) ∷ origin_fields os)) (sym (append_assoc (be32 n) (map origin_number ps) before))
          (number-passed (length os) (origin_fields os) f few (λ w. origins-go room ps os k (omega (arith, w, l))));
    }) h

-- another tag stands there
other : {stop : Stop} {room : ℕ} {before : List ℕ} {k : ℕ} (m : ℕ) (is : List Item) → (k ≡ m → ⊥) → Blames stop room (k ∷ before) (field (m ∷ []) ∷ is)
other m is h = byte-passed m is (λ p. absurd (h p))

pub bool-wrong : {e : ReadFault} {bs : List ℕ} → Wrong (InByte 1) e bs → Wrong InGround e (0x10 ∷ bs)
bool-wrong {e = e} h = behind (InByte 1) InGround e (0x10 ∷ []) refl (λ stop before k. record { no = go stop before k }) h
  where
    go : (stop : Stop) (before : List ℕ) → InByte 1 stop before → (room : ℕ) (l : Label) → IsGround l → IsPlain part [] l none → IsShort (leaf l) → Blames stop room (0x10 ∷ before) (items (leaf l))
    go stop before k room (bool x) g p a = tag-passed 0x10 _ (k room (byte_of x) (byte-le x))
    go stop before k room (int x) g p a = other _ _ (λ q. omega arith)
    go stop before k room (str x) g p a = other _ _ (λ q. omega arith)
    go stop before k room (uri x) g p a = other _ _ (λ q. omega arith)
    go stop before k room (bytes x) g p a = other _ _ (λ q. omega arith)
    go stop before k room _ g p a = absurd g

few-bytes : (l : Label) (s : List ℕ) → length (code (leaf l)) ≡ 1 + length (text s) → IsShort (leaf l) → length s < 2 ^ 32
few-bytes l s e a = omega (arith, a, e, length-text s)

pub str-wrong : {e : ReadFault} {bs : List ℕ} → Wrong (InText kind.Str) e bs → Wrong InGround e (0x12 ∷ bs)
str-wrong {e = e} h = behind (InText kind.Str) InGround e (0x12 ∷ []) refl (λ stop before k. record { no = go stop before k }) h
  where
    go : (stop : Stop) (before : List ℕ) → InText kind.Str stop before → (room : ℕ) (l : Label) → IsGround l → IsPlain part [] l none → IsShort (leaf l) → Blames stop room (0x12 ∷ before) (items (leaf l))
    go stop before k room (str x) g p a = tag-passed 0x12 _ (k room x p.0 (few-bytes (str x) x (omega (arith, length-append (0x12 ∷ text x) [])) a))
    go stop before k room (bool x) g p a = other _ _ (λ q. omega arith)
    go stop before k room (int x) g p a = other _ _ (λ q. omega arith)
    go stop before k room (uri x) g p a = other _ _ (λ q. omega arith)
    go stop before k room (bytes x) g p a = other _ _ (λ q. omega arith)
    go stop before k room _ g p a = absurd g

pub uri-wrong : {e : ReadFault} {bs : List ℕ} → Wrong (InText kind.Uri) e bs → Wrong InGround e (0x13 ∷ bs)
uri-wrong {e = e} h = behind (InText kind.Uri) InGround e (0x13 ∷ []) refl (λ stop before k. record { no = go stop before k }) h
  where
    go : (stop : Stop) (before : List ℕ) → InText kind.Uri stop before → (room : ℕ) (l : Label) → IsGround l → IsPlain part [] l none → IsShort (leaf l) → Blames stop room (0x13 ∷ before) (items (leaf l))
    go stop before k room (uri x) g p a = tag-passed 0x13 _ (k room x (p.0, p.1.1) (few-bytes (uri x) x (omega (arith, length-append (0x13 ∷ text x) [])) a))
    go stop before k room (bool x) g p a = other _ _ (λ q. omega arith)
    go stop before k room (int x) g p a = other _ _ (λ q. omega arith)
    go stop before k room (str x) g p a = other _ _ (λ q. omega arith)
    go stop before k room (bytes x) g p a = other _ _ (λ q. omega arith)
    go stop before k room _ g p a = absurd g

pub bytes-wrong : {e : ReadFault} {bs : List ℕ} → Wrong InBytes e bs → Wrong InGround e (0x14 ∷ bs)
bytes-wrong {e = e} h = behind InBytes InGround e (0x14 ∷ []) refl (λ stop before k. record { no = go stop before k }) h
  where
    go : (stop : Stop) (before : List ℕ) → InBytes stop before → (room : ℕ) (l : Label) → IsGround l → IsPlain part [] l none → IsShort (leaf l) → Blames stop room (0x14 ∷ before) (items (leaf l))
    go stop before k room (bytes x) g p a = tag-passed 0x14 _ (k room x (few-bytes (bytes x) x (omega (arith, length-append (0x14 ∷ text x) [])) a))
    go stop before k room (bool x) g p a = other _ _ (λ q. omega arith)
    go stop before k room (int x) g p a = other _ _ (λ q. omega arith)
    go stop before k room (str x) g p a = other _ _ (λ q. omega arith)
    go stop before k room (uri x) g p a = other _ _ (λ q. omega arith)
    go stop before k room _ g p a = absurd g

tag-off : {bs : List ℕ} {room : ℕ} (k m : ℕ) (is : List Item) → (k ≡ m → ⊥) → Blames (these (k ∷ bs)) room [] (field (m ∷ []) ∷ is)
tag-off {bs = bs} k m is h = field-differs (m ∷ []) is (λ x y q. h (heads k m (bs ++ x) y q))

-- no plain value has this tag
pub ground-wrong : {at : ℕ} {bs : List ℕ} (k : ℕ) → at ≡ length bs + 1 → (k ≡ 0x10 → ⊥) → (k ≡ 0x11 → ⊥) → (k ≡ 0x12 → ⊥) → (k ≡ 0x13 → ⊥) → (k ≡ 0x14 → ⊥) → Parts (λ after before. InGround (these after) before) at (k ∷ bs)
ground-wrong {bs = bs} k w q r s t u = record { before = []; after = k ∷ bs; are = refl; place = omega (arith, w); blames = record { no = go } }
  where
    go : (room : ℕ) (l : Label) → IsGround l → IsPlain part [] l none → IsShort (leaf l) → Blames (these (k ∷ bs)) room [] (items (leaf l))
    go room (bool x) g p a = tag-off k _ _ q
    go room (int x) g p a = tag-off k _ _ r
    go room (str x) g p a = tag-off k _ _ s
    go room (uri x) g p a = tag-off k _ _ t
    go room (bytes x) g p a = tag-off k _ _ u
    go room _ g p a = absurd g

pub wrong-at : {e : ReadFault} {bs : List ℕ} {tag k : ℕ} → tag ≡ k → Wrong InGround e (k ∷ bs) → Wrong InGround e (tag ∷ bs)
wrong-at {e = e} {bs = bs} p h = subst (λ (x : ℕ). Wrong InGround e (x ∷ bs)) (sym p) h

-- a variable whose index is refused, or is none of a variable of its sense
module _ {v : Scope} {sense : Sense} {bs : List ℕ} where
  pub index-wrong : (e : ReadFault) → IsShallow e (length bs) → ((i : ℕ) → i < 2 ^ 32 → Denies e bs (be32 i)) → WrongVariable v sense e bs
  index-wrong (fault.Short at) p f = record { holds = tt }
  index-wrong (fault.NotCanonical at) p f = record { holds = inl (record { place = p; differs = λ i h w x y q. (f i h).no x y tt q }) }
  index-wrong (fault.TooDeep at) p f = absurd p
  index-wrong (fault.Unnamed at) p f = absurd p
  index-wrong fault.NoMemory p f = record { holds = tt }

  pub variable-blamed : {S : Type 0} {at index tag : ℕ} → ((at ≡ index) × S) ⊎ ((at ≡ tag) × ((i : ℕ) → HasVariable v i sense → ⊥)) → index ≡ length bs → tag ≡ length bs + 1
      → ((i : ℕ) → i < 2 ^ 32 → HasVariable v i sense → (x y : List ℕ) → bs ++ x ≡ be32 i ++ y → ⊥) → WrongVariable v sense (fault.NotCanonical at) bs
  variable-blamed {S = S} {at = at} {index = index} {tag = tag} h p q f = record {
    holds = ⊎_elim (λ (w : (at ≡ index) × S). inl (record { place = w.0 ∙ p; differs = f })) (λ (w : (at ≡ tag) × ((i : ℕ) → HasVariable v i sense → ⊥)). inr (record { place = w.0 ∙ q; none = w.1 })) h;
  }
