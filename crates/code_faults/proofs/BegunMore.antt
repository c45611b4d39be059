-- More of what is cut: texts of every kind, and what holds where nothing is there yet.
use Rattle.std.proofs.Common.{◌≡◌, ℕ, zero, suc, ◌<◌, ◌≤◌, ◌+◌, ◌*◌, ◌/◌, ◌%◌, ◌^◌, List, [], ◌∷◌, ◌++◌, map, length, refl, ap, sym, ◌∙◌, subst, arith, length-append, inl, inr, ⊎_elim}
use Rattle.std.specs.Prelude.{Bool, true, IsUtf8}
use Rattle.std.specs.Char.{IsScalar, encode_utf8}
use Rattle.std.specs.Str.{encode_utf8_all}
use Rattle.std.proofs.lemmas.Bool.{and_parts, cases_lt}
use Rattle.std.proofs.lemmas.List.{map-append}
use Rattle.std.proofs.lemmas.List.Elements.{All-append}
use Rattle.std.proofs.lemmas.Str.{IsUtf8-nil}
use lib.Utf8.{scalar, scalars, scalar_cases}
use Rattle.calculus.specs.Tree.{bool, Tree, trees}
use Rattle.calculus.proofs.Tails.{length-be32}
use Rattle.calculus.specs.Bytes.{be32}
use Rattle.calculus.specs.Code.{code}
use Rattle.calculus.specs.Form.{Sort, Scope, IsBytes}
use Rattle.calculus.specs.Variables.{Sense, bound, bound_all}
use Rattle.calculus.proofs.Tails.{IsFine}
use Rattle.calculus.proofs.Formed.{some-code}
use Rattle.calculus.proofs.FromFits.{formed, fine}
use Rattle.code_faults.specs.declared.sort.Sense.{Sense as Read}
use Rattle.code_faults.specs.declared.sort.TextKind.{TextKind}
use Rattle.code_faults.specs.declared.sort.TextKind.TheVariants as kind
use Rattle.code_faults.specs.Scopes.{scope_of}
use Rattle.code_faults.specs.Texts.{BeginsText}
use Rattle.code_faults.specs.Beginning.{Cuts, Begun, BegunBag, BegunNumber, BegunGround, BegunText, BegunDigest, Follows}
use Rattle.code_faults.proofs.Rows.{bound-more}
use Rattle.code_faults.proofs.Bags.{Bag}
use Rattle.code_faults.proofs.Begins.{none-cut, whole-cut, Filler}
use Rattle.code_faults.proofs.BegunRows.{below, bag-begun_at}
use Rattle.code_faults.proofs.BegunLeaves.{last-free, number-text, text-cut, digest-cut}
use Rattle.code_faults.proofs.Utf8.{shape}
use Rattle.code_faults.proofs.TextEnds.{whole-ends, str-ends, uri-ends, word-any}
use Rattle.code_faults.proofs.TextRefusals.{form-utf8}

one-byte : (x : ℕ) (xs : List ℕ) → x < 256 → IsBytes xs → IsBytes (x ∷ xs)
one-byte x xs h k zero d l = h
one-byte x xs h k (suc i) d l = k i d (omega arith)

no-byte : IsBytes []
no-byte i d l = absurd (omega arith)

character-bytes : (c : ℕ) → IsScalar c → IsBytes (encode_utf8 c)
character-bytes c s =
    let top : c < 1114112 = ⊎_elim (λ low. omega arith) (λ high. high.1) (scalar_cases c s) in
    shape c IsBytes
    (λ h. one-byte c [] (omega arith) no-byte)
    (λ h k. one-byte (192 + c / 64) ((128 + c % 64) ∷ []) (omega arith) (one-byte (128 + c % 64) [] (omega arith) no-byte))
    (λ h k. one-byte (224 + c / 4096) ((128 + (c / 64) % 64) ∷ (128 + c % 64) ∷ []) (omega arith) (one-byte (128 + (c / 64) % 64) ((128 + c % 64) ∷ []) (omega arith) (one-byte (128 + c % 64) [] (omega arith) no-byte)))
    (λ h. one-byte (240 + c / 262144) ((128 + (c / 4096) % 64) ∷ (128 + (c / 64) % 64) ∷ (128 + c % 64) ∷ []) (omega arith)
    (one-byte (128 + (c / 4096) % 64) ((128 + (c / 64) % 64) ∷ (128 + c % 64) ∷ []) (omega arith) (one-byte (128 + (c / 64) % 64) ((128 + c % 64) ∷ []) (omega arith) (one-byte (128 + c % 64) [] (omega arith) no-byte))))

characters-bytes : (cs : List ℕ) → scalars cs ≡ true → IsBytes (encode_utf8_all cs)
characters-bytes [] s = no-byte
characters-bytes (c ∷ cs) s =
    let p = and_parts (scalar c) (scalars cs) s in
    All-append (λ b. b < 256) (encode_utf8 c) (encode_utf8_all cs) (character-bytes c p.0) (characters-bytes cs p.1)

pub utf8-bytes : (bs : List ℕ) → IsUtf8 bs → IsBytes bs
utf8-bytes bs u = subst IsBytes u.1.1 (characters-bytes u.0 u.1.0)

-- a text of this kind and length
text-any : (k : TextKind) (n : ℕ) → 0 < n → BeginsText k [] n
text-any kind.Str n l = str-ends [] n (whole-ends [] n IsUtf8-nil l)
text-any kind.Uri n l = uri-ends [] n (whole-ends [] n IsUtf8-nil l) (λ c. omega (arith, c.1))
text-any kind.Word n l = word-any n l

-- a text that is cut within its length
pub number-text_begun : {bs after : List ℕ} (k : TextKind) → BegunNumber 0 0xFFFFFFFF bs after → BegunText k bs after
number-text_begun {bs = bs} {after = after} k h =
    let n = h.number / 256 * 256 + 1 in
    let t = text-any k n (omega arith) in
    number-text k n (last-free bs after h.number (omega (arith, h.few)) h.cut) t.more t.form (utf8-bytes t.more (form-utf8 k t.more t.form)) t.long

-- and within its bytes
pub text-begun : {bs next : List ℕ} (k : TextKind) (n : ℕ) → bs ≡ be32 n ++ next → length next < n → BeginsText k next n → BegunText k bs []
text-begun {next = next} k n is l h =
    text-cut k n is (next ++ h.more) h.form (utf8-bytes (next ++ h.more) (form-utf8 k (next ++ h.more) h.form)) h.long
    (whole-cut next h.more (next ++ h.more) refl (omega (arith, l, h.long, length-append next h.more)))

-- and before its first byte
pub text-none_begun : {bs next : List ℕ} (k : TextKind) (n : ℕ) → bs ≡ be32 n ++ next → 0 < n → BegunText k bs next
text-none_begun {next = next} k n is l =
    let t = text-any k n l in
    text-cut k n is t.more t.form (utf8-bytes t.more (form-utf8 k t.more t.form)) t.long (none-cut t.more (omega (arith, l, t.long)))

-- and before its length
pub length-none_begun : {bs : List ℕ} (k : TextKind) → BegunText k bs bs
length-none_begun k =
    let t = text-any k 1 (omega arith) in
    number-text k 1 (none-cut (be32 1) (omega (arith, length-be32 1))) t.more t.form (utf8-bytes t.more (form-utf8 k t.more t.form)) t.long

pub digest-begun : {bs : List ℕ} → IsBytes bs → length bs < 32 → BegunDigest bs []
digest-begun h l = let d = digest-cut h l in record { digest = d.0; form = d.1; cut = d.2 }

-- nothing is there yet
pub none-begun : {b : Bool} {s : Sort} {v : Scope} {room : ℕ} {bs : List ℕ} → Filler s v → Begun b s v room bs bs
none-begun {s = s} {v = v} k = record {
  tree = k.tree;
  fits = k.fits;
  low = omega (arith, k.low);
  free = λ q. k.free;
  cut = none-cut (code k.tree) (some-code IsFine s k.tree (formed IsFine fine s v k.tree k.fits));
}

pub begun-at : {b : Bool} {s : Sort} {v : Scope} {room : ℕ} {bs cs after : List ℕ} → bs ≡ cs → Begun b s v room cs after → Begun b s v room bs after
begun-at {b = b} {s = s} {v = v} {room = room} {after = after} p h = subst (λ (x : List ℕ). Begun b s v room x after) (sym p) h

pub begun-room : {b : Bool} {s : Sort} {v : Scope} {bs after : List ℕ} (m n : ℕ) → m ≡ n → Begun b s v m bs after → Begun b s v n bs after
begun-room {b = b} {s = s} {v = v} {bs = bs} {after = after} m n p h = subst (λ (k : ℕ). Begun b s v k bs after) p h

pub begun-unscoped : {b : Bool} {s : Sort} {room : ℕ} {bs after : List ℕ} {xs : List Read} → xs ≡ [] → Begun b s (scope_of xs) room bs after → Begun b s [] room bs after
begun-unscoped {b = b} {s = s} {room = room} {bs = bs} {after = after} p h = subst (λ (ys : List Read). Begun b s (scope_of ys) room bs after) p h

-- nothing of the next constituent of a bag
pub bag-none_begun : {A : Type 0} {f : A → Tree} {s : Sort} {v : Scope} {room : ℕ} {xs : List A} {start now last bs : List ℕ} (n : ℕ)
    → Filler s v → Bag f s v room xs start now last → bs ≡ be32 n ++ start → length xs < n → BegunBag s v room bs now
bag-none_begun {s = s} {v = v} {last = last} n k h is l =
    let some = some-code IsFine s k.tree (formed IsFine fine s v k.tree k.fits) in
    bag-begun_at {b = true} n h is l (record { tree = k.tree; fits = k.fits; low = omega (arith, k.low); free = λ q. k.free; cut = record { before = []; is = refl; more = code k.tree; goes = refl; some = some } }) (follows-none last)
  where
    follows-none : (last : List ℕ) → Follows last []
    follows-none [] = inr below
    follows-none (a ∷ others) = inl (none-cut (a ∷ others) (omega arith))

-- one more tree that binds nothing
pub quiet-push_trees : (ts : List Tree) {us : List Tree} (t : Tree) → us ≡ ts ++ t ∷ [] → bound_all (trees ts) ≡ [] → bound t ≡ [] → bound_all (trees us) ≡ []
quiet-push_trees ts t e h k = ap (λ us. bound_all (trees us)) e ∙ bound-more ts t ∙ ap (λ (vs : List Sense). vs ++ bound t) h ∙ k

pub quiet-push : {A : Type 0} (f : A → Tree) (xs : List A) {ys : List A} (x : A) → ys ≡ xs ++ x ∷ [] → bound_all (trees (map f xs)) ≡ [] → bound (f x) ≡ [] → bound_all (trees (map f ys)) ≡ []
quiet-push f xs x e h k = quiet-push_trees (map f xs) (f x) (ap (map f) e ∙ map-append f xs (x ∷ [])) h k

-- a number between two bounds that is among those that bytes begin
pub number-cut : (bs : List ℕ) (low high least most : ℕ) → ((n : ℕ) → n < 2 ^ 32 → low ≤ n → n ≤ high → Cuts bs (be32 n) []) → low ≤ high → high < 2 ^ 32 → low ≤ most → least ≤ high → least ≤ most → BegunNumber least most bs []
number-cut bs low high least most f p q r s t = ⊎_elim
    (λ (h : low < least). record { number = least; enough = omega arith; few = t; cut = f least (omega (arith, s, q)) (omega (arith, h)) s })
    (λ (h : least ≤ low). record { number = low; enough = h; few = r; cut = f low (omega (arith, p, q)) (omega arith) p })
    (cases_lt low least)

-- the first byte of a number is another
pub number-none : (bs : List ℕ) (least most : ℕ) → least ≤ most → BegunNumber least most bs bs
number-none bs least most l = record { number = least; enough = omega arith; few = l; cut = none-cut (be32 least) (omega (arith, length-be32 least)) }

pub ground-cut : {bs after : List ℕ} {tag k : ℕ} → tag ≡ k → BegunGround (k ∷ bs) after → BegunGround (tag ∷ bs) after
ground-cut {bs = bs} {after = after} p h = subst (λ (x : ℕ). BegunGround (x ∷ bs) after) (sym p) h

-- no tag of a plain value
pub ground-none_begun : {bs : List ℕ} → BegunGround bs bs
ground-none_begun = record { label = bool true; ground = tt; plain = λ s v. tt; cut = none-cut _ (omega arith) }
