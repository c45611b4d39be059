-- Numbers, texts and plain values that are cut.
use Rattle.std.proofs.Common.{◌≡◌, ℕ, zero, suc, ◌<◌, ◌≤◌, ◌+◌, ◌-◌, ◌*◌, ◌/◌, ◌^◌, List, [], ◌∷◌, ◌++◌, map, length, get_or, refl, ap, sym, ◌∙◌, subst, arith, length-append}
use Rattle.std.specs.Prelude.{true, replicate, nat_abs, ◌+ℤ◌, ◌-ℤ◌, pos}
use Rattle.std.specs.Int.{w64, from_be_bytes}
use Rattle.std.proofs.lemmas.Nat.{be_bytes_8}
use Rattle.std.proofs.lemmas.List.Elements.{All-append}
use Rattle.calculus.proofs.BytesLemmas.{to_be_bytes-be64}
use Rattle.std.proofs.lemmas.Int.{ints}
use Rattle.std.proofs.Math.IntN.{ -ℤ-+ℤ_cancel}
use Rattle.calculus.specs.Tree.{bool, int, str, uri, bytes}
use Rattle.calculus.specs.Kinds.{origin_number}
use Rattle.calculus.specs.declared.plain.Origin.{Origin}
use Rattle.calculus.specs.declared.plain.Origin.TheVariants as origins
use Rattle.calculus.specs.Bytes.{be32, be64}
use Rattle.calculus.specs.Form.{IsBytes, IsDigest}
use Rattle.calculus.proofs.Tails.{length-be32}
use Rattle.code_faults.specs.declared.sort.TextKind.{TextKind}
use Rattle.code_faults.specs.declared.sort.TextKind.TheVariants as kind
use Rattle.code_faults.specs.Texts.{HasForm}
use Rattle.code_faults.specs.Beginning.{Cuts, BegunGround, BegunText, BegunBytes, BegunOrigins}
use Rattle.code_faults.proofs.Begins.{first-cut, next-cut, byte-cut, none-cut, whole-cut}
use Rattle.code_faults.proofs.BegunRows.{length-fill}

-- the four bytes of a number
record Digits (n : ℕ) : Type 0 where
  pub a : ℕ
  pub b : ℕ
  pub c : ℕ
  pub d : ℕ
  pub is : be32 n ≡ a ∷ b ∷ c ∷ d ∷ []
  pub sum : n ≡ a * 16777216 + (b * 65536 + (c * 256 + d))
  pub small : (a < 256) × (b < 256) × (c < 256) × (d < 256)

digits : (n : ℕ) → n < 2 ^ 32 → Digits n
unfolding be32
digits n h = record { a = get_or (be32 n) 0 0; b = get_or (be32 n) 1 0; c = get_or (be32 n) 2 0; d = get_or (be32 n) 3 0; is = refl; sum = omega arith; small = (omega arith, omega arith, omega arith, omega arith) }

-- bytes as the front of a number's
cut-as : {bs : List ℕ} (n : ℕ) (xs more : List ℕ) → be32 n ≡ xs → bs ++ more ≡ xs → 0 < length more → Cuts bs (be32 n) []
cut-as {bs = bs} n xs more e p l = whole-cut bs more (be32 n) (p ∙ sym e) l

-- a number between the least and the greatest of those that these begin
pub between-cut : (bs : List ℕ) (n : ℕ) → length bs < 4 → n < 2 ^ 32 → ((i : ℕ) → get_or bs i 0 < 256)
    → get_or bs 0 0 * 16777216 + (get_or bs 1 0 * 65536 + (get_or bs 2 0 * 256 + get_or bs 3 0)) ≤ n
    → n ≤ get_or bs 0 255 * 16777216 + (get_or bs 1 255 * 65536 + (get_or bs 2 255 * 256 + get_or bs 3 255)) → Cuts bs (be32 n) []
between-cut [] n l h s p q = none-cut (be32 n) (omega (arith, length-be32 n))
between-cut (x ∷ []) n l h s p q =
    let g = digits n h in
    let e : x ≡ g.a = omega (arith, g.sum, g.small.0, g.small.1, g.small.2, g.small.3, s 0) in
    cut-as n (g.a ∷ g.b ∷ g.c ∷ g.d ∷ []) (g.b ∷ g.c ∷ g.d ∷ []) g.is (rw e refl) (omega arith)
between-cut (x ∷ y ∷ []) n l h s p q =
    let g = digits n h in
    let e : x ≡ g.a = omega (arith, g.sum, g.small.0, g.small.1, g.small.2, g.small.3, s 0, s 1) in
    let f : y ≡ g.b = omega (arith, g.sum, g.small.0, g.small.1, g.small.2, g.small.3, s 0, s 1, e) in
    cut-as n (g.a ∷ g.b ∷ g.c ∷ g.d ∷ []) (g.c ∷ g.d ∷ []) g.is (rw (e, f) refl) (omega arith)
between-cut (x ∷ y ∷ z ∷ []) n l h s p q =
    let g = digits n h in
    let e : x ≡ g.a = omega (arith, g.sum, g.small.0, g.small.1, g.small.2, g.small.3, s 0, s 1, s 2) in
    let f : y ≡ g.b = omega (arith, g.sum, g.small.0, g.small.1, g.small.2, g.small.3, s 0, s 1, s 2, e) in
    let i : z ≡ g.c = omega (arith, g.sum, g.small.0, g.small.1, g.small.2, g.small.3, s 0, s 1, s 2, e, f) in
    cut-as n (g.a ∷ g.b ∷ g.c ∷ g.d ∷ []) (g.d ∷ []) g.is (rw (e, f, i) refl) (omega arith)
between-cut (x ∷ y ∷ z ∷ w ∷ bs) n l h s p q = absurd (omega arith)

one-in : (x y : ℕ) (xs ys : List ℕ) → x ∷ xs ≡ y ∷ ys → (x ≡ y) × (xs ≡ ys)
one-in x y xs ys e = (cc, cc)

same-front : (n : ℕ) (g : Digits n) (k : Digits (n / 256 * 256 + 1)) → (g.a ≡ k.a) × (g.b ≡ k.b) × (g.c ≡ k.c)
same-front n g k =
    let front : n / 256 ≡ g.a * 65536 + (g.b * 256 + g.c) = omega (arith, g.sum, g.small.3) in
    let other : n / 256 ≡ k.a * 65536 + (k.b * 256 + k.c) = omega (arith, k.sum, k.small.3) in
    let a : g.a ≡ k.a = omega (arith, front, other, g.small.1, g.small.2, k.small.1, k.small.2) in
    let b : g.b ≡ k.b = omega (arith, front, other, a, g.small.2, k.small.2) in
    (a, b, omega (arith, front, other, a, b))

-- the last byte of a number that is cut may be another
pub last-free : (bs after : List ℕ) (n : ℕ) → n < 2 ^ 32 → Cuts bs (be32 n) after → Cuts bs (be32 (n / 256 * 256 + 1)) after
last-free bs after n h c = let d = on c.before c.more c.goes c.some in record { before = c.before; is = c.is; more = d.0; goes = d.1; some = d.2 }
  where
    spelled : (cs xs more : List ℕ) → be32 (n / 256 * 256 + 1) ≡ xs → cs ++ more ≡ xs → 0 < length more → (rest : List ℕ) × (cs ++ rest ≡ be32 (n / 256 * 256 + 1)) × (0 < length rest)
    spelled cs xs more e p l = (more, p ∙ sym e, l)

    on : (cs more : List ℕ) → cs ++ more ≡ be32 n → 0 < length more → (rest : List ℕ) × (cs ++ rest ≡ be32 (n / 256 * 256 + 1)) × (0 < length rest)
    on [] more e l = (be32 (n / 256 * 256 + 1), refl, omega (arith, length-be32 (n / 256 * 256 + 1)))
    on (x ∷ []) more e l =
        let g = digits n h in
        let k = digits (n / 256 * 256 + 1) (omega arith) in
        let p = one-in x g.a more (g.b ∷ g.c ∷ g.d ∷ []) (e ∙ g.is) in
        let f = same-front n g k in
        spelled (x ∷ []) (k.a ∷ k.b ∷ k.c ∷ k.d ∷ []) (k.b ∷ k.c ∷ k.d ∷ []) k.is (rw (p.0, f.0) refl) (omega arith)
    on (x ∷ y ∷ []) more e l =
        let g = digits n h in
        let k = digits (n / 256 * 256 + 1) (omega arith) in
        let p = one-in x g.a (y ∷ more) (g.b ∷ g.c ∷ g.d ∷ []) (e ∙ g.is) in
        let q = one-in y g.b more (g.c ∷ g.d ∷ []) p.1 in
        let f = same-front n g k in
        spelled (x ∷ y ∷ []) (k.a ∷ k.b ∷ k.c ∷ k.d ∷ []) (k.c ∷ k.d ∷ []) k.is (rw (p.0, q.0, f.0, f.1) refl) (omega arith)
    on (x ∷ y ∷ z ∷ []) more e l =
        let g = digits n h in
        let k = digits (n / 256 * 256 + 1) (omega arith) in
        let p = one-in x g.a (y ∷ z ∷ more) (g.b ∷ g.c ∷ g.d ∷ []) (e ∙ g.is) in
        let q = one-in y g.b (z ∷ more) (g.c ∷ g.d ∷ []) p.1 in
        let r = one-in z g.c more (g.d ∷ []) q.1 in
        let f = same-front n g k in
        spelled (x ∷ y ∷ z ∷ []) (k.a ∷ k.b ∷ k.c ∷ k.d ∷ []) (k.d ∷ []) k.is (rw (p.0, q.0, r.0, f.0, f.1, f.2) refl) (omega arith)
    on (x ∷ y ∷ z ∷ w ∷ cs) more e l = absurd (omega (arith, ap length e, length-append cs more, length-be32 n))

-- a text of this kind that is cut within its length
pub number-text : {bs after : List ℕ} (k : TextKind) (n : ℕ) → Cuts bs (be32 n) after → (x : List ℕ) → HasForm k x → IsBytes x → length x ≡ n → BegunText k bs after
number-text {bs = bs} {after = after} k n c x f b e = record { content = x; form = f; bytes = b; cut = first-cut x (subst (λ (z : ℕ). Cuts bs (be32 z) after) (sym e) c) }

-- a text that is cut within its bytes
pub text-cut : {bs next after : List ℕ} (k : TextKind) (n : ℕ) → bs ≡ be32 n ++ next → (x : List ℕ) → HasForm k x → IsBytes x → length x ≡ n → Cuts next x after → BegunText k bs after
text-cut {bs = bs} {after = after} k n is x f b e c = record { content = x; form = f; bytes = b; cut = subst (λ (z : ℕ). Cuts bs (be32 z ++ x) after) (sym e) (next-cut (be32 n) is c) }

ones : (n : ℕ) → IsBytes (replicate n 0)
ones zero k d l = absurd (omega arith)
ones (suc n) zero d l = omega arith
ones (suc n) (suc k) d l = ones n k d (omega arith)

pub number-begun_bytes : {bs after : List ℕ} (n : ℕ) → Cuts bs (be32 n) after → BegunBytes bs after
number-begun_bytes {bs = bs} {after = after} n c = record { content = replicate n 0; bytes = ones n; cut = first-cut (replicate n 0) (subst (λ (z : ℕ). Cuts bs (be32 z) after) (sym (length-fill n 0)) c) }

origins-fill : (n : ℕ) → length (replicate n origins.Plain) ≡ n
origins-fill n = length-fill n origins.Plain

pub number-begun_origins : {bs after : List ℕ} (n : ℕ) → 1 ≤ n → Cuts bs (be32 n) after → BegunOrigins bs after
number-begun_origins {bs = bs} {after = after} n l c = record { origins = replicate n origins.Plain; some = omega (arith, l, origins-fill n); cut = first-cut _ (subst (λ (z : ℕ). Cuts bs (be32 z) after) (sym (origins-fill n)) c) }

map-append : (ps os : List Origin) → map origin_number (ps ++ os) ≡ map origin_number ps ++ map origin_number os
map-append [] os = refl
map-append (p ∷ ps) os = ap (λ (z : List ℕ). origin_number p ∷ z) (map-append ps os)

pub origin-cut : {bs : List ℕ} (n : ℕ) (ps : List Origin) (start now : List ℕ) → bs ≡ be32 n ++ start → start ≡ map origin_number ps ++ now → length ps < n → BegunOrigins bs now
origin-cut {bs = bs} n ps start now is p l =
    let m = n - length ps in
    let os = ps ++ replicate m origins.Plain in
    let long : length os ≡ n = omega (arith, length-append ps (replicate m origins.Plain), origins-fill m, l) in
    let some : 0 < length (map origin_number (replicate m origins.Plain)) = omega (arith, map-length (replicate m origins.Plain), origins-fill m, l) in
    let c : Cuts start (map origin_number os) now = subst (λ (z : List ℕ). Cuts start z now) (sym (map-append ps (replicate m origins.Plain))) (next-cut (map origin_number ps) p (none-cut _ some)) in
    record { origins = os; some = omega (arith, long, l); cut = subst (λ (z : ℕ). Cuts bs (be32 z ++ map origin_number os) now) (sym long) (next-cut (be32 n) is c) }
  where
    map-length : (xs : List Origin) → length (map origin_number xs) ≡ length xs
    map-length [] = refl
    map-length (x ∷ xs) = ap suc (map-length xs)

-- plain values
pub bool-begun : {bs : List ℕ} → BegunGround (0x10 ∷ bs) bs
bool-begun = record { label = bool true; ground = tt; plain = λ s v. tt; cut = byte-cut 0x10 refl (none-cut _ (omega arith)) }

pub str-begun : {bs after : List ℕ} → BegunText kind.Str bs after → BegunGround (0x12 ∷ bs) after
str-begun h = record { label = str h.content; ground = tt; plain = λ s v. (h.form, h.bytes); cut = byte-cut 0x12 refl (first-cut [] h.cut) }

pub uri-begun : {bs after : List ℕ} → BegunText kind.Uri bs after → BegunGround (0x13 ∷ bs) after
uri-begun h = record { label = uri h.content; ground = tt; plain = λ s v. (h.form.0, (h.bytes, h.form.1)); cut = byte-cut 0x13 refl (first-cut [] h.cut) }

pub bytes-begun : {bs after : List ℕ} → BegunBytes bs after → BegunGround (0x14 ∷ bs) after
bytes-begun h = record { label = bytes h.content; ground = tt; plain = λ s v. h.bytes; cut = byte-cut 0x14 refl (first-cut [] h.cut) }

pub int-begun : {bs after : List ℕ} (n : ℕ) → n < 2 ^ 64 → Cuts bs (be64 n) after → BegunGround (0x11 ∷ bs) after
int-begun {bs = bs} {after = after} n l c =
    let z = pos n -ℤ pos (2 ^ 63) in
    let e : nat_abs (z +ℤ pos (2 ^ 63)) ≡ n = ap nat_abs (-ℤ-+ℤ_cancel (pos n) (pos (2 ^ 63))) in
    record { label = int z; ground = tt; plain = λ s v. (omega (arith, ints), omega (arith, ints)); cut = byte-cut 0x11 refl (first-cut [] (subst (λ (m : ℕ). Cuts bs (be64 m) after) (sym e) c)) }

bound-eight : (a b c d e f g h : ℕ) → a < 256 → b < 256 → c < 256 → d < 256 → e < 256 → f < 256 → g < 256 → h < 256 → from_be_bytes w64 (a ∷ b ∷ c ∷ d ∷ e ∷ f ∷ g ∷ h ∷ []) < 2 ^ 64
bound-eight a b c d e f g h p q r s t u v w = omega arith

small-at : (xs : List ℕ) → IsBytes xs → (i : ℕ) → get_or xs i 0 < 256
small-at [] h i = omega arith
small-at (x ∷ xs) h zero = h 0 0 (omega arith)
small-at (x ∷ xs) h (suc i) = small-at xs (λ k d l. h (suc k) d (omega arith)) i

eight-is : (xs : List ℕ) → length xs ≡ 8 → IsBytes xs → (n : ℕ) × (n < 2 ^ 64) × (be64 n ≡ xs)
eight-is (a ∷ b ∷ c ∷ d ∷ e ∷ f ∷ g ∷ h ∷ []) l s =
    let xs = a ∷ b ∷ c ∷ d ∷ e ∷ f ∷ g ∷ h ∷ [] in
    let n = from_be_bytes w64 xs in
    let k = small-at xs s in
    let m : n < 2 ^ 64 = bound-eight a b c d e f g h (k 0) (k 1) (k 2) (k 3) (k 4) (k 5) (k 6) (k 7) in
    (n, m, sym (to_be_bytes-be64 n m) ∙ be_bytes_8 xs n refl k refl)
eight-is [] l s = absurd (omega arith)
eight-is (a ∷ []) l s = absurd (omega arith)
eight-is (a ∷ b ∷ []) l s = absurd (omega arith)
eight-is (a ∷ b ∷ c ∷ []) l s = absurd (omega arith)
eight-is (a ∷ b ∷ c ∷ d ∷ []) l s = absurd (omega arith)
eight-is (a ∷ b ∷ c ∷ d ∷ e ∷ []) l s = absurd (omega arith)
eight-is (a ∷ b ∷ c ∷ d ∷ e ∷ f ∷ []) l s = absurd (omega arith)
eight-is (a ∷ b ∷ c ∷ d ∷ e ∷ f ∷ g ∷ []) l s = absurd (omega arith)
eight-is (a ∷ b ∷ c ∷ d ∷ e ∷ f ∷ g ∷ h ∷ i ∷ xs) l s = absurd (omega arith)

-- bytes that are cut, and as many zeros as there is room for
pub filled : (xs : List ℕ) (n : ℕ) → IsBytes xs → IsBytes (xs ++ replicate (n - length xs) 0)
filled xs n h = All-append (λ b. b < 256) xs (replicate (n - length xs) 0) h (ones (n - length xs))

pub length-filled : (xs : List ℕ) (n : ℕ) → length xs ≤ n → length (xs ++ replicate (n - length xs) 0) ≡ n
length-filled xs n l = omega (arith, length-append xs (replicate (n - length xs) 0), length-fill {A = ℕ} (n - length xs) 0, l)

pub filled-cut : (xs : List ℕ) (n : ℕ) → length xs < n → Cuts xs (xs ++ replicate (n - length xs) 0) []
filled-cut xs n l = whole-cut xs (replicate (n - length xs) 0) _ refl (omega (arith, length-fill {A = ℕ} (n - length xs) 0, l))

-- an Int that is cut
pub int-cut : {bs : List ℕ} → IsBytes bs → length bs < 8 → BegunGround (0x11 ∷ bs) []
int-cut {bs = bs} h l =
    let e = eight-is (bs ++ replicate (8 - length bs) 0) (length-filled bs 8 (omega (arith, l))) (filled bs 8 h) in
    int-begun e.0 e.1 (subst (λ (z : List ℕ). Cuts bs z []) (sym e.2) (filled-cut bs 8 l))

-- bytes that are cut after their number
pub bytes-cut : {bs : List ℕ} (next : List ℕ) (n : ℕ) → bs ≡ be32 n ++ next → IsBytes next → length next < n → BegunBytes bs []
bytes-cut {bs = bs} next n is h l =
    let x = next ++ replicate (n - length next) 0 in
    record { content = x; bytes = filled next n h; cut = subst (λ (z : ℕ). Cuts bs (be32 z ++ x) []) (sym (length-filled next n (omega (arith, l)))) (next-cut (be32 n) is (filled-cut next n l)) }

pub digest-cut : {bs : List ℕ} → IsBytes bs → length bs < 32 → (x : List ℕ) × IsDigest x × Cuts bs x []
digest-cut {bs = bs} h l = (bs ++ replicate (32 - length bs) 0, (length-filled bs 32 (omega (arith, l)), filled bs 32 h), filled-cut bs 32 l)
