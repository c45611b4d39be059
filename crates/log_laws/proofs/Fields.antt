-- What comes of reading a field, a number, a number of data, ids and a header.
use Rattle.std.proofs.Common.{◌≡◌, ◌≤◌, ◌<◌, ℕ, suc, ◌-◌, ◌^◌, Bool, true, false, cond, ◌&&◌, List, [], ◌∷◌, ◌++◌, length, refl, ap, sym, ◌∙◌, subst, arith, append-nil, length-append}
use Rattle.std.specs.Prelude.{⊤, Ok, Err, leb, take, drop}
use Rattle.std.specs.Int.{w32, w64, from_be_bytes}
use Rattle.std.proofs.lemmas.Bool.{leb-true, leb-false, le-leb}
use Rattle.std.proofs.lemmas.List.{length-take-le, take-append-drop}
use Rattle.calculus.specs.Bytes.{be32, be64, joined}
use Rattle.calculus.specs.Log.{Header}
use Rattle.event_log.specs.declared.fault.LogFault.TheVariants.{Short, Bad}
use Rattle.event_log.specs.Reading.{◌>>=◌, Read, field, number_of_4, number_of_8, header, data_count, data_ids}
use Rattle.event_log.specs.Laws.{AreBytes, AreIds, IsHeader}
use Rattle.log_laws.proofs.Lists.{same-front, same-eight, zeros, length-zeros, bytes-zeros, bytes-append, bytes-first, four-is, eight-is, bytes-none_64}
use Rattle.log_laws.proofs.Outcomes.{Cut, Wrong, Outcome, stands, short, wrong, Splits, With, followed, Lists, SoMany, listed}

-- a field stands there, or the bytes end before it is whole
data Fielded (n k : ℕ) (bs : List ℕ) (v : Read (List ℕ)) : Type 0 where
  there : (a r : List ℕ) → length a ≡ k → bs ≡ a ++ r → v ≡ Ok (a, r) → Fielded n k bs v
  cut : length bs < k → v ≡ Err (Short n) → Fielded n k bs v

fielded : (n k : ℕ) (bs : List ℕ) → Fielded n k bs (field n k bs)
fielded n k bs = go (leb k (length bs)) refl
  where
    go : (b : Bool) → leb k (length bs) ≡ b → Fielded n k bs (cond {A = Read (List ℕ)} b (Ok (take k bs, drop k bs)) (Err (Short n)))
    go true d = there (take k bs) (drop k bs) (length-take-le k bs (leb-true k (length bs) d)) (sym (take-append-drop k bs)) refl
    go false d = cut (leb-false k (length bs) d) refl

length-filled : (k : ℕ) (bs : List ℕ) → length bs < k → length (bs ++ zeros (k - length bs)) ≡ k
length-filled k bs l = omega (arith, length-append bs (zeros (k - length bs)), length-zeros (k - length bs), l)

some-zeros : (k : ℕ) (bs : List ℕ) → length bs < k → 1 ≤ length (zeros (k - length bs))
some-zeros k bs l = omega (arith, length-zeros (k - length bs), l)

-- bytes of a length
abbrev pub Long : ℕ → List ℕ → Type 0
Long k x = length x ≡ k

-- the bytes themselves
abbrev pub itself : List ℕ → List ℕ
itself x = x

pub field-outcome : (May : Type 0) (n k : ℕ) (bs : List ℕ) → Outcome May (Long k) itself n bs (field n k bs)
field-outcome May n k bs = go (fielded n k bs)
  where
    go : Fielded n k bs (field n k bs) → Outcome May (Long k) itself n bs (field n k bs)
    go (there a r l e q) = stands a r l e q
    go (cut l q) =
        let c : Cut (Long k) itself bs = record { thing = bs ++ zeros (k - length bs); fine = length-filled k bs l; left = zeros (k - length bs); some = some-zeros k bs l; bytes = bytes-zeros (k - length bs); is = refl } in
        short c q

-- numbers of four bytes, and of eight
abbrev pub Fits_4 : ℕ → Type 0
Fits_4 m = m < 2 ^ 32

abbrev pub Fits_8 : ℕ → Type 0
Fits_8 m = m < 2 ^ 64

pub number-4-outcome : (May : Type 0) (n : ℕ) (bs : List ℕ) → AreBytes bs → Outcome May Fits_4 be32 n bs (number_of_4 n bs)
number-4-outcome May n bs ok = go (field n 4 bs) (fielded n 4 bs)
  where
    go : (v : Read (List ℕ)) → Fielded n 4 bs v → Outcome May Fits_4 be32 n bs (v >>= (λ r. Ok (from_be_bytes w32 r.0, r.1)))
    go v (there a r l e q) =
        let f = four-is a l (bytes-first a r (subst AreBytes e ok)) in
        stands (from_be_bytes w32 a) r f.0 (e ∙ ap (λ z. z ++ r) (sym f.1)) (ap (λ z. z >>= (λ r. Ok (from_be_bytes w32 r.0, r.1))) q)
    go v (cut l q) =
        let z = zeros (4 - length bs) in
        let f = four-is (bs ++ z) (length-filled 4 bs l) (bytes-append bs z ok (bytes-zeros (4 - length bs))) in
        let c : Cut Fits_4 be32 bs = record { thing = from_be_bytes w32 (bs ++ z); fine = f.0; left = z; some = some-zeros 4 bs l; bytes = bytes-zeros (4 - length bs); is = f.1 } in
        short c (ap (λ z. z >>= (λ r. Ok (from_be_bytes w32 r.0, r.1))) q)

pub number-8-outcome : (May : Type 0) (n : ℕ) (bs : List ℕ) → AreBytes bs → Outcome May Fits_8 be64 n bs (number_of_8 n bs)
number-8-outcome May n bs ok = go (field n 8 bs) (fielded n 8 bs)
  where
    go : (v : Read (List ℕ)) → Fielded n 8 bs v → Outcome May Fits_8 be64 n bs (v >>= (λ r. Ok (from_be_bytes w64 r.0, r.1)))
    go v (there a r l e q) =
        let f = eight-is a l (bytes-first a r (subst AreBytes e ok)) in
        stands (from_be_bytes w64 a) r f.0 (e ∙ ap (λ z. z ++ r) (sym f.1)) (ap (λ z. z >>= (λ r. Ok (from_be_bytes w64 r.0, r.1))) q)
    go v (cut l q) =
        let z = zeros (8 - length bs) in
        let f = eight-is (bs ++ z) (length-filled 8 bs l) (bytes-append bs z ok (bytes-zeros (8 - length bs))) in
        let c : Cut Fits_8 be64 bs = record { thing = from_be_bytes w64 (bs ++ z); fine = f.0; left = z; some = some-zeros 8 bs l; bytes = bytes-zeros (8 - length bs); is = f.1 } in
        short c (ap (λ z. z >>= (λ r. Ok (from_be_bytes w64 r.0, r.1))) q)

-- a number of data
abbrev pub IsCount : ℕ → Type 0
IsCount k = (1 ≤ k) × (k ≤ 16)

-- its byte
abbrev pub alone : ℕ → List ℕ
alone k = k ∷ []

one-datum : Cut IsCount alone []
one-datum = record { thing = 1; fine = (omega arith, omega arith); left = 1 ∷ []; some = omega arith; bytes = (omega arith, tt); is = refl }

both-true : (p q : Bool) → (p && q) ≡ true → (p ≡ true) × (q ≡ true)
both-true true true e = (refl, refl)
both-true true false e = cc e
both-true false q e = cc e

in-range : (k : ℕ) → 1 ≤ k → k ≤ 16 → (leb 1 k && leb k 16) ≡ true
in-range k h g = cc (le-leb 1 k h, le-leb k 16 g)

not-both : (c : Bool) → c ≡ true → c ≡ false → ⊥
not-both c t f = cc (t, f)

pub data-count-outcome : (n : ℕ) (bs : List ℕ) → Outcome ⊤ IsCount alone n bs (data_count n bs)
data-count-outcome n [] = short one-datum refl
data-count-outcome n (b ∷ bs) = go (leb 1 b && leb b 16) refl
  where
    go : (c : Bool) → (leb 1 b && leb b 16) ≡ c → Outcome ⊤ IsCount alone n (b ∷ bs) (cond {A = Read ℕ} c (Ok (b, bs)) (Err (Bad (n - length (b ∷ bs)))))
    go true d = let t = both-true (leb 1 b) (leb b 16) d in stands b bs (leb-true 1 b t.0, leb-true b 16 t.1) refl refl
    go false d =
        let w : Wrong IsCount alone (b ∷ bs) (suc (length bs)) = record {
          before = [];
          byte = b;
          after = bs;
          is = refl;
          place = refl;
          begun = one-datum;
          stops = λ k x y h q.
              let t : k ∷ x ≡ b ∷ y = q in
              let e : k ≡ b = cc t in
              not-both (leb 1 b && leb b 16) (subst (λ (z : ℕ). (leb 1 z && leb z 16) ≡ true) e (in-range k h.0 h.1)) d;
        }
        in
        wrong tt (suc (length bs)) w refl

-- ids
pub lists-ids : Lists (Long 32) itself AreIds joined
lists-ids = record {
  none = tt;
  more = λ x xs h k. (h, k);
  head = λ x xs h. h.0;
  tail = λ x xs h. h.1;
  empty = refl;
  joins = λ x xs. refl;
  same = λ a b x y h k q. (same-front a b x y (h ∙ sym k) q).1;
  blank = zeros 32;
  blank_is = length-zeros 32;
  blank_bytes = bytes-zeros 32;
}

pub ids-outcome : (n k : ℕ) (bs : List ℕ) → AreBytes bs → Outcome ⊤ (SoMany AreIds k) joined n bs (data_ids n k bs)
ids-outcome n k bs ok = listed (Long 32) itself AreIds joined lists-ids ⊤ n (field n 32) (λ bs ok. field-outcome ⊤ n 32 bs) k bs ok

-- the text of a header behind its version, and of its parts
abbrev pub header_rest : Header → List ℕ
header_rest h = h.base ++ (h.source ++ (h.prices ++ be64 h.limit))

abbrev from_source : Header → List ℕ
from_source h = h.source ++ (h.prices ++ be64 h.limit)

abbrev from_prices : Header → List ℕ
from_prices h = h.prices ++ be64 h.limit

abbrev from_limit : Header → List ℕ
from_limit h = be64 h.limit

abbrev nothing : Header → List ℕ
nothing h = []

abbrev of_header : List ℕ → List ℕ → List ℕ → ℕ → Header
of_header x y z m = record { base = x; source = y; prices = z; limit = m }

abbrev base_of : Header → List ℕ
base_of h = h.base

abbrev source_of : Header → List ℕ
source_of h = h.source

abbrev prices_of : Header → List ℕ
prices_of h = h.prices

abbrev limit_of : Header → ℕ
limit_of h = h.limit

-- headers with these parts
abbrev Based : List ℕ → Header → Type 0
Based x = With IsHeader base_of x

abbrev Sourced : List ℕ → List ℕ → Header → Type 0
Sourced x y = With (Based x) source_of y

abbrev Priced : List ℕ → List ℕ → List ℕ → Header → Type 0
Priced x y z = With (Sourced x y) prices_of z

is-header : (x y z : List ℕ) (m : ℕ) → length x ≡ 32 → length y ≡ 32 → length z ≡ 32 → m < 2 ^ 64 → IsHeader (of_header x y z m)
is-header x y z m h k l f = record { base = h; source = k; prices = l; limit = f }

small : 0 < 2 ^ 64
small = omega arith

-- a header of zeros
pub blank_header : Header
blank_header = of_header (zeros 32) (zeros 32) (zeros 32) 0

pub is-blank_header : IsHeader blank_header
unfolding blank_header
is-blank_header = is-header (zeros 32) (zeros 32) (zeros 32) 0 (length-zeros 32) (length-zeros 32) (length-zeros 32) small

bytes-limit : AreBytes (zeros 32 ++ be64 0)
bytes-limit = bytes-append (zeros 32) (be64 0) (bytes-zeros 32) bytes-none_64

bytes-prices : AreBytes (zeros 32 ++ (zeros 32 ++ be64 0))
bytes-prices = bytes-append (zeros 32) (zeros 32 ++ be64 0) (bytes-zeros 32) bytes-limit

pub bytes-blank_header : AreBytes (header_rest blank_header)
unfolding blank_header
bytes-blank_header = bytes-append (zeros 32) (zeros 32 ++ (zeros 32 ++ be64 0)) (bytes-zeros 32) bytes-prices

same-field : (a b x y : List ℕ) → length a ≡ 32 → length b ≡ 32 → a ++ x ≡ b ++ y → (a ≡ b) × (x ≡ y)
same-field a b x y h k q = same-front a b x y (h ∙ sym k) q

base-splits : Splits (Long 32) itself IsHeader header_rest base_of from_source
base-splits = record {
  splits = λ h. refl;
  firsts = λ h k. k.base;
  same = same-field;
  made = λ x h. of_header x (zeros 32) (zeros 32) 0;
  made_is = λ x h. is-header x (zeros 32) (zeros 32) 0 h (length-zeros 32) (length-zeros 32) small;
  made_first = λ x h. refl;
  made_bytes = λ x h. bytes-prices;
}

source-splits : (x : List ℕ) → length x ≡ 32 → Splits (Long 32) itself (Based x) from_source source_of from_prices
source-splits x hx = record {
  splits = λ h. refl;
  firsts = λ h k. k.0.source;
  same = same-field;
  made = λ y h. of_header x y (zeros 32) 0;
  made_is = λ y h. (is-header x y (zeros 32) 0 hx h (length-zeros 32) small, refl);
  made_first = λ y h. refl;
  made_bytes = λ y h. bytes-limit;
}

prices-splits : (x y : List ℕ) → length x ≡ 32 → length y ≡ 32 → Splits (Long 32) itself (Sourced x y) from_prices prices_of from_limit
prices-splits x y hx hy = record {
  splits = λ h. refl;
  firsts = λ h k. k.0.0.prices;
  same = same-field;
  made = λ z h. of_header x y z 0;
  made_is = λ z h. ((is-header x y z 0 hx hy h small, refl), refl);
  made_first = λ z h. refl;
  made_bytes = λ z h. bytes-none_64;
}

limit-splits : (x y z : List ℕ) → length x ≡ 32 → length y ≡ 32 → length z ≡ 32 → Splits Fits_8 be64 (Priced x y z) from_limit limit_of nothing
limit-splits x y z hx hy hz = record {
  splits = λ h. sym (append-nil (be64 h.limit));
  firsts = λ h k. k.0.0.0.limit;
  same = λ a b r q h k e. same-eight a b r q h k e;
  made = λ m h. of_header x y z m;
  made_is = λ m h. (((is-header x y z m hx hy hz h, refl), refl), refl);
  made_first = λ m h. refl;
  made_bytes = λ m h. tt;
}

-- a header from its limit on, and so back to its base
abbrev with_limit : List ℕ → List ℕ → List ℕ → ℕ × List ℕ → Read Header
with_limit x y z d = Ok (record { base = x; source = y; prices = z; limit = d.0 }, d.1)

abbrev with_prices : ℕ → List ℕ → List ℕ → List ℕ × List ℕ → Read Header
with_prices n x y c = number_of_8 n c.1 >>= with_limit x y c.0

abbrev with_source : ℕ → List ℕ → List ℕ × List ℕ → Read Header
with_source n x b = field n 32 b.1 >>= with_prices n x b.0

abbrev with_base : ℕ → List ℕ × List ℕ → Read Header
with_base n a = field n 32 a.1 >>= with_source n a.0

pub header-outcome : (n : ℕ) (bs : List ℕ) → AreBytes bs → Outcome ⊥ IsHeader header_rest n bs (header n bs)
header-outcome n bs ok =
    followed ⊥ (Long 32) itself IsHeader header_rest base_of from_source base-splits n bs (field n 32 bs) (with_base n) ok (field-outcome ⊥ n 32 bs) (λ x r hx okx.
    followed ⊥ (Long 32) itself (Based x) from_source source_of from_prices (source-splits x hx) n r (field n 32 r) (with_source n x) okx (field-outcome ⊥ n 32 r) (λ y s hy oky.
    followed ⊥ (Long 32) itself (Sourced x y) from_prices prices_of from_limit (prices-splits x y hx hy) n s (field n 32 s) (with_prices n x y) oky (field-outcome ⊥ n 32 s) (λ z t hz okz.
    followed ⊥ Fits_8 be64 (Priced x y z) from_limit limit_of nothing (limit-splits x y z hx hy hz) n t (number_of_8 n t) (with_limit x y z) okz (number-8-outcome ⊥ n t okz) (λ m u hm okm.
    stands (of_header x y z m) u ((((is-header x y z m hx hy hz hm, refl), refl), refl), refl) refl refl))))
