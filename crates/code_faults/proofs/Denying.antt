-- Refused bytes and codes of several pieces.
use Rattle.std.proofs.Common.{◌≡◌, ℕ, ◌<◌, ◌^◌, List, ◌∷◌, ◌++◌, length, refl, ap, sym, ◌∙◌, arith, append_assoc, length-append}
use Rattle.std.specs.Prelude.{Bool}
use Rattle.calculus.specs.Tree.{Tree}
use Rattle.calculus.specs.Bytes.{be32}
use Rattle.calculus.specs.Code.{code}
use Rattle.calculus.specs.CodeLaws.{Splits, IsShort}
use Rattle.calculus.specs.Form.{Sort, Scope}
use Rattle.calculus.proofs.Prefixes.{cut, Splits-length}
use Rattle.calculus.proofs.Tails.{length-be32, one-be32}
use Rattle.calculus.proofs.FromFits.{codes_split}
use Rattle.code_faults.specs.declared.fault.ReadFault.{ReadFault}
use Rattle.code_faults.specs.Reading.{Reads}
use Rattle.code_faults.specs.Refusing.{Denies, IsRight, HasRoom, Refuses}

-- the first piece is denied
pub first-denied : {e : ReadFault} {bs c : List ℕ} (d : List ℕ) → Denies e bs c → Denies e bs (c ++ d)
first-denied {c = c} d h = record { no = λ x y m q. h.no x (d ++ y) m (q ∙ append_assoc c d y) }

-- the first piece is there, and what follows it is denied
pub next-denied : {e : ReadFault} {bs next a c : List ℕ} (d : List ℕ) → bs ≡ a ++ next → Splits a c → (a ≡ c → Denies e next d) → Denies e bs (c ++ d)
next-denied {bs = bs} {next = next} {a = a} {c = c} d is s k = record {
  no = λ x y m q.
      let p = cut a c (next ++ x) (d ++ y) s (sym (append_assoc a next x) ∙ ap (λ (z : List ℕ). z ++ x) (sym is) ∙ q ∙ append_assoc c d y) in
      (k p.0).no x y m p.1;
}

same_head : (n m : ℕ) (xs ys : List ℕ) → n ∷ xs ≡ m ∷ ys → (n ≡ m) × (xs ≡ ys)
same_head n m xs ys e = (cc, cc)

-- the first byte is there
pub byte-next : {e : ReadFault} {bs next : List ℕ} {n : ℕ} (m : ℕ) (d : List ℕ) → bs ≡ n ∷ next → (n ≡ m → Denies e next d) → Denies e bs (m ∷ d)
byte-next {next = next} {n = n} m d is k = record {
  no = λ x y g q.
      let p = same_head n m (next ++ x) (d ++ y) (ap (λ (z : List ℕ). z ++ x) (sym is) ∙ q) in
      (k p.0).no x y g p.1;
}

-- a tag, and what follows it
pub tag-next : {e : ReadFault} {bs : List ℕ} (m : ℕ) (d : List ℕ) → Denies e bs d → Denies e (m ∷ bs) (m ∷ d)
tag-next m d h = byte-next m d refl (λ p. h)

-- another byte stands there
pub byte-denied : {e : ReadFault} {bs next : List ℕ} {n : ℕ} (m : ℕ) (d : List ℕ) → bs ≡ n ∷ next → (n ≡ m → ⊥) → Denies e bs (m ∷ d)
byte-denied m d is k = byte-next m d is (λ p. absurd (k p))

-- a number is there
pub number-next : {e : ReadFault} {bs next : List ℕ} {n : ℕ} (m : ℕ) (d : List ℕ) → bs ≡ be32 n ++ next → n < 2 ^ 32 → m < 2 ^ 32 → (n ≡ m → Denies e next d) → Denies e bs (be32 m ++ d)
number-next {n = n} m d is a b k = next-denied d is (Splits-length (be32 n) (be32 m) (length-be32 n ∙ sym (length-be32 m))) (λ p. k (one-be32 n m a b p))

pub less-left : {v : Scope} {bs next : List ℕ} (a : List ℕ) → bs ≡ a ++ next → HasRoom v bs → HasRoom v next
less-left {bs = bs} {next = next} a is l = record { few = omega (arith, l.few, ap length is, length-append a next) }

pub left-less : {s : Sort} {v w : Scope} {room : ℕ} {t : Tree} {bs next : List ℕ} → Reads s v room t bs next → HasRoom w bs → HasRoom w next
left-less {t = t} h l = less-left (code t) h.is l

pub read-short : {s : Sort} {v w : Scope} {room : ℕ} {t : Tree} {bs next : List ℕ} → Reads s v room t bs next → HasRoom w bs → IsShort t
read-short {t = t} {bs = bs} {next = next} h l = omega (arith, l.few, ap length h.is, length-append (code t) next)

-- a constituent was read
pub read-next : {e : ReadFault} {b : Bool} {s : Sort} {v w o : Scope} {room more : ℕ} {u : Tree} {bs next : List ℕ} (t : Tree) (d : List ℕ)
    → Reads s w more u bs next → HasRoom o bs → IsRight b s v room t → (code u ≡ code t → Denies e next d) → Denies e bs (code t ++ d)
read-next {s = s} {v = v} {w = w} {u = u} t d h l r k = next-denied d h.is (codes_split s w v u t h.fits r.fits (read-short h l) r.short) k

-- a constituent is refused
pub refused : {e : ReadFault} {b : Bool} {s : Sort} {v : Scope} {room : ℕ} {bs : List ℕ} (t : Tree) (d : List ℕ)
    → Refuses b s v room e bs → HasRoom v bs → IsRight b s v room t → Denies e bs (code t ++ d)
refused t d h l r = first-denied d (h.no l t r)
