-- Refused patterns of names, and parts that are refused at their tags.
use Rattle.std.proofs.Common.{◌≡◌, ℕ, ◌<◌, ◌≤◌, ◌+◌, ◌^◌, cond, List, [], ◌∷◌, ◌++◌, map, length, refl, ap, sym, ◌∙◌, subst, arith, append-nil}
use Rattle.std.specs.Prelude.{Bool, true, false, leb}
use Rattle.std.proofs.lemmas.Bool.{leb-true}
use Rattle.calculus.specs.Tree.{par, row, pattern, some_process, some_name, receive, new, match, Tree, node, Trees, none, also}
use Rattle.calculus.specs.Bytes.{be32}
use Rattle.calculus.specs.Shape.{leaf, count}
use Rattle.calculus.specs.Code.{code}
use Rattle.calculus.specs.Form.{Sort, term, part, pat, name_pat, pat_part, name_part, Scope, Fits, Hold, all, wides}
use Rattle.calculus.specs.Variables.{Sense}
use Rattle.calculus.proofs.Tails.{IsFine}
use Rattle.calculus.proofs.Splitting.{kids-short}
use Rattle.calculus.proofs.Formed.{some-code}
use Rattle.calculus.proofs.FromFits.{formed, fine}
use Rattle.code_faults.specs.declared.fault.ReadFault.{ReadFault}
use Rattle.code_faults.specs.declared.fault.ReadFault.TheVariants as fault
use Rattle.code_faults.specs.Wide.{is_wide_tag}
use Rattle.code_faults.specs.Refusing.{MayFollow, Denies, IsRight, HasRoom, Refuses, RefusesBag}
use Rattle.code_faults.proofs.Rows.{Row}
use Rattle.code_faults.proofs.Denying.{byte-denied}
use Rattle.code_faults.proofs.Kids.{no_false}
use Rattle.code_faults.proofs.Tags.{first}
use Rattle.code_faults.proofs.TextRefusals.{more}
use Rattle.code_faults.proofs.PatGoing.{wide_code, pat-going}

pub refuses-at : {b : Bool} {s : Sort} {v : Scope} {room : ℕ} {e : ReadFault} {bs cs : List ℕ} → bs ≡ cs → Refuses b s v room e cs → Refuses b s v room e bs
refuses-at {b = b} {s = s} {v = v} {room = room} {e = e} p h = subst (λ (x : List ℕ). Refuses b s v room e x) (sym p) h

-- no byte is left
pub none-left : {b : Bool} {s : Sort} {v : Scope} {room : ℕ} {e : ReadFault} {bs : List ℕ} → ((c : List ℕ) → 0 < length c → Denies e bs c) → Refuses b s v room e bs
none-left {s = s} {v = v} h = record { no = λ l t g. h (code t) (some-code IsFine s t (formed IsFine fine s v t g.fits)) }

other-first : {e : ReadFault} {now next : List ℕ} {tag : ℕ} (c : List ℕ) → now ≡ tag ∷ next → 0 < length c → (tag ≡ first c → ⊥) → Denies e now c
other-first [] is l h = absurd (omega arith)
other-first (k ∷ d) is l h = byte-denied k d is h

-- too many parts are wide, or too many are not
pub wide-refused : {A : Type 0} {f : A → Tree} {b : Bool} {v : Scope} {room : ℕ} {e : ReadFault} {xs : List A} {start now next : List ℕ} {tag : ℕ} (bs : List ℕ) (n : ℕ)
    → Row f pat_part v room xs start now → bs ≡ be32 n ++ start → n < 2 ^ 32 → length xs < n → now ≡ tag ∷ next
    → (wides (map f xs) + cond (is_wide_tag tag) 1 0 ≤ 1 → length xs + 1 ≤ 8 + (wides (map f xs) + cond (is_wide_tag tag) 1 0) → ⊥) → Refuses b pat v room e bs
wide-refused {f = f} {v = v} {xs = xs} bs n h is m i at k = pat-going bs n h is m i
    (λ t g l p q. other-first (code t) at (some-code IsFine pat_part t (formed IsFine fine pat_part v t g.fits))
    (λ w. let u : (j : ℕ) → j ≡ first (code t) → cond (is_wide_tag j) 1 0 ≡ wide_code (code t) = λ j z. ap (λ (x : ℕ). cond (is_wide_tag x) 1 0) z in
    let r = u _ w in k (omega (arith, p, r)) (omega (arith, q, r))))

-- a part of a name pattern that is no name variable may be a part of any pattern
pub as-part : (v : Scope) (u : Tree) (us : Trees) → Fits name_part v u → (u ≡ leaf some_name → ⊥) → Fits pat_part v u
as-part v (node some_name none) us h n = absurd (n refl)
as-part v (node some_name (also t ts)) us h n = absurd h.1
as-part v (node (receive k) ts) us h n = h
as-part v (node (new os) ts) us h n = h
as-part v (node match ts) us h n = h
as-part v (node _ ts) us h n = h

pub from_either : (c : Bool) (v : Scope) (own : List Sense) (ts : Trees) → (c ≡ true → ⊥) → Hold (cond c (all name_part) (all pat_part)) v own ts → Hold (all pat_part) v own ts
from_either true v own ts n h = absurd (n refl)
from_either false v own ts n h = h

-- the bytes of a name variable alone, and of a process variable alone
unfoldable pub name_bytes : List ℕ
name_bytes = 0 ∷ 0 ∷ 0 ∷ 1 ∷ 0x51 ∷ []

pub process_bytes : List ℕ
process_bytes = 0 ∷ 0 ∷ 0 ∷ 1 ∷ 0x50 ∷ []

pub record Change (bs : List ℕ) : Type 0 where
  pub more : List ℕ
  pub is : bs ++ more ≡ process_bytes

in-two : (a b : ℕ) (xs ys : List ℕ) → a ∷ xs ≡ b ∷ ys → (a ≡ b) × (xs ≡ ys)
in-two a b xs ys e = (cc, cc)

pub changed : (bs x y : List ℕ) → bs ++ x ≡ name_bytes ++ y → (5 ≤ length bs → ⊥) → Change bs
unfolding name_bytes process_bytes
changed [] x y e n = record { more = process_bytes; is = refl }
changed (a ∷ []) x y e n =
    let p = in-two a 0 x (0 ∷ 0 ∷ 1 ∷ 0x51 ∷ y) e in
    record { more = 0 ∷ 0 ∷ 1 ∷ 0x50 ∷ []; is = cc p.0 }
changed (a ∷ b ∷ []) x y e n =
    let p = in-two a 0 (b ∷ x) (0 ∷ 0 ∷ 1 ∷ 0x51 ∷ y) e in
    let q = in-two b 0 x (0 ∷ 1 ∷ 0x51 ∷ y) p.1 in
    record { more = 0 ∷ 1 ∷ 0x50 ∷ []; is = cc (p.0, q.0) }
changed (a ∷ b ∷ c ∷ []) x y e n =
    let p = in-two a 0 (b ∷ c ∷ x) (0 ∷ 0 ∷ 1 ∷ 0x51 ∷ y) e in
    let q = in-two b 0 (c ∷ x) (0 ∷ 1 ∷ 0x51 ∷ y) p.1 in
    let r = in-two c 0 x (1 ∷ 0x51 ∷ y) q.1 in
    record { more = 1 ∷ 0x50 ∷ []; is = cc (p.0, q.0, r.0) }
changed (a ∷ b ∷ c ∷ d ∷ []) x y e n =
    let p = in-two a 0 (b ∷ c ∷ d ∷ x) (0 ∷ 0 ∷ 1 ∷ 0x51 ∷ y) e in
    let q = in-two b 0 (c ∷ d ∷ x) (0 ∷ 1 ∷ 0x51 ∷ y) p.1 in
    let r = in-two c 0 (d ∷ x) (1 ∷ 0x51 ∷ y) q.1 in
    let s = in-two d 1 x (0x51 ∷ y) r.1 in
    record { more = 0x50 ∷ []; is = cc (p.0, q.0, r.0, s.0) }
changed (a ∷ b ∷ c ∷ d ∷ f ∷ bs) x y e n = absurd (n (omega arith))

pub process_right : (v : Scope) (room : ℕ) → IsRight true pat v room (node pattern (also (leaf some_process) none))
unfolding be32
process_right v room = record { fits = ((omega arith, omega arith), ((tt, tt), tt)); low = omega arith; short = omega arith; free = λ q. absurd (no_false q) }

pub process_code : code (node pattern (also (leaf some_process) none)) ≡ process_bytes
unfolding be32 process_bytes
process_code = refl

pub name_code : code (node pattern (also (leaf some_name) none)) ≡ name_bytes
unfolding be32 name_bytes
name_code = refl

-- bytes that begin the code of a name variable alone begin that of a process variable too, but for the last of them
module _ {v : Scope} {bs : List ℕ} (l : HasRoom v bs) (n : (y : List ℕ) → bs ≡ name_bytes ++ y → ⊥) where
  too-few : (x y : List ℕ) → bs ++ x ≡ name_bytes ++ y → 5 ≤ length bs → ⊥
  unfolding name_bytes
  too-few x y q k = let m = more name_bytes bs y x (omega arith) (sym q) in n m.more m.is

  name-denied : {room : ℕ} (e : ReadFault) → Refuses true pat v room e bs → (x y : List ℕ) → MayFollow e x → bs ++ x ≡ name_bytes ++ y → ⊥
  name-denied {room = room} (fault.Short at) h x y m q = n y (sym (append-nil bs) ∙ ap (λ (z : List ℕ). bs ++ z) (sym m) ∙ q)
  name-denied {room = room} (fault.NotCanonical at) h x y m q =
      let c = changed bs x y q (too-few x y q) in
      (h.no l (node pattern (also (leaf some_process) none)) (process_right v room)).no c.more [] tt (c.is ∙ sym process_code ∙ sym (append-nil (code (node pattern (also (leaf some_process) none)))))
  name-denied {room = room} (fault.TooDeep at) h x y m q =
      let c = changed bs x y q (too-few x y q) in
      (h.no l (node pattern (also (leaf some_process) none)) (process_right v room)).no c.more [] tt (c.is ∙ sym process_code ∙ sym (append-nil (code (node pattern (also (leaf some_process) none)))))
  name-denied {room = room} (fault.Unnamed at) h x y m q =
      let c = changed bs x y q (too-few x y q) in
      (h.no l (node pattern (also (leaf some_process) none)) (process_right v room)).no c.more [] tt (c.is ∙ sym process_code ∙ sym (append-nil (code (node pattern (also (leaf some_process) none)))))
  name-denied {room = room} fault.NoMemory h x y m q = m

alone-denied : {v : Scope} {room : ℕ} {e : ReadFault} {bs : List ℕ} (b : Bool) → HasRoom v bs → Refuses b pat v room e bs → (b ≡ true → (y : List ℕ) → bs ≡ name_bytes ++ y → ⊥)
    → IsRight b name_pat v room (node pattern (also (leaf some_name) none)) → Denies e bs (code (node pattern (also (leaf some_name) none)))
alone-denied {e = e} true l h n g = record { no = λ x y m q. name-denied l (n refl) e h x y m (q ∙ ap (λ (z : List ℕ). z ++ y) name_code) }
alone-denied false l h n g = absurd (cc (g.free refl))

pub name-refused : {b : Bool} {v : Scope} {room : ℕ} {e : ReadFault} {bs : List ℕ} → Refuses b pat v room e bs → (b ≡ true → (y : List ℕ) → bs ≡ 0 ∷ 0 ∷ 0 ∷ 1 ∷ 0x51 ∷ y → ⊥) → Refuses b name_pat v room e bs
unfolding name_bytes
name-refused {b = b} {v = v} {room = room} {e = e} {bs = bs} h n = record { no = no }
  where
    plain : HasRoom v bs → (ts : Trees) → IsRight b name_pat v room (node pattern ts) → Hold (all pat_part) v [] ts → Denies e bs (code (node pattern ts))
    plain l ts g f = h.no l (node pattern ts) (record { fits = (g.fits.0, f); low = g.low; short = g.short; free = g.free })

    no : HasRoom v bs → (t : Tree) → IsRight b name_pat v room t → Denies e bs (code t)
    no l (node pattern none) g = plain l none g tt
    no l (node pattern (also (node some_name none) none)) g = alone-denied b l h n g
    no l (node pattern (also (node some_name (also t ts)) none)) g = absurd g.fits.1.0.1
    no l (node pattern (also (node m us) none)) g = plain l (also (node m us) none) g (as-part v (node m us) none g.fits.1.0 (λ q. absurd (cc)), tt)
    no l (node pattern (also u (also w ws))) g = plain l (also u (also w ws)) g (from_either (leb (count ws + 1 + 1) 1) v [] (also u (also w ws)) (λ q. omega (arith, leb-true (count ws + 1 + 1) 1 q)) g.fits.1)
    no l (node par ts) g = absurd g.fits.1
    no l (node _ ts) g = absurd g.fits.1

pub term-refused : {v : Scope} {room : ℕ} {e : ReadFault} {bs : List ℕ} → RefusesBag part v room e bs → Refuses true term v room e bs
term-refused {v = v} {room = room} {e = e} {bs = bs} h = record { no = no }
  where
    no : HasRoom v bs → (t : Tree) → IsRight true term v room t → Denies e bs (code t)
    no l (node par ts) g = h.no l ts (record { fits = g.fits.1; low = omega (arith, g.low); short = kids-short par ts g.short; free = λ q. absurd (no_false q) })
    no l (node row ts) g = absurd g.fits.1
    no l (node _ ts) g = absurd g.fits.1

pub at-room : {b : Bool} {s : Sort} {v : Scope} {e : ReadFault} {bs : List ℕ} (m n : ℕ) → m ≡ n → Refuses b s v m e bs → Refuses b s v n e bs
at-room {b = b} {s = s} {v = v} {e = e} {bs = bs} m n p h = subst (λ (k : ℕ). Refuses b s v k e bs) p h
