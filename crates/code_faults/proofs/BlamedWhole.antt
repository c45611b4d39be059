-- The place that the whole decoder tells.
use Rattle.std.proofs.Common.{◌≡◌, ℕ, ◌+◌, ◌-◌, ◌<◌, ◌≤◌, ◌^◌, List, [], ◌++◌, length, ap, sym, ◌∙◌, subst, arith, length-append, inl, inr}
use Rattle.std.specs.Prelude.{true, ◌⊎◌, Result, Err}
use Rattle.calculus.specs.Tree.{par, row, Tree, node}
use Rattle.calculus.specs.Shape.{label_of}
use Rattle.calculus.specs.Size.{rise, height}
use Rattle.calculus.specs.Code.{code}
use Rattle.calculus.specs.CodeLaws.{IsShort}
use Rattle.calculus.specs.Form.{term, IsClosed}
use Rattle.calculus.proofs.Prefixes.{cut}
use Rattle.calculus.proofs.FromFits.{codes_split}
use Rattle.code_faults.specs.declared.fault.CodeFault.{CodeFault}
use Rattle.code_faults.specs.declared.fault.CodeFault.TheVariants as fault
use Rattle.code_faults.specs.declared.fault.ReadFault.{ReadFault}
use Rattle.code_faults.specs.declared.fault.ReadFault.TheVariants as read
use Rattle.code_faults.specs.Reading.{Reads}
use Rattle.code_faults.specs.Readable.{at_end}
use Rattle.code_faults.specs.Refusing.{IsRight}
use Rattle.code_faults.specs.Places.{items, Stop, these, form, nameless, Breaks}
use Rattle.code_faults.specs.Blaming.{Parts, Wrong, InTree, StopsEach, IsWrongAt, IsDeepAt, IsNamelessAt}
use Rattle.code_faults.proofs.Kids.{no_false}
use Rattle.code_faults.proofs.Spelling.{spelling-items}

right : (t : Tree) → IsClosed t → IsShort t → IsRight true term [] (height t) t
right t c s = record { fits = c; low = omega arith; short = s; free = λ q. absurd (no_false q) }

closed-level : (t : Tree) → IsClosed t → 400 - rise (label_of t) ≡ 400
closed-level (node par ts) c = omega arith
closed-level (node row ts) c = absurd c.1
closed-level (node _ ts) c = absurd c.1

-- where a reader stops in a closed process
module _ {stop : Stop} {before : List ℕ} (few : length before < 2 ^ 32) (h : InTree true term [] 400 stop before) where
  stops : StopsEach stop before
  stops t c s x y q =
      let w = (h.no (record { few = omega (arith, few) }) (height t) t (right t c s)).wrong x y (q ∙ ap (λ (z : List ℕ). z ++ y) (sym (spelling-items t))) in
      subst (λ (n : ℕ). Breaks stop n (items t) before) (closed-level t c) w.breaks

-- a place told from the end, told from the beginning
module _ {P : List ℕ → List ℕ → Type 0} {bs : List ℕ} {left at : ℕ} (h : Parts P left bs) (p : at ≡ length bs - left) where
  from-start : at ≡ length h.before
  from-start = omega (arith, p, h.place, ap length h.are, length-append h.before h.after)

canonical : (a b : ℕ) → fault.NotCanonical a ≡ fault.NotCanonical b → a ≡ b
canonical a b e = cc

deep-same : (a b : ℕ) → fault.TooDeep a ≡ fault.TooDeep b → a ≡ b
deep-same a b e = cc

wrong-parts : (bs : List ℕ) (left at : ℕ) → Parts (λ after before. InTree true term [] 400 (these after) before) left bs → at ≡ length bs - left → at < 2 ^ 32 → IsWrongAt at bs
wrong-parts bs left at h p few =
    let e = from-start h p in
    record { before = h.before; after = h.after; are = h.are; place = e; wrong = λ t c s x y q. inl (stops (omega (arith, few, e)) h.blames t c s x y q) }

deep-parts : (bs : List ℕ) (left at : ℕ) → Parts (λ after before. InTree true term [] 400 (form after) before) left bs → at ≡ length bs - left → at < 2 ^ 32 → IsDeepAt at bs
deep-parts bs left at h p few =
    let e = from-start h p in
    record { before = h.before; after = h.after; are = h.are; place = e; deep = λ t c s x y q. stops (omega (arith, few, e)) h.blames t c s x y q }

pub nameless-parts : (bs : List ℕ) (left at : ℕ) → Parts (λ after before. InTree true term [] 400 (nameless after) before) left bs → 4 ≤ left → at ≡ length bs - (left - 4) → at < 2 ^ 32 → IsNamelessAt at bs
nameless-parts bs left at h l p few =
    let e : at ≡ length h.before + 4 = omega (arith, l, p, h.place, ap length h.are, length-append h.before h.after) in
    record { before = h.before; after = h.after; are = h.are; place = e; nameless = λ t c s x y q. stops (omega (arith, few, e)) h.blames t c s x y q }

wrong-at : (bs : List ℕ) (e : ReadFault) (at : ℕ) → Wrong (InTree true term [] 400) e bs → at < 2 ^ 32 → at_end e (length bs) ≡ fault.NotCanonical at → IsWrongAt at bs ⊎ IsNamelessAt at bs
wrong-at bs (read.Short k) at h few c = absurd (cc)
wrong-at bs (read.NotCanonical k) at h few c = inl (wrong-parts bs k at h.holds (sym (canonical (length bs - k) at c)) few)
wrong-at bs (read.TooDeep k) at h few c = absurd (cc)
wrong-at bs (read.Unnamed k) at h few c = inr (nameless-parts bs k at h.holds.1 h.holds.0 (sym (canonical (length bs - (k - 4)) at c)) few)
wrong-at bs read.NoMemory at h few c = absurd (cc)

deep-at : (bs : List ℕ) (e : ReadFault) (at : ℕ) → Wrong (InTree true term [] 400) e bs → at < 2 ^ 32 → at_end e (length bs) ≡ fault.TooDeep at → IsDeepAt at bs
deep-at bs (read.Short k) at h few c = absurd (cc)
deep-at bs (read.NotCanonical k) at h few c = absurd (cc)
deep-at bs (read.TooDeep k) at h few c = deep-parts bs k at h.holds (sym (deep-same (length bs - k) at c)) few
deep-at bs (read.Unnamed k) at h few c = absurd (cc)
deep-at bs read.NoMemory at h few c = absurd (cc)

-- a refusal
abbrev refused : (T : Type 0) → CodeFault → Result T CodeFault
refused T e = Err e

module _ {T : Type 0} where
  err-same : (a b : CodeFault) → refused T a ≡ refused T b → a ≡ b
  err-same a b e = cc

  -- what the reader refuses is wrong at the place that is told
  pub place-told : (bs : List ℕ) (e : ReadFault) (r : CodeFault) (at len : ℕ) → r ≡ at_end e len → len ≡ length bs → Wrong (InTree true term [] 400) e bs → at < 2 ^ 32
      → refused T r ≡ refused T (fault.NotCanonical at) → IsWrongAt at bs ⊎ IsNamelessAt at bs
  place-told bs e r at len p q h few c = wrong-at bs e at h few (ap (at_end e) (sym q) ∙ sym p ∙ err-same r (fault.NotCanonical at) c)

  pub deep-told : (bs : List ℕ) (e : ReadFault) (r : CodeFault) (at len : ℕ) → r ≡ at_end e len → len ≡ length bs → Wrong (InTree true term [] 400) e bs → at < 2 ^ 32
      → refused T r ≡ refused T (fault.TooDeep at) → IsDeepAt at bs
  deep-told bs e r at len p q h few c = deep-at bs e at h few (ap (at_end e) (sym q) ∙ sym p ∙ err-same r (fault.TooDeep at) c)

  -- a further byte behind a whole code
  pub further-byte : (u : Tree) (bs next : List ℕ) (r at : ℕ) → Reads term [] 400 u bs next → 0 < length next → r ≡ length bs - length next → at < 2 ^ 32
      → refused T (fault.NotCanonical r) ≡ refused T (fault.NotCanonical at) → IsWrongAt at bs ⊎ IsNamelessAt at bs
  further-byte u bs next r at h more p few c =
      let w : r ≡ at = canonical r at (err-same (fault.NotCanonical r) (fault.NotCanonical at) c) in
      let e : at ≡ length (code u) = omega (arith, w, p, ap length h.is, length-append (code u) next) in
      inl (record {
        before = code u;
        after = next;
        are = h.is;
        place = e;
        wrong = λ t c s x y q. inr (sym ((cut (code u) (code t) x y (codes_split term [] [] u t h.fits c (omega (arith, few, e)) s) q).0), more);
      })
