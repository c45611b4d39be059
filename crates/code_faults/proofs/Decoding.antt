-- What the whole decoder answers where bytes are a code.
use Rattle.std.proofs.Common.{Err, ◌≡◌, ℕ, ◌<◌, ◌≤◌, ◌-◌, ◌^◌, List, [], ◌∷◌, ◌++◌, length, refl, ap, sym, ◌∙◌, subst, arith, append_assoc, append-nil, length-append, inl, inr}
use Rattle.std.specs.Prelude.{Result, true, ◌⊎◌}
use Rattle.calculus.specs.Tree.{Tree}
use Rattle.calculus.specs.Code.{code}
use Rattle.calculus.specs.Form.{term}
use Rattle.calculus.proofs.FromFits.{no_code_is_prefix}
use Rattle.code_faults.specs.declared.fault.CodeFault.{CodeFault}
use Rattle.code_faults.specs.declared.fault.CodeFault.TheVariants as fault
use Rattle.code_faults.specs.declared.fault.ReadFault.{ReadFault}
use Rattle.code_faults.specs.declared.fault.ReadFault.TheVariants as read
use Rattle.code_faults.specs.Reading.{Reads}
use Rattle.code_faults.specs.Readable.{IsReadable, IsCutCode, IsBegun, IsBegunTo, IsCodeUpTo, at_end}
use Rattle.code_faults.specs.Beginning.{HasPlace, Goes, Begun}
use Rattle.code_faults.specs.Refusing.{IsRight, HasRoom, Refuses, MayFollow}
use Rattle.code_faults.specs.Blaming.{Wrong, InTree, IsNamelessAt}
use Rattle.code_faults.proofs.Kids.{no_false}
use Rattle.code_faults.proofs.BlamedWhole.{nameless-parts}

right : (t : Tree) → IsReadable t → IsRight true term [] 400 t
right t h = record { fits = h.closed; low = h.low; short = h.short; free = λ q. absurd (no_false q) }

roomy : (t : Tree) (bs : List ℕ) → IsReadable t → code t ≡ bs → HasRoom [] bs
roomy t bs h e = record { few = omega (arith, h.short, ap length e) }

denied : (t : Tree) (bs : List ℕ) (e : ReadFault) → Refuses true term [] 400 e bs → IsReadable t → code t ≡ bs → MayFollow e [] → ⊥
denied t bs e h r is m = (h.no (roomy t bs r is) t (right t r)).no [] [] m (append-nil bs ∙ sym is ∙ sym (append-nil (code t)))

-- where bytes are a code, they are refused for want of memory alone
pub only-memory_at_end : (t : Tree) (bs : List ℕ) (len : ℕ) (e : ReadFault) → Refuses true term [] 400 e bs → IsReadable t → code t ≡ bs → at_end e len ≡ fault.NoMemory
only-memory_at_end t bs len (read.Short at) h r is = absurd (denied t bs (read.Short at) h r is refl)
only-memory_at_end t bs len (read.NotCanonical at) h r is = absurd (denied t bs (read.NotCanonical at) h r is tt)
only-memory_at_end t bs len (read.TooDeep at) h r is = absurd (denied t bs (read.TooDeep at) h r is tt)
only-memory_at_end t bs len (read.Unnamed at) h r is = absurd (denied t bs (read.Unnamed at) h r is tt)
only-memory_at_end t bs len read.NoMemory h r is = refl

not-cut : (bs : List ℕ) (e : ReadFault) → Refuses true term [] 400 e bs → (c : IsCutCode bs) → MayFollow e c.more → ⊥
not-cut bs e h c m =
    let few : length bs < 2 ^ 32 = omega (arith, c.readable.short, ap length c.is, length-append bs c.more) in
    (h.no (record { few = omega (arith, few) }) c.process (right c.process c.readable)).no c.more [] m (c.is ∙ sym (append-nil (code c.process)))

-- a code that is cut is refused as such, or for want of memory
pub cut-at_end : (bs : List ℕ) (e : ReadFault) → Refuses true term [] 400 e bs → IsCutCode bs → (at_end e (length bs) ≡ fault.Short (length bs)) ⊎ (at_end e (length bs) ≡ fault.NoMemory)
cut-at_end bs (read.Short at) h c = inl refl
cut-at_end bs (read.NotCanonical at) h c = absurd (not-cut bs (read.NotCanonical at) h c tt)
cut-at_end bs (read.TooDeep at) h c = absurd (not-cut bs (read.TooDeep at) h c tt)
cut-at_end bs (read.Unnamed at) h c = absurd (not-cut bs (read.Unnamed at) h c tt)
cut-at_end bs read.NoMemory h c = inr refl

pub cut-answer : (bs : List ℕ) (e : ReadFault) (r : CodeFault) (len : ℕ) → r ≡ at_end e len → Refuses true term [] 400 e bs → IsCutCode bs → len ≡ length bs → (r ≡ fault.Short (length bs)) ⊎ (r ≡ fault.NoMemory)
cut-answer bs e r len p h c q =
    let k : r ≡ at_end e (length bs) = p ∙ ap (at_end e) q in
    subst (λ (x : CodeFault). (x ≡ fault.Short (length bs)) ⊎ (x ≡ fault.NoMemory)) (sym k) (cut-at_end bs e h c)

-- a code that is cut has no whole code at its front
pub cut-unread : (u : Tree) (bs next : List ℕ) → Reads term [] 400 u bs next → IsCutCode bs → ⊥
cut-unread u bs next h c = on (next ++ c.more) refl (omega (arith, c.proper, length-append next c.more))
  where
    whole : code c.process ≡ code u ++ (next ++ c.more)
    whole = sym c.is ∙ ap (λ (z : List ℕ). z ++ c.more) h.is ∙ append_assoc (code u) next c.more

    on : (xs : List ℕ) → next ++ c.more ≡ xs → 0 < length xs → ⊥
    on [] e l = omega arith
    on (k ∷ xs) e l =
        no_code_is_prefix u c.process h.fits c.readable.closed (omega (arith, c.readable.short, ap length whole, length-append (code u) (next ++ c.more))) c.readable.short k xs (whole ∙ ap (λ (z : List ℕ). code u ++ z) e)

-- no byte stands past a whole code
pub none-past : (t u : Tree) (bs next : List ℕ) → Reads term [] 400 u bs next → IsReadable t → code t ≡ bs → 0 < length next → ⊥
none-past t u bs [] h r e l = omega arith
none-past t u bs (k ∷ next) h r e l =
    no_code_is_prefix u t h.fits r.closed (omega (arith, r.short, ap length e, ap length h.is, length-append (code u) (k ∷ next))) r.short k next (e ∙ h.is)

pub err-same : {T : Type 0} {x y : CodeFault} → ◌≡◌ {A = Result T CodeFault} (Err x) (Err y) → x ≡ y
err-same q = cc

not-canonical : {j k : ℕ} → fault.NotCanonical j ≡ fault.NotCanonical k → j ≡ k
not-canonical e = cc

too-deep : {j k : ℕ} → fault.TooDeep j ≡ fault.TooDeep k → j ≡ k
too-deep e = cc

-- only bytes that begin a code are told to end early
pub begun-only : (bs : List ℕ) (e : ReadFault) (len at : ℕ) → (HasPlace e → Goes e (Begun true term [] 400 bs)) → at_end e len ≡ fault.Short at → IsBegun bs
begun-only bs (read.Short k) len at f q =
    let g = f tt in
    let b = g.begun in
    record {
      process = b.tree;
      closed = b.fits;
      low = b.low;
      more = b.cut.more;
      is = ap (λ (z : List ℕ). z ++ b.cut.more) (sym b.cut.is ∙ ap (λ (z : List ℕ). b.cut.before ++ z) g.place ∙ append-nil b.cut.before) ∙ b.cut.goes;
      proper = b.cut.some;
    }
begun-only bs (read.NotCanonical k) len at f q = absurd (cc)
begun-only bs (read.TooDeep k) len at f q = absurd (cc)
begun-only bs (read.Unnamed k) len at f q = absurd (cc)
begun-only bs read.NoMemory len at f q = absurd (cc)

-- up to another place they begin one too
begun-to : {bs after : List ℕ} (at : ℕ) → Begun true term [] 400 bs after → at ≡ length bs - length after → IsBegunTo bs at
begun-to {after = after} at b p = record {
  process = b.tree;
  closed = b.fits;
  low = b.low;
  before = b.cut.before;
  more = b.cut.more;
  goes = b.cut.goes;
  after = after;
  is = b.cut.is;
  place = inl (omega (arith, p, ap length b.cut.is, length-append b.cut.before after));
}

nameless-to : {bs after : List ℕ} (at : ℕ) → Begun true term [] 400 bs after → 4 ≤ length after → at ≡ length bs - (length after - 4) → (at < 2 ^ 32 → IsNamelessAt at bs) → IsBegunTo bs at
nameless-to {after = after} at b l p n = record {
  process = b.tree;
  closed = b.fits;
  low = b.low;
  before = b.cut.before;
  more = b.cut.more;
  goes = b.cut.goes;
  after = after;
  is = b.cut.is;
  place = inr (omega (arith, l, p, ap length b.cut.is, length-append b.cut.before after), n);
}

pub begun-until : (bs : List ℕ) (e : ReadFault) (len at : ℕ) → len ≡ length bs → Wrong (InTree true term [] 400) e bs → (HasPlace e → Goes e (Begun true term [] 400 bs)) → (at_end e len ≡ fault.NotCanonical at) ⊎ (at_end e len ≡ fault.TooDeep at) → IsBegunTo bs at
begun-until bs (read.Short k) len at l h f (inl q) = absurd (cc)
begun-until bs (read.Short k) len at l h f (inr q) = absurd (cc)
begun-until bs (read.NotCanonical k) len at l h f (inl q) = let g = f tt in begun-to at g.begun (omega (arith, not-canonical q, g.place, l))
begun-until bs (read.NotCanonical k) len at l h f (inr q) = absurd (cc)
begun-until bs (read.TooDeep k) len at l h f (inl q) = absurd (cc)
begun-until bs (read.TooDeep k) len at l h f (inr q) = let g = f tt in begun-to at g.begun (omega (arith, too-deep q, g.place, l))
begun-until bs (read.Unnamed k) len at l h f (inl q) =
    let g = f tt in
    let few : 4 ≤ length g.after = omega (arith, h.holds.0, g.place) in
    let is : at ≡ length bs - (k - 4) = omega (arith, not-canonical q, l) in
    nameless-to at g.begun few (omega (arith, is, g.place)) (λ n. nameless-parts bs k at h.holds.1 h.holds.0 is n)
begun-until bs (read.Unnamed k) len at l h f (inr q) = absurd (cc)
begun-until bs read.NoMemory len at l h f (inl q) = absurd (cc)
begun-until bs read.NoMemory len at l h f (inr q) = absurd (cc)

-- a form that is too deep stands behind the beginning of a code
pub deep-begun : (bs : List ℕ) (e : ReadFault) (len at : ℕ) → len ≡ length bs → (HasPlace e → Goes e (Begun true term [] 400 bs)) → at_end e len ≡ fault.TooDeep at → IsCodeUpTo bs at
deep-begun bs (read.Short k) len at l f q = absurd (cc)
deep-begun bs (read.NotCanonical k) len at l f q = absurd (cc)
deep-begun bs (read.TooDeep k) len at l f q =
    let g = f tt in
    let b = g.begun in
    record {
      process = b.tree;
      closed = b.fits;
      low = b.low;
      before = b.cut.before;
      more = b.cut.more;
      goes = b.cut.goes;
      after = g.after;
      is = b.cut.is;
      place = omega (arith, too-deep q, g.place, l, ap length b.cut.is, length-append b.cut.before g.after);
    }
deep-begun bs (read.Unnamed k) len at l f q = absurd (cc)
deep-begun bs read.NoMemory len at l f q = absurd (cc)

-- a further byte stands behind a whole code
pub further : (u : Tree) (bs left : List ℕ) (k at : ℕ) → Reads term [] 400 u bs left → k ≡ length bs - length left → (fault.NotCanonical k ≡ fault.NotCanonical at) ⊎ (fault.NotCanonical k ≡ fault.TooDeep at) → IsBegunTo bs at
further u bs left k at h p (inl q) = record {
  process = u;
  closed = h.fits;
  low = h.low;
  before = code u;
  more = [];
  goes = append-nil (code u);
  after = left;
  is = sym h.is;
  place = inl (omega (arith, p, not-canonical q, ap length h.is, length-append (code u) left));
}
further u bs left k at h p (inr q) = absurd (cc)

pub err-either : {T : Type 0} {x y z : CodeFault} → (◌≡◌ {A = Result T CodeFault} (Err x) (Err y)) ⊎ (◌≡◌ {A = Result T CodeFault} (Err x) (Err z)) → (x ≡ y) ⊎ (x ≡ z)
err-either (inl q) = inl (err-same q)
err-either (inr q) = inr (err-same q)

-- what is told is what was found
pub told-same : {x y z w : CodeFault} → x ≡ y → (x ≡ z) ⊎ (x ≡ w) → (y ≡ z) ⊎ (y ≡ w)
told-same p (inl q) = inl (sym p ∙ q)
told-same p (inr q) = inr (sym p ∙ q)
