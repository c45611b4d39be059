-- Blamed places, and codes of several pieces.
use Rattle.std.proofs.Common.{◌≡◌, ℕ, zero, suc, ◌<◌, ◌≤◌, ◌+◌, ◌^◌, List, [], ◌∷◌, ◌++◌, length, refl, ap, sym, ◌∙◌, subst, arith, append_assoc, append-nil, length-append}
use Rattle.std.specs.Prelude.{Bool, true, false}
use Rattle.calculus.specs.Tree.{Tree}
use Rattle.calculus.specs.Shape.{label_of}
use Rattle.calculus.specs.Size.{rise}
use Rattle.calculus.specs.Bytes.{be32}
use Rattle.calculus.specs.Order.{up_to}
use Rattle.calculus.specs.Code.{code}
use Rattle.calculus.specs.CodeLaws.{Splits}
use Rattle.calculus.specs.Form.{Sort, Scope}
use Rattle.calculus.proofs.Prefixes.{cut, Splits-length}
use Rattle.calculus.proofs.Tails.{length-be32, one-be32}
use Rattle.calculus.proofs.FromFits.{codes_split}
use Rattle.code_faults.specs.declared.fault.ReadFault.{ReadFault}
use Rattle.code_faults.specs.declared.fault.ReadFault.TheVariants as fault
use Rattle.code_faults.specs.Reading.{Reads}
use Rattle.code_faults.specs.Refusing.{IsRight, HasRoom}
use Rattle.code_faults.specs.Places.{Slot, another, Item, field, name_length, inner, spelled, spelling, items, Stop, these, form, nameless, bytes_of, Reaches, IsNoForm, Breaks, differs, misses, unnamed, falls, deep, within, past}
use Rattle.code_faults.specs.Blaming.{TellsNone, Blames, BlamesIn, Parts, Wrong, InTree}
use Rattle.code_faults.proofs.Denying.{read-short}
use Rattle.code_faults.proofs.Spelling.{spelling-items}

widened : {stop : Stop} {room : ℕ} {is : List Item} {before : List ℕ} (js : List Item) → Breaks stop room is before → Breaks stop room (is ++ js) before
widened js (differs after room f is h) = differs after room f (is ++ js) h
widened js (misses after room n is h z) = misses after room n (is ++ js) h z
widened js (unnamed after others room n is e h) = unnamed after others room n (is ++ js) e h
widened js (falls after room slot least t is h n) = falls after room slot least t (is ++ js) h n
widened js (deep after slot least t is h) = deep after slot least t (is ++ js) h
widened js (within stop room slot least t is before r n h) = within stop room slot least t (is ++ js) before r n h
widened js (past stop room i is before h) = past stop room i (is ++ js) before (widened js h)

spelling-append : (is js : List Item) → spelling (is ++ js) ≡ spelling is ++ spelling js
spelling-append [] js = refl
spelling-append (i ∷ is) js = ap (λ (z : List ℕ). spelled i ++ z) (spelling-append is js) ∙ sym (append_assoc (spelled i) (spelling is) (spelling js))

pub lowest : (c : List ℕ) → up_to [] c ≡ true
lowest [] = refl
lowest (x ∷ c) = refl

pub reaches-lowest : (bs : List ℕ) → Reaches [] bs
reaches-lowest bs = record { more = []; up = lowest (bs ++ []) }

pub reread : {s : Sort} {v : Scope} {room : ℕ} {u : Tree} {bs next : List ℕ} (before : List ℕ) → Reads s v room u bs next → Reads s v room u (code u ++ before) before
reread before h = record { is = refl; fits = h.fits; low = h.low }

-- no form begins where none may stand
pub no-form : (room : ℕ) (bs : List ℕ) → IsNoForm room another bs
no-form room [] q = refl
no-form room (x ∷ bs) q = refl

module _ {stop : Stop} {room : ℕ} where
  -- a place in what codes begin with
  pub first-blamed : {before : List ℕ} (is js : List Item) → Blames stop room before is → Blames stop room before (is ++ js)
  first-blamed is js h = record { wrong = λ x y q. widened js (h.wrong x (spelling js ++ y) (q ∙ ap (λ (z : List ℕ). z ++ y) (spelling-append is js) ∙ append_assoc (spelling is) (spelling js) y)) }

  -- the first piece is there, and one behind it is blamed
  pub next-blamed : {before a : List ℕ} (i : Item) (is : List Item) → Splits a (spelled i) → (a ≡ spelled i → Blames stop room before is) → Blames stop room (a ++ before) (i ∷ is)
  next-blamed {before = before} {a = a} i is s k = record {
    wrong = λ x y q.
        let p = cut a (spelled i) (before ++ x) (spelling is ++ y) s (sym (append_assoc a before x) ∙ q ∙ append_assoc (spelled i) (spelling is) y) in
        subst (λ (z : List ℕ). Breaks stop room (i ∷ is) (z ++ before)) (sym p.0) (past stop room i is before ((k p.0).wrong x y p.1));
  }

  pub byte-passed : {before : List ℕ} {n : ℕ} (m : ℕ) (is : List Item) → (n ≡ m → Blames stop room before is) → Blames stop room (n ∷ before) (field (m ∷ []) ∷ is)
  byte-passed {n = n} m is k = next-blamed {a = n ∷ []} (field (m ∷ [])) is (λ p. tt) (λ p. k (cc p))

  -- a tag, and what follows it
  pub tag-passed : {before : List ℕ} (m : ℕ) (is : List Item) → Blames stop room before is → Blames stop room (m ∷ before) (field (m ∷ []) ∷ is)
  tag-passed m is h = byte-passed m is (λ p. h)

  pub number-passed : {before : List ℕ} {n : ℕ} (m : ℕ) (is : List Item) → n < 2 ^ 32 → m < 2 ^ 32 → (n ≡ m → Blames stop room before is) → Blames stop room (be32 n ++ before) (field (be32 m) ∷ is)
  number-passed {n = n} m is a b k = next-blamed (field (be32 m)) is (Splits-length (be32 n) (be32 m) (length-be32 n ∙ sym (length-be32 m))) (λ p. k (one-be32 n m a b p))

  pub length-passed : {before : List ℕ} {n : ℕ} (m : ℕ) (is : List Item) → n < 2 ^ 32 → m < 2 ^ 32 → (n ≡ m → Blames stop room before is) → Blames stop room (be32 n ++ before) (name_length m ∷ is)
  length-passed {n = n} m is a b k = next-blamed (name_length m) is (Splits-length (be32 n) (be32 m) (length-be32 n ∙ sym (length-be32 m))) (λ p. k (one-be32 n m a b p))

  -- a constituent was read
  pub read-passed : {b : Bool} {s : Sort} {v w o : Scope} {high more : ℕ} {u : Tree} {bs next before : List ℕ} {slot : Slot} (least : List ℕ) (t : Tree) (is : List Item)
      → Reads s w more u bs next → HasRoom o (code u ++ before) → IsRight b s v high t → (code u ≡ code t → Blames stop room before is) → Blames stop room (code u ++ before) (inner slot least t ∷ is)
  read-passed {s = s} {v = v} {w = w} {u = u} {before = before} {slot = slot} least t is h l r k = next-blamed (inner slot least t) is (codes_split s w v u t h.fits r.fits (read-short (reread before h) l) r.short) k

  -- a constituent has the place
  pub inside-above : {before : List ℕ} {slot : Slot} (least : List ℕ) (t : Tree) (is : List Item) → (0 < length before → Reaches least (before ++ bytes_of stop)) → (length before ≡ 0 → IsNoForm room slot (bytes_of stop)) → BlamesIn stop room before t
      → Blames stop room before (inner slot least t ∷ is)
  inside-above {before = before} {slot = slot} least t is r n h = record {
    wrong = λ x y q.
        let w = h.wrong x (spelling is ++ y) (q ∙ append_assoc (code t) (spelling is) y ∙ ap (λ (z : List ℕ). z ++ (spelling is ++ y)) (sym (spelling-items t))) in
        within stop room slot least t is before (record { reaches = r; fits = w.fits }) n w.breaks;
  }

  pub inside : {before : List ℕ} (t : Tree) (is : List Item) → BlamesIn stop room before t → Blames stop room before (inner another [] t ∷ is)
  inside {before = before} t is h = inside-above [] t is (λ q. reaches-lowest (before ++ bytes_of stop)) (λ p. no-form room (bytes_of stop)) h

  pub inner-blamed : {b : Bool} {s : Sort} {v : Scope} {high : ℕ} {before : List ℕ} (t : Tree) (is : List Item)
      → InTree b s v room stop before → HasRoom v before → IsRight b s v high t → Blames stop room before (inner another [] t ∷ is)
  inner-blamed {high = high} t is h l r = inside t is (h.no l high t r)

  -- what is no form adds no height
  pub level : {before : List ℕ} (t : Tree) → rise (label_of t) ≡ 0 → Blames stop room before (items t) → BlamesIn stop room before t
  level {before = before} t e h = record {
    wrong = λ x y q. record { fits = λ p. omega (arith, e); breaks = subst (λ (n : ℕ). Breaks stop n (items t) before) (omega (arith, e)) (h.wrong x y q) };
  }

-- where a form stands there is room
pub has-room : {room : ℕ} {b : Bool} → (room ≡ 0 → b ≡ false) → b ≡ true → 1 ≤ room
has-room {room = zero} h e = absurd (cc (h refl, e))
has-room {room = suc n} h e = omega arith

-- a form adds one
pub raised : {stop : Stop} {room : ℕ} {before : List ℕ} (t : Tree) → rise (label_of t) ≡ 1 → Blames stop room before (items t) → BlamesIn stop (room + 1) before t
raised {stop = stop} {room = room} {before = before} t e h = record {
  wrong = λ x y q. record { fits = λ p. omega (arith, e); breaks = subst (λ (n : ℕ). Breaks stop n (items t) before) (omega (arith, e)) (h.wrong x y q) };
}

module _ {after : List ℕ} {room : ℕ} where
  -- the first field is none that stands there
  pub field-differs : (f : List ℕ) (is : List Item) → ((x y : List ℕ) → after ++ x ≡ f ++ y → ⊥) → Blames (these after) room [] (field f ∷ is)
  field-differs f is h = record { wrong = λ x y q. differs after room f is h }

-- what stops a reader is no bytes that are wrong
abbrev pub IsOther : Stop → Type 0
IsOther stop = (after : List ℕ) → stop ≡ these after → ⊥

at-field : {stop : Stop} {room : ℕ} {f : List ℕ} {is : List Item} {b : List ℕ} → Breaks stop room (field f ∷ is) b → IsOther stop → b ≡ [] → 0 < length f → ⊥
at-field (differs after room f is h) o e l = o after refl
at-field {f = f} (past stop room i is before h) o e l = omega (arith, l, ap length e, length-append f before)

-- nothing else stops it where a field stands
pub not-other : {stop : Stop} {room : ℕ} {f : List ℕ} {is : List Item} → IsOther stop → Blames stop room [] (field f ∷ is) → 0 < length f → ⊥
not-other {f = f} {is = is} o h l = at-field (h.wrong (f ++ spelling is) [] (sym (append-nil (f ++ spelling is)))) o refl l

module _ (P Q : List ℕ → List ℕ → Type 0) where
  parts-behind : {bs next : List ℕ} {at : ℕ} (a : List ℕ) → bs ≡ a ++ next → ((after before : List ℕ) → P after before → Q after (a ++ before)) → Parts P at next → Parts Q at bs
  parts-behind a is f h = record { before = a ++ h.before; after = h.after; are = is ∙ ap (λ (z : List ℕ). a ++ z) h.are ∙ sym (append_assoc a h.before h.after); place = h.place; blames = f h.after h.before h.blames }

  same-parts : {bs : List ℕ} {at : ℕ} → ((after before : List ℕ) → bs ≡ before ++ after → P after before → Q after before) → Parts P at bs → Parts Q at bs
  same-parts f h = record { before = h.before; after = h.after; are = h.are; place = h.place; blames = f h.after h.before h.are h.blames }

module _ (P Q : Stop → List ℕ → Type 0) where
  -- a fault behind bytes that were read
  pub behind : {bs next : List ℕ} (e : ReadFault) (a : List ℕ) → bs ≡ a ++ next → ((stop : Stop) (before : List ℕ) → P stop before → Q stop (a ++ before)) → Wrong P e next → Wrong Q e bs
  behind (fault.Short at) a is f h = record { holds = tt }
  behind (fault.NotCanonical at) a is f h = record { holds = parts-behind (λ after before. P (these after) before) (λ after before. Q (these after) before) a is (λ after before. f (these after) before) h.holds }
  behind (fault.TooDeep at) a is f h = record { holds = parts-behind (λ after before. P (form after) before) (λ after before. Q (form after) before) a is (λ after before. f (form after) before) h.holds }
  behind (fault.Unnamed at) a is f h = record { holds = (h.holds.0, parts-behind (λ after before. P (nameless after) before) (λ after before. Q (nameless after) before) a is (λ after before. f (nameless after) before) h.holds.1) }
  behind fault.NoMemory a is f h = record { holds = tt }

  -- the same fault in the same bytes
  pub as-same : {bs : List ℕ} (e : ReadFault) → ((stop : Stop) (before : List ℕ) → bs ≡ before ++ bytes_of stop → P stop before → Q stop before) → Wrong P e bs → Wrong Q e bs
  as-same (fault.Short at) f h = record { holds = tt }
  as-same (fault.NotCanonical at) f h = record { holds = same-parts (λ after before. P (these after) before) (λ after before. Q (these after) before) (λ after before. f (these after) before) h.holds }
  as-same (fault.TooDeep at) f h = record { holds = same-parts (λ after before. P (form after) before) (λ after before. Q (form after) before) (λ after before. f (form after) before) h.holds }
  as-same (fault.Unnamed at) f h = record { holds = (h.holds.0, same-parts (λ after before. P (nameless after) before) (λ after before. Q (nameless after) before) (λ after before. f (nameless after) before) h.holds.1) }
  as-same fault.NoMemory f h = record { holds = tt }

module _ {P : Stop → List ℕ → Type 0} {bs : List ℕ} where
  -- a fault that tells no place
  pub none-told : (e : ReadFault) → TellsNone e → Wrong P e bs
  none-told (fault.Short at) h = record { holds = tt }
  none-told (fault.NotCanonical at) h = absurd h
  none-told (fault.TooDeep at) h = absurd h
  none-told (fault.Unnamed at) h = absurd h
  none-told fault.NoMemory h = record { holds = tt }

  pub no-memory : Wrong P fault.NoMemory bs
  no-memory = record { holds = tt }

  pub ends : (at : ℕ) → Wrong P (fault.Short at) bs
  ends at = record { holds = tt }

  pub not-canonical : {at : ℕ} → Parts (λ after before. P (these after) before) at bs → Wrong P (fault.NotCanonical at) bs
  not-canonical h = record { holds = h }

  pub no-name : {at : ℕ} → 4 ≤ at → Parts (λ after before. P (nameless after) before) at bs → Wrong P (fault.Unnamed at) bs
  no-name l h = record { holds = (l, h) }

  pub too-deep : {at : ℕ} → Parts (λ after before. P (form after) before) at bs → Wrong P (fault.TooDeep at) bs
  too-deep h = record { holds = h }
