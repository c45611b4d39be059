-- Rows of sends: their codes, and bytes that are none.
use Rattle.std.proofs.Common.{◌≡◌, ℕ, ◌<◌, ◌≤◌, ◌^◌, List, [], ◌∷◌, ◌++◌, length, refl, ap, sym, ◌∙◌, subst, arith, append_assoc, append-nil, length-append, reverse}
use Rattle.std.specs.Prelude.{Bool, true, false, map as each, replicate}
use Rattle.calculus.specs.declared.plain.Kind.{Kind}
use Rattle.calculus.specs.Code.{byte_of, code}
use Rattle.calculus.specs.Form.{Sort, term, a_bind, row_of, Fits, IsClosed, IsDigest}
use Rattle.calculus.specs.Kinds.{kind_number}
use Rattle.calculus.specs.Order.{IsAscending}
use Rattle.calculus.specs.Rows.{Row, channels, coded_part, row_code}
use Rattle.calculus.specs.Shape.{at, held, only, two}
use Rattle.calculus.specs.Size.{height}
use Rattle.calculus.specs.Storing.{is_active}
use Rattle.calculus.specs.Tree.{par, row, send, receive, Tree, node, none, also}
use Rattle.calculus.specs.Variables.{Sense, bound, bound_all}
use Rattle.calculus.proofs.Prefixes.{Splits-length}
use Rattle.code_faults.specs.declared.fault.ReadFault.{ReadFault}
use Rattle.code_faults.specs.declared.fault.ReadFault.TheVariants as fault
use Rattle.code_faults.specs.Beginning.{Begun, BegunDigest, BegunRow, Cuts}
use Rattle.code_faults.specs.Reading.{Reads}
use Rattle.code_faults.specs.Refusing.{Denies, HasRoom, IsRight, Refuses, RefusesByte, RefusesRow}
use Rattle.row_reader.specs.RowCodes.{BegunJoin, IsCutRow, IsRow, ReadsRow, RefusesJoin, RefusesRows}
use Rattle.code_faults.specs.Scopes.{scope_of, senses_of}
use Rattle.code_faults.specs.declared.sort.Sense.{Sense as Read}
use Rattle.code_faults.proofs.Begins.{byte-cut, first-cut, next-cut, none-cut, read-cut}
use Rattle.code_faults.proofs.BegunLeaves.{filled, length-filled}
use Rattle.code_faults.proofs.Denying.{byte-denied, byte-next, first-denied, left-less, less-left, next-denied, read-next, refused, tag-next}
use Rattle.code_faults.proofs.Exits.{after-byte, byte-le}
use Rattle.code_faults.proofs.Forms.{no_variables}
use Rattle.code_faults.proofs.Kids.{held-few, no_false, row-refused}

-- the row of a send
abbrev pub sent : List ℕ → Bool → Tree → Tree → Row
sent id q c r = record { id = id; part = two (send q) c r }

pub sent-row : (id : List ℕ) (q : Bool) (c r : Tree) → IsDigest id → Fits term [] c → Fits (row_of term) [] r → height c ≤ 399 → height r ≤ 399 → IsRow (sent id q c r)
sent-row id q c r d f g l m = record { id = d; active = refl; closed = (tt, ((tt, (f, (g, tt))), tt)); low = omega (arith, l, m); channels = (tt, tt) }

-- what stands in a row's code
pub data Parted (id : List ℕ) (t : Tree) : Type 0 where
  a_send : (q : Bool) (c r : Tree) → coded_part id t ≡ 0x01 ∷ (id ++ (code c ++ (byte_of q ∷ code r))) → t ≡ two (send q) c r → IsRight true term [] 399 c → IsRight true (row_of term) [] 399 r → Parted id t
  a_receive : (k : Kind) (r body : Tree) → coded_part id t ≡ 0x02 ∷ (id ++ (kind_number k ∷ (code r ++ code body))) → t ≡ two (receive k) r body → IsRight true (row_of a_bind) [] 399 r → IsRight true term (reverse (bound r) ++ []) 399 body
      → 1 ≤ length (held r) → length (held r) ≤ 16 → IsAscending (each code (each (λ b. at 0 (held b)) (held r))) → Parted id t

row-parts : (id : List ℕ) (t : Tree) → is_active t ≡ true → IsClosed (only t) → height t ≤ 400 → IsAscending (each code (channels t)) → length (coded_part id t) < 2 ^ 32 → Parted id t
row-parts id (node (send q) none) a f l u s = absurd f.1.0.1
row-parts id (node (send q) (also c none)) a f l u s = absurd f.1.0.1.1
row-parts id (node (send q) (also c (also r none))) a f l u s =
    a_send q c r refl refl
    (record { fits = f.1.0.1.0; low = omega (arith, l); short = omega (arith, s, length-append id (code c ++ (byte_of q ∷ code r)), length-append (code c) (byte_of q ∷ code r)); free = λ z. absurd (no_false z) })
    (record { fits = f.1.0.1.1.0; low = omega (arith, l); short = omega (arith, s, length-append id (code c ++ (byte_of q ∷ code r)), length-append (code c) (byte_of q ∷ code r)); free = λ z. absurd (no_false z) })
row-parts id (node (send q) (also c (also r (also x xs)))) a f l u s = absurd f.1.0.1.1.1
row-parts id (node (receive k) none) a f l u s = absurd f.1.0.1
row-parts id (node (receive k) (also r none)) a f l u s = absurd f.1.0.1.1
row-parts id (node (receive k) (also r (also body none))) a f l u s =
    let n : bound_all (also r (also body none)) ≡ bound r = ap (λ vs. bound r ++ (vs ++ [])) (no_variables (reverse (bound_all (also r (also body none))) ++ []) body f.1.0.1.1.0) ∙ append-nil (bound r) in
    a_receive k r body refl refl
    (record { fits = f.1.0.1.0; low = omega (arith, l); short = omega (arith, s, length-append id (kind_number k ∷ (code r ++ code body)), length-append (code r) (code body)); free = λ z. absurd (no_false z) })
    (record { fits = subst (λ vs. Fits term (reverse vs ++ []) body) n f.1.0.1.1.0; low = omega (arith, l); short = omega (arith, s, length-append id (kind_number k ∷ (code r ++ code body)), length-append (code r) (code body)); free = λ z. absurd (no_false z) })
    f.1.0.0.0 f.1.0.0.1 u
row-parts id (node (receive k) (also r (also body (also x xs)))) a f l u s = absurd f.1.0.1.1.1
row-parts id (node _ ts) a f l u s = absurd (cc)

pub parted : (r : Row) → IsRow r → length (row_code r) < 2 ^ 32 → Parted r.id r.part
parted r h s = row-parts r.id r.part h.active h.closed h.low h.channels s

-- the first byte of the code of a receive is another one
other-byte : {A : Type 0} → ◌≡◌ {A = ℕ} 1 2 → A
other-byte e = absurd (cc)

byte-other : {A : Type 0} → ◌≡◌ {A = ℕ} 2 1 → A
byte-other e = absurd (cc)

-- where each send's code after its first byte is denied, rows are refused
pub sends-refused : {e : ReadFault} {bs : List ℕ}
    → ((id : List ℕ) (q : Bool) (c r : Tree) → length id ≡ 32 → HasRoom [] bs → IsRight true term [] 399 c → IsRight true (row_of term) [] 399 r → Denies e bs (id ++ (code c ++ (byte_of q ∷ code r)))) → RefusesRows e (0x01 ∷ bs)
sends-refused {e = e} {bs = bs} f = record { no = λ l r h s. on l r h.id.0 (parted r h s) }
  where
    on : length (0x01 ∷ bs) < 2 ^ 32 → (r : Row) → length r.id ≡ 32 → Parted r.id r.part → Denies e (0x01 ∷ bs) (row_code r)
    on l r d (a_send q c a is _ g k) = subst (λ (z : List ℕ). Denies e (0x01 ∷ bs) z) (sym is) (tag-next 0x01 _ (f r.id q c a d (record { few = omega arith }) g k))
    on l r d (a_receive k b body is _ g h some few u) = subst (λ (z : List ℕ). Denies e (0x01 ∷ bs) z) (sym is) (byte-denied 0x02 _ refl (λ p. other-byte p))

-- the same of receives
pub receives-refused : {e : ReadFault} {bs : List ℕ}
    → ((id : List ℕ) (k : Kind) (r body : Tree) → length id ≡ 32 → HasRoom [] bs → IsRight true (row_of a_bind) [] 399 r → IsRight true term (reverse (bound r) ++ []) 399 body
    → 1 ≤ length (held r) → length (held r) ≤ 16 → IsAscending (each code (each (λ b. at 0 (held b)) (held r))) → Denies e bs (id ++ (kind_number k ∷ (code r ++ code body)))) → RefusesRows e (0x02 ∷ bs)
receives-refused {e = e} {bs = bs} f = record { no = λ l r h s. on l r h.id.0 (parted r h s) }
  where
    on : length (0x02 ∷ bs) < 2 ^ 32 → (r : Row) → length r.id ≡ 32 → Parted r.id r.part → Denies e (0x02 ∷ bs) (row_code r)
    on l r d (a_send q c a is _ g k) = subst (λ (z : List ℕ). Denies e (0x02 ∷ bs) z) (sym is) (byte-denied 0x01 _ refl (λ p. byte-other p))
    on l r d (a_receive k b body is _ g h some few u) = subst (λ (z : List ℕ). Denies e (0x02 ∷ bs) z) (sym is) (tag-next 0x02 _ (f r.id k b body d (record { few = omega arith }) g h some few u))

-- another first byte
pub tag-refused : {e : ReadFault} {bs next : List ℕ} (n : ℕ) → bs ≡ n ∷ next → (n ≡ 1 → ⊥) → (n ≡ 2 → ⊥) → RefusesRows e bs
tag-refused {e = e} {bs = bs} n is a b = record { no = λ l r h s. on r (parted r h s) }
  where
    on : (r : Row) → Parted r.id r.part → Denies e bs (row_code r)
    on r (a_send q c k p _ g h) = subst (λ (z : List ℕ). Denies e bs z) (sym p) (byte-denied 0x01 _ is a)
    on r (a_receive k c body p _ g h some few u) = subst (λ (z : List ℕ). Denies e bs z) (sym p) (byte-denied 0x02 _ is b)

-- no byte is there
pub none-refused : {e : ReadFault} {bs : List ℕ} → ((c : List ℕ) → 0 < length c → Denies e bs c) → RefusesRows e bs
none-refused {e = e} {bs = bs} f = record { no = λ l r h s. on r (parted r h s) }
  where
    on : (r : Row) → Parted r.id r.part → Denies e bs (row_code r)
    on r (a_send q c k p _ g h) = f (row_code r) (subst (λ (z : List ℕ). 0 < length z) (sym p) (omega arith))
    on r (a_receive k c body p _ g h some few u) = f (row_code r) (subst (λ (z : List ℕ). 0 < length z) (sym p) (omega arith))

pub memory-rows : {bs : List ℕ} → RefusesRows fault.NoMemory bs
memory-rows = record { no = λ l r h s. record { no = λ x y m w. absurd m } }

module _ {e : ReadFault} {bs : List ℕ} where
  pub id-refused : ((x : List ℕ) → length x ≡ 32 → Denies e bs x) → RefusesRows e (0x01 ∷ bs)
  id-refused h = sends-refused (λ id q c r d l g k. first-denied _ (h id d))

  pub channel-refused : {next : List ℕ} (own : List ℕ) → length own ≡ 32 → bs ≡ own ++ next → Refuses true term [] 399 e next → RefusesRows e (0x01 ∷ bs)
  channel-refused own d is h = sends-refused (λ id q c r f l g k. next-denied _ is (Splits-length own id (d ∙ sym f)) (λ y. refused c _ h (less-left own is l) g))

  pub flag-refused : {next left : List ℕ} {u : Tree} (own : List ℕ) → length own ≡ 32 → bs ≡ own ++ next → Reads term [] 399 u next left → RefusesByte 1 e left → RefusesRows e (0x01 ∷ bs)
  flag-refused own d is a h = sends-refused (λ id q c r f l g k. next-denied _ is (Splits-length own id (d ∙ sym f)) (λ y.
      read-next c _ a (less-left own is l) g (λ z. first-denied (code r) (h (byte_of q) (byte-le q)))))

  pub args-refused : {next left last : List ℕ} {u : Tree} {n : ℕ} (own : List ℕ) → length own ≡ 32 → bs ≡ own ++ next → Reads term [] 399 u next left → left ≡ n ∷ last
      → RefusesRow true term [] 399 0 0xFFFFFFFF e last → RefusesRows e (0x01 ∷ bs)
  args-refused {last = last} own d is a p h = sends-refused (λ id q c r f l g k. next-denied _ is (Splits-length own id (d ∙ sym f)) (λ y.
      let m = left-less a (less-left own is l) in
      read-next c _ a (less-left own is l) g (λ z. byte-next _ _ p (λ w.
      subst (λ (x : List ℕ). Denies e last x) (append-nil (code r)) (row-refused r [] h (after-byte p m) k (omega arith) (held-few r k))))))

-- bytes that are cut in the code of a row
pub cut-row : {bs : List ℕ} (r : Row) → IsRow r → Cuts bs (row_code r) [] → IsCutRow bs
cut-row r f c = record { row = r; fits = f; more = c.more; is = ap (λ (z : List ℕ). z ++ c.more) (sym c.is ∙ append-nil c.before) ∙ c.goes; some = c.some }

no-term : Fits term [] (node par none)
no-term = (tt, tt)

no-row : Fits (row_of term) [] (node row none)
no-row = (tt, tt)

module _ {bs : List ℕ} where
  pub id-cut : BegunDigest bs [] → IsCutRow (0x01 ∷ bs)
  id-cut g = cut-row (sent g.digest false (node par none) (node row none)) (sent-row g.digest false (node par none) (node row none) g.form no-term no-row (omega arith) (omega arith))
      (byte-cut 0x01 refl (first-cut _ g.cut))

  pub channel-cut : {next : List ℕ} (own : List ℕ) → IsDigest own → bs ≡ own ++ next → Begun true term [] 399 next [] → IsCutRow (0x01 ∷ bs)
  channel-cut own d is g = cut-row (sent own false g.tree (node row none)) (sent-row own false g.tree (node row none) d g.fits no-row g.low (omega arith))
      (byte-cut 0x01 refl (next-cut own is (first-cut _ g.cut)))

  pub flag-cut : {next left : List ℕ} {u : Tree} (own : List ℕ) → IsDigest own → bs ≡ own ++ next → Reads term [] 399 u next left → left ≡ [] → IsCutRow (0x01 ∷ bs)
  flag-cut {u = u} own d is a z = cut-row (sent own false u (node row none)) (sent-row own false u (node row none) d a.fits no-row a.low (omega arith))
      (subst (λ (w : List ℕ). Cuts (0x01 ∷ bs) (row_code (sent own false u (node row none))) w) z (byte-cut 0x01 refl (next-cut own is (read-cut a (none-cut _ (omega arith))))))

  pub args-cut : {next left last : List ℕ} {u : Tree} {most : ℕ} (own : List ℕ) (q : Bool) → IsDigest own → bs ≡ own ++ next → Reads term [] 399 u next left → left ≡ byte_of q ∷ last
      → BegunRow true term [] 399 0 most last [] → IsCutRow (0x01 ∷ bs)
  args-cut {u = u} own q d is a p g = cut-row (sent own q u (node row g.trees)) (sent-row own q u (node row g.trees) d a.fits (tt, g.fits) a.low (omega (arith, g.low)))
      (byte-cut 0x01 refl (next-cut own is (read-cut a (byte-cut (byte_of q) p g.cut))))

-- a send that was read
pub send-read : {bs next left last end : List ℕ} {c r : Tree} (own : List ℕ) (q : Bool) → IsDigest own → bs ≡ own ++ next → Reads term [] 399 c next left → left ≡ byte_of q ∷ last
    → Reads (row_of term) [] 399 r last end → ReadsRow (sent own q c r) (0x01 ∷ bs) end
send-read {bs = bs} {next = next} {left = left} {last = last} {end = end} {c = c} {r = r} own q d is a p b = record {
  is = ap (λ (z : List ℕ). 0x01 ∷ z) (is ∙ ap (λ (z : List ℕ). own ++ z) (a.is ∙ ap (λ (z : List ℕ). code c ++ z) (p ∙ ap (λ (z : List ℕ). byte_of q ∷ z) b.is)
      ∙ sym (append_assoc (code c) (byte_of q ∷ code r) end)) ∙ sym (append_assoc own (code c ++ (byte_of q ∷ code r)) end));
  fits = sent-row own q c r d a.fits b.fits a.low b.low;
}

-- nothing is there of a row
pub none-there : {bs : List ℕ} → bs ≡ [] → IsCutRow bs
none-there {bs = bs} e = cut-row (sent zeros false (node par none) (node row none)) (sent-row zeros false (node par none) (node row none) (length-filled [] 32 (omega arith), filled [] 32 (λ i d l. absurd (omega arith))) no-term no-row (omega arith) (omega arith))
    (subst (λ (w : List ℕ). Cuts bs (row_code (sent zeros false (node par none) (node row none))) w) e (none-cut _ (omega arith)))
  where
    zeros : List ℕ
    zeros = replicate 32 0

pub row-unscoped : {b : Bool} {s : Sort} {room least most : ℕ} {e : ReadFault} {bs : List ℕ} {xs : List Read} → xs ≡ [] → RefusesRow b s (scope_of xs) room least most e bs → RefusesRow b s [] room least most e bs
row-unscoped {b = b} {s = s} {room = room} {least = least} {most = most} {e = e} {bs = bs} p h = subst (λ (ys : List Read). RefusesRow b s (scope_of ys) room least most e bs) p h

pub begun-row_unscoped : {b : Bool} {s : Sort} {room least most : ℕ} {bs after : List ℕ} {xs : List Read} → xs ≡ [] → BegunRow b s (scope_of xs) room least most bs after → BegunRow b s [] room least most bs after
begun-row_unscoped {b = b} {s = s} {room = room} {least = least} {most = most} {bs = bs} {after = after} p h = subst (λ (ys : List Read). BegunRow b s (scope_of ys) room least most bs after) p h

pub join-unscoped : {room : ℕ} {e : ReadFault} {bs : List ℕ} {xs : List Read} → xs ≡ [] → RefusesJoin (scope_of xs) room e bs → RefusesJoin [] room e bs
join-unscoped {room = room} {e = e} {bs = bs} p h = subst (λ (ys : List Read). RefusesJoin (scope_of ys) room e bs) p h

pub begun-join_unscoped : {room : ℕ} {bs : List ℕ} {xs : List Read} → xs ≡ [] → BegunJoin (scope_of xs) room bs → BegunJoin [] room bs
begun-join_unscoped {room = room} {bs = bs} p h = subst (λ (ys : List Read). BegunJoin (scope_of ys) room bs) p h

-- the scope of what a join binds
pub join-scope : (xs ys : List Read) (vs : List Sense) → xs ≡ [] → senses_of ys ≡ senses_of xs ++ vs → scope_of ys ≡ reverse vs ++ []
join-scope xs ys vs p e = ap (λ zs. reverse zs) (e ∙ ap (λ (zs : List Read). senses_of zs ++ vs) p) ∙ sym (append-nil (reverse vs))

-- what stands behind a byte that is known
pub at-byte : {e : ReadFault} {bs next : List ℕ} (tag k : ℕ) → bs ≡ tag ∷ next → tag ≡ k → RefusesRows e (k ∷ next) → RefusesRows e bs
at-byte {e = e} {next = next} tag k p q h = subst (λ (z : List ℕ). RefusesRows e z) (sym (p ∙ ap (λ (n : ℕ). n ∷ next) q)) h

pub cut-at : {bs next : List ℕ} (tag k : ℕ) → bs ≡ tag ∷ next → tag ≡ k → IsCutRow (k ∷ next) → IsCutRow bs
cut-at {next = next} tag k p q h = subst IsCutRow (sym (p ∙ ap (λ (n : ℕ). n ∷ next) q)) h

pub read-at : {r : Row} {bs next left : List ℕ} (tag k : ℕ) → bs ≡ tag ∷ next → tag ≡ k → ReadsRow r (k ∷ next) left → ReadsRow r bs left
read-at {r = r} {next = next} {left = left} tag k p q h = subst (λ (z : List ℕ). ReadsRow r z left) (sym (p ∙ ap (λ (n : ℕ). n ∷ next) q)) h
