-- Rows of receives: their codes, and bytes that are none.
use Rattle.std.proofs.Common.{◌≡◌, ℕ, ◌≤◌, List, [], ◌∷◌, ◌++◌, length, refl, ap, sym, ◌∙◌, subst, arith, append_assoc, append-nil, reverse}
use Rattle.std.specs.Prelude.{true, map as each}
use Rattle.calculus.specs.declared.plain.Kind.{Kind}
use Rattle.calculus.specs.declared.plain.Kind.TheVariants as kinds
use Rattle.calculus.specs.declared.plain.TermRest.TheVariants as rests
use Rattle.calculus.specs.Code.{code}
use Rattle.calculus.specs.Form.{term, a_bind, row_of, Fits, IsDigest, Scope}
use Rattle.calculus.specs.Kinds.{kind_number}
use Rattle.calculus.specs.Order.{IsAscending}
use Rattle.calculus.specs.Rows.{Row, row_code}
use Rattle.calculus.specs.Shape.{at, held, leaf, many, three, two}
use Rattle.calculus.specs.Size.{height}
use Rattle.calculus.specs.Tree.{par, row, bind, rest, receive, Tree, node, none, also, trees}
use Rattle.calculus.specs.Variables.{bound, bound_all}
use Rattle.calculus.proofs.Prefixes.{Splits-length}
use Rattle.code_faults.specs.declared.fault.ReadFault.{ReadFault}
use Rattle.code_faults.specs.Beginning.{Begun, BegunDigest, Cuts}
use Rattle.code_faults.specs.Reading.{Reads}
use Rattle.code_faults.specs.Refusing.{Denies, HasRoom, IsRight, Refuses, RefusesByte}
use Rattle.row_reader.specs.RowCodes.{BegunJoin, channel_codes, IsCutRow, IsRow, ReadsRow, RefusesJoin, RefusesRows}
use Rattle.code_faults.proofs.Begins.{byte-cut, first-cut, next-cut, none-cut, read-cut}
use Rattle.code_faults.proofs.BegunForms.{count-held}
use Rattle.code_faults.proofs.CaseRefusals.{bound-room, same-scope}
use Rattle.code_faults.proofs.Denying.{byte-next, first-denied, less-left, next-denied, read-next, refused}
use Rattle.code_faults.proofs.Exits.{after-byte, kind-le}
use Rattle.code_faults.proofs.Forms.{listed-trees, no_variables}
use Rattle.code_faults.proofs.Kids.{count-listed, row-are}
use Rattle.row_reader.proofs.SentRows.{cut-row, receives-refused}

-- the row of a receive
abbrev pub received : List ℕ → Kind → Tree → Tree → Row
received id k r body = record { id = id; part = two (receive k) r body }

pub received-row : (id : List ℕ) (k : Kind) (r body : Tree) {w : Scope} → IsDigest id → Fits (row_of a_bind) [] r → height r ≤ 399 → 1 ≤ length (held r) → length (held r) ≤ 16
    → IsAscending (each code (each (λ b. at 0 (held b)) (held r))) → w ≡ reverse (bound r) ++ [] → Fits term w body → height body ≤ 399 → IsRow (received id k r body)
received-row id k r body {w = w} d f l some few u p g m =
    let n : bound_all (also r (also body none)) ≡ bound r = ap (λ vs. bound r ++ (vs ++ [])) (no_variables w body g) ∙ append-nil (bound r) in
    let inner : w ≡ reverse (bound_all (also r (also body none))) ++ [] = p ∙ ap (λ vs. reverse vs ++ []) (sym n) in
    record {
      id = d;
      active = refl;
      closed = (tt, (((some, few), (f, (subst (λ (x : Scope). Fits term x body) inner g, tt))), tt));
      low = omega (arith, l, m);
      channels = u;
    }

-- a row of binds is refused as a join is
join-row_refused : {e : ReadFault} {bs : List ℕ} (r : Tree) (d : List ℕ) → RefusesJoin [] 399 e bs → HasRoom [] bs → IsRight true (row_of a_bind) [] 399 r → 1 ≤ length (held r) → length (held r) ≤ 16
    → IsAscending (each code (each (λ b. at 0 (held b)) (held r))) → Denies e bs (code r ++ d)
join-row_refused (node row ts) d h l g p q u = first-denied d (h.no l ts (row-are ts g) (omega (arith, count-listed ts)) (omega (arith, count-listed ts)) u)
join-row_refused (node _ ts) d h l g p q u = absurd g.fits.1

module _ {e : ReadFault} {bs : List ℕ} where
  pub id-refused : ((x : List ℕ) → length x ≡ 32 → Denies e bs x) → RefusesRows e (0x02 ∷ bs)
  id-refused h = receives-refused (λ id k r body d l g f some few u. first-denied _ (h id d))

  pub kind-refused : {next : List ℕ} (own : List ℕ) → length own ≡ 32 → bs ≡ own ++ next → RefusesByte 2 e next → RefusesRows e (0x02 ∷ bs)
  kind-refused own d is h = receives-refused (λ id k r body f l g b some few u. next-denied _ is (Splits-length own id (d ∙ sym f)) (λ y. first-denied _ (h (kind_number k) (kind-le k))))

  pub binds-refused : {next last : List ℕ} {n : ℕ} (own : List ℕ) → length own ≡ 32 → bs ≡ own ++ next → next ≡ n ∷ last → RefusesJoin [] 399 e last → RefusesRows e (0x02 ∷ bs)
  binds-refused own d is p h = receives-refused (λ id k r body f l g b some few u. next-denied _ is (Splits-length own id (d ∙ sym f)) (λ y.
      byte-next _ _ p (λ z. join-row_refused r (code body) h (after-byte p (less-left own is l)) g some few u)))

  pub body-refused : {next last left : List ℕ} {n : ℕ} {w : Scope} {t : Tree} (own : List ℕ) → length own ≡ 32 → bs ≡ own ++ next → next ≡ n ∷ last → Reads (row_of a_bind) [] 399 t last left
      → w ≡ reverse (bound t) ++ [] → Refuses true term w 399 e left → RefusesRows e (0x02 ∷ bs)
  body-refused {left = left} own d is p a w h = receives-refused (λ id k r body f l g b some few u. next-denied _ is (Splits-length own id (d ∙ sym f)) (λ y.
      let m = after-byte p (less-left own is l) in
      byte-next _ _ p (λ z. read-next r _ a m g (λ q.
      let o = same-scope r a m g q w in
      subst (λ (x : List ℕ). Denies e left x) (append-nil (code body))
      (refused body [] (subst (λ (x : Scope). Refuses true term x 399 e left) o h) (subst (λ (x : Scope). HasRoom x left) o (bound-room a m w)) b)))))

no-body : Fits term [] (node par none)
no-body = (tt, tt)

-- a bind on the empty process without patterns
abbrev plain-bind : Tree
plain-bind = three bind (node par none) (node row none) (leaf (rest rests.No))

abbrev plain-binds : Tree
plain-binds = node row (also plain-bind none)

-- a receive of this one bind and no body
id-row : (id : List ℕ) (k : Kind) → IsDigest id → IsRow (received id k plain-binds (node par none))
id-row id k d = received-row id k plain-binds (node par none) {w = []} d (tt, ((tt, ((tt, tt), ((tt, tt), ((tt, tt), tt)))), tt)) (omega arith) (omega arith) (omega arith) (tt, tt) refl no-body (omega arith)

module _ {bs : List ℕ} where
  pub id-cut : BegunDigest bs [] → IsCutRow (0x02 ∷ bs)
  id-cut g = cut-row _ (id-row g.digest kinds.Linear g.form) (byte-cut 0x02 refl (first-cut _ g.cut))

  pub kind-cut : {next : List ℕ} (own : List ℕ) → IsDigest own → bs ≡ own ++ next → next ≡ [] → IsCutRow (0x02 ∷ bs)
  kind-cut own d is z = cut-row _ (id-row own kinds.Linear d)
      (subst (λ (w : List ℕ). Cuts (0x02 ∷ bs) (row_code (received own kinds.Linear plain-binds (node par none))) w) z (byte-cut 0x02 refl (next-cut own is (none-cut _ (omega arith)))))

  pub binds-cut : {next last : List ℕ} (own : List ℕ) (k : Kind) → IsDigest own → bs ≡ own ++ next → next ≡ kind_number k ∷ last → BegunJoin [] 399 last → IsCutRow (0x02 ∷ bs)
  binds-cut own k d is p g = cut-row (received own k (node row g.trees) (node par none))
      (received-row own k (node row g.trees) (node par none) {w = reverse (bound (node row g.trees)) ++ []} d (tt, g.fits) (omega (arith, g.low)) (omega (arith, count-held g.trees, g.enough)) (omega (arith, count-held g.trees, g.few)) g.up refl (tt, tt) (omega arith))
      (byte-cut 0x02 refl (next-cut own is (byte-cut (kind_number k) p (first-cut _ g.cut))))

  pub body-cut : {next last left : List ℕ} {w : Scope} (own : List ℕ) (k : Kind) (ts : List Tree) → IsDigest own → bs ≡ own ++ next → next ≡ kind_number k ∷ last → Reads (row_of a_bind) [] 399 (many row ts) last left
      → 1 ≤ length ts → length ts ≤ 16 → IsAscending (channel_codes (trees ts)) → w ≡ reverse (bound (many row ts)) ++ [] → Begun true term w 399 left [] → IsCutRow (0x02 ∷ bs)
  body-cut own k ts d is p a some few u w g = cut-row (received own k (many row ts) g.tree)
      (received-row own k (many row ts) g.tree d a.fits a.low (rw (listed-trees ts) some) (rw (listed-trees ts) few) u w g.fits g.low)
      (byte-cut 0x02 refl (next-cut own is (byte-cut (kind_number k) p (read-cut a g.cut))))

-- a receive that was read
pub receive-read : {bs next last left end : List ℕ} {w : Scope} {body : Tree} (own : List ℕ) (k : Kind) (ts : List Tree) → IsDigest own → bs ≡ own ++ next → next ≡ kind_number k ∷ last
    → Reads (row_of a_bind) [] 399 (many row ts) last left → 1 ≤ length ts → length ts ≤ 16 → IsAscending (channel_codes (trees ts)) → w ≡ reverse (bound (many row ts)) ++ [] → Reads term w 399 body left end
    → ReadsRow (received own k (many row ts) body) (0x02 ∷ bs) end
receive-read {end = end} {body = body} own k ts d is p a some few u w b = record {
  is = ap (λ (z : List ℕ). 0x02 ∷ z) (is ∙ ap (λ (z : List ℕ). own ++ z) (p ∙ ap (λ (z : List ℕ). kind_number k ∷ z) (a.is ∙ ap (λ (z : List ℕ). code (many row ts) ++ z) b.is
      ∙ sym (append_assoc (code (many row ts)) (code body) end))) ∙ sym (append_assoc own (kind_number k ∷ (code (many row ts) ++ code body)) end));
  fits = received-row own k (many row ts) body d a.fits a.low (rw (listed-trees ts) some) (rw (listed-trees ts) few) u w b.fits b.low;
}
