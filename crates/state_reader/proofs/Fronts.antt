-- The row at the front of bytes.
use Rattle.std.proofs.Common.{◌≡◌, ℕ, zero, suc, ◌<◌, ◌≤◌, ◌+◌, ◌-◌, ◌^◌, true, false, List, [], ◌∷◌, ◌++◌, length, map as each, take, get_or, refl, ap, sym, ◌∙◌, subst, arith, append_assoc, append-nil, length-append}
use Rattle.calculus.specs.Code.{code}
use Rattle.calculus.specs.CodeLaws.{IsShort}
use Rattle.calculus.specs.Form.{IsClosed}
use Rattle.calculus.specs.Order.{up_to}
use Rattle.calculus.specs.Rows.{Row, channels, row_code}
use Rattle.calculus.specs.Shape.{at, held, listed}
use Rattle.calculus.specs.Storing.{AreRising, IsStorable}
use Rattle.calculus.specs.Tree.{Tree, trees}
use Rattle.rho_term.specs.Parts.{bind_tree}
use Rattle.rho_term.specs.declared.term.TermBind.{TermBind}
use Rattle.process_laws.proofs.Channels.{IsClosedShort, channels-closed, part-length}
use Rattle.process_laws.proofs.StorableStaying.{all-from}
use Rattle.row_reader.specs.RowCodes.{IsCutRow, IsRow}
use Rattle.state_reader.specs.Files.{HasNoRow}
use Rattle.state_reader.specs.Fronts.{AreTargets}
use Rattle.state_reader.specs.Reading.{IsCutThere}
use Rattle.state_reader.proofs.SameRows.{row-length, rows-part, storable-row, storable-same, storable-short}

-- no row stands at the front of bytes that are no prefix of one
pub no-front : (bs : List ℕ) → ((r : Row) (x y : List ℕ) → IsRow r → length (row_code r) < 2 ^ 32 → bs ++ x ≡ row_code r ++ y → ⊥) → HasNoRow bs
no-front bs f = record {
  whole = λ r h s x y e. absurd (f r x y h s e);
  none = λ r y h e. f r [] y (storable-row r h) (storable-short r h) (append-nil bs ∙ e);
}

-- nor does one where another stands that may not be stored
pub other-front : (bs left : List ℕ) (q : Row) → length bs < 2 ^ 32 → bs ≡ row_code q ++ left → IsRow q → (IsStorable q → ⊥) → HasNoRow bs
other-front bs left q few e k f =
    let t : length (row_code q) ≤ length bs = omega (arith, ap length e, length-append (row_code q) left) in
    record {
      whole = λ r h s x y p.
          let c = (rows-part q r (left ++ x) y k h (omega (arith, t, few)) s (sym (append_assoc (row_code q) left x) ∙ ap (λ (z : List ℕ). z ++ x) (sym e) ∙ p)).0 in
          omega (arith, t, ap length c);
      none = λ r y h p.
          let c = (rows-part r q y left (storable-row r h) k (storable-short r h) (omega (arith, t, few)) (sym p ∙ e)).0 in
          f (storable-same r q h k (omega (arith, t, few)) c);
    }

-- the channels of the binds of an operation
pub bind-channels : (bs : List TermBind) → each (λ b. at 0 (held b)) (listed (trees (each bind_tree bs))) ≡ each (λ (b : TermBind). b.channel) bs
bind-channels [] = refl
bind-channels (b ∷ bs) = ap (λ cs. b.channel ∷ cs) (bind-channels bs)

pub bind-codes : (bs : List TermBind) → each code (each (λ b. at 0 (held b)) (listed (trees (each bind_tree bs)))) ≡ each (λ (b : TermBind). code b.channel) bs
bind-codes [] = refl
bind-codes (b ∷ bs) = ap (λ cs. code b.channel ∷ cs) (bind-codes bs)

-- the channels of a row whose code is within the limit
pub row-targets : (r : Row) (cs : List Tree) → IsRow r → length (row_code r) ≤ 1048576 → channels r.part ≡ cs → AreTargets cs
row-targets r cs h l e =
    let short : IsShort r.part = omega (arith, l, row-length r h.id.0 h.active, part-length r h.active h.closed.1.0) in
    subst AreTargets e (all-from IsClosedShort (channels r.part) (channels-closed r.part h.closed.1.0 short))

-- a row that may be stored
pub storable-of : (r : Row) (cs : List (List ℕ)) → IsRow r → length (row_code r) ≤ 1048576 → each code (channels r.part) ≡ cs → AreRising cs → IsStorable r
storable-of r cs h l e u = record {
  id = h.id;
  active = h.active;
  closed = h.closed;
  low = h.low;
  short = omega (arith, l, row-length r h.id.0 h.active);
  rising = subst AreRising (sym e) u;
}

pub storable-length : (r : Row) → IsRow r → IsStorable r → length (row_code r) ≤ 1048576
storable-length r k h = omega (arith, h.short, row-length r k.id.0 k.active)

-- the first of these rise, and one more
pub rising-more : (xs : List (List ℕ)) (i : ℕ) (d : List ℕ) → AreRising (take (suc i) xs) → suc i < length xs → up_to (get_or xs (suc i) d) (get_or xs i d) ≡ false → AreRising (take (suc (suc i)) xs)
rising-more [] i d h l u = absurd (omega arith)
rising-more (x ∷ []) i d h l u = absurd (omega arith)
rising-more (x ∷ y ∷ ys) zero d h l u = (u, (tt, tt))
rising-more (x ∷ y ∷ ys) (suc i) d h l u = (h.0, rising-more (y ∷ ys) i d h.1 (omega arith) u)

pub rising-one : (xs : List (List ℕ)) → AreRising (take 1 xs)
rising-one [] = tt
rising-one (x ∷ xs) = (tt, tt)

pub rising-at : (xs : List (List ℕ)) (i : ℕ) (d : List ℕ) → AreRising xs → suc i < length xs → up_to (get_or xs (suc i) d) (get_or xs i d) ≡ false
rising-at [] i d h l = absurd (omega arith)
rising-at (x ∷ []) i d h l = absurd (omega arith)
rising-at (x ∷ y ∷ ys) zero d h l = h.0
rising-at (x ∷ y ∷ ys) (suc i) d h l = rising-at (y ∷ ys) i d h.1 (omega arith)

-- bytes that are cut in a row, and have no whole one
pub cut-there : (bs : List ℕ) → IsCutRow bs → (length bs < 2 ^ 32 → (r : Row) (y : List ℕ) → IsRow r → length (row_code r) < 2 ^ 32 → bs ≡ row_code r ++ y → ⊥) → IsCutThere bs
cut-there bs h f = record { cut = h; none = λ few r y k e. f few r y (storable-row r k) (storable-short r k) e }

pub target-at : (bs : List TermBind) (k : ℕ) (x : TermBind) → AreTargets (each (λ b. b.channel) bs) → k < length bs → x ≡ get_or bs k x → IsClosed x.channel × IsShort x.channel
target-at [] k x h l e = absurd (omega arith)
target-at (b ∷ bs) zero x h l e = subst (λ (z : TermBind). IsClosed z.channel × IsShort z.channel) (sym e) (h zero b.channel (omega arith))
target-at (b ∷ bs) (suc k) x h l e = target-at bs k x (λ i d m. h (suc i) d (omega arith)) (omega arith) e

code-at : (bs : List TermBind) (k : ℕ) (x : TermBind) → k < length bs → x ≡ get_or bs k x → get_or (each (λ (b : TermBind). code b.channel) bs) k [] ≡ code x.channel
code-at [] k x l e = absurd (omega arith)
code-at (b ∷ bs) zero x l e = ap (λ (z : TermBind). code z.channel) (sym e)
code-at (b ∷ bs) (suc k) x l e = code-at bs k x (omega arith) e

codes-length : (bs : List TermBind) → length (each (λ (b : TermBind). code b.channel) bs) ≡ length bs
codes-length [] = refl
codes-length (b ∷ bs) = omega (arith, codes-length bs)

true-false : true ≡ false → ⊥
true-false e = cc

module _ (bs : List TermBind) (i : ℕ) (x y : TermBind) (f : 1 ≤ i) (l : i < length bs) (e : x ≡ get_or bs (i - 1) x) (g : y ≡ get_or bs i y) where
  both : up_to (get_or (each (λ (b : TermBind). code b.channel) bs) (suc (i - 1)) []) (get_or (each (λ (b : TermBind). code b.channel) bs) (i - 1) []) ≡ up_to (code y.channel) (code x.channel)
  both =
      let s : suc (i - 1) ≡ i = omega (arith, f) in
      ap (λ n. up_to (get_or (each (λ (b : TermBind). code b.channel) bs) n []) (get_or (each (λ (b : TermBind). code b.channel) bs) (i - 1) [])) s
      ∙ ap (λ (z : List ℕ). up_to z (get_or (each (λ (b : TermBind). code b.channel) bs) (i - 1) [])) (code-at bs i y l g) ∙ ap (λ (z : List ℕ). up_to (code y.channel) z) (code-at bs (i - 1) x (omega (arith, l)) e)

  -- a channel that does not rise
  pub fall : up_to (code y.channel) (code x.channel) ≡ true → AreRising (each (λ (b : TermBind). code b.channel) bs) → ⊥
  fall u h = true-false (sym u ∙ sym both ∙ rising-at (each (λ (b : TermBind). code b.channel) bs) (i - 1) [] h (omega (arith, codes-length bs, f, l)))

  -- one that does
  pub rise : up_to (code y.channel) (code x.channel) ≡ false → AreRising (take i (each (λ (b : TermBind). code b.channel) bs)) → AreRising (take (i + 1) (each (λ (b : TermBind). code b.channel) bs))
  rise u h =
      let s : suc (i - 1) ≡ i = omega (arith, f) in
      let t : suc (suc (i - 1)) ≡ i + 1 = omega (arith, f) in
      subst (λ n. AreRising (take n (each (λ (b : TermBind). code b.channel) bs))) t
      (rising-more (each (λ (b : TermBind). code b.channel) bs) (i - 1) [] (subst (λ n. AreRising (take n (each (λ (b : TermBind). code b.channel) bs))) (sym s) h) (omega (arith, codes-length bs, f, l)) (both ∙ u))
