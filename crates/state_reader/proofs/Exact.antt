-- Rows at the front of bytes stop at one place.
use Rattle.std.proofs.Common.{◌≡◌, ℕ, zero, suc, ◌<◌, ◌≤◌, ◌+◌, ◌^◌, List, [], ◌∷◌, ◌++◌, length, map as each, refl, ap, sym, ◌∙◌, subst, arith, append_assoc, append-nil, length-append}
use Rattle.std.specs.Prelude.{All}
use Rattle.std.proofs.lemmas.List.Elements.{All-push}
use Rattle.sha2.proofs.Facts256.{length-sha256}
use Rattle.calculus.specs.Bytes.{be64, joined}
use Rattle.calculus.specs.Root.{Group, groups, digest_in, root}
use Rattle.calculus.specs.Rows.{Row, row_code}
use Rattle.calculus.specs.Storing.{IsStorable}
use Rattle.calculus.proofs.Prefixes.{cut, Splits-length}
use Rattle.calculus.proofs.Tails.{length-be64, number-be64, number}
use Rattle.events.specs.States.{state_text}
use Rattle.calculus.proofs.ListCodes.{length-map}
use Rattle.state_reader.specs.Files.{Begins, heading, IsNoNextRow, no_row, misplaced, IsNoFront}
use Rattle.checkpoint.specs.Kept.{AreInOrder}
use Rattle.checkpoint.proofs.Ordering.{text-of-order}
use Rattle.state_reader.proofs.SameRows.{row-length}
use Rattle.state_reader.proofs.Same.{all-behind, all-head, Compared, compared, longer, shorter, equal, Next, order-front, order-moved, stored-part}

digest-length : (n : ℕ) (gs : List Group) → length (digest_in n gs) ≡ 32
digest-length n [] = refl
digest-length n (g ∷ []) = length-sha256 _
digest-length zero (g ∷ h ∷ gs) = refl
digest-length (suc n) (g ∷ h ∷ gs) = length-sha256 _

pub root-length : (rows : List Row) → length (root rows) ≡ 32
unfolding root
root-length rows = digest-length 64 (groups rows)

-- the text of rows in the order of a state, part by part
pub text-parts : (rows : List Row) → AreInOrder rows → state_text rows ≡ heading ++ (root rows ++ (be64 (length rows) ++ joined (each row_code rows)))
text-parts rows h = sym (text-of-order rows h) ∙ ap (λ (n : ℕ). heading ++ (root rows ++ (be64 n ++ joined (each row_code rows)))) (length-map row_code rows)

-- bytes have one root, one number and one rest
pub header-parts : (a b x y : List ℕ) (m n : ℕ) → length a ≡ 32 → length b ≡ 32 → m < 2 ^ 64 → n < 2 ^ 64 → heading ++ (a ++ (be64 m ++ x)) ≡ heading ++ (b ++ (be64 n ++ y)) → (a ≡ b) × (m ≡ n) × (x ≡ y)
header-parts a b x y m n k l s t e =
    let p = cut heading heading (a ++ (be64 m ++ x)) (b ++ (be64 n ++ y)) (Splits-length heading heading refl) e in
    let q = cut a b (be64 m ++ x) (be64 n ++ y) (Splits-length a b (k ∙ sym l)) p.1 in
    let r = cut (be64 m) (be64 n) x y (Splits-length (be64 m) (be64 n) (length-be64 m ∙ sym (length-be64 n))) q.1 in
    (q.0, sym (number-be64 m s) ∙ ap (number 0) r.0 ∙ number-be64 n t, r.1)

text-length : (rows : List Row) → AreInOrder rows → length (state_text rows) ≡ 49 + length (joined (each row_code rows))
text-length rows h = ap length (text-parts rows h) ∙ omega (arith, length-append heading (root rows ++ (be64 (length rows) ++ joined (each row_code rows))), length-append (root rows) (be64 (length rows) ++ joined (each row_code rows)), length-append (be64 (length rows)) (joined (each row_code rows)), root-length rows, length-be64 (length rows), nine)
  where
    nine : length heading ≡ 9
    nine = refl

-- of each row a byte stands in the text
row-some : (r : Row) → IsStorable r → 1 ≤ length (row_code r)
row-some r h = omega (arith, row-length r h.id.0 h.active)

rows-few : (rows : List Row) → AreInOrder rows → length rows ≤ length (joined (each row_code rows))
rows-few rows h = on rows h.storable
  where
    on : (rs : List Row) → All IsStorable rs → length rs ≤ length (joined (each row_code rs))
    on [] k = omega arith
    on (r ∷ rs) k = omega (arith, row-some r (all-head IsStorable r rs k), on rs (λ i d l. k (suc i) d (omega arith)), length-append (row_code r) (joined (each row_code rs)))

-- bytes that are left are no more than all
pub left-long : (bs stored left : List ℕ) (told : ℕ) (firsts : List Row) → Begins bs stored told firsts left → 49 + length left ≤ length bs
left-long bs stored left told firsts b =
    omega (
      arith,
      b.long,
      length-be64 told,
      nine,
      ap length b.is,
      length-append heading (stored ++ (be64 told ++ (joined (each row_code firsts) ++ left))),
      length-append stored (be64 told ++ (joined (each row_code firsts) ++ left)),
      length-append (be64 told) (joined (each row_code firsts) ++ left),
      length-append (joined (each row_code firsts)) left,
    )
  where
    nine : length heading ≡ 9
    nine = refl

next-storable : (rows firsts : List Row) (left tail : List ℕ) (n : Next rows firsts left tail) → AreInOrder rows → IsStorable n.row
next-storable rows firsts left tail n h = all-head IsStorable n.row n.rest (all-behind IsStorable n.before (n.row ∷ n.rest) (subst (All IsStorable) n.is h.storable))

codes-push : (rows : List Row) (r : Row) → each row_code (rows ++ r ∷ []) ≡ each row_code rows ++ row_code r ∷ []
codes-push [] r = refl
codes-push (q ∷ qs) r = ap (λ z. row_code q ∷ z) (codes-push qs r)

-- the next row may stand behind others with the same codes
next-order : (rows firsts : List Row) (left tail : List ℕ) (n : Next rows firsts left tail) (r : Row) → AreInOrder rows → All IsStorable firsts → IsStorable r → row_code n.row ≡ row_code r → AreInOrder (firsts ++ r ∷ [])
next-order rows firsts left tail n r h k s e =
    order-moved (n.before ++ n.row ∷ []) (firsts ++ r ∷ []) (order-front (n.before ++ n.row ∷ []) n.rest (subst AreInOrder (n.is ∙ sym (append_assoc n.before (n.row ∷ []) n.rest)) h)) (All-push IsStorable firsts r k s)
    (codes-push n.before n.row ∙ ap (λ z. z ++ row_code n.row ∷ []) n.same ∙ ap (λ z. each row_code firsts ++ z ∷ []) e ∙ sym (codes-push firsts r))

pub length-codes : (rows others : List Row) → each row_code rows ≡ each row_code others → length rows ≡ length others
length-codes rows others e = sym (length-map row_code rows) ∙ ap length e ∙ length-map row_code others

next-longer : (rows firsts : List Row) (left tail : List ℕ) → Next rows firsts left tail → length firsts < length rows
next-longer rows firsts left tail n = omega (arith, ap length n.is, length-append n.before (n.row ∷ n.rest), length-codes n.before firsts n.same)

-- bytes are laid out so that no further row of so many can come behind these
pub record Stop (bs root : List ℕ) (number : ℕ) (rows : List Row) (left : List ℕ) : Type 0 where
  pub begins : Begins bs root number rows left
  pub last : (others : List Row) (tail : List ℕ) → Next others rows left tail → AreInOrder others → length others ≤ number → ⊥

pub early-stop : {bs root left : List ℕ} {number : ℕ} {rows : List Row} → length bs < 2 ^ 32 → Begins bs root number rows left → (length left < 2 ^ 32 → IsNoFront left) → Stop bs root number rows left
early-stop {bs} {root} {left} {number} {rows} few b none = record {
  begins = b;
  last = λ others tail n h l. none (omega (arith, few, left-long bs root left number rows b)) n.row _ (next-storable others rows left tail n h) n.behind;
}

pub wrong-stop : {bs root left : List ℕ} {number : ℕ} {rows : List Row} → Begins bs root number rows left → IsNoNextRow rows left → Stop bs root number rows left
wrong-stop {bs} {root} {left} {number} {rows} b c = record { begins = b; last = λ others tail n h l. on others tail n h c }
  where
    on : (others : List Row) (tail : List ℕ) → Next others rows left tail → AreInOrder others → IsNoNextRow rows left → ⊥
    on others tail n h (no_row w) = w.none n.row _ (next-storable others rows left tail n h) n.behind
    on others tail n h (misplaced r y s p f) =
        let q = stored-part n.row r _ y (next-storable others rows left tail n h) s (sym n.behind ∙ p) in
        f (next-order others rows left tail n r h b.order.storable s q.0)

pub full-stop : {bs root left : List ℕ} {number : ℕ} {rows : List Row} → Begins bs root number rows left → length rows ≡ number → Stop bs root number rows left
full-stop {bs} {root} {left} {number} {rows} b e = record { begins = b; last = λ others tail n h l. absurd (omega (arith, next-longer others rows left tail n, e, l)) }

-- two of these stand at one place
pub record Alike (root stored : List ℕ) (m n : ℕ) (rows others : List Row) (left behind : List ℕ) : Type 0 where
  pub root_is : root ≡ stored
  pub number_is : m ≡ n
  pub codes : each row_code rows ≡ each row_code others
  pub left_is : left ≡ behind

pub one-stop : {bs root stored left behind : List ℕ} {m n : ℕ} {rows others : List Row} → Stop bs root m rows left → Stop bs stored n others behind → Alike root stored m n rows others left behind
one-stop {bs} {root} {stored} {left} {behind} {m} {n} {rows} {others} s t =
    let p = header-parts root stored _ _ m n s.begins.long t.begins.long s.begins.small t.begins.small (sym s.begins.is ∙ t.begins.is) in
    on p.0 p.1 (compared rows others left behind s.begins.order.storable t.begins.order.storable p.2)
  where
    on : root ≡ stored → m ≡ n → Compared rows others left behind → Alike root stored m n rows others left behind
    on e f (longer x) = absurd (t.last rows left x s.begins.order (omega (arith, s.begins.few, f)))
    on e f (shorter x) = absurd (s.last others behind x t.begins.order (omega (arith, t.begins.few, f)))
    on e f (equal c l) = record { root_is = e; number_is = f; codes = c; left_is = l }

-- rows of which the text is so short are fewer than eight bytes tell
number-few : (bs : List ℕ) (rows : List Row) → bs ≡ state_text rows → AreInOrder rows → length bs < 2 ^ 32 → length rows < 2 ^ 64
number-few bs rows e h few = omega (arith, few, ap length e, text-length rows h, rows-few rows h)

-- the text of rows is laid out as their state
pub text-laid : (bs : List ℕ) (rows : List Row) → bs ≡ state_text rows → AreInOrder rows → length bs < 2 ^ 32 → Begins bs (root rows) (length rows) rows []
text-laid bs rows e h few = record {
  is = e ∙ text-parts rows h ∙ ap (λ (z : List ℕ). heading ++ (root rows ++ (be64 (length rows) ++ z))) (sym (append-nil (joined (each row_code rows))));
  long = root-length rows;
  small = number-few bs rows e h few;
  few = omega arith;
  order = h;
}
