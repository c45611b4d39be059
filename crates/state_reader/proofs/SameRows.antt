-- Rows with one code.
use Rattle.std.proofs.Common.{◌≡◌, ℕ, ◌<◌, ◌+◌, ◌^◌, true, List, [], ◌∷◌, ◌++◌, length, map as each, refl, ap, sym, ◌∙◌, subst, arith, length-append}
use Rattle.calculus.specs.Bytes.{be32, joined}
use Rattle.calculus.specs.Code.{byte_of, code, codes}
use Rattle.calculus.specs.CodeLaws.{Splits}
use Rattle.calculus.specs.Form.{term, a_bind, row_of}
use Rattle.calculus.specs.Kinds.{kind_number}
use Rattle.calculus.specs.Order.{IsAscending}
use Rattle.calculus.specs.Rows.{Row, channels, coded_part, row_code, row_length}
use Rattle.calculus.specs.Shape.{at, count, held, listed}
use Rattle.calculus.specs.Storing.{AreRising, is_active, IsStorable}
use Rattle.calculus.specs.Tree.{row, send, receive, Tree, node, Trees, none, also}
use Rattle.calculus.proofs.FromFits.{codes_split}
use Rattle.calculus.proofs.Ordered.{up_to_total}
use Rattle.calculus.proofs.Prefixes.{cut, Splits-append, Splits-length}
use Rattle.calculus.proofs.Tails.{length-be32, one-be32}
use Rattle.process_laws.proofs.StorableLengths.{storable_rows_are_short}
use Rattle.code_faults.specs.Refusing.{AreRight, IsRight}
use Rattle.row_reader.specs.RowCodes.{channel_codes, IsRow}
use Rattle.row_reader.proofs.Joins.{same-channel}
use Rattle.code_faults.proofs.Kids.{count-right, first-right, rest-right, row-are}
use Rattle.row_reader.proofs.SentRows.{Parted, a_send, a_receive, parted}

other-tag : {A : Type 0} → ◌≡◌ {A = ℕ} 1 2 → A
other-tag e = absurd (cc)

tag-other : {A : Type 0} → ◌≡◌ {A = ℕ} 2 1 → A
tag-other e = absurd (cc)

-- of the codes of two rows none is a proper prefix of the other
pub rows-split : (r q : Row) → IsRow r → IsRow q → length (row_code r) < 2 ^ 32 → length (row_code q) < 2 ^ 32 → Splits (row_code r) (row_code q)
rows-split r q h k s t = on (parted r h s) (parted q k t)
  where
    ids : Splits r.id q.id
    ids = Splits-length r.id q.id (h.id.0 ∙ sym k.id.0)

    to : {a b : List ℕ} → row_code r ≡ a → row_code q ≡ b → Splits a b → Splits (row_code r) (row_code q)
    to {a = a} p u w = subst (λ x. Splits x (row_code q)) (sym p) (subst (λ x. Splits a x) (sym u) w)

    on : Parted r.id r.part → Parted q.id q.part → Splits (row_code r) (row_code q)
    on (a_send f c a is _ g l) (a_send o d b p _ m n) = to is p (λ z. Splits-append r.id q.id _ _ ids
        (λ y. Splits-append (code c) (code d) _ _ (codes_split term [] [] c d g.fits m.fits g.short m.short) (λ x w. codes_split (row_of term) [] [] a b l.fits n.fits l.short n.short)))
    on (a_send f c a is _ g l) (a_receive o b body p _ m n some few u) = to is p (λ z. other-tag z)
    on (a_receive f c a is _ g l some few u) (a_send o d b p _ m n) = to is p (λ z. tag-other z)
    on (a_receive f c a is _ g l some few u) (a_receive o d b p _ m n many less v) = to is p (λ z. Splits-append r.id q.id _ _ ids
        (λ y w. Splits-append (code c) (code d) _ _ (codes_split (row_of a_bind) [] [] c d g.fits m.fits g.short m.short) (λ x. codes_split term _ _ a b l.fits n.fits l.short n.short)))

pub rows-part : (r q : Row) (x y : List ℕ) → IsRow r → IsRow q → length (row_code r) < 2 ^ 32 → length (row_code q) < 2 ^ 32 → row_code r ++ x ≡ row_code q ++ y → (row_code r ≡ row_code q) × (x ≡ y)
rows-part r q x y h k s t e = cut (row_code r) (row_code q) x y (rows-split r q h k s t) e

-- binds with one code each have channels with one code each
same-joins : (ts us : Trees) → AreRight true a_bind [] 399 ts → AreRight true a_bind [] 399 us → count ts ≡ count us → joined (codes ts) ≡ joined (codes us) → channel_codes ts ≡ channel_codes us
same-joins none none g h n e = refl
same-joins none (also u us) g h n e = absurd (omega arith)
same-joins (also t ts) none g h n e = absurd (omega arith)
same-joins (also t ts) (also u us) g h n e =
    let a = first-right t ts g in
    let b = first-right u us h in
    let p = cut (code t) (code u) (joined (codes ts)) (joined (codes us)) (codes_split a_bind [] [] t u a.fits b.fits a.short b.short) e in
    ap (λ x. x ∷ channel_codes ts) (same-channel t u a b p.0) ∙ ap (λ xs. code (at 0 (held u)) ∷ xs) (same-joins ts us (rest-right t ts g) (rest-right u us h) (omega (arith, n)) p.1)

same-binds : (r q : Tree) → IsRight true (row_of a_bind) [] 399 r → IsRight true (row_of a_bind) [] 399 q → code r ≡ code q → each code (each (λ b. at 0 (held b)) (held r)) ≡ each code (each (λ b. at 0 (held b)) (held q))
same-binds (node row ts) (node row us) g h e =
    let a = row-are ts g in
    let b = row-are us h in
    let p = cut (be32 (count ts)) (be32 (count us)) (joined (codes ts)) (joined (codes us)) (Splits-length (be32 (count ts)) (be32 (count us)) (length-be32 (count ts) ∙ sym (length-be32 (count us)))) e in
    same-joins ts us a b (one-be32 (count ts) (count us) (count-right ts a) (count-right us b) p.0) p.1
same-binds (node row ts) (node _ us) g h e = absurd h.fits.1
same-binds (node _ ts) q g h e = absurd g.fits.1

tails : {x y : ℕ} {xs ys : List ℕ} → x ∷ xs ≡ y ∷ ys → (x ≡ y) × (xs ≡ ys)
tails e = (cc, cc)

-- rows with one code have one id, and their channels one code each
pub same-rows : (r q : Row) → IsRow r → IsRow q → length (row_code r) < 2 ^ 32 → length (row_code q) < 2 ^ 32 → row_code r ≡ row_code q
    → (r.id ≡ q.id) × (each code (channels r.part) ≡ each code (channels q.part))
same-rows r q h k s t e = on (parted r h s) (parted q k t)
  where
    ids : Splits r.id q.id
    ids = Splits-length r.id q.id (h.id.0 ∙ sym k.id.0)

    between : {a b : List ℕ} → row_code r ≡ a → row_code q ≡ b → a ≡ b
    between p u = sym p ∙ e ∙ u

    on : Parted r.id r.part → Parted q.id q.part → (r.id ≡ q.id) × (each code (channels r.part) ≡ each code (channels q.part))
    on (a_send f c a is i g l) (a_send o d b p j m n) =
        let x = cut r.id q.id _ _ ids (tails (between is p)).1 in
        let y = cut (code c) (code d) _ _ (codes_split term [] [] c d g.fits m.fits g.short m.short) x.1 in
        (x.0, ap (λ t. each code (channels t)) i ∙ ap (λ z. z ∷ []) y.0 ∙ sym (ap (λ t. each code (channels t)) j))
    on (a_send f c a is i g l) (a_receive o b body p j m n some few u) = other-tag (tails (between is p)).0
    on (a_receive f c a is i g l some few u) (a_send o d b p j m n) = tag-other (tails (between is p)).0
    on (a_receive f c a is i g l some few u) (a_receive o d b p j m n many less v) =
        let x = cut r.id q.id _ _ ids (tails (between is p)).1 in
        let y = cut (code c) (code d) _ _ (codes_split (row_of a_bind) [] [] c d g.fits m.fits g.short m.short) (tails x.1).1 in
        (x.0, ap (λ t. each code (channels t)) i ∙ same-binds c d g m y.0 ∙ sym (ap (λ t. each code (channels t)) j))

rising-ascends : (xs : List (List ℕ)) → AreRising xs → IsAscending xs
rising-ascends [] h = tt
rising-ascends (x ∷ []) h = (tt, tt)
rising-ascends (x ∷ y ∷ ys) h = (up_to_total y x h.0, rising-ascends (y ∷ ys) h.1)

pub storable-row : (r : Row) → IsStorable r → IsRow r
storable-row r h = record { id = h.id; active = h.active; closed = h.closed; low = h.low; channels = rising-ascends (each code (channels r.part)) h.rising }

pub storable-short : (r : Row) → IsStorable r → length (row_code r) < 2 ^ 32
storable-short r h = let p = (storable_rows_are_short r h).0 in omega (arith, p)

coded-length : (id : List ℕ) (t : Tree) → is_active t ≡ true → length (coded_part id t) ≡ length id + length (coded_part [] t)
coded-length id (node (send q) ts) a = omega (arith, length-append id (code (at 0 (listed ts)) ++ (byte_of q ∷ code (at 1 (listed ts)))))
coded-length id (node (receive k) ts) a = omega (arith, length-append id (kind_number k ∷ (code (at 0 (listed ts)) ++ code (at 1 (listed ts)))))
coded-length id (node _ ts) a = absurd (cc)

-- the length of a row's code
pub row-length : (r : Row) → length r.id ≡ 32 → is_active r.part ≡ true → row_length r ≡ length (row_code r)
row-length r d a = omega (arith, coded-length r.id r.part a, d)

-- a row with the code of one that may be stored may be stored
pub storable-same : (r q : Row) → IsStorable r → IsRow q → length (row_code q) < 2 ^ 32 → row_code r ≡ row_code q → IsStorable q
storable-same r q h k s e =
    let c = (same-rows r q (storable-row r h) k (storable-short r h) s e).1 in
    record {
      id = k.id;
      active = k.active;
      closed = k.closed;
      low = k.low;
      short = omega (arith, h.short, row-length r h.id.0 h.active, row-length q k.id.0 k.active, ap length e);
      rising = subst AreRising c h.rising;
    }
