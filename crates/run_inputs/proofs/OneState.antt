-- Rows in normal order with one code are one, and so are the rows of one text.
use Rattle.std.proofs.Common.{◌≡◌, ℕ, ◌<◌, ◌≤◌, ◌^◌, Bool, true, false, List, [], ◌∷◌, ◌++◌, length, map as each, refl, ap, sym, ◌∙◌, arith, length-append}
use Rattle.std.specs.Prelude.{All}
use Rattle.calculus.specs.declared.plain.Kind.{Kind}
use Rattle.calculus.specs.declared.plain.Kind.TheVariants as kinds
use Rattle.calculus.specs.Bytes.{be64, joined}
use Rattle.calculus.specs.Code.{arranged, byte_of, code, head}
use Rattle.calculus.specs.CodeLaws.{IsShort}
use Rattle.calculus.specs.Form.{term, a_bind, row_of}
use Rattle.calculus.specs.Kinds.{kind_number}
use Rattle.calculus.specs.Root.{root}
use Rattle.calculus.specs.Rows.{Row, row_code}
use Rattle.calculus.specs.Shape.{at, held, only, two}
use Rattle.calculus.specs.Storing.{IsStorable}
use Rattle.calculus.specs.Tree.{par, send, receive, Tree}
use Rattle.calculus.proofs.FromFits.{codes_split}
use Rattle.calculus.proofs.Prefixes.{cut, Splits-length}
use Rattle.calculus.proofs.Tails.{length-be64}
use Rattle.rho_term.specs.Normal.{IsNormal}
use Rattle.process_laws.proofs.StorableLengths.{storable_rows_are_short}
use Rattle.term_order.proofs.OneTerm.{normal_codes_are_one}
use Rattle.events.specs.States.{state_text}
use Rattle.checkpoint.specs.Kept.{AreInOrder}
use Rattle.row_reader.proofs.SentRows.{Parted, a_send, a_receive, parted}
use Rattle.state_reader.specs.Files.{heading}
use Rattle.state_reader.proofs.SameRows.{row-length, storable-row, storable-short}
use Rattle.state_reader.specs.Laws.{IsTextOf}
use Rattle.state_reader.proofs.Exact.{root-length, text-parts}
use Rattle.state_reader.proofs.TextsRead.{states_are_read}
use Rattle.state_reader.proofs.Same.{all-head, all-tail, heads, stored-part}
use Rattle.run_inputs.specs.Bases.{AreNormalRows, IsStateOf}
use Rattle.run_inputs.specs.Laws.{OneState, StatesAreNotRefused}

other-tag : {A : Type 0} → ◌≡◌ {A = ℕ} 1 2 → A
other-tag e = absurd (cc)

tag-other : {A : Type 0} → ◌≡◌ {A = ℕ} 2 1 → A
tag-other e = absurd (cc)

tails : {x y : ℕ} {xs ys : List ℕ} → x ∷ xs ≡ y ∷ ys → (x ≡ y) × (xs ≡ ys)
tails e = (cc, cc)

same-flag : (x y : Bool) → byte_of x ≡ byte_of y → x ≡ y
same-flag true true e = refl
same-flag false false e = refl
same-flag true false e = absurd (omega (arith, e))
same-flag false true e = absurd (omega (arith, e))

-- sends and receives of constituents with the same codes
code-send : (f o : Bool) (c d a b : Tree) → f ≡ o → code c ≡ code d → code a ≡ code b → code (two (send f) c a) ≡ code (two (send o) d b)
code-send f o c d a b e p q =
    ap (λ (x : Bool). code (two (send x) c a)) e ∙ ap (λ (z : List ℕ). head (send o) 2 ++ (z ++ (code a ++ []))) p ∙ ap (λ (z : List ℕ). head (send o) 2 ++ (code d ++ (z ++ []))) q

code-receive : (k m : Kind) (c d a b : Tree) → kind_number k ≡ kind_number m → code c ≡ code d → code a ≡ code b → code (two (receive k) c a) ≡ code (two (receive m) d b)
code-receive k m c d a b e p q =
    ap (λ (n : ℕ). 0x31 ∷ n ∷ (code c ++ (code a ++ []))) e ∙ ap (λ (z : List ℕ). 0x31 ∷ kind_number m ∷ (z ++ (code a ++ []))) p ∙ ap (λ (z : List ℕ). 0x31 ∷ kind_number m ∷ (code d ++ (z ++ []))) q

-- two rows have one id, and their parts one code
record SamePart (r q : Row) : Type 0 where
  pub id : r.id ≡ q.id
  pub part : code r.part ≡ code q.part

same-part : (r q : Row) → IsStorable r → IsStorable q → row_code r ≡ row_code q → SamePart r q
same-part r q h k e = on (parted r (storable-row r h) (storable-short r h)) (parted q (storable-row q k) (storable-short q k))
  where
    between : {a b : List ℕ} → row_code r ≡ a → row_code q ≡ b → a ≡ b
    between p u = sym p ∙ e ∙ u

    moved : {t u : Tree} → r.part ≡ t → q.part ≡ u → r.id ≡ q.id → code t ≡ code u → SamePart r q
    moved i j x y = record { id = x; part = ap code i ∙ y ∙ sym (ap code j) }

    on : Parted r.id r.part → Parted q.id q.part → SamePart r q
    on (a_send f c a is i g l) (a_send o d b p j m n) =
        let x = cut r.id q.id _ _ (Splits-length r.id q.id (h.id.0 ∙ sym k.id.0)) (tails (between is p)).1 in
        let y = cut (code c) (code d) _ _ (codes_split term [] [] c d g.fits m.fits g.short m.short) x.1 in
        moved i j x.0 (code-send f o c d a b (same-flag f o (tails y.1).0) y.0 (tails y.1).1)
    on (a_send f c a is i g l) (a_receive o b body p j m n some few u) = other-tag (tails (between is p)).0
    on (a_receive f c a is i g l some few u) (a_send o d b p j m n) = tag-other (tails (between is p)).0
    on (a_receive f c a is i g l some few u) (a_receive o d b p j m n many less v) =
        let x = cut r.id q.id _ _ (Splits-length r.id q.id (h.id.0 ∙ sym k.id.0)) (tails (between is p)).1 in
        let y = cut (code c) (code d) _ _ (codes_split (row_of a_bind) [] [] c d g.fits m.fits g.short m.short) (tails x.1).1 in
        moved i j x.0 (code-receive f o c d a b (tails x.1).0 y.0 y.1)

only-short : (r : Row) → IsStorable r → IsShort (only r.part)
only-short r h = let s = (storable_rows_are_short r h).1 in omega (arith, s)

-- rows in normal order with one code are one
one-row : (r q : Row) → IsStorable r → IsStorable q → IsNormal r.part → IsNormal q.part → row_code r ≡ row_code q → r ≡ q
one-row r q h k n m e =
    let s = same-part r q h k e in
    let codes : code (only r.part) ≡ code (only q.part) = ap (λ (z : List ℕ). head par 1 ++ joined (arranged true (z ∷ []))) s.part in
    let one : only r.part ≡ only q.part = normal_codes_are_one (only r.part) (only q.part) h.closed k.closed (only-short r h) (only-short q k) ((tt, tt), (n, tt)) ((tt, tt), (m, tt)) codes in
    let part : r.part ≡ q.part = ap (λ (t : Tree). at 0 (held t)) one in
    let row : List ℕ → Tree → Row = λ i t. record { id = i; part = t } in
    ap (λ (i : List ℕ). row i r.part) s.id ∙ ap (λ (t : Tree). row q.id t) part

one-rows : (rs qs : List Row) → All IsStorable rs → All IsStorable qs → AreNormalRows rs → AreNormalRows qs → each row_code rs ≡ each row_code qs → rs ≡ qs
one-rows [] [] h k n m e = refl
one-rows [] (q ∷ qs) h k n m e = absurd (cc)
one-rows (r ∷ rs) [] h k n m e = absurd (cc)
one-rows (r ∷ rs) (q ∷ qs) h k n m e =
    let N : Row → Type 0 = λ x. IsNormal x.part in
    let a = one-row r q (all-head IsStorable r rs h) (all-head IsStorable q qs k) (all-head N r rs n) (all-head N q qs m) (heads e).0 in
    let b = one-rows rs qs (all-tail IsStorable r rs h) (all-tail IsStorable q qs k) (all-tail N r rs n) (all-tail N q qs m) (heads e).1 in
    ap (λ (x : Row). x ∷ rs) a ∙ ap (λ (xs : List Row). q ∷ xs) b

row-some : (r : Row) → IsStorable r → 1 ≤ length (row_code r)
row-some r h = omega (arith, row-length r h.id.0 h.active)

-- rows whose codes make the same bytes have the same codes
same-codes : (rs qs : List Row) → All IsStorable rs → All IsStorable qs → joined (each row_code rs) ≡ joined (each row_code qs) → each row_code rs ≡ each row_code qs
same-codes [] [] h k e = refl
same-codes [] (q ∷ qs) h k e = absurd (omega (arith, ap length e, length-append (row_code q) (joined (each row_code qs)), row-some q (all-head IsStorable q qs k)))
same-codes (r ∷ rs) [] h k e = absurd (omega (arith, ap length e, length-append (row_code r) (joined (each row_code rs)), row-some r (all-head IsStorable r rs h)))
same-codes (r ∷ rs) (q ∷ qs) h k e =
    let p = stored-part r q _ _ (all-head IsStorable r rs h) (all-head IsStorable q qs k) e in
    ap (λ (z : List ℕ). z ∷ each row_code rs) p.0 ∙ ap (λ (zs : List (List ℕ)). row_code q ∷ zs) (same-codes rs qs (all-tail IsStorable r rs h) (all-tail IsStorable q qs k) p.1)

text-codes : (rs qs : List Row) → AreInOrder rs → AreInOrder qs → state_text rs ≡ state_text qs → each row_code rs ≡ each row_code qs
text-codes rs qs h k e =
    let p = cut heading heading _ _ (Splits-length heading heading refl) (sym (text-parts rs h) ∙ e ∙ text-parts qs k) in
    let q = cut (root rs) (root qs) _ _ (Splits-length (root rs) (root qs) (root-length rs ∙ sym (root-length qs))) p.1 in
    let r = cut (be64 (length rs)) (be64 (length qs)) _ _ (Splits-length (be64 (length rs)) (be64 (length qs)) (length-be64 (length rs) ∙ sym (length-be64 (length qs)))) q.1 in
    same-codes rs qs h.storable k.storable r.1

pub one_state : OneState
one_state bytes rows others a b =
    one-rows rows others a.kept.order.storable b.kept.order.storable a.normal b.normal (text-codes rows others a.kept.order b.kept.order (sym a.text ∙ b.text))

pub states_are_not_refused : StatesAreNotRefused
states_are_not_refused bytes few s own f n =
    let ids = own s.0 s.1 in
    let text : IsTextOf bytes s.0 = record { is = s.1.text; order = s.1.kept.order; ids = ids; quiet = s.1.kept.quiet ids } in
    n.0 (states_are_read bytes s.0 text few f n.1)
