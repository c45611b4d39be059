-- What was found: its body is closed under what is bound, and it takes as many data as a step may.
use Rattle.std.proofs.Common.{◌≡◌, ◌≤◌, ℕ, suc, List, [], ◌∷◌, length, map as each, refl, sym, ap, ◌∙◌, subst, arith, All}
use Rattle.std.specs.Prelude.{Some, option_and_then}
use Rattle.std.proofs.lemmas.List.Elements.{All-nil, All-cons, All-head, All-tail}
use Rattle.std.proofs.lemmas.List.{length-map}
use Rattle.calculus.proofs.Members.{Every}
use Rattle.calculus.specs.Tree.{Tree, receive, node}
use Rattle.calculus.specs.Shape.{held, listed, at}
use Rattle.calculus.specs.Form.{IsClosed, Fits, part}
use Rattle.calculus.specs.Substitution.{put}
use Rattle.calculus.specs.Rows.{Row}
use Rattle.calculus.specs.Steps.{Datum, Receiver, Meeting, PlacedRow, as_receiver, as_datum, as_data, all_bindings, bindings_of}
use Rattle.calculus.specs.Storing.{IsStorable}
use Rattle.calculus.specs.Matching.{Bindings}
use Rattle.calculus.proofs.Candidates.{and_then-inv}
use Rattle.process_laws.proofs.Meeting.{IfThere, MeetingCloses, rows-close, rows-bind}
use Rattle.calculus.specs.declared.ids.Digest.{Digest}
use Rattle.calculus.specs.Steps.{meet}
use Rattle.event_log.specs.View.{TakesInRange}
use Rattle.events.specs.Found.{alone, met}
use Rattle.found_rows.specs.declared.found.Found.{Found}
use Rattle.found_rows.specs.AtHand.{MeetsAtHand}

every-of : (rs : List Row) → All IsStorable rs → Every (λ h. Fits part [] h.1.part) (each alone rs)
every-of [] h = tt
every-of (r ∷ rs) h = ((All-head IsStorable r rs h).closed.1.0, every-of rs (All-tail IsStorable r rs h))

module _ (store : List Row) (o : Row) (f : Found) (i : MeetsAtHand store o f) where
  -- the body is closed under what is bound
  pub body-closed : IsClosed (put f.bound.items f.body)
  body-closed =
      subst (λ vs. IsClosed (put vs f.body)) (sym i.bound) (subst (λ b. IsClosed (put i.meeting.bindings b)) (sym i.body)
      (subst (IfThere MeetingCloses) i.meets (rows-close (each alone (i.receiver ∷ i.sends)) (every-of (i.receiver ∷ i.sends) i.storable))))

  all-of : (ts : List Tree) → Every IsClosed ts → All IsClosed ts
  all-of [] h = All-nil IsClosed
  all-of (t ∷ ts) h = All-cons IsClosed t ts h.0 (all-of ts h.1)

  -- what is bound is closed
  pub values-closed : All IsClosed f.bound.items
  values-closed =
      subst (All IsClosed) (sym i.bound)
      (all-of i.meeting.bindings (subst (IfThere (λ m. Every IsClosed m.bindings)) i.meets (rows-bind (each alone (i.receiver ∷ i.sends)) (every-of (i.receiver ∷ i.sends) i.storable))))

-- as many data as rows, and as many binds as data
data-length : (hs : List PlacedRow) (ds : List Datum) → as_data hs ≡ Some ds → length hs ≡ length ds
data-length [] [] e = refl
data-length [] (d ∷ ds) e = cc e
data-length (h ∷ hs) ds e =
    let k = and_then-inv (as_datum h.1.part) (λ d. option_and_then (λ zs. Some (d ∷ zs)) (as_data hs)) ds e in
    let j = and_then-inv (as_data hs) (λ zs. Some (k.0 ∷ zs)) ds k.2 in
    ap suc (data-length hs j.0 j.1) ∙ same (k.0 ∷ j.0) ds j.2
  where
    same : (xs ys : List Datum) → Some xs ≡ Some ys → length xs ≡ length ys
    same xs ys q = let s : xs ≡ ys = cc q in ap length s

binds-length : (bs : List Tree) (ds : List Datum) (xs : Bindings) → all_bindings bs ds ≡ Some xs → length bs ≡ length ds
binds-length [] [] xs e = refl
binds-length [] (d ∷ ds) xs e = cc e
binds-length (b ∷ bs) [] xs e = cc e
binds-length (b ∷ bs) (d ∷ ds) xs e =
    let k = and_then-inv (bindings_of b d) (λ us. option_and_then (λ ys. Some _) (all_bindings bs ds)) xs e in
    let j = and_then-inv (all_bindings bs ds) (λ ys. Some _) xs k.2 in
    ap suc (binds-length bs ds j.0 j.1)

-- a receiver's part has 1 to 16 binds
binds-in-range : (t : Tree) (r : Receiver) → Fits part [] t → as_receiver t ≡ Some r → (1 ≤ length r.binds) × (length r.binds ≤ 16)
binds-in-range (node (receive k) ts) r f e = let same : held (at 0 (listed ts)) ≡ r.binds = cc e in subst (λ (bs : List Tree). (1 ≤ length bs) × (length bs ≤ 16)) same f.0
binds-in-range (node _ ts) r f e = cc

-- a receiver's row meets as many rows as it has binds
sends-in-range : (r : Row) (ds : List Row) (m : Meeting) → Fits part [] r.part → met (r ∷ ds) ≡ Some m → (1 ≤ length ds) × (length ds ≤ 16)
sends-in-range r ds m f e =
    let j = and_then-inv (as_receiver r.part) (λ c. option_and_then (meet (alone r) (each alone ds) c) (as_data (each alone ds))) m e in
    let k = and_then-inv (as_data (each alone ds)) (meet (alone r) (each alone ds) j.0) m j.2 in
    let x = and_then-inv (all_bindings j.0.binds k.0) (λ xs. Some _) m k.2 in
    let many : length (each alone ds) ≡ length k.0 = data-length (each alone ds) k.0 k.1 in
    let heard : length j.0.binds ≡ length k.0 = binds-length j.0.binds k.0 x.0 x.1 in
    let range = binds-in-range r.part j.0 f j.1 in
    (omega (arith, many, heard, range.0, length-map ds alone), omega (arith, many, heard, range.1, length-map ds alone))

-- what was found takes 1 to 16 data
pub taken-in-range : (store : List Row) (o : Row) (f : Found) → MeetsAtHand store o f → (n : ℕ) → TakesInRange (record { cont = f.cont; taken = f.taken; repeat = n })
taken-in-range store o f i n =
    let range = sends-in-range i.receiver i.sends i.meeting (All-head IsStorable i.receiver i.sends i.storable).closed.1.0 i.meets in
    let many : length f.taken.items ≡ length i.sends = sym (length-map f.taken.items (λ (d : Digest). d.0)) ∙ ap length i.taken ∙ length-map i.sends (λ (r : Row). r.id) in
    (omega (arith, many, range.0), omega (arith, many, range.1))
