-- A receiver meets the sends that its binds take, and only these.
use Rattle.std.proofs.Common.{◌≡◌, ◌≤◌, arith, ℕ, Bool, true, false, cond, List, [], ◌∷◌, ◌++◌, length, map as each, All, refl, sym, ap, ◌∙◌, subst, inl, inr}
use Rattle.std.specs.Prelude.{◌==◌, ◌&&◌, Option, Some, None, Result, Ok, Err, IfOk, MatchOption}
use Rattle.std.specs.declared.alloc.AllocError.{AllocError}
use Rattle.std.proofs.lemmas.List.Elements.{All-nil, All-cons, All-head, All-tail}
use Rattle.std.specs.declared.alloc.Global.{Global}
use Rattle.std.specs.declared.vec.Vec.{Vec}
use Rattle.calculus.specs.declared.plain.Kind.{Kind}
use Rattle.calculus.specs.declared.plain.Kind.TheVariants as kinds
use Rattle.calculus.specs.declared.ids.Digest.{Digest}
use Rattle.calculus.specs.Form.{part, Fits, IsClosed}
use Rattle.calculus.specs.Rows.{Row}
use Rattle.calculus.specs.Steps.{PlacedRow, Datum, Meeting, Receiver, as_receiver, stays, all_persistent}
use Rattle.calculus.specs.Storing.{IsStorable}
use Rattle.calculus.specs.Substitution.{put}
use Rattle.calculus.specs.Tree.{Tree, receive, node}
use Rattle.calculus.specs.Shape.{held, listed, at}
use Rattle.calculus.proofs.Placing.{listed-trees}
use Rattle.process_laws.proofs.Meeting.{IfThere, MeetingCloses, rows-bind, rows-close}
use Rattle.events.specs.Found.{alone, met, is_lasting, leaving_rows, leaving_sends, Among}
use Rattle.calculus.proofs.Members.{Every}
use Rattle.rho_term.specs.declared.op.Op.TheVariants as op
use Rattle.rho_term.specs.declared.term.TermBind.{TermBind}
use Rattle.rho_term.specs.Parts.{bind_tree}
use Rattle.rho_term.specs.Rows.{row_of_op}
use Rattle.row_search.specs.Choices.{Choice, AreChosen, gone_ids, takes}
use Rattle.found_rows.specs.declared.found.Found.{Found}
use Rattle.row_search.proofs.Complete.{AreMet, receiver-takes}
use Rattle.row_search.proofs.Distinct.{differs}
use Rattle.row_search.proofs.Heard.{none-if}
use Rattle.row_search.proofs.Known.{binds-apart}
use Rattle.row_search.proofs.Looping.{bytes_of, map-append}
use Rattle.row_search.proofs.Sound.{chosen_rows, data-are, ids-kept, Meets, meets-chosen, receiver_of}
use Rattle.row_meeting.proofs.Taking.{taken-lengths}
use Rattle.std.proofs.lemmas.List.{length-map}
use Rattle.process_laws.proofs.StorableStaying.{all-from}
use Rattle.row_meeting.specs.Meeting.{IsMeeting}
use Rattle.row_meeting.specs.Taking.{AreNotTaken, AreTaken, Comes, Gathers}

rows-same : (bs : List TermBind) (ds : List Row) (cs : List Choice) → AreTaken bs ds cs → chosen_rows cs ≡ ds
rows-same [] [] [] t = refl
rows-same [] [] (c ∷ cs) t = absurd t
rows-same [] (d ∷ ds) [] t = absurd t
rows-same [] (d ∷ ds) (c ∷ cs) t = absurd t
rows-same (b ∷ bs) [] [] t = absurd t
rows-same (b ∷ bs) [] (c ∷ cs) t = absurd t
rows-same (b ∷ bs) (d ∷ ds) [] t = absurd t
rows-same (b ∷ bs) (d ∷ ds) (c ∷ cs) t = ap (λ r. r ∷ chosen_rows cs) t.0 ∙ ap (λ l. d ∷ l) (rows-same bs ds cs t.2)

rows-storable : (cs : List Choice) → All (λ c. IsStorable c.0) cs → All IsStorable (chosen_rows cs)
rows-storable [] h = All-nil IsStorable
rows-storable (c ∷ cs) h = All-cons IsStorable c.0 (chosen_rows cs) (All-head (λ (x : Choice). IsStorable x.0) c cs h) (rows-storable cs (All-tail (λ (x : Choice). IsStorable x.0) c cs h))

each-closed : (rs : List Row) → All IsStorable rs → Every (λ (h : PlacedRow). Fits part [] h.1.part) (each alone rs)
each-closed [] h = tt
each-closed (r ∷ rs) h = ((All-head IsStorable r rs h).closed.1.0, each-closed rs (All-tail IsStorable r rs h))

-- a receiver's part has 1 to 16 binds
binds-in-range : (t : Tree) (r : Receiver) → Fits part [] t → as_receiver t ≡ Some r → (1 ≤ length r.binds) × (length r.binds ≤ 16)
binds-in-range (node (receive k) ts) r f e = let same : held (at 0 (listed ts)) ≡ r.binds = cc e in subst (λ (bs : List Tree). (1 ≤ length bs) × (length bs ≤ 16)) same f.0
binds-in-range (node _ ts) r f e = cc

module _ (id : Digest) (k : Kind) (bs : Vec TermBind Global) (body : Tree) where
  abbrev it : Row
  it = row_of_op (op.Consume id k bs body)

  as-chosen : (rs : List Row) (us : List TermBind) (ds : List Row) (cs : List Choice) → ((d : Row) → Among d ds → Among d rs) → AreTaken us ds cs → AreChosen rs it us cs
  as-chosen rs [] [] [] f t = tt
  as-chosen rs [] [] (c ∷ cs) f t = absurd t
  as-chosen rs [] (d ∷ ds) [] f t = absurd t
  as-chosen rs [] (d ∷ ds) (c ∷ cs) f t = absurd t
  as-chosen rs (b ∷ us) [] [] f t = absurd t
  as-chosen rs (b ∷ us) [] (c ∷ cs) f t = absurd t
  as-chosen rs (b ∷ us) (d ∷ ds) [] f t = absurd t
  as-chosen rs (b ∷ us) (d ∷ ds) (c ∷ cs) f t = ((subst (λ (r : Row). Among r rs) (sym t.0) (f d (inl refl)), ap (takes b) t.0 ∙ t.1), as-chosen rs us ds cs (λ e m. f e (inr m)) t.2)

  taken-of : (us : List TermBind) (ds : List Row) → AreMet (each bind_tree us) ds → (cs : List Choice) × AreTaken us ds cs
  taken-of [] [] h = ([], tt)
  taken-of [] (d ∷ ds) h = absurd h
  taken-of (b ∷ us) [] h = absurd h
  taken-of (b ∷ us) (d ∷ ds) h = let n = taken-of us ds h.1 in ((d, h.0.0) ∷ n.0, (refl, h.0.1, n.1))

  none-meet : (ds : List Row) → AreNotTaken bs.items ds → met (it ∷ ds) ≡ None
  none-meet ds n = none-if (met (it ∷ ds)) (λ m e. let t = taken-of bs.items ds (receiver-takes id k bs body ds m e) in n t.0 t.1)

  -- the ids of all that leaves
  all-gone : (cs : List Choice) (m : Meets k body cs it) (gs : List Digest) → bytes_of gs ≡ cond (stays k) [] (id.0 ∷ []) ++ gone_ids k cs
      → bytes_of gs ≡ each (λ q. q.id) (leaving_rows m.meeting.receiver.kind m.meeting.sends (it ∷ chosen_rows cs))
  all-gone cs m gs e =
      let fs : List Datum = m.meeting.sends in
      let g : Row → List ℕ = λ q. q.id in
      let first : (v : Bool) → cond v [] (id.0 ∷ []) ≡ each g (cond v [] (it ∷ [])) = λ v. elim v as (λ w. cond w [] (id.0 ∷ []) ≡ each g (cond w [] (it ∷ []))) [ true ↦ refl | false ↦ refl ] in
      e ∙ ap (λ l. l ++ gone_ids k cs) (first (stays k)) ∙ ap (λ l. each g (cond (stays k) [] (it ∷ [])) ++ l) (sym m.leave)
      ∙ sym (map-append g (cond (stays k) [] (it ∷ [])) (leaving_sends k (chosen_rows cs) fs)) ∙ ap (λ j. each g (leaving_rows j fs (it ∷ chosen_rows cs))) (sym m.kind)

  -- whether nothing leaves
  all-last : (cs : List Choice) (m : Meeting) (v : Bool) → v ≡ (stays k && length (gone_ids k cs) == 0) → m.receiver.kind ≡ k → all_persistent m.sends ≡ (length (gone_ids kinds.Persistent cs) == 0) → v ≡ is_lasting m
  all-last cs m v e g h = e ∙ go k ∙ ap (λ j. stays j && all_persistent m.sends) (sym g)
    where
      go : (j : Kind) → (stays j && length (gone_ids j cs) == 0) ≡ stays j && all_persistent m.sends
      go kinds.Linear = refl
      go kinds.Peek = refl
      go kinds.Persistent = sym h

  -- as many binds as a receiver may have
  count-in-range : IsStorable it → (1 ≤ length bs.items) × (length bs.items ≤ 16)
  count-in-range s =
      let n : length (receiver_of k bs.items body).binds ≡ length bs.items = ap length (listed-trees (each bind_tree bs.items)) ∙ length-map bs.items bind_tree in
      let range = binds-in-range it.part (receiver_of k bs.items body) s.closed.1.0 refl in
      (omega (arith, n, range.0), omega (arith, n, range.1))

  module _ (f : Found) (cs : List Choice) (w : Comes id k body cs f) (s : IsStorable it) (are : AreChosen (chosen_rows cs) it bs.items cs) (range : (1 ≤ length (chosen_rows cs)) × (length (chosen_rows cs) ≤ 16)) where
    m : Meets k body cs it
    m = meets-chosen id k bs body cs (data-are k (chosen_rows cs) it bs.items cs are)

    all : All IsStorable (it ∷ chosen_rows cs)
    all = All-cons IsStorable it (chosen_rows cs) s (rows-storable cs w.storable)

    abbrev hs : List PlacedRow
    hs = each alone (it ∷ chosen_rows cs)

    closed : Every (λ (h : PlacedRow). Fits part [] h.1.part) hs
    closed = each-closed (it ∷ chosen_rows cs) all

    bound : f.bound.items ≡ m.meeting.bindings
    bound = w.bound ∙ sym m.bound

    body_is : f.body ≡ m.meeting.receiver.body
    body_is = w.body_is ∙ sym m.body_is

    chosen-meet : IsMeeting it (chosen_rows cs) f
    chosen-meet = record {
      meeting = m.meeting;
      meets = m.meets;
      storable = all;
      in_range = range;
      differs = λ u. differs (chosen_rows cs) it u bs.items cs (binds-apart it id k bs body refl s) are;
      cont = ap (λ (d : Digest). d.0) w.cont;
      taken = ids-kept f.taken.items cs w.taken;
      bound = bound;
      body = body_is;
      gone = all-gone cs m f.gone.items w.gone;
      lasting = all-last cs m.meeting f.lasting w.lasting m.kind m.last;
      values = subst (All IsClosed) (sym bound) (all-from IsClosed m.meeting.bindings (subst (IfThere (λ (x : Meeting). Every IsClosed x.bindings)) m.meets (rows-bind hs closed)));
      closed = subst (λ (vs : List Tree). IsClosed (put vs f.body)) (sym bound) (subst (λ (u : Tree). IsClosed (put m.meeting.bindings u)) (sym body_is) (subst (IfThere MeetingCloses) m.meets (rows-close hs closed)));
    }

  they-meet : (ds : List Row) (f : Found) → IsStorable it → Gathers id k body bs.items ds f → IsMeeting it ds f
  they-meet ds f s t =
      let same : chosen_rows t.chosen ≡ ds = rows-same bs.items ds t.chosen t.are in
      let range = count-in-range s in
      let many : length bs.items ≡ length (chosen_rows t.chosen) = taken-lengths bs.items ds t.chosen t.are ∙ ap length (sym same) in
      subst (λ (l : List Row). IsMeeting it l f) same
      (chosen-meet f t.chosen t.comes s (as-chosen (chosen_rows t.chosen) bs.items ds t.chosen (λ d h. subst (Among d) (sym same) h) t.are)
      (omega (arith, many, range.0), omega (arith, many, range.1)))

-- the same of a row that is known to be a receiver, and a lent slice of its binds
module _ (r : Row) (id : Digest) (k : Kind) (bs : Vec TermBind Global) (body : Tree) (us : List TermBind) (e : r ≡ row_of_op (op.Consume id k bs body)) (l : us ≡ bs.items) (ds : List Row) where
  pub known-none : AreNotTaken us ds → met (r ∷ ds) ≡ None
  known-none n = ap (λ (q : Row). met (q ∷ ds)) e ∙ none-meet id k bs body ds (subst (λ (vs : List TermBind). AreNotTaken vs ds) l n)

  pub known-meet : (f : Found) → IsStorable r → Gathers id k body us ds f → IsMeeting r ds f
  known-meet f s t = subst (λ (q : Row). IsMeeting q ds f) (sym e) (they-meet id k bs body ds f (subst IsStorable e s) (subst (λ (vs : List TermBind). Gathers id k body vs ds f) l t))

  pub known-told : IsStorable r → (x : Result (Option Found) AllocError) → IfOk x (λ o. MatchOption o (AreNotTaken us ds) (Gathers id k body us ds)) → IfOk x (λ o. MatchOption o (met (r ∷ ds) ≡ None) (IsMeeting r ds))
  known-told s (Err y) t = tt
  known-told s (Ok None) t = known-none t
  known-told s (Ok (Some f)) t = known-meet f s t
