-- Rows that are chosen meet.
use Rattle.std.proofs.Common.{◌≡◌, ℕ, suc, Bool, true, false, cond, List, [], ◌∷◌, ◌++◌, length, map as each, refl, ap, sym, ◌∙◌, subst, arith, inl, inr}
use Rattle.std.specs.Prelude.{◌||◌, ◌&&◌, ◌==◌, Some, option_and_then}
use Rattle.std.proofs.lemmas.Bool.Decides.{nat_tests}
use Rattle.std.specs.declared.alloc.Global.{Global}
use Rattle.std.specs.declared.vec.Vec.{Vec}
use Rattle.calculus.specs.declared.plain.Kind.{Kind}
use Rattle.calculus.specs.declared.plain.Kind.TheVariants as kinds
use Rattle.calculus.specs.declared.ids.Digest.{Digest}
use Rattle.calculus.specs.Tree.{Tree, trees}
use Rattle.calculus.specs.Shape.{listed}
use Rattle.calculus.specs.Matching.{Bindings}
use Rattle.calculus.specs.Rows.{Row}
use Rattle.calculus.specs.Steps.{PlacedRow, Datum, Receiver, Meeting, as_datum, as_data, bindings_of, all_bindings, all_persistent, meet, stays, peeks, receiver_leaving, data_leaving}
use Rattle.calculus.proofs.Placing.{listed-trees}
use Rattle.events.specs.Found.{alone, met, leaving_sends, leaving_rows, is_lasting, Among}
use Rattle.rho_term.specs.declared.op.Op.TheVariants as op
use Rattle.rho_term.specs.declared.term.TermBind.{TermBind}
use Rattle.rho_term.specs.Parts.{bind_tree}
use Rattle.rho_term.specs.Rows.{row_of_op}
use Rattle.row_search.specs.Rows.{is_lasting_datum, is_persistent, is_sent_on, IsIn}
use Rattle.row_search.specs.Choices.{Choice, AreChosen, bound_by, chosen_ids, gone_ids}
use Rattle.row_search.specs.Meetings.{rows_with, AllAmong}
use Rattle.row_search.proofs.Taking.{and_then}
use Rattle.row_search.proofs.Looping.{bytes_of, map-append}

-- the rows that are chosen
abbrev pub chosen_rows : List Choice → List Row
chosen_rows cs = each (λ c. c.0) cs

ids-are : (cs : List Choice) → chosen_ids cs ≡ each (λ d. d.id) (chosen_rows cs)
ids-are [] = refl
ids-are (c ∷ cs) = ap (λ l. c.0.id ∷ l) (ids-are cs)

-- what these rows are as data, and what they let bind and leave
pub record Data (k : Kind) (bs : List TermBind) (cs : List Choice) : Type 0 where
  pub sends : List Datum
  pub are : as_data (each alone (chosen_rows cs)) ≡ Some sends
  pub bind : all_bindings (each bind_tree bs) sends ≡ Some (bound_by cs)
  pub leave : each (λ r. r.id) (leaving_sends k (chosen_rows cs) sends) ≡ gone_ids k cs
  pub last : all_persistent sends ≡ (length (gone_ids kinds.Persistent cs) == 0)

leaving : (k : Kind) (c : Choice) (rs : List Row) (d : Datum) (ds : List Datum) (gs : List (List ℕ)) → as_datum c.0.part ≡ Some d → each (λ r. r.id) (leaving_sends k rs ds) ≡ gs
    → each (λ r. r.id) (cond (peeks k || d.persistent) (leaving_sends k rs ds) (c.0 ∷ leaving_sends k rs ds)) ≡ cond (peeks k || is_persistent c.0) gs (c.0.id ∷ gs)
leaving k c rs d ds gs e f =
    ap (λ v. each (λ (r : Row). r.id) (cond (peeks k || v) (leaving_sends k rs ds) (c.0 ∷ leaving_sends k rs ds))) (sym (ap is_lasting_datum e)) ∙ go (peeks k || is_persistent c.0)
  where
    go : (v : Bool) → each (λ (r : Row). r.id) (cond v (leaving_sends k rs ds) (c.0 ∷ leaving_sends k rs ds)) ≡ cond v gs (c.0.id ∷ gs)
    go true = f
    go false = ap (λ l. c.0.id ∷ l) f

none-of : (n : ℕ) → (suc n == 0) ≡ false
none-of n = grind (arith, nat_tests)

lasting : (c : Choice) (d : Datum) (ds : List Datum) (cs : List Choice) → as_datum c.0.part ≡ Some d → all_persistent ds ≡ (length (gone_ids kinds.Persistent cs) == 0)
    → d.persistent && all_persistent ds ≡ (length (gone_ids kinds.Persistent (c ∷ cs)) == 0)
lasting c d ds cs e f = ap (λ v. v && all_persistent ds) (sym (ap is_lasting_datum e)) ∙ go (is_persistent c.0)
  where
    go : (v : Bool) → v && all_persistent ds ≡ (length (cond v (gone_ids kinds.Persistent cs) (c.0.id ∷ gone_ids kinds.Persistent cs)) == 0)
    go true = f
    go false = sym (none-of (length (gone_ids kinds.Persistent cs)))

pub data-are : (k : Kind) (rs : List Row) (o : Row) (bs : List TermBind) (cs : List Choice) → AreChosen rs o bs cs → Data k bs cs
data-are k rs o [] [] h = record { sends = []; are = refl; bind = refl; leave = refl; last = refl }
data-are k rs o [] (c ∷ cs) h = absurd h
data-are k rs o (b ∷ bs) [] h = absurd h
data-are k rs o (b ∷ bs) (c ∷ cs) h =
    let n = data-are k rs o bs cs h.1 in
    let t = h.0 in
    let a = and_then (bindings_of (bind_tree b)) (as_datum c.0.part) c.1 t.1 in
    record {
      sends = a.0 ∷ n.sends;
      are = ap (λ x. option_and_then (λ (d : Datum). option_and_then (λ (ds : List Datum). Some (d ∷ ds)) (as_data (each alone (chosen_rows cs)))) x) a.1 ∙ ap (λ x. option_and_then (λ (ds : List Datum). Some (a.0 ∷ ds)) x) n.are;
      bind = ap (λ x. option_and_then (λ (xs : Bindings). option_and_then (λ (ys : Bindings). Some (xs ++ ys)) (all_bindings (each bind_tree bs) n.sends)) x) a.2 ∙ ap (λ x. option_and_then (λ (ys : Bindings). Some (c.1 ++ ys)) x) n.bind;
      leave = leaving k c (chosen_rows cs) a.0 n.sends (gone_ids k cs) a.1 n.leave;
      last = lasting c a.0 n.sends cs a.1 n.last;
    }

-- the receiver that these binds and this body make, as its part is read
abbrev pub receiver_of : Kind → List TermBind → Tree → Receiver
receiver_of k bs body = record { kind = k; binds = listed (trees (each bind_tree bs)); body = body }

-- a receiver's row meets the chosen rows
pub record Meets (k : Kind) (body : Tree) (cs : List Choice) (r : Row) : Type 0 where
  pub meeting : Meeting
  pub meets : met (r ∷ chosen_rows cs) ≡ Some meeting
  pub kind : meeting.receiver.kind ≡ k
  pub body_is : meeting.receiver.body ≡ body
  pub bound : meeting.bindings ≡ bound_by cs
  pub leave : each (λ q. q.id) (leaving_sends k (chosen_rows cs) meeting.sends) ≡ gone_ids k cs
  pub last : all_persistent meeting.sends ≡ (length (gone_ids kinds.Persistent cs) == 0)

pub meets-chosen : (id : Digest) (k : Kind) (bs : Vec TermBind Global) (body : Tree) (cs : List Choice) → Data k bs.items cs → Meets k body cs (row_of_op (op.Consume id k bs body))
meets-chosen id k bs body cs d =
    let r : Row = row_of_op (op.Consume id k bs body) in
    let rc : Receiver = receiver_of k bs.items body in
    let hs : List PlacedRow = each alone (chosen_rows cs) in
    let made : Bindings → Meeting = λ xs. record { receiver = rc; place = 0; sends = d.sends; bindings = xs; leaving = receiver_leaving k (alone r) ++ data_leaving k hs d.sends } in
    let all : all_bindings rc.binds d.sends ≡ Some (bound_by cs) = ap (λ (ts : List Tree). all_bindings ts d.sends) (listed-trees (each bind_tree bs.items)) ∙ d.bind in
    record {
      meeting = made (bound_by cs);
      meets = ap (λ x. option_and_then (λ (ds : List Datum). meet (alone r) hs rc ds) x) d.are ∙ ap (λ x. option_and_then (λ (xs : Bindings). Some (made xs)) x) all;
      kind = refl;
      body_is = refl;
      bound = refl;
      leave = d.leave;
      last = d.last;
    }

-- the ids of all that leaves
pub all-leave : (id : Digest) (k : Kind) (bs : Vec TermBind Global) (body : Tree) (cs : List Choice) (m : Meets k body cs (row_of_op (op.Consume id k bs body))) (gs hs : List Digest) → gs ≡ cond (stays k) [] (id ∷ []) ++ hs
    → bytes_of hs ≡ gone_ids k cs → bytes_of gs ≡ each (λ q. q.id) (leaving_rows m.meeting.receiver.kind m.meeting.sends (row_of_op (op.Consume id k bs body) ∷ chosen_rows cs))
all-leave id k bs body cs m gs hs e f =
    let r : Row = row_of_op (op.Consume id k bs body) in
    let fs = m.meeting.sends in
    let g : Row → List ℕ = λ q. q.id in
    let first : (v : Bool) → bytes_of (cond v [] (id ∷ [])) ≡ each g (cond v [] (r ∷ [])) = λ v. elim v as (λ w. bytes_of (cond w [] (id ∷ [])) ≡ each g (cond w [] (r ∷ []))) [ true ↦ refl | false ↦ refl ] in
    ap bytes_of e ∙ map-append (λ (d : Digest). d.0) (cond (stays k) [] (id ∷ [])) hs ∙ ap (λ l. l ++ bytes_of hs) (first (stays k)) ∙ ap (λ l. each g (cond (stays k) [] (r ∷ [])) ++ l) (f ∙ sym m.leave)
    ∙ sym (map-append g (cond (stays k) [] (r ∷ [])) (leaving_sends k (chosen_rows cs) fs)) ∙ ap (λ j. each g (leaving_rows j fs (r ∷ chosen_rows cs))) (sym m.kind)

length-bytes : (ds : List Digest) → length (bytes_of ds) ≡ length ds
length-bytes [] = refl
length-bytes (d ∷ ds) = omega (arith, length-bytes ds)

-- whether nothing leaves
pub all-last : (k : Kind) (cs : List Choice) (m : Meeting) (hs : List Digest) (v : Bool) → v ≡ (stays k && length hs == 0) → bytes_of hs ≡ gone_ids k cs → m.receiver.kind ≡ k
    → all_persistent m.sends ≡ (length (gone_ids kinds.Persistent cs) == 0) → v ≡ is_lasting m
all-last k cs m hs v e f g h = e ∙ go k f ∙ ap (λ j. stays j && all_persistent m.sends) (sym g)
  where
    go : (j : Kind) → bytes_of hs ≡ gone_ids j cs → (stays j && length hs == 0) ≡ stays j && all_persistent m.sends
    go kinds.Linear i = refl
    go kinds.Peek i = refl
    go kinds.Persistent i = ap (λ n. n == 0) (sym (length-bytes hs) ∙ ap length i) ∙ sym h

-- rows among those at hand and the operation
pub among-left : (o r : Row) (rs : List Row) → Among r rs → Among r (rows_with rs o)
among-left o r [] h = absurd h
among-left o r (q ∷ rs) (inl e) = inl e
among-left o r (q ∷ rs) (inr h) = inr (among-left o r rs h)

pub among-last : (o : Row) (rs : List Row) → Among o (rows_with rs o)
among-last o [] = inl refl
among-last o (q ∷ rs) = inr (among-last o rs)

candidate : (o r : Row) (rs : List Row) (v : Bool) → Among r (cond v (o ∷ []) rs) → Among r (rows_with rs o)
candidate o r rs true (inl e) = subst (λ (q : Row). Among q (rows_with rs o)) (sym e) (among-last o rs)
candidate o r rs true (inr h) = absurd h
candidate o r rs false h = among-left o r rs h

pub all-among : (rs : List Row) (o : Row) (bs : List TermBind) (cs : List Choice) → AreChosen rs o bs cs → AllAmong (chosen_rows cs) (rows_with rs o)
all-among rs o [] [] h = tt
all-among rs o [] (c ∷ cs) h = absurd h
all-among rs o (b ∷ bs) [] h = absurd h
all-among rs o (b ∷ bs) (c ∷ cs) h = (candidate o c.0 rs (is_sent_on b.channel o) h.0.0, all-among rs o bs cs h.1)

-- the operation is chosen where a bind is on its channel
pub takes-part : (rs : List Row) (o : Row) (b : TermBind) (bs : List TermBind) (cs : List Choice) → IsIn b bs → is_sent_on b.channel o ≡ true → AreChosen rs o bs cs → Among o (chosen_rows cs)
takes-part rs o b [] cs k e h = absurd k
takes-part rs o b (d ∷ bs) [] k e h = absurd h
takes-part rs o b (d ∷ bs) (c ∷ cs) (inl i) e h = go (is_sent_on d.channel o) (ap (λ (x : TermBind). is_sent_on x.channel o) (sym i) ∙ e) h.0.0
  where
    go : (v : Bool) → v ≡ true → Among c.0 (cond v (o ∷ []) rs) → Among o (chosen_rows (c ∷ cs))
    go true f (inl g) = inl (sym g)
    go true f (inr g) = absurd g
    go false f g = cc
takes-part rs o b (d ∷ bs) (c ∷ cs) (inr i) e h = inr (takes-part rs o b bs cs i e h.1)

-- the ids of the sends, as they were kept
pub ids-kept : (ds : List Digest) (cs : List Choice) → bytes_of ds ≡ chosen_ids cs → bytes_of ds ≡ each (λ d. d.id) (chosen_rows cs)
ids-kept ds cs e = e ∙ ids-are cs
