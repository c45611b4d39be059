-- What a receiver's search answers, and what the whole search does.
use Rattle.std.proofs.Common.{◌≡◌, ℕ, Bool, true, false, List, [], ◌∷◌, map as each, refl, sym, ap, ◌∙◌, subst, inl, inr}
use Rattle.std.specs.Prelude.{◌⊎◌, All, Option, Some, None, is_some, MatchOption, Result, Ok, Err, IfOk}
use Rattle.std.specs.declared.alloc.AllocError.{AllocError}
use Rattle.std.specs.declared.alloc.Global.{Global}
use Rattle.std.specs.declared.vec.Vec.{Vec}
use Rattle.calculus.specs.declared.plain.Kind.{Kind}
use Rattle.calculus.specs.declared.ids.Digest.{Digest}
use Rattle.calculus.specs.Tree.{Tree}
use Rattle.calculus.specs.Rows.{Row}
use Rattle.calculus.specs.Steps.{Datum, as_datum}
use Rattle.calculus.specs.Storing.{IsStorable}
use Rattle.events.specs.Found.{met, Among}
use Rattle.rho_term.specs.declared.op.Op.TheVariants as op
use Rattle.rho_term.specs.declared.term.TermBind.{TermBind}
use Rattle.rho_term.specs.Rows.{row_of_op}
use Rattle.process_laws.specs.StorableLaws.{AreApart}
use Rattle.row_search.specs.declared.choices.Joined.{Joined}
use Rattle.found_rows.specs.declared.found.Found.{Found}
use Rattle.row_search.specs.Rows.{is_heard_on, is_sent_on, looked_up, HasReceivers}
use Rattle.row_search.specs.Choices.{Choice, Fails, Joins}
use Rattle.row_search.specs.Meetings.{rows_with, Finishes, HearsOrIs, IsFound, IsSendOn, MayMeet, MeetsNone, MeetsNothing}
use Rattle.row_search.proofs.Known.{all-in, bind_channels, binds-apart, heard-is, sent-datum}
use Rattle.row_search.proofs.Looping.{in-rows}
use Rattle.row_search.proofs.Apart.{no-both, on-one}
use Rattle.row_search.proofs.Sound.{all-among, all-last, all-leave, chosen_rows, data-are, ids-kept, meets-chosen, takes-part}
use Rattle.row_search.proofs.Complete.{no-choice, receiver-takes, whose}
use Rattle.row_search.proofs.Distinct.{differs}
use Rattle.row_search.proofs.Heard.{datum-of, no-datum, none-if, not-heard-none, send-none}
use Rattle.std.proofs.lemmas.List.Elements.{All-nil, All-cons, All-head, All-tail}

-- the rows that are chosen may be stored
chosen-storable : (cs : List Choice) → All (λ c. IsStorable c.0) cs → All IsStorable (chosen_rows cs)
chosen-storable [] h = All-nil IsStorable
chosen-storable (c ∷ cs) h = All-cons IsStorable c.0 (chosen_rows cs) (All-head (λ (y : Choice). IsStorable y.0) c cs h) (chosen-storable cs (All-tail (λ (y : Choice). IsStorable y.0) c cs h))

module _ (rs : List Row) (o : Row) (id : Digest) (k : Kind) (bs : Vec TermBind Global) (body : Tree) where
  abbrev it : Row
  it = row_of_op (op.Consume id k bs body)

  none-meets : AreApart (bind_channels bs.items) → Fails rs o bs.items → MeetsNone rs o it
  none-meets a f ds h p = none-if (met (it ∷ ds)) (λ m e. no-choice rs o bs.items ds h (receiver-takes id k bs body ds m e) a (λ b g. beside b g p) f)
    where
      -- beside a receiver a send stands among the data
      beside : (b : TermBind) → is_sent_on b.channel o ≡ true → Among o (it ∷ ds) → Among o ds
      beside b g (inl e) = absurd (no-both (is_sent_on b.channel o) g (ap (is_sent_on b.channel) e))
      beside b g (inr i) = i

  -- the operation takes part
  in_part : (j : Joined) (g : Joins rs o k bs.items j) → MayMeet it o → Among o (it ∷ chosen_rows g.chosen)
  in_part j g m = go (as_datum o.part) refl m
    where
      go : (x : Option Datum) → as_datum o.part ≡ x → HearsOrIs it o x → Among o (it ∷ chosen_rows g.chosen)
      go None e n = inl (sym n)
      go (Some d) e n =
          let b = on-one d.channel bs.items (sym (heard-is d.channel id k bs body) ∙ n) in
          inr (takes-part rs o b.0 bs.items g.chosen b.1 (sent-datum b.0.channel o d e ∙ b.2) g.are)

  some-meets : (j : Joined) (f : Found) → IsStorable it → AreApart (bind_channels bs.items) → MayMeet it o → Among it (rows_with rs o) → Joins rs o k bs.items j → Finishes id k body j f → IsFound rs o f
  some-meets j f s a may h g w =
      let cs = g.chosen in
      let m = meets-chosen id k bs body cs (data-are k rs o bs.items cs g.are) in
      record {
        receiver = it;
        sends = chosen_rows cs;
        at_hand = (h, all-among rs o bs.items cs g.are);
        part = in_part j g may;
        storable = All-cons IsStorable it (chosen_rows cs) s (chosen-storable cs g.is.storable);
        differs = λ t. differs rs o t bs.items cs a g.are;
        meeting = m.meeting;
        meets = m.meets;
        cont = ap (λ (d : Digest). d.0) w.cont;
        taken = ap (each (λ (d : Digest). d.0)) w.taken ∙ ids-kept j.taken.items cs g.is.taken;
        bound = w.bound ∙ g.is.bound ∙ sym m.bound;
        body = w.body_is ∙ sym m.body_is;
        gone = all-leave id k bs body cs m f.gone.items j.gone.items w.gone g.is.gone;
        lasting = all-last k cs m.meeting j.gone.items f.lasting w.lasting g.is.gone m.kind m.last;
      }

-- the same for a row that is known to be a receiver, and a lent slice of its binds
module _ (rs : List Row) (o r : Row) (id : Digest) (k : Kind) (bs : Vec TermBind Global) (body : Tree) (us : List TermBind) (e : r ≡ row_of_op (op.Consume id k bs body)) (l : us ≡ bs.items) (s : IsStorable r) where
  pub lent-none : (x : Option Joined) → x ≡ None → MatchOption x (Fails rs o us) (Joins rs o k us) → MeetsNone rs o r
  lent-none x n h =
      let f : Fails rs o us = subst (λ (y : Option Joined). MatchOption y (Fails rs o us) (Joins rs o k us)) n h in
      subst (λ (q : Row). MeetsNone rs o q) (sym e) (none-meets rs o id k bs body (binds-apart r id k bs body e s) (subst (λ (vs : List TermBind). Fails rs o vs) l f))

  pub lent-some : (x : Option Joined) (j : Joined) (f : Found) → x ≡ Some j → MatchOption x (Fails rs o us) (Joins rs o k us) → MayMeet r o → Among r (rows_with rs o) → Finishes id k body j f → IsFound rs o f
  lent-some x j f n h m a w =
      let g : Joins rs o k us j = subst (λ (y : Option Joined). MatchOption y (Fails rs o us) (Joins rs o k us)) n h in
      some-meets rs o id k bs body j f (subst IsStorable e s) (binds-apart r id k bs body e s) (subst (λ (q : Row). MayMeet q o) e m) (subst (λ (q : Row). Among q (rows_with rs o)) e a) (subst (λ (vs : List TermBind). Joins rs o k vs j) l g) w

-- a send meets no receiver that is a send
pub send-meets-none : (rs : List Row) (o r : Row) (id : Digest) (c : Tree) (xs : Vec Tree Global) (q : Bool) → r ≡ row_of_op (op.Produce id c xs q) → MeetsNone rs o r
send-meets-none rs o r id c xs q e ds h p = ap (λ (s : Row). met (s ∷ ds)) e

-- who hears a send may meet it
pub heard-may : (c : Tree) (r o : Row) → IsSendOn c o → is_heard_on c r ≡ true → MayMeet r o
heard-may c r o s e = let d = datum-of c o s in subst (HearsOrIs r o) (sym d.1) (ap (λ (x : Tree). is_heard_on x r) d.2 ∙ e)

-- a send meets nothing where it does with no receiver at hand on its channel
pub send-meets-nothing : (rs : List Row) (xs : List (List ℕ)) (o : Row) (c : Tree) → IsSendOn c o → HasReceivers rs c xs → All (λ r. MeetsNone rs o r) (looked_up rs xs) → MeetsNothing rs o
send-meets-nothing rs xs o c s w a r ds h p = go (whose r rs o h.0)
  where
    each_none : (q : Row) → Among q rs → (v : Bool) → is_heard_on c q ≡ v → MeetsNone rs o q
    each_none q i true e = all-in (λ u. MeetsNone rs o u) q (looked_up rs xs) a (in-rows q (looked_up rs xs) (w q i e))
    each_none q i false e = not-heard-none rs c o q s e

    go : Among r rs ⊎ (r ≡ o) → met (r ∷ ds) ≡ None
    go (inl i) = each_none r i (is_heard_on c r) refl ds h.1 p
    go (inr e) = ap (λ q. met (q ∷ ds)) e ∙ send-none c o ds s

-- a receive meets nothing where it does not as the receiver
receive-meets-nothing : (rs : List Row) (o : Row) → as_datum o.part ≡ None → MeetsNone rs o o → MeetsNothing rs o
receive-meets-nothing rs o e a r ds h p = go p
  where
    go : Among o (r ∷ ds) → met (r ∷ ds) ≡ None
    go (inl f) = ap (λ q. met (q ∷ ds)) (sym f) ∙ a ds h.1 (inl refl)
    go (inr g) = no-datum o r ds e g

module _ (rs : List Row) (o : Row) (id : Digest) (k : Kind) (bs : Vec TermBind Global) (body : Tree) (e : o ≡ row_of_op (op.Consume id k bs body)) where
  no-datum-of : as_datum o.part ≡ None
  no-datum-of = ap (λ (r : Row). as_datum r.part) e

  pub may-itself : MayMeet o o
  may-itself = subst (HearsOrIs o o) (sym no-datum-of) refl

  pub itself-answers : (x : Result (Option Found) AllocError) → IfOk x (λ y. MatchOption y (MeetsNone rs o o) (IsFound rs o)) → IfOk x (λ y. MatchOption y (MeetsNothing rs o) (IsFound rs o))
  itself-answers (Err y) h = tt
  itself-answers (Ok None) h = receive-meets-nothing rs o no-datum-of h
  itself-answers (Ok (Some f)) h = h

-- what found nothing says so
pub missed-none : {A : Type 0} (x : Option A) (P : Type 0) (Q : A → Type 0) → is_some x ≡ false → MatchOption x P Q → P
missed-none None P Q e h = h
missed-none (Some y) P Q e h = cc
