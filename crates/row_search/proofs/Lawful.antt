-- What is found among the rows of a core is an event of it.
use Rattle.std.proofs.Common.{◌≡◌, List, [], ◌∷◌, ◌++◌, refl, sym, ap, ◌∙◌, subst, inl, inr}
use Rattle.std.specs.Prelude.{◌⊎◌, Some}
use Rattle.calculus.specs.Rows.{Row, stdout, stdout_ack}
use Rattle.events.specs.Found.{Among, AreAtHand}
use Rattle.events.proofs.Counts.{ids, AreDistinct}
use Rattle.events.proofs.Lookups.{row_with, row_with-there}
use Rattle.events.proofs.EventFollowing.{operation-distinct}
use Rattle.events.proofs.Keeping.{kept-all}
use Rattle.events.proofs.Making.{lonely_operations_are_stored, meetings_are_steps, member}
use Rattle.row_search.specs.Meetings.{rows_with, AllAmong}
use Rattle.found_rows.specs.AtHand.{IdsTell}
use Rattle.row_search.specs.Laws.{HoldRows, NothingIsAtHand, FoundIsAtHand, NothingIsStored, FoundIsNext}
use Rattle.row_search.proofs.Sound.{among-last, among-left}
use Rattle.row_search.proofs.Complete.{whose}

-- all that an operation may meet or be
abbrev hand : List Row → Row → List Row
hand store o = store ++ (stdout ∷ stdout_ack ∷ o ∷ [])

one_more : (r : Row) (store : List Row) (o : Row) → Among r (store ++ (stdout ∷ stdout_ack ∷ [])) → Among r (hand store o)
one_more r [] o (inl e) = inl e
one_more r [] o (inr (inl e)) = inr (inl e)
one_more r [] o (inr (inr h)) = absurd h
one_more r (q ∷ store) o (inl e) = inl e
one_more r (q ∷ store) o (inr h) = inr (one_more r store o h)

itself : (store : List Row) (o : Row) → Among o (hand store o)
itself [] o = inr (inr (inl refl))
itself (q ∷ store) o = inr (itself store o)

one_less : (r : Row) (store : List Row) (o : Row) → Among r (hand store o) → Among r (store ++ (stdout ∷ stdout_ack ∷ [])) ⊎ (r ≡ o)
one_less r [] o (inl e) = inl (inl e)
one_less r [] o (inr (inl e)) = inl (inr (inl e))
one_less r [] o (inr (inr (inl e))) = inr e
one_less r [] o (inr (inr (inr h))) = absurd h
one_less r (q ∷ store) o (inl e) = inl (inl e)
one_less r (q ∷ store) o (inr h) = elim (one_less r store o h) [ inl k ↦ inl (inr k) | inr e ↦ inr e ]

module _ (store rows : List Row) (k : HoldRows store rows) (o : Row) where
  to_hand : (r : Row) → Among r (rows_with rows o) → Among r (hand store o)
  to_hand r h =
      elim (whose r rows o h) [
        | inl a ↦ one_more r store o (k.only r a)
        | inr e ↦ subst (λ (q : Row). Among q (hand store o)) (sym e) (itself store o)
      ]

  from_hand : (r : Row) → Among r (hand store o) → Among r (rows_with rows o)
  from_hand r h =
      elim (one_less r store o h) [
        | inl g ↦ among-left o r rows (k.all r g)
        | inr e ↦ subst (λ (q : Row). Among q (rows_with rows o)) (sym e) (among-last o rows)
      ]

  all_to : (rs : List Row) → AllAmong rs (rows_with rows o) → AreAtHand store o rs
  all_to [] h = tt
  all_to (r ∷ rs) h = (to_hand r h.0, all_to rs h.1)

  all_from : (rs : List Row) → AreAtHand store o rs → AllAmong rs (rows_with rows o)
  all_from [] h = tt
  all_from (r ∷ rs) h = (from_hand r h.0, all_from rs h.1)

pub nothing_is_at_hand : NothingIsAtHand
nothing_is_at_hand store rows k o n r ds h p = n r ds (all_from store rows k o (r ∷ ds) h) p

pub found_is_at_hand : FoundIsAtHand
found_is_at_hand store rows k o f i = record {
  receiver = i.receiver;
  sends = i.sends;
  at_hand = all_to store rows k o (i.receiver ∷ i.sends) i.at_hand;
  part = i.part;
  storable = i.storable;
  differs = λ t. i.differs (λ a b h g. t a b (to_hand store rows k o a h) (to_hand store rows k o b g));
  meeting = i.meeting;
  meets = i.meets;
  cont = i.cont;
  taken = i.taken;
  bound = i.bound;
  body = i.body;
  gone = i.gone;
  lasting = i.lasting;
}

tell : (store : List Row) (o : Row) → AreDistinct (ids (hand store o)) → IdsTell (hand store o)
tell store o d a b h g e =
    let l = hand store o in
    let same : Some a ≡ Some b = sym (row_with-there a l d (member a l h)) ∙ ap (λ x. row_with x l) e ∙ row_with-there b l d (member b l g) in
    cc

pub nothing_is_stored : NothingIsStored
nothing_is_stored deploy w c b es f o before after e rows k n =
    lonely_operations_are_stored deploy w c b es f o before after e (λ r ds h a d. nothing_is_at_hand c.store rows k o n r ds h a)

pub found_is_next : FoundIsNext
found_is_next deploy w c b es f o before after e rows k found i =
    let d : AreDistinct (ids (hand c.store o)) = operation-distinct deploy c (kept-all deploy w c b es f) f o before after e in
    let m = found_is_at_hand c.store rows k o found i in
    let steps = meetings_are_steps deploy w c b es f o before after e m.receiver m.sends m.at_hand m.part (m.differs (tell c.store o d)) m.meeting m.meets in
    record { found = m; event = λ v room g. (steps v room g).0; first = λ v room g l. (steps v room g).1 (sym m.lasting ∙ l) }
