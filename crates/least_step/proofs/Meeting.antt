-- The least data of a receiver, and the least receiver.
use Rattle.std.proofs.Common.{◌≡◌, ℕ, Bool, true, false, cond, List, [], ◌∷◌, ◌++◌, map as each, All, refl, ap, sym, ◌∙◌, subst, inl, inr}
use Rattle.std.specs.Prelude.{Option, Some, None, is_some, IsSome}
use Rattle.std.specs.Str.{bytes_eq}
use Rattle.std.specs.declared.alloc.Global.{Global}
use Rattle.std.specs.declared.vec.Vec.{Vec}
use Rattle.calculus.specs.declared.plain.Kind.{Kind}
use Rattle.calculus.specs.declared.ids.Digest.{Digest}
use Rattle.calculus.specs.Candidates.{ids_up_to}
use Rattle.calculus.specs.Matching.{Bindings}
use Rattle.calculus.specs.Order.{up_to}
use Rattle.calculus.specs.Rows.{Row}
use Rattle.calculus.specs.Steps.{Meeting}
use Rattle.calculus.specs.Storing.{IsStorable}
use Rattle.calculus.specs.Tree.{Tree}
use Rattle.events.proofs.Counts.{same_bytes}
use Rattle.events.specs.Found.{met, Among}
use Rattle.rho_term.specs.declared.op.Op.TheVariants as op
use Rattle.rho_term.specs.declared.term.TermBind.{TermBind}
use Rattle.rho_term.specs.Parts.{bind_tree}
use Rattle.rho_term.specs.Rows.{row_of_op}
use Rattle.row_search.specs.Choices.{Choice, takes, AreChosen, Picks}
use Rattle.row_search.specs.Meetings.{rows_with, AllAmong}
use Rattle.found_rows.specs.AtHand.{IdsTell}
use Rattle.row_search.specs.Rows.{is_sent_on, IsIn}
use Rattle.row_search.proofs.Complete.{AreMet, Takes, receiver-takes, whose}
use Rattle.row_search.proofs.Distinct.{differs}
use Rattle.row_search.proofs.Known.{binds-apart}
use Rattle.row_search.proofs.Sound.{chosen_rows, data-are, meets-chosen}
use Rattle.least_step.specs.declared.least.LeastStep.{LeastStep}
use Rattle.least_step.specs.Orders.{ids_of, IsBefore, AreAscending}
use Rattle.least_step.specs.Choosing.{AreLeastTaken, IsLeastTaken, OneTakesNone}
use Rattle.least_step.specs.Meeting.{IsLeastMeeting, IsLeastWith, MeetsNone, NoneMeets}
use Rattle.least_step.proofs.Choosing.{all-after, an-option, among-all, not-some, some-none, where-is, up_to_itself, stands-there}

pub one-among : (d : Row) (ds qs : List Row) → AllAmong ds qs → Among d ds → Among d qs
one-among d [] qs h k = absurd k
one-among d (c ∷ ds) qs h (inl e) = subst (λ (r : Row). Among r qs) (sym e) h.0
one-among d (c ∷ ds) qs h (inr k) = one-among d ds qs h.1 k

-- a bind of a receiver takes one of the rows that this meets
bind-takes : (b : TermBind) (bs : List TermBind) (ds : List Row) → IsIn b bs → AreMet (each bind_tree bs) ds → (d : Row) × Among d ds × Takes (bind_tree b) d
bind-takes b [] ds k h = absurd k
bind-takes b (c ∷ bs) [] k h = absurd h
bind-takes b (c ∷ bs) (d ∷ ds) (inl e) h = (d, inl refl, subst (λ (x : TermBind). Takes (bind_tree x) d) (sym e) h.0)
bind-takes b (c ∷ bs) (d ∷ ds) (inr k) h = let n = bind-takes b bs ds k h.1 in (n.0, inr n.1, n.2)

there-is : (x : Option Bindings) → ((ys : Bindings) × (x ≡ Some ys)) → IsSome x
there-is x t = ap is_some t.1

-- choices for these binds, which are the least in turn
record Chosen (rows : List Row) (it : Row) (bs : List TermBind) (ids : List Digest) : Type 0 where
  pub choices : List Choice
  pub are : AreChosen rows it bs choices
  pub at_hand : AllAmong (chosen_rows choices) rows
  pub ids_are : each (λ d. d.0) ids ≡ ids_of (chosen_rows choices)
  pub least : (ds : List Row) → AllAmong ds rows → AreMet (each bind_tree bs) ds → ids_up_to (ids_of (chosen_rows choices)) (ids_of ds) ≡ true

first-decides : (x y : List ℕ) (xs ys : List (List ℕ)) → up_to x y ≡ true → ids_up_to xs ys ≡ true → ids_up_to (x ∷ xs) (y ∷ ys) ≡ true
first-decides x y xs ys h k = go (bytes_eq x y)
  where
    go : (v : Bool) → cond v (ids_up_to xs ys) (up_to x y) ≡ true
    go true = k
    go false = h

module _ (rows : List Row) (it : Row) (off : (b : TermBind) → is_sent_on b.channel it ≡ false) where
  picked : (b : TermBind) (r : Row) (xs : Bindings) → Among r rows → takes b r ≡ Some xs → Picks rows it b (r, xs)
  picked b r xs k e = (subst (λ (v : Bool). Among r (cond v (it ∷ []) rows)) (sym (off b)) k, e)

  chosen : (bs : List TermBind) (ids : List Digest) → AreLeastTaken rows bs ids → Chosen rows it bs ids
  chosen [] [] h = record { choices = []; are = tt; at_hand = tt; ids_are = refl; least = λ ds k m. refl }
  chosen [] (d ∷ ds) h = absurd h
  chosen (b ∷ bs) [] h = absurd h
  chosen (b ∷ bs) (d ∷ ds) h =
      let n = chosen bs ds h.1 in
      let f = h.0 in
      let xs = an-option (takes b f.send) f.taken in
      record {
        choices = (f.send, xs.0) ∷ n.choices;
        are = (picked b f.send xs.0 f.among xs.1, n.are);
        at_hand = (f.among, n.at_hand);
        ids_are = ap (λ (x : List ℕ). x ∷ each (λ (y : Digest). y.0) ds) f.id_is ∙ ap (λ l. f.send.id ∷ l) n.ids_are;
        least = λ es k m. one f n es k m;
      }
    where
      one : (f : IsLeastTaken rows b d) (n : Chosen rows it bs ds) (es : List Row) → AllAmong es rows → AreMet (bind_tree b ∷ each bind_tree bs) es → ids_up_to (f.send.id ∷ ids_of (chosen_rows n.choices)) (ids_of es) ≡ true
      one f n [] k m = absurd m
      one f n (e ∷ es) k m = first-decides f.send.id e.id (ids_of (chosen_rows n.choices)) (ids_of es) (f.least e k.0 (there-is (takes b e) m.0)) (n.least es k.1 m.1)

-- an id tells which of the rows it is where ids ascend
pub tells : (rows : List Row) → AreAscending rows → IdsTell rows
tells [] a p q h k e = absurd h
tells (r ∷ rows) a p q (inl h) (inl k) e = h ∙ sym k
tells (r ∷ rows) a p q (inl h) (inr k) e =
    let f : bytes_eq r.id q.id ≡ false = (among-all (IsBefore r) q rows a.0 k).0 in
    let g : bytes_eq r.id q.id ≡ true = same_bytes r.id q.id (ap (λ (x : Row). x.id) (sym h) ∙ e) in
    cc
tells (r ∷ rows) a p q (inr h) (inl k) e =
    let f : bytes_eq r.id p.id ≡ false = (among-all (IsBefore r) p rows a.0 h).0 in
    let g : bytes_eq r.id p.id ≡ true = same_bytes r.id p.id (ap (λ (x : Row). x.id) (sym k) ∙ sym e) in
    cc
tells (r ∷ rows) a p q (inr h) (inr k) e = tells rows a.1 p q h k e

tells-with : (rows : List Row) (o : Row) → Among o rows → IdsTell rows → IdsTell (rows_with rows o)
tells-with rows o m t a b h k e = t a b (back a h) (back b k) e
  where
    back : (r : Row) → Among r (rows_with rows o) → Among r rows
    back r i = elim (whose r rows o i) [ inl a ↦ a | inr e ↦ subst (λ (q : Row). Among q rows) (sym e) m ]

-- what receivers meet, of this id, kind, binds and body
module _ (rows : List Row) (r : Row) (id : Digest) (k : Kind) (bs : Vec TermBind Global) (body : Tree) (e : r ≡ row_of_op (op.Consume id k bs body)) where
  abbrev it : Row
  it = row_of_op (op.Consume id k bs body)

  pub meets-none : OneTakesNone rows bs.items → MeetsNone rows r
  meets-none n ds h = ap (λ (q : Row). met (q ∷ ds)) e ∙ not-some (met (it ∷ ds)) (λ t. go (an-option (met (it ∷ ds)) t))
    where
      go : ((m : Meeting) × (met (it ∷ ds) ≡ Some m)) → ⊥
      go m =
          let b = bind-takes n.0 bs.items ds n.1 (receiver-takes id k bs body ds m.0 m.1) in
          let f : takes n.0 b.0 ≡ None = n.2 b.0 (one-among b.0 ds rows h b.1) in
          cc (f, b.2.1)

  pub meets-least : IsStorable r → AreAscending rows → Among r rows → (f : LeastStep) → f.cont.0 ≡ r.id → AreLeastTaken rows bs.items f.taken.items → IsLeastWith rows r f
  meets-least s a m f i l =
      let c = chosen rows it (λ b. refl) bs.items f.taken.items l in
      let n = meets-chosen id k bs body c.choices (data-are k rows it bs.items c.choices c.are) in
      record {
        sends = chosen_rows c.choices;
        at_hand = c.at_hand;
        cont = i;
        taken = c.ids_are;
        differs = differs rows it (tells-with rows it (subst (λ (q : Row). Among q rows) e m) (tells rows a)) bs.items c.choices (binds-apart r id k bs body e s) c.are;
        meets = subst (λ (q : Row). IsSome (met (q ∷ chosen_rows c.choices))) (sym e) (ap is_some n.meets);
        least = λ ds h t.
            let g = an-option (met (it ∷ ds)) (subst (λ (q : Row). IsSome (met (q ∷ ds))) e t) in
            c.least ds h (receiver-takes id k bs body ds g.0 g.1);
      }

-- of receivers in the order of their ids the first that meets rows has the least list
pub first-meeting : (before : List Row) (q : Row) (after : List Row) (f : LeastStep) → AreAscending (before ++ q ∷ after) → All (MeetsNone (before ++ q ∷ after)) before → IsLeastWith (before ++ q ∷ after) q f → IsLeastMeeting (before ++ q ∷ after) f
first-meeting before q after f a n l = record {
  receiver = q;
  sends = l.sends;
  at_hand = (stands-there before q after, l.at_hand);
  cont = l.cont;
  taken = l.taken;
  differs = l.differs;
  meets = l.meets;
  least = λ r ds h s.
      elim (where-is r before q after h.0) [
        | inl k ↦ absurd (some-none (met (r ∷ ds)) s (among-all (MeetsNone (before ++ q ∷ after)) r before n k ds h.1))
        | inr (inl e) ↦
            first-decides q.id r.id (ids_of l.sends) (ids_of ds) (subst (λ (p : Row). up_to q.id p.id ≡ true) (sym e) (up_to_itself q.id)) (l.least ds h.1 (subst (λ (p : Row). IsSome (met (p ∷ ds))) e s))
        | inr (inr k) ↦ later q.id r.id (ids_of l.sends) (ids_of ds) (among-all (IsBefore q) r after (all-after before q after a) k)
      ];
}
  where
    later : (x y : List ℕ) (xs ys : List (List ℕ)) → (bytes_eq x y ≡ false) × (up_to x y ≡ true) → ids_up_to (x ∷ xs) (y ∷ ys) ≡ true
    later x y xs ys h = ap (λ (v : Bool). cond v (ids_up_to xs ys) (up_to x y)) h.0 ∙ h.1

-- none meet where no receiver does
pub none-meet : (rows : List Row) → All (MeetsNone rows) rows → NoneMeets rows
none-meet rows a r k = among-all (MeetsNone rows) r rows a k
