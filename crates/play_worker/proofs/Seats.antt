-- What a seat knows from one turn to the next.
use Rattle.std.proofs.Common.{◌≡◌, ◌≤◌, ℕ, zero, suc, ◌+◌, Bool, true, false, List, [], ◌∷◌, ◌++◌, drop, length, refl, sym, ap, subst, ◌∙◌, arith, length-append, Option}
use Rattle.std.proofs.lemmas.List.{drop-append-le}
use Rattle.calculus.specs.Rows.{Row}
use Rattle.group_locks.specs.declared.state.SeatState.{SeatState}
use Rattle.hub_rule.specs.Counts.{things_of}
use Rattle.hub_rule.specs.Rule.{kept_if}
use Rattle.group_locks.specs.Seats.{home_of, drawn_by, tally_of, pile_of, taken_by, offered_by, took_by, due_of}
use Rattle.play_hub.specs.declared.entry.PlayEntry.{PlayEntry}
use Rattle.play_draws.specs.declared.drawing.Drawn.{Drawn}
use Rattle.play_draws.specs.Making.{IsAgain}
use Rattle.play_draws.specs.Turns.{HasWork, IsDrawn, IsSame}

things-both : {A : Type 0} (xs ys : List (ℕ × A)) → things_of (xs ++ ys) ≡ things_of xs ++ things_of ys
things-both [] ys = refl
things-both (x ∷ xs) ys = ap (λ l. x.1 ∷ l) (things-both xs ys)

module _ {X : Type 0} where
  -- the work stays in hand over an entry that does not end it
  pub stays-on : (from : ℕ) (o : Row) (before mid new : SeatState PlayEntry X Row) (d : Drawn) → HasWork o from before → IsDrawn from before mid d → d.ends ≡ false
      → taken_by new ≡ taken_by mid → took_by new ≡ took_by mid → offered_by new ≡ [] → due_of new ≡ [] → drawn_by new ≡ drawn_by mid
      → HasWork o from new × IsAgain (drop from (drawn_by new)) d.again
  stays-on from o before mid new d w i ends taken took offered due drawn = (
    record {
      index = w.index;
      taken = taken ∙ i.taken ∙ ap (λ b. kept_if b (taken_by before)) ends ∙ w.taken;
      offered = offered;
      due = due;
      since = subst (λ l. from ≤ length l) (sym all) (omega (arith, w.since, length-append (drawn_by before) ((i.number, i.entry) ∷ [])));
      took = ap things_of later ∙ things-both (drop from (drawn_by before)) ((i.number, i.entry) ∷ []) ∙ ap (λ l. l ++ i.entry ∷ []) w.took ∙ sym (took ∙ i.took);
    },
    subst (λ l. IsAgain l d.again) (sym later) i.again,
  )
    where
      all : drawn_by new ≡ drawn_by before ++ (i.number, i.entry) ∷ []
      all = drawn ∙ i.drawn

      later : drop from (drawn_by new) ≡ drop from (drawn_by before) ++ (i.number, i.entry) ∷ []
      later = ap (drop from) all ∙ drop-append-le from (drawn_by before) ((i.number, i.entry) ∷ []) w.since

  -- what is drawn stays so as the shards go home
  pub drawn-home : (from : ℕ) (before mid new : SeatState PlayEntry X Row) (d : Drawn) → IsDrawn from before mid d → home_of new ≡ home_of mid → drawn_by new ≡ drawn_by mid → tally_of new ≡ tally_of mid → pile_of new ≡ pile_of mid
      → IsDrawn from before new d
  drawn-home from before mid new d i home drawn tally pile = record {
    number = i.number;
    entry = i.entry;
    home = home ∙ i.home;
    drawn = drawn ∙ i.drawn;
    due = ap (λ t. t.due) tally ∙ i.due;
    taken = ap (λ p. p.taken) pile ∙ i.taken;
    offered = ap (λ p. things_of p.offered) pile ∙ i.offered;
    took = ap (λ p. p.took) pile ∙ i.took;
    price = i.price;
    fault = i.fault;
    again = i.again;
  }

  -- the work stays in hand as shards are taken
  pub work-same : (from : ℕ) (o : Row) (old new : SeatState PlayEntry X Row) → IsSame old new → HasWork o from old → HasWork o from new
  work-same from o old new s w = record {
    index = w.index;
    taken = ap (λ p. p.taken) s.works ∙ w.taken;
    offered = ap (λ p. p.offered) s.works ∙ w.offered;
    due = ap (λ t. t.due) s.tally ∙ w.due;
    since = subst (λ l. from ≤ length l) (sym s.drawn) w.since;
    took = ap (λ l. things_of (drop from l)) s.drawn ∙ w.took ∙ sym (ap (λ p. p.took) s.works);
  }
