-- Entries are charged, the hub is stopped, and both words are read, under the rule.
use Rattle.std.proofs.Common.{◌≡◌, ℕ, zero, suc, ◌+◌, ◌*◌, ◌%◌, ◌^◌, ◌<◌, ◌≤◌, ◌⊎◌, Bool, true, cond, List, [], ◌∷◌, ◌++◌, length, set, get_or, refl, sym, ap, subst, arith, eqb, eq-eqb, ne_eqb, ⊎_elim, inl, inr, Some, None, get_or-set_same, get_or-set_other}
use Rattle.std.specs.Prelude.{slice_get}
use mathlib.Core.Option.{some, none}
use mathlib.Core.Logic.{dite}
use native.Mathlib.Decide.{ℕ_discrete, dec_le}
use prog.Atomic.{either}
use lib.ListN.{get_elem?}
use Rattle.atomic_table.specs.Table.{State, Me, Act, keeps, step, stepped, Allows, Valid, carried_after}
use Rattle.atomic_table.proofs.Lists.{exchanged}
use Rattle.hub_rule.specs.declared.slot.Slot.{Slot}
use Rattle.hub_rule.specs.declared.view.View.{View}
use Rattle.hub_rule.specs.declared.view.Tally.{Tally}
use Rattle.hub_rule.specs.declared.terms.Terms.{Terms}
use Rattle.hub_rule.specs.Counts.{one_if, things_of, Each}
use Rattle.hub_rule.specs.Meaning.{Meaning}
use Rattle.hub_rule.specs.Rule.{with_tally, cost, ChargeRule, StopRule, FaultIn, HubRule, pays, saw_over, saw_low, saw_stopped, Paid, ReadCharged, ReadStop, Stopped}
use Rattle.hub_rule.proofs.Sums.{empty_list, total_le, total_times, total_both}
use Rattle.hub_rule.proofs.Tallies.{charges_set, charges_stay, stops_set, stops_stay, tally_step}

module _ {Store E X W : Type 0} (m : Meaning Store E X W) where
  -- the charged word doesn't wrap
  charge_bounded : (opened : List X × List W) (terms : Terms) (s : State (Slot X W) (View E X W)) → HubRule m opened terms s → get_or s.words 1 0 < 2 ^ 63
  charge_bounded opened terms s b =
      let a = total_le (λ v. cost m.price v.tally.fresh) (λ v. v.parts * 2 ^ 51) s.views b.charges.small in
      let c = total_times (λ v. v.parts) (2 ^ 51) s.views in
      let d = b.draws.parts in let e = b.charges.passed in let f = b.charges.low in let g = b.few in omega arith

  -- the stop word stays where the charged word changes
  stop_same : (opened : List X × List W) (terms : Terms) (s : State (Slot X W) (View E X W)) (n id : ℕ) (v : View E X W) (t : Tally E) → (b : HubRule m opened terms s) → get_elem? s.views id ≡ some v
      → t.no_memory ≡ v.tally.no_memory → t.fault ≡ v.tally.fault → StopRule m.faults (things_of b.log) (get_or (set s.words 1 n) 2 0) (set s.views id (with_tally v t))
  stop_same opened terms s n id v t b at no_memory fault =
      stops_stay m.faults (things_of b.log) (get_or s.words 2 0) _ s.views id v (with_tally v t) (get_or-set_other s.words 1 2 n 0 (λ e. omega arith)) at no_memory fault b.stops

  -- the charged word stays where the stop word changes
  charge_same : (opened : List X × List W) (terms : Terms) (s : State (Slot X W) (View E X W)) (n id : ℕ) (v : View E X W) (t : Tally E) → (b : HubRule m opened terms s) → get_elem? s.views id ≡ some v
      → t.settled ≡ v.tally.settled → t.fresh ≡ v.tally.fresh → t.over ≡ v.tally.over → ChargeRule m.price terms (get_or (set s.words 2 n) 1 0) (set s.views id (with_tally v t))
  charge_same opened terms s n id v t b at settled fresh over =
      charges_stay m.price terms (get_or s.words 1 0) _ s.views id v (with_tally v t) (get_or-set_other s.words 2 1 n 0 (λ e. omega arith)) at settled fresh over refl b.charges

  pub pay : (opened : List X × List W) (terms : Terms) (slots id n : ℕ) (v : View E X W) (c : List (ℕ × Slot X W)) → n ≡ cost m.price v.tally.due → n ≤ 2 ^ 56 → length v.tally.fresh ≡ 0 → 32 ≤ v.parts
      → Allows (HubRule m opened terms) slots id (v, c) 1 (λ k. (k + n) % 2 ^ 64) (Paid (step slots 1 n 0 none) (v, c))
  pay opened terms slots id n v c is cheap clear part s b len at fits =
      let k : ℕ = get_or s.words 1 0 in
      let t : Tally E = pays v.tally in
      let w : View E X W = with_tally v t in
      let none_fresh : cost m.price v.tally.fresh ≡ 0 = ap {A = List (ℕ × E)} (cost m.price) (empty_list v.tally.fresh clear) in
      let due_too : cost m.price (v.tally.fresh ++ v.tally.due) ≡ n = (let q = total_both (λ p. m.price p.1) v.tally.fresh v.tally.due in omega arith) in
      let low : k < 2 ^ 63 = charge_bounded opened terms s b in
      let next : (k + n) % 2 ^ 64 ≡ k + n = omega arith in
      let P : ℕ → Type 0 = λ j. HubRule m opened terms (stepped s 1 j id c w keeps) in
      let here : get_or (set s.words 1 (k + n)) 1 0 ≡ k + n = get_or-set_same s.words 1 (k + n) 0 (let q = b.wide in omega arith) in
      let Q : ℕ → Type 0 = λ j. ChargeRule m.price terms j (set s.views id w) in (
        w,
        keeps,
        tt,
        subst P (sym next) (tally_step m opened terms s 1 (k + n) id v t c (omega arith) (omega arith) at b
            (subst Q (sym here) (charges_set m.price terms k (k + n) s.views id v w at
            (let q = due_too in omega arith) (omega arith)
            (λ e. let q = b.charges.passed in let r = due_too in omega arith) (let q = due_too in omega arith) (λ z. absurd (omega arith)) (λ o. let q = b.charges.over id v at o in omega arith) b.charges))
            (stop_same opened terms s (k + n) id v t b at refl refl)),
        refl,
      )

  pub read_charged : (opened : List X × List W) (terms : Terms) (slots id : ℕ) (v : View E X W) (c : List (ℕ × Slot X W))
      → Allows (HubRule m opened terms) slots id (v, c) 1 (λ k. k) (ReadCharged terms.limit (step slots 1 0 0 none) (v, c))
  read_charged opened terms slots id v c s b len at fits =
      let k : ℕ = get_or s.words 1 0 in
      let here : get_or (set s.words 1 k) 1 0 ≡ k = get_or-set_same s.words 1 k 0 (let q = b.wide in omega arith) in
      let settled_all : cost m.price (v.tally.settled ++ v.tally.fresh) ≡ cost m.price v.tally.settled + cost m.price v.tally.fresh = total_both (λ p. m.price p.1) v.tally.settled v.tally.fresh in
      dite (dec_le k terms.limit)
      (λ le. let t : Tally E = saw_low v.tally in let w : View E X W = with_tally v t in
      let Q : ℕ → Type 0 = λ j. ChargeRule m.price terms j (set s.views id w) in (
        w,
        keeps,
        tt,
        tally_step m opened terms s 1 k id v t c (omega arith) (omega arith) at b
            (subst Q (sym here) (charges_set m.price terms k k s.views id v w at (let q = settled_all in omega arith) (omega arith) (λ e. omega arith) (omega arith) (λ z. let q = b.charges.idle id v at z in let r = settled_all in omega arith) (λ o. b.charges.over id v at o) b.charges))
            (stop_same opened terms s k id v t b at refl refl),
        ((λ lt. absurd (omega arith)), (λ _. refl)),
      ))
      (λ nle. let t : Tally E = saw_over v.tally in let w : View E X W = with_tally v t in
      let Q : ℕ → Type 0 = λ j. ChargeRule m.price terms j (set s.views id w) in (
        w,
        keeps,
        tt,
        tally_step m opened terms s 1 k id v t c (omega arith) (omega arith) at b
            (subst Q (sym here) (charges_set m.price terms k k s.views id v w at refl (omega arith) (λ e. let q = b.charges.passed in omega arith) (b.charges.small id v at) (b.charges.idle id v at) (λ o. omega arith) b.charges))
            (stop_same opened terms s k id v t b at refl refl),
        ((λ _. refl), (λ le. absurd (omega arith))),
      ))

  at_most_two : (faults : E → Bool) (log : List E) (word : ℕ) → ((word ≡ 0) ⊎ ((word ≡ 1) ⊎ ((word ≡ 2) × FaultIn faults log))) → word ≤ 2
  at_most_two faults log word c = ⊎_elim (λ z. omega arith) (λ r. ⊎_elim (λ o. omega arith) (λ t. let q = t.0 in omega arith) r) c

  -- the cause that was found is the word
  found : (a n k : ℕ) → (0 < a → n ≡ k) → 0 < a + one_if (eqb n k) → n ≡ k
  found a n k before some_found = dite (ℕ_discrete n k) (λ e. e) (λ ne. let z : one_if (eqb n k) ≡ 0 = ap one_if (ne_eqb n k ne) in before (omega arith))

  -- a tally that says what the stop word is now
  stop_told : (opened : List X × List W) (terms : Terms) (s : State (Slot X W) (View E X W)) (r n id : ℕ) (v : View E X W) (c : List (ℕ × Slot X W)) → get_elem? s.views id ≡ some v → (b : HubRule m opened terms s)
      → ((n ≡ 0) ⊎ ((n ≡ 1) ⊎ ((n ≡ 2) × FaultIn m.faults (things_of b.log)))) → (0 < get_or s.words 2 0 → n ≡ get_or s.words 2 0)
      → HubRule m opened terms (stepped s 2 n id c (with_tally v (saw_stopped v.tally r n)) keeps)
  stop_told opened terms s r n id v c at b cause once =
      let t : Tally E = saw_stopped v.tally r n in
      let w : View E X W = with_tally v t in
      let here : get_or (set s.words 2 n) 2 0 ≡ n = get_or-set_same s.words 2 n 0 (let q = b.wide in omega arith) in
      let Q : ℕ → Type 0 = λ j. StopRule m.faults (things_of b.log) j (set s.views id w) in
      tally_step m opened terms s 2 n id v t c (omega arith) (omega arith) at b
      (charge_same opened terms s n id v t b at refl refl refl)
      (subst Q (sym here) (stops_set m.faults (things_of b.log) (things_of b.log) (get_or s.words 2 0) n s.views id w cause once
      (found v.tally.no_memory n 1 (λ o. let q = b.stops.no_memory id v at o in let r = once (omega arith) in omega arith))
      (found v.tally.fault n 2 (λ o. let q = b.stops.fault id v at o in let r = once (omega arith) in omega arith)) b.stops))

  pub read_stop : (opened : List X × List W) (terms : Terms) (slots id : ℕ) (v : View E X W) (c : List (ℕ × Slot X W)) → Allows (HubRule m opened terms) slots id (v, c) 2 (λ k. k) (ReadStop (step slots 2 0 0 none) (v, c))
  read_stop opened terms slots id v c s b len at fits =
      let k : ℕ = get_or s.words 2 0 in
      (with_tally v (saw_stopped v.tally k k), keeps, tt, stop_told opened terms s k k id v c at b b.stops.cause (λ _. refl), (at_most_two m.faults (things_of b.log) k b.stops.cause, refl))

  each_at : (P : ℕ → E → Type 0) (es : List (ℕ × E)) (k : ℕ) (p : ℕ × E) → Each P es → slice_get es k ≡ Some p → P p.0 p.1
  each_at P [] k p h e = absurd (let q : None ≡ Some p = e in cc)
  each_at P (x ∷ xs) zero p h e = let q : x ≡ p = (let r : Some x ≡ Some p = e in cc) in subst (λ y. P y.0 y.1) q h.0
  each_at P (x ∷ xs) (suc k) p h e = each_at P xs k p h.1 e

  -- a seat that stops the hub for a fault drew an entry that is one
  pub stop : (opened : List X × List W) (terms : Terms) (slots id n : ℕ) (v : View E X W) (c : List (ℕ × Slot X W))
      → ((n ≡ 1) ⊎ ((n ≡ 2) × ((k : ℕ) × (p : ℕ × E) × (slice_get v.entries k ≡ Some p) × (m.faults p.1 ≡ true))))
      → Allows (HubRule m opened terms) slots id (v, c) 2 (λ k. either (eqb k 0) n k) (Stopped (step slots 2 0 n none) (v, c))
  stop opened terms slots id n v c why s b len at fits =
      let k : ℕ = get_or s.words 2 0 in
      let le : k ≤ 2 = at_most_two m.faults (things_of b.log) k b.stops.cause in
      let F : ℕ → Type 0 = λ n'. (w : View E X W) × (a : Act (Slot X W)) × Valid s.homes c a × HubRule m opened terms (stepped s 2 n' id c w a) × Stopped (step slots 2 0 n none) (v, c) k (w, carried_after c a) in
      let cause : (n ≡ 0) ⊎ ((n ≡ 1) ⊎ ((n ≡ 2) × FaultIn m.faults (things_of b.log))) = ⊎_elim (λ o. inr (inl o))
      (λ t. inr (inr (t.0, (t.1.1.0, t.1.1.1, each_at (λ i e. get_elem? (things_of b.log) i ≡ some e) v.entries t.1.0 t.1.1 (b.draws.numbers id v at) t.1.2, t.1.3)))) why in
      exchanged k 0 n F
      (λ free. let here : Me (Slot X W) (View E X W) = (with_tally v (saw_stopped v.tally k n), c) in
      let After : Bool → Me (Slot X W) (View E X W) = λ q. (with_tally v (saw_stopped v.tally k (cond q n k)), c) in
      let G : Bool → Type 0 = λ q. (k ≤ 2) × (here ≡ After q) in
      (with_tally v (saw_stopped v.tally k n), keeps, tt, stop_told opened terms s k n id v c at b cause (λ o. absurd (omega arith)), subst G (sym (eq-eqb k 0 free)) (le, refl)))
      (λ taken. let here : Me (Slot X W) (View E X W) = (with_tally v (saw_stopped v.tally k k), c) in
      let After : Bool → Me (Slot X W) (View E X W) = λ q. (with_tally v (saw_stopped v.tally k (cond q n k)), c) in
      let G : Bool → Type 0 = λ q. (k ≤ 2) × (here ≡ After q) in
      (with_tally v (saw_stopped v.tally k k), keeps, tt, stop_told opened terms s k k id v c at b b.stops.cause (λ _. refl), subst G (sym (ne_eqb k 0 taken)) (le, refl)))
