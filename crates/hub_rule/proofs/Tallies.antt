-- What seats charged and what they found, where one view changes.
use Rattle.std.proofs.Common.{◌≡◌, ℕ, ◌+◌, ◌*◌, ◌^◌, ◌<◌, ◌≤◌, ◌⊎◌, Bool, max, List, [], ◌++◌, length, set, get_or, refl, sym, ap, subst, ◌∙◌, arith, ⊎_elim, inl, inr, get_or-set_other}
use Rattle.std.proofs.Math.ListN.{length-set}
use mathlib.Core.Option.{some}
use mathlib.Core.Option as opt
use lib.ListN.{get_elem?}
use Rattle.atomic_table.specs.Table.{State, keeps, stepped}
use Rattle.atomic_table.proofs.Lists.{at_longer}
use Rattle.hub_rule.specs.declared.slot.Slot.{Slot}
use Rattle.hub_rule.specs.declared.view.View.{View}
use Rattle.hub_rule.specs.declared.view.Tally.{Tally}
use Rattle.hub_rule.specs.declared.terms.Terms.{Terms}
use Rattle.hub_rule.specs.declared.terms.StopCause.{StopCause}
use Rattle.hub_rule.specs.declared.terms.StopCause.TheVariants.{Fault, NoMemory}
use Rattle.hub_rule.specs.Stops.{code_of, HasFault}
use Rattle.hub_rule.specs.Counts.{count, total, things_of, Each}
use Rattle.hub_rule.specs.Meaning.{Meaning, Follows, store_after}
use Rattle.hub_rule.specs.Rule.{with_tally, cost, TurnRule, DrawRule, ChargeRule, StopRule, FaultIn, HubRule}
use Rattle.hub_rule.proofs.Sums.{total_set, total_same, of_set}
use Rattle.hub_rule.proofs.Piles.{places_keep, works_keep, pending_keep}

-- a fault stays in a list that grows
pub fault_stays : {E : Type 0} (faults : E → Bool) (log more : List E) → FaultIn faults log → FaultIn faults (log ++ more)
fault_stays faults log more f = (f.0, f.1, at_longer log more f.0 f.1 f.2, f.3)

cause_stays : {E : Type 0} (faults : E → Bool) (log more : List E) (word word' : ℕ) → word' ≡ word → ((word ≡ 0) ⊎ ((word ≡ 1) ⊎ ((word ≡ 2) × FaultIn faults log)))
    → (word' ≡ 0) ⊎ ((word' ≡ 1) ⊎ ((word' ≡ 2) × FaultIn faults (log ++ more)))
cause_stays faults log more word word' same c = ⊎_elim (λ z. inl (same ∙ z)) (λ r. inr (⊎_elim (λ o. inl (same ∙ o)) (λ t. inr (same ∙ t.0, fault_stays faults log more t.1)) r)) c

-- the code of a cause, and what it asks
pub cause_codes : {E : Type 0} (faults : E → Bool) (es : List (ℕ × E)) (cause : StopCause) (n : ℕ) → n ≡ code_of cause → (cause ≡ Fault → HasFault faults es) → (n ≡ 1) ⊎ ((n ≡ 2) × HasFault faults es)
cause_codes faults es Fault n is asks = inr (is, asks refl)
cause_codes faults es NoMemory n is asks = inl is

module _ {E X W : Type 0} where
  -- charges, where the word rises by what is charged
  pub charges_set : (price : E → ℕ) (terms : Terms) (word word' : ℕ) (views : List (View E X W)) (id : ℕ) (v w : View E X W) → get_elem? views id ≡ some v
      → word' + (cost price v.tally.settled + cost price v.tally.fresh) ≡ word + (cost price w.tally.settled + cost price w.tally.fresh) → word ≤ word'
      → (total (λ y. cost price y.tally.fresh) (set views id w) + cost price v.tally.fresh ≡ total (λ y. cost price y.tally.fresh) views + cost price w.tally.fresh → word' ≤ max terms.spent terms.limit + total (λ y. cost price y.tally.fresh) (set views id w))
      → cost price w.tally.fresh ≤ w.parts * 2 ^ 51 → (w.parts ≡ 0 → cost price w.tally.settled + cost price w.tally.fresh ≡ 0) → (0 < w.tally.over → terms.limit < word')
      → ChargeRule price terms word views → ChargeRule price terms word' (set views id w)
  charges_set price terms word word' views id v w at paid up passed small idle over b = record {
    low = b.low;
    paid = let a = total_set (λ y. cost price y.tally.settled + cost price y.tally.fresh) views id v w at in let c = b.paid in omega arith;
    passed = passed (total_set (λ y. cost price y.tally.fresh) views id v w at);
    small = of_set (λ y. cost price y.tally.fresh ≤ y.parts * 2 ^ 51) views id w small b.small;
    idle = of_set (λ y. y.parts ≡ 0 → cost price y.tally.settled + cost price y.tally.fresh ≡ 0) views id w idle b.idle;
    over = of_set (λ y. 0 < y.tally.over → terms.limit < word') views id w over (λ j u bt some_over. let a = b.over j u bt some_over in omega arith);
  }

  -- charges stay where a view keeps what is its own in them
  pub charges_stay : (price : E → ℕ) (terms : Terms) (word word' : ℕ) (views : List (View E X W)) (id : ℕ) (v w : View E X W) → word' ≡ word → get_elem? views id ≡ some v
      → w.tally.settled ≡ v.tally.settled → w.tally.fresh ≡ v.tally.fresh → w.tally.over ≡ v.tally.over → w.parts ≡ v.parts
      → ChargeRule price terms word views → ChargeRule price terms word' (set views id w)
  charges_stay price terms word word' views id v w same at settled fresh over parts b =
      let a : cost price w.tally.settled ≡ cost price v.tally.settled = ap {A = List (ℕ × E)} (cost price) settled in
      let c : cost price w.tally.fresh ≡ cost price v.tally.fresh = ap {A = List (ℕ × E)} (cost price) fresh in
      charges_set price terms word word' views id v w at (omega arith) (omega arith)
      (λ e. let p = b.passed in omega arith) (let p = b.small id v at in omega arith) (λ z. let q = b.idle id v at (let r = parts in omega arith) in omega arith)
      (λ o. let p = b.over id v at (let q = over in omega arith) in omega arith) b

  -- the stop, where the word stays once it is set
  pub stops_set : (faults : E → Bool) (log log' : List E) (word word' : ℕ) (views : List (View E X W)) (id : ℕ) (w : View E X W)
      → ((word' ≡ 0) ⊎ ((word' ≡ 1) ⊎ ((word' ≡ 2) × FaultIn faults log'))) → (0 < word → word' ≡ word)
      → (0 < w.tally.no_memory → word' ≡ 1) → (0 < w.tally.fault → word' ≡ 2)
      → StopRule faults log word views → StopRule faults log' word' (set views id w)
  stops_set faults log log' word word' views id w cause once no_memory fault b = record {
    cause = cause;
    no_memory = of_set (λ y. 0 < y.tally.no_memory → word' ≡ 1) views id w no_memory (λ j u bt some_found. let a = b.no_memory j u bt some_found in let c = once (omega arith) in omega arith);
    fault = of_set (λ y. 0 < y.tally.fault → word' ≡ 2) views id w fault (λ j u bt some_found. let a = b.fault j u bt some_found in let c = once (omega arith) in omega arith);
  }

  -- the stop stays where a view keeps what it found, also after a further entry
  pub stops_grow : (faults : E → Bool) (log more : List E) (word word' : ℕ) (views : List (View E X W)) (id : ℕ) (v w : View E X W) → word' ≡ word → get_elem? views id ≡ some v
      → w.tally.no_memory ≡ v.tally.no_memory → w.tally.fault ≡ v.tally.fault → StopRule faults log word views → StopRule faults (log ++ more) word' (set views id w)
  stops_grow faults log more word word' views id v w same at no_memory fault b =
      stops_set faults log (log ++ more) word word' views id w (cause_stays faults log more word word' same b.cause) (λ _. same)
      (λ o. same ∙ b.no_memory id v at (let q = no_memory in omega arith)) (λ o. same ∙ b.fault id v at (let q = fault in omega arith)) b

  pub stops_stay : (faults : E → Bool) (log : List E) (word word' : ℕ) (views : List (View E X W)) (id : ℕ) (v w : View E X W) → word' ≡ word → get_elem? views id ≡ some v
      → w.tally.no_memory ≡ v.tally.no_memory → w.tally.fault ≡ v.tally.fault → StopRule faults log word views → StopRule faults log word' (set views id w)
  stops_stay faults log word word' views id v w same at no_memory fault b =
      let P : ℕ → Type 0 = λ n. (n ≡ 0) ⊎ ((n ≡ 1) ⊎ ((n ≡ 2) × FaultIn faults log)) in
      stops_set faults log log word word' views id w (subst P (sym same) b.cause) (λ _. same)
      (λ o. same ∙ b.no_memory id v at (let q = no_memory in omega arith)) (λ o. same ∙ b.fault id v at (let q = fault in omega arith)) b

  -- draws stay where only a tally changes
  books_keep : (seats : ℕ) (log : List E) (word word' : ℕ) (views : List (View E X W)) (id : ℕ) (v : View E X W) (t : Tally E)
      → word' ≡ word → get_elem? views id ≡ some v → DrawRule seats log word views → DrawRule seats log word' (set views id (with_tally v t))
  books_keep seats log word word' views id v t same at b = record {
    drawn = same ∙ b.drawn;
    numbers = of_set (λ y. Each (λ n e. get_elem? log n ≡ some e) y.entries) views id (with_tally v t) (b.numbers id v at) b.numbers;
    once = λ n. total_same (λ x. count n x.entries) views id v (with_tally v t) at refl ∙ b.once n;
    sums = total_same (λ x. length x.entries) views id v (with_tally v t) at refl ∙ b.sums;
    parts = total_same (λ x. x.parts) views id v (with_tally v t) at refl ∙ b.parts;
    small = of_set (λ y. length y.entries ≤ y.parts * 2 ^ 53) views id (with_tally v t) (b.small id v at) b.small;
  }

module _ {Store E X W : Type 0} (m : Meaning Store E X W) where
  -- turns stay where only a tally and other words change
  turns_keep : (now : Store) (words words' : List ℕ) (homes : List (opt.Option (Slot X W))) (views : List (View E X W)) (id : ℕ) (v : View E X W) (t : Tally E)
      → ((k : ℕ) → k < 64 → get_or words' (k * 8 + 8) 0 ≡ get_or words (k * 8 + 8) 0) → get_elem? views id ≡ some v
      → TurnRule m now words homes views → TurnRule m now words' homes (set views id (with_tally v t))
  turns_keep now words words' homes views id v t same at b =
      let w : View E X W = with_tally v t in
      let sums : (k : ℕ) → total (λ u. count k u.held) (set views id w) ≡ total (λ u. count k u.held) views = λ k. total_same (λ u. count k u.held) views id v w at refl in
      record {
        turn = λ k lt. same k lt ∙ (b.turn k lt ∙ sym (sums k));
        one = λ k lt. let a = sums k in let c = b.one k lt in omega arith;
        home = λ k lt z. b.home k lt (sym (same k lt) ∙ z);
        idle = of_set (λ y. y.parts ≡ 0 → y.held ≡ []) views id w (b.idle id v at) b.idle;
        held = of_set (λ y. Each (λ k a. (k < 64) × ((z : X) → Follows m y.since k a z → m.projects now k z)) y.held) views id w (b.held id v at) b.held;
      }

  -- a step on the charged word or the stop word, which changes a tally
  pub tally_step : (opened : List X × List W) (terms : Terms) (s : State (Slot X W) (View E X W)) (i n id : ℕ) (v : View E X W) (t : Tally E) (c : List (ℕ × Slot X W)) → 1 ≤ i → i ≤ 2 → get_elem? s.views id ≡ some v
      → (b : HubRule m opened terms s)
      → ChargeRule m.price terms (get_or (set s.words i n) 1 0) (set s.views id (with_tally v t))
      → StopRule m.faults (things_of b.log) (get_or (set s.words i n) 2 0) (set s.views id (with_tally v t))
      → HubRule m opened terms (stepped s i n id c (with_tally v t) keeps)
  tally_step opened terms s i n id v t c high low at b charges stops = record {
    store = b.store;
    log = b.log;
    wide = length-set s.words i n ∙ b.wide;
    long = b.long;
    few = b.few;
    opens = b.opens;
    starts = b.starts;
    legal = b.legal;
    turns = turns_keep (store_after m b.store (things_of b.log)) s.words (set s.words i n) s.homes s.views id v t (λ k lt. get_or-set_other s.words i (k * 8 + 8) n 0 (λ e. omega arith)) at b.turns;
    draws = books_keep terms.seats (things_of b.log) (get_or s.words 0 0) (get_or (set s.words i n) 0 0) s.views id v t (get_or-set_other s.words i 0 n 0 (λ e. omega arith)) at b.draws;
    charges = charges;
    stops = stops;
    desks = b.desks;
    places = places_keep s.words (set s.words i n) s.homes s.homes b.desks s.views id v (with_tally v t) at refl (λ d lt. get_or-set_other s.words i (d * 8 + 528) n 0 (λ e. omega arith)) (λ d lt. refl) b.places;
    works = works_keep m opened.1 b.log b.desks s.views id v (with_tally v t) at refl b.works;
    pending = pending_keep (length opened.1) (get_or s.words 520 0) (get_or (set s.words i n) 520 0) b.desks s.views id v (with_tally v t) (get_or-set_other s.words i 520 n 0 (λ e. omega arith)) at refl b.pending;
  }
