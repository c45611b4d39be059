-- Seats are cut off and made one under the rule.
use Rattle.std.proofs.Common.{◌≡◌, ℕ, ◌+◌, ◌-◌, false, ◌*◌, ◌^◌, ◌<◌, ◌≤◌, List, [], ◌∷◌, ◌++◌, length, set, get_or, refl, sym, ap, subst, ◌∙◌, arith, ⊎_elim, length-append}
use mathlib.Core.Option.{some, none}
use mathlib.Core.Logic.{dite}
use native.Mathlib.Decide.{dec_le}
use lib.ListN.{get_elem?}
use Rattle.atomic_table.specs.Table.{Me, Splits, Joins, Enters, step}
use Rattle.atomic_table.proofs.Lists.{at_set, at_snoc, set_else}
use Rattle.hub_rule.specs.declared.slot.Slot.{Slot}
use Rattle.hub_rule.specs.declared.view.View.{View}
use Rattle.hub_rule.specs.declared.view.Tally.{Tally}
use Rattle.hub_rule.specs.declared.terms.Terms.{Terms}
use Rattle.hub_rule.specs.Counts.{count, total, things_of, Each}
use Rattle.hub_rule.specs.Meaning.{Meaning, Follows, store_after}
use Rattle.hub_rule.specs.Rule.{HubRule, cut_left, cut_right, joined, heaped, spent, Entered, cost, blank, share_of, piles_of}
use Rattle.hub_rule.specs.Works.{bare, Piles, DeskRule, WorkRule, PendRule}
use Rattle.hub_rule.specs.declared.view.Pile.{Pile}
use Rattle.std.proofs.lemmas.List.{map-append}
use Rattle.hub_rule.proofs.Piles.{at_piles, piles_set, places_more, works_more, pending_more, places_bare, works_bare, pending_bare, places_join, works_join, pending_join}
use Rattle.hub_rule.proofs.Sums.{total_set, total_more, total_both, count_more, each_more}

either_of : (a b : ℕ) (P : Type 0) → (0 < a → P) → (0 < b → P) → 0 < a + b → P
either_of a b P f g h = dite (dec_le 1 a) (λ le. f (omega arith)) (λ nle. g (omega arith))

module _ {Store E X W : Type 0} (m : Meaning Store E X W) where
  -- P holds of each view, where one view is another and one comes
  of_cut : (P : View E X W → Type 0) (views : List (View E X W)) (id : ℕ) (w u : View E X W) → P w → P u → ((j : ℕ) (y : View E X W) → get_elem? views j ≡ some y → P y)
      → (j : ℕ) (y : View E X W) → get_elem? (set views id w ++ u ∷ []) j ≡ some y → P y
  of_cut P views id w u pw pu all j y bt = ⊎_elim
      (λ s. ⊎_elim (λ q. subst P q.1 pw) (λ q. all j y q.1) (at_set views id j w y s))
      (λ q. subst P q pu) (at_snoc (set views id w) u y j bt)

  pub cut : (opened : List X × List W) (terms : Terms) (id : ℕ) (v : View E X W) → 32 ≤ v.parts → v.entries ≡ [] → v.held ≡ [] → v.tally ≡ blank → v.pile ≡ bare → Splits (HubRule m opened terms) id v (cut_left v) cut_right
  cut opened terms id v part entries held clear empty s b at =
      let w : View E X W = cut_left v in let u : View E X W = cut_right in
      let now = store_after m b.store (things_of b.log) in
      let at' : get_elem? (piles_of s.views) id ≡ some (v.parts, bare) = at_piles s.views id v at ∙ ap {A = Pile E W} (λ p. some (v.parts, p)) empty in
      let piles : piles_of (set s.views id w ++ u ∷ []) ≡ set (piles_of s.views) id (v.parts - 32, bare) ++ (32, bare) ∷ [] = map-append share_of (set s.views id w) (u ∷ [])
      ∙ (ap {A = Piles E W} (λ l. l ++ (32, bare) ∷ []) (piles_set s.views id w) ∙ ap {A = Pile E W} (λ p. set (piles_of s.views) id (v.parts - 32, p) ++ (32, bare) ∷ []) empty) in
      let same : (f : View E X W → ℕ) → f w ≡ f v → f u ≡ 0 → total f (set s.views id w ++ u ∷ []) ≡ total f s.views = λ f e z. (let a = total_set f s.views id v w at in let c = total_more f (set s.views id w) u in omega arith) in
      record {
        store = b.store;
        log = b.log;
        wide = b.wide;
        long = b.long;
        few = b.few;
        opens = b.opens;
        starts = b.starts;
        legal = b.legal;
        turns = record {
          turn = λ k lt. b.turns.turn k lt ∙ sym (same (λ y. count k y.held) refl refl);
          one = λ k lt. let a = same (λ y. count k y.held) refl refl in let c = b.turns.one k lt in omega arith;
          home = b.turns.home;
          idle = of_cut (λ y. y.parts ≡ 0 → y.held ≡ []) s.views id w u (λ _. held) (λ _. refl) b.turns.idle;
          held = of_cut (λ y. Each (λ k x. (k < 64) × ((z : X) → Follows m y.since k x z → m.projects now k z)) y.held) s.views id w u (b.turns.held id v at) tt b.turns.held;
        };
        draws = record {
          drawn = b.draws.drawn;
          numbers = of_cut (λ y. Each (λ n e. get_elem? (things_of b.log) n ≡ some e) y.entries) s.views id w u (b.draws.numbers id v at) tt b.draws.numbers;
          once = λ n. same (λ y. count n y.entries) refl refl ∙ b.draws.once n;
          sums = same (λ y. length y.entries) refl refl ∙ b.draws.sums;
          parts = (let a = total_set (λ y. y.parts) s.views id v w at in let c = total_more (λ y. y.parts) (set s.views id w) u in let d = b.draws.parts in omega arith);
          small = of_cut (λ y. length y.entries ≤ y.parts * 2 ^ 53) s.views id w u (let e : length v.entries ≡ 0 = ap {A = List (ℕ × E)} length entries in omega arith) (omega arith) b.draws.small;
        };
        charges = record {
          low = b.charges.low;
          paid = b.charges.paid ∙ ap (λ n. terms.spent + n) (sym (same (λ y. cost m.price y.tally.settled + cost m.price y.tally.fresh) refl refl));
          passed = let a = same (λ y. cost m.price y.tally.fresh) refl refl in let c = b.charges.passed in omega arith;
          small = of_cut (λ y. cost m.price y.tally.fresh ≤ y.parts * 2 ^ 51) s.views id w u (let e : cost m.price v.tally.fresh ≡ 0 = ap (λ (t : Tally E). cost m.price t.fresh) clear in omega arith) (omega arith) b.charges.small;
          idle = of_cut (λ y. y.parts ≡ 0 → cost m.price y.tally.settled + cost m.price y.tally.fresh ≡ 0) s.views id w u (λ _. ap (λ (t : Tally E). cost m.price t.settled + cost m.price t.fresh) clear) (λ _. refl) b.charges.idle;
          over = of_cut (λ y. 0 < y.tally.over → terms.limit < get_or s.words 1 0) s.views id w u (b.charges.over id v at) (λ z. absurd (omega arith)) b.charges.over;
        };
        stops = record {
          cause = b.stops.cause;
          no_memory = of_cut (λ y. 0 < y.tally.no_memory → get_or s.words 2 0 ≡ 1) s.views id w u (b.stops.no_memory id v at) (λ z. absurd (omega arith)) b.stops.no_memory;
          fault = of_cut (λ y. 0 < y.tally.fault → get_or s.words 2 0 ≡ 2) s.views id w u (b.stops.fault id v at) (λ z. absurd (omega arith)) b.stops.fault;
        };
        desks = b.desks;
        places = let P : Piles E W → Type 0 = λ l. DeskRule s.words s.homes b.desks l in subst P (sym piles) (places_more s.words s.homes b.desks (set (piles_of s.views) id (v.parts - 32, bare)) 32 (places_bare s.words s.homes b.desks (piles_of s.views) id v.parts (v.parts - 32) at' b.places));
        works = let P : Piles E W → Type 0 = λ l. WorkRule m opened.1 b.log b.desks l in subst P (sym piles) (works_more m opened.1 b.log b.desks (set (piles_of s.views) id (v.parts - 32, bare)) 32 (works_bare m opened.1 b.log b.desks (piles_of s.views) id v.parts (v.parts - 32) at' b.works));
        pending = let P : Piles E W → Type 0 = λ l. PendRule (length opened.1) (get_or s.words 520 0) b.desks l in subst P (sym piles) (pending_more (length opened.1) (get_or s.words 520 0) b.desks (set (piles_of s.views) id (v.parts - 32, bare)) 32 (pending_bare (length opened.1) (get_or s.words 520 0) b.desks (piles_of s.views) id v.parts (v.parts - 32) at' b.pending));
      }

  of_joined : (P : View E X W → Type 0) (views : List (View E X W)) (id other : ℕ) (w u : View E X W) → P w → P u → ((j : ℕ) (y : View E X W) → get_elem? views j ≡ some y → P y)
      → (j : ℕ) (y : View E X W) → get_elem? (set (set views id w) other u) j ≡ some y → P y
  of_joined P views id other w u pw pu all j y bt = ⊎_elim
      (λ q. subst P q.1 pu)
      (λ s. ⊎_elim (λ q. subst P q.1 pw) (λ q. all j y q.1) (at_set views id j w y s.1))
      (at_set (set views id w) other j u y bt)

  pub join : (opened : List X × List W) (terms : Terms) (id other : ℕ) (v w : View E X W) → v.held ≡ [] → w.held ≡ [] → (v.pile.owes ≡ false) × (v.pile.desk ≡ []) → (w.pile.owes ≡ false) × (w.pile.desk ≡ []) → Joins (HubRule m opened terms) id v other w (joined v w) spent
  join opened terms id other v w v_free w_free v_calm w_calm s b at apart bt =
      let j : View E X W = joined v w in let u : View E X W = spent in
      let now = store_after m b.store (things_of b.log) in
      let wt : get_elem? s.views other ≡ some w = sym (set_else s.views id other j apart) ∙ bt in
      let at' = at_piles s.views id v at in let bt' = at_piles s.views other w wt in
      let piles : piles_of (set (set s.views id j) other u) ≡ set (set (piles_of s.views) id (v.parts + w.parts, heaped v.pile w.pile)) other (0, bare) = piles_set (set s.views id j) other u ∙ ap {A = Piles E W} (λ l. set l other (0, bare)) (piles_set s.views id j) in
      let same : (f : View E X W → ℕ) → f j ≡ f v + f w → f u ≡ 0 → total f (set (set s.views id j) other u) ≡ total f s.views = λ f e z. (let a = total_set f s.views id v j at in let c = total_set f (set s.views id j) other w u bt in omega arith) in
      let settled_both : cost m.price (v.tally.settled ++ w.tally.settled) ≡ cost m.price v.tally.settled + cost m.price w.tally.settled = total_both (λ p. m.price p.1) v.tally.settled w.tally.settled in
      let fresh_both : cost m.price (v.tally.fresh ++ w.tally.fresh) ≡ cost m.price v.tally.fresh + cost m.price w.tally.fresh = total_both (λ p. m.price p.1) v.tally.fresh w.tally.fresh in
      let free : (k : ℕ) → 0 ≡ count k v.held + count k w.held = λ k. (let a = ap {A = List (ℕ × X)} (count k) v_free in let c = ap {A = List (ℕ × X)} (count k) w_free in omega arith) in
      record {
        store = b.store;
        log = b.log;
        wide = b.wide;
        long = b.long;
        few = b.few;
        opens = b.opens;
        starts = b.starts;
        legal = b.legal;
        turns = record {
          turn = λ k lt. b.turns.turn k lt ∙ sym (same (λ y. count k y.held) (free k) refl);
          one = λ k lt. let a = same (λ y. count k y.held) (free k) refl in let c = b.turns.one k lt in omega arith;
          home = b.turns.home;
          idle = of_joined (λ y. y.parts ≡ 0 → y.held ≡ []) s.views id other j u (λ _. refl) (λ _. refl) b.turns.idle;
          held = of_joined (λ y. Each (λ k x. (k < 64) × ((z : X) → Follows m y.since k x z → m.projects now k z)) y.held) s.views id other j u tt tt b.turns.held;
        };
        draws = record {
          drawn = b.draws.drawn;
          numbers = of_joined (λ y. Each (λ n e. get_elem? (things_of b.log) n ≡ some e) y.entries) s.views id other j u (each_more (λ n e. get_elem? (things_of b.log) n ≡ some e) v.entries w.entries (b.draws.numbers id v at) (b.draws.numbers other w wt)) tt b.draws.numbers;
          once = λ n. same (λ y. count n y.entries) (count_more n v.entries w.entries) refl ∙ b.draws.once n;
          sums = same (λ y. length y.entries) (length-append v.entries w.entries) refl ∙ b.draws.sums;
          parts = same (λ y. y.parts) refl refl ∙ b.draws.parts;
          small = of_joined (λ y. length y.entries ≤ y.parts * 2 ^ 53) s.views id other j u (let a = b.draws.small id v at in let c = b.draws.small other w wt in let d = length-append v.entries w.entries in omega arith) (omega arith) b.draws.small;
        };
        charges = record {
          low = b.charges.low;
          paid = b.charges.paid ∙ ap (λ n. terms.spent + n) (sym (same (λ y. cost m.price y.tally.settled + cost m.price y.tally.fresh) (let p = settled_both in let q = fresh_both in omega arith) refl));
          passed = let a = same (λ y. cost m.price y.tally.fresh) fresh_both refl in let c = b.charges.passed in omega arith;
          small = of_joined (λ y. cost m.price y.tally.fresh ≤ y.parts * 2 ^ 51) s.views id other j u (let a = b.charges.small id v at in let c = b.charges.small other w wt in let q = fresh_both in omega arith) (omega arith) b.charges.small;
          idle = of_joined (λ y. y.parts ≡ 0 → cost m.price y.tally.settled + cost m.price y.tally.fresh ≡ 0) s.views id other j u
              (λ z. let a = b.charges.idle id v at (omega arith) in let c = b.charges.idle other w wt (omega arith) in let p = settled_both in let q = fresh_both in omega arith) (λ _. refl) b.charges.idle;
          over = of_joined (λ y. 0 < y.tally.over → terms.limit < get_or s.words 1 0) s.views id other j u (either_of v.tally.over w.tally.over (terms.limit < get_or s.words 1 0) (b.charges.over id v at) (b.charges.over other w wt)) (λ z. absurd (omega arith)) b.charges.over;
        };
        stops = record {
          cause = b.stops.cause;
          no_memory = of_joined (λ y. 0 < y.tally.no_memory → get_or s.words 2 0 ≡ 1) s.views id other j u (either_of v.tally.no_memory w.tally.no_memory (get_or s.words 2 0 ≡ 1) (b.stops.no_memory id v at) (b.stops.no_memory other w wt)) (λ z. absurd (omega arith)) b.stops.no_memory;
          fault = of_joined (λ y. 0 < y.tally.fault → get_or s.words 2 0 ≡ 2) s.views id other j u (either_of v.tally.fault w.tally.fault (get_or s.words 2 0 ≡ 2) (b.stops.fault id v at) (b.stops.fault other w wt)) (λ z. absurd (omega arith)) b.stops.fault;
        };
        desks = b.desks;
        places = let P : Piles E W → Type 0 = λ l. DeskRule s.words s.homes b.desks l in subst P (sym piles) (places_join (piles_of s.views) id other v.parts w.parts v.pile w.pile at' bt' apart s.words s.homes b.desks v_calm.1 w_calm.1 b.places);
        works = let P : Piles E W → Type 0 = λ l. WorkRule m opened.1 b.log b.desks l in subst P (sym piles) (works_join (piles_of s.views) id other v.parts w.parts v.pile w.pile at' bt' apart m opened.1 b.log b.desks b.works);
        pending = let P : Piles E W → Type 0 = λ l. PendRule (length opened.1) (get_or s.words 520 0) b.desks l in subst P (sym piles) (pending_join (piles_of s.views) id other v.parts w.parts v.pile w.pile at' bt' apart (length opened.1) (get_or s.words 520 0) b.desks v_calm.0 w_calm.0 b.pending);
      }

  of_more : (P : View E X W → Type 0) (views : List (View E X W)) (u : View E X W) → P u → ((j : ℕ) (y : View E X W) → get_elem? views j ≡ some y → P y)
      → (j : ℕ) (y : View E X W) → get_elem? (views ++ u ∷ []) j ≡ some y → P y
  of_more P views u pu all j y bt = ⊎_elim (λ s. all j y s) (λ q. subst P q pu) (at_snoc views u y j bt)

  pub enter : (opened : List X × List W) (terms : Terms) (slots : ℕ) (me : Me (Slot X W) (View E X W)) → Enters (HubRule m opened terms) slots 0 (λ n w. Entered (step slots 0 0 0 none) me n (w, []))
  enter opened terms slots me s b len fits =
      let u : View E X W = spent in
      let now = store_after m b.store (things_of b.log) in
      let piles : piles_of (s.views ++ u ∷ []) ≡ piles_of s.views ++ (0, bare) ∷ [] = map-append share_of s.views (u ∷ []) in
      let same : (f : View E X W → ℕ) → f u ≡ 0 → total f (s.views ++ u ∷ []) ≡ total f s.views = λ f z. (let c = total_more f s.views u in omega arith) in (
        u,
        record {
          store = b.store;
          log = b.log;
          wide = b.wide;
          long = b.long;
          few = b.few;
          opens = b.opens;
          starts = b.starts;
          legal = b.legal;
          turns = record {
            turn = λ k lt. b.turns.turn k lt ∙ sym (same (λ y. count k y.held) refl);
            one = λ k lt. let a = same (λ y. count k y.held) refl in let c = b.turns.one k lt in omega arith;
            home = b.turns.home;
            idle = of_more (λ y. y.parts ≡ 0 → y.held ≡ []) s.views u (λ _. refl) b.turns.idle;
            held = of_more (λ y. Each (λ k x. (k < 64) × ((z : X) → Follows m y.since k x z → m.projects now k z)) y.held) s.views u tt b.turns.held;
          };
          draws = record {
            drawn = b.draws.drawn;
            numbers = of_more (λ y. Each (λ n e. get_elem? (things_of b.log) n ≡ some e) y.entries) s.views u tt b.draws.numbers;
            once = λ n. same (λ y. count n y.entries) refl ∙ b.draws.once n;
            sums = same (λ y. length y.entries) refl ∙ b.draws.sums;
            parts = same (λ y. y.parts) refl ∙ b.draws.parts;
            small = of_more (λ y. length y.entries ≤ y.parts * 2 ^ 53) s.views u (omega arith) b.draws.small;
          };
          charges = record {
            low = b.charges.low;
            paid = b.charges.paid ∙ ap (λ n. terms.spent + n) (sym (same (λ y. cost m.price y.tally.settled + cost m.price y.tally.fresh) refl));
            passed = let a = same (λ y. cost m.price y.tally.fresh) refl in let c = b.charges.passed in omega arith;
            small = of_more (λ y. cost m.price y.tally.fresh ≤ y.parts * 2 ^ 51) s.views u (omega arith) b.charges.small;
            idle = of_more (λ y. y.parts ≡ 0 → cost m.price y.tally.settled + cost m.price y.tally.fresh ≡ 0) s.views u (λ _. refl) b.charges.idle;
            over = of_more (λ y. 0 < y.tally.over → terms.limit < get_or s.words 1 0) s.views u (λ z. absurd (omega arith)) b.charges.over;
          };
          stops = record {
            cause = b.stops.cause;
            no_memory = of_more (λ y. 0 < y.tally.no_memory → get_or s.words 2 0 ≡ 1) s.views u (λ z. absurd (omega arith)) b.stops.no_memory;
            fault = of_more (λ y. 0 < y.tally.fault → get_or s.words 2 0 ≡ 2) s.views u (λ z. absurd (omega arith)) b.stops.fault;
          };
          desks = b.desks;
          places = let P : Piles E W → Type 0 = λ l. DeskRule s.words s.homes b.desks l in subst P (sym piles) (places_more s.words s.homes b.desks (piles_of s.views) 0 b.places);
          works = let P : Piles E W → Type 0 = λ l. WorkRule m opened.1 b.log b.desks l in subst P (sym piles) (works_more m opened.1 b.log b.desks (piles_of s.views) 0 b.works);
          pending = let P : Piles E W → Type 0 = λ l. PendRule (length opened.1) (get_or s.words 520 0) b.desks l in subst P (sym piles) (pending_more (length opened.1) (get_or s.words 520 0) b.desks (piles_of s.views) 0 b.pending);
        },
        refl,
      )
