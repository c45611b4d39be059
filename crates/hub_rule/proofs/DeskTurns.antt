-- Desks are taken and given back, and the pending word is told and read, under the rule.
use Rattle.std.proofs.Common.{◌≡◌, ◌≢◌, ℕ, ◌*◌, ◌+◌, ◌-◌, ◌%◌, ◌^◌, ◌<◌, ◌≤◌, true, false, List, [], ◌∷◌, ◌++◌, length, drop, set, get_or, refl, sym, ap, subst, ◌∙◌, arith, eqb, get_or-set_same, get_or-set_other, length-append, append-nil, Option, Some, None}
use Rattle.std.specs.Prelude.{IfSome, IfNone, IsSome, option_to_list}
use Rattle.std.proofs.Math.ListN.{length-set}
use mathlib.Core.Option.{some, none}
use mathlib.Core.Option as opt
use mathlib.Core.Logic.{dite}
use native.Mathlib.Decide.{ℕ_discrete}
use prog.Atomic.{either}
use lib.ListN.{get_elem?}
use Rattle.atomic_table.specs.Table.{State, Me, Act, keeps, takes, gives, step, stepped, Allows, Valid, carried_after}
use Rattle.atomic_table.proofs.Lists.{exchanged, set_else}
use Rattle.hub_rule.specs.declared.view.View.{View}
use Rattle.hub_rule.specs.declared.view.Pile.{Pile}
use Rattle.hub_rule.specs.declared.slot.Slot.{Slot}
use Rattle.hub_rule.specs.declared.slot.Slot.TheVariants.{Shard, Desk}
use Rattle.hub_rule.specs.declared.terms.Terms.{Terms}
use Rattle.hub_rule.specs.Counts.{count, total, things_of, Each}
use Rattle.hub_rule.specs.Meaning.{Meaning, Follows, store_after, offered, taking}
use Rattle.hub_rule.specs.Works.{pile, hand, Piles, DeskRule, WorkRule, PendRule}
use Rattle.hub_rule.specs.Rule.{TurnRule, HubRule, with_pile, share_of, piles_of, tells_of, saw_empty, at_desk, away, takes_up, leaves, lying, Told, ReadPending, TookDesk, Fetched, LeftOn}
use Rattle.hub_rule.proofs.Sums.{total_same, total_map, count_more, each_more, each_cut, of_set}
use Rattle.hub_rule.proofs.Tallies.{charges_stay, stops_stay}
use Rattle.hub_rule.proofs.Turns.{books_stay, unchanged}
use Rattle.hub_rule.proofs.Piles.{at_piles, piles_set, places_keep, works_keep, pending_keep, desks_on, desks_same, desks_take, desks_give, works_same, works_move}
use Rattle.hub_rule.proofs.Offers.{hand_is, things_both, length_things}
use Rattle.hub_rule.proofs.Counting.{pend_look, pend_tell, pend_fetch, pend_leave}

module _ {Store E X W : Type 0} (m : Meaning Store E X W) where
  -- turns stay where only a pile and other words and slots change
  turns_piled : (now : Store) (words words' : List ℕ) (homes homes' : List (opt.Option (Slot X W))) (views : List (View E X W)) (id : ℕ) (v : View E X W) (q : Pile E W)
      → ((k : ℕ) → k < 64 → get_or words' (k * 8 + 8) 0 ≡ get_or words (k * 8 + 8) 0) → ((k : ℕ) → k < 64 → get_elem? homes' k ≡ get_elem? homes k) → get_elem? views id ≡ some v
      → TurnRule m now words homes views → TurnRule m now words' homes' (set views id (with_pile v q))
  turns_piled now words words' homes homes' views id v q same home at b =
      let w : View E X W = with_pile v q in
      let sums : (k : ℕ) → total (λ (u : View E X W). count k u.held) (set views id w) ≡ total (λ (u : View E X W). count k u.held) views = λ k. total_same (λ (u : View E X W). count k u.held) views id v w at refl in
      record {
        turn = λ k lt. same k lt ∙ (b.turn k lt ∙ sym (sums k));
        one = λ k lt. let a = sums k in let c = b.one k lt in omega arith;
        home = λ k lt z. let h = b.home k lt (sym (same k lt) ∙ z) in (h.0, home k lt ∙ h.1, h.2);
        idle = of_set (λ (y : View E X W). y.parts ≡ 0 → y.held ≡ []) views id w (b.idle id v at) b.idle;
        held = of_set (λ (y : View E X W). Each (λ k a. (k < 64) × ((z : X) → Follows m y.since k a z → m.projects now k z)) y.held) views id w (b.held id v at) b.held;
      }

  -- a step that changes a pile alone
  pub piled : (opened : List X × List W) (terms : Terms) (s : State (Slot X W) (View E X W)) (i n id : ℕ) (v : View E X W) (q : Pile E W) (homes : List (opt.Option (Slot X W))) (desks : List (List (ℕ × W))) → 520 ≤ i → get_elem? s.views id ≡ some v
      → (b : HubRule m opened terms s) → length homes ≡ 96 → ((k : ℕ) → k < 64 → get_elem? homes k ≡ get_elem? s.homes k)
      → DeskRule (set s.words i n) homes desks (piles_of (set s.views id (with_pile v q))) → WorkRule m opened.1 b.log desks (piles_of (set s.views id (with_pile v q)))
      → PendRule (length opened.1) (get_or (set s.words i n) 520 0) desks (piles_of (set s.views id (with_pile v q)))
      → HubRule m opened terms (record { words = set s.words i n; homes = homes; views = set s.views id (with_pile v q) })
  piled opened terms s i n id v q homes desks high at b long home places works pending =
      let w : View E X W = with_pile v q in
      let low : (k : ℕ) → k < 520 → get_or (set s.words i n) k 0 ≡ get_or s.words k 0 = λ k lt. get_or-set_other s.words i k n 0 (λ e. omega arith) in
      record {
        store = b.store;
        log = b.log;
        wide = length-set s.words i n ∙ b.wide;
        long = long;
        few = b.few;
        opens = b.opens;
        starts = b.starts;
        legal = b.legal;
        turns = turns_piled (store_after m b.store (things_of b.log)) s.words (set s.words i n) s.homes homes s.views id v q (λ k lt. low (k * 8 + 8) (omega arith)) home at b.turns;
        draws = books_stay terms.seats (things_of b.log) (get_or s.words 0 0) (get_or (set s.words i n) 0 0) s.views id v w (low 0 (omega arith)) at refl refl b.draws;
        charges = charges_stay m.price terms (get_or s.words 1 0) (get_or (set s.words i n) 1 0) s.views id v w (low 1 (omega arith)) at refl refl refl refl b.charges;
        stops = stops_stay m.faults (things_of b.log) (get_or s.words 2 0) (get_or (set s.words i n) 2 0) s.views id v w (low 2 (omega arith)) at refl refl b.stops;
        desks = desks;
        places = places;
        works = works;
        pending = pending;
      }

  -- at most 1024 parts in all
  all_parts : (opened : List X × List W) (terms : Terms) (s : State (Slot X W) (View E X W)) → HubRule m opened terms s → total (λ (y : ℕ × Pile E W). y.0) (piles_of s.views) ≤ 1024
  all_parts opened terms s b = let a = total_map (λ (y : ℕ × Pile E W). y.0) (share_of {E = E} {X = X} {W = W}) s.views in let c = b.draws.parts in let d = b.few in omega arith

  -- the pending word is told
  pub tell : (opened : List X × List W) (terms : Terms) (slots id n : ℕ) (v : View E X W) (c : List (ℕ × Slot X W)) → v.pile.owes ≡ true → n ≡ (length (hand v.pile) + (2 ^ 64 - v.pile.counted)) % 2 ^ 64
      → Allows (HubRule m opened terms) slots id (v, c) 520 (λ k. (k + n) % 2 ^ 64) (Told (step slots 520 n 0 none) (v, c))
  tell opened terms slots id n v c owes is s b len at fits =
      let k : ℕ = get_or s.words 520 0 in
      let x : ℕ = (k + n) % 2 ^ 64 in
      let q : Pile E W = tells_of v.pile in
      let at' = at_piles s.views id v at in
      let here : get_or (set s.words 520 x) 520 0 ≡ x = get_or-set_same s.words 520 x 0 (let f = b.wide in omega arith) in
      let P : Piles E W → Type 0 = λ l. DeskRule (set s.words 520 x) s.homes b.desks l in
      let Q : Piles E W → Type 0 = λ l. WorkRule m opened.1 b.log b.desks l in
      let R : Piles E W → ℕ → Type 0 = λ l j. PendRule (length opened.1) j b.desks l in
      let same = sym (piles_set s.views id (with_pile v q)) in (
        with_pile v q,
        keeps,
        tt,
        piled opened terms s 520 x id v q s.homes b.desks (omega arith) at b b.long (λ j lt. refl)
            (subst P same (desks_same (set s.words 520 x) s.homes b.desks (piles_of s.views) id v.parts v.pile q at' refl
            (desks_on s.words (set s.words 520 x) s.homes s.homes b.desks (piles_of s.views) (λ d lt. get_or-set_other s.words 520 (d * 8 + 528) x 0 (λ e. omega arith)) (λ d lt. refl) b.places)))
            (subst Q same (works_same m opened.1 b.log b.desks (piles_of s.views) id v.parts (length (hand v.pile)) v.pile.empty v.pile.left v.pile.fetched false v.pile.desk v.pile at' b.works))
            (subst (λ l. R l (get_or (set s.words 520 x) 520 0)) same (subst (R (set (piles_of s.views) id (v.parts, q))) (sym here) (pend_tell (length opened.1) k b.desks (piles_of s.views) id v.parts v.pile at' b.pending n owes is (all_parts opened terms s b) b.places.many))),
        refl,
      )

  -- the pending word is told, where that changes nothing in it
  pub tell_none : (opened : List X × List W) (terms : Terms) (slots id : ℕ) (v : View E X W) (c : List (ℕ × Slot X W)) → v.pile.owes ≡ true → 0 ≡ (length (hand v.pile) + (2 ^ 64 - v.pile.counted)) % 2 ^ 64
      → Allows (HubRule m opened terms) slots id (v, c) 520 (λ k. k) (Told (step slots 520 0 0 none) (v, c))
  tell_none opened terms slots id v c owes is s b len at fits =
      let h = tell opened terms slots id 0 v c owes is s b len at fits in
      let k : ℕ = get_or s.words 520 0 in
      let same : (k + 0) % 2 ^ 64 ≡ k = omega arith in
      (h.0, h.1, h.2, subst (λ (n : ℕ). HubRule m opened terms (stepped s 520 n id c h.0 h.1)) same h.3, h.4)

  -- the pending word is read
  pub read_pending : (opened : List X × List W) (terms : Terms) (slots id : ℕ) (v : View E X W) (c : List (ℕ × Slot X W)) → Allows (HubRule m opened terms) slots id (v, c) 520 (λ k. k) (ReadPending (step slots 520 0 0 none) (v, c))
  read_pending opened terms slots id v c s b len at fits =
      let k : ℕ = get_or s.words 520 0 in
      dite (ℕ_discrete k 0)
      (λ z. let q : Pile E W = saw_empty v.pile in
      let at' = at_piles s.views id v at in
      let here : get_or (set s.words 520 k) 520 0 ≡ k = get_or-set_same s.words 520 k 0 (let f = b.wide in omega arith) in
      let P : Piles E W → Type 0 = λ l. DeskRule (set s.words 520 k) s.homes b.desks l in
      let Q : Piles E W → Type 0 = λ l. WorkRule m opened.1 b.log b.desks l in
      let R : Piles E W → ℕ → Type 0 = λ l j. PendRule (length opened.1) j b.desks l in
      let same = sym (piles_set s.views id (with_pile v q)) in (
        with_pile v q,
        keeps,
        tt,
        piled opened terms s 520 k id v q s.homes b.desks (omega arith) at b b.long (λ j lt. refl)
            (subst P same (desks_same (set s.words 520 k) s.homes b.desks (piles_of s.views) id v.parts v.pile q at' refl
            (desks_on s.words (set s.words 520 k) s.homes s.homes b.desks (piles_of s.views) (λ d lt. get_or-set_other s.words 520 (d * 8 + 528) k 0 (λ e. omega arith)) (λ d lt. refl) b.places)))
            (subst Q same (works_same m opened.1 b.log b.desks (piles_of s.views) id v.parts v.pile.counted (v.pile.empty + 1) v.pile.left v.pile.fetched v.pile.owes v.pile.desk v.pile at' b.works))
            (subst (λ l. R l (get_or (set s.words 520 k) 520 0)) same (subst (R (set (piles_of s.views) id (v.parts, q))) (sym here) (pend_look (length opened.1) k b.desks (piles_of s.views) id v.parts v.pile at' b.pending v.pile.took v.pile.desk (v.pile.empty + 1) (λ _. z)))),
        ((λ _. refl), (λ ne. absurd (ne z))),
      ))
      (λ nz. (v, keeps, tt, unchanged m opened terms s 520 id v c at b, ((λ z. absurd (nz z)), (λ _. refl))))

  -- a word changes of which the rule says nothing: the bell, and the counts of those who sleep
  pub beside : (opened : List X × List W) (terms : Terms) (slots id i : ℕ) (f : ℕ → ℕ) (v : View E X W) (c : List (ℕ × Slot X W)) → 520 < i → ((d : ℕ) → d < 32 → i ≢ d * 8 + 528) → Allows (HubRule m opened terms) slots id (v, c) i f (λ _ b. b ≡ (v, c))
  beside opened terms slots id i f v c high apart s b len at fits =
      let x : ℕ = f (get_or s.words i 0) in (
        v,
        keeps,
        tt,
        piled opened terms s i x id v v.pile s.homes b.desks (omega arith) at b b.long (λ j lt. refl)
            (places_keep s.words (set s.words i x) s.homes s.homes b.desks s.views id v v at refl (λ d lt. get_or-set_other s.words i (d * 8 + 528) x 0 (λ e. apart d lt (omega arith))) (λ d lt. refl) b.places)
            (works_keep m opened.1 b.log b.desks s.views id v v at refl b.works)
            (pending_keep (length opened.1) (get_or s.words 520 0) _ b.desks s.views id v v (get_or-set_other s.words i 520 x 0 (λ e. omega arith)) at refl b.pending),
        refl,
      )

  -- the turn of a desk is taken
  pub take_desk : (opened : List X × List W) (terms : Terms) (slots id d : ℕ) (v : View E X W) (c : List (ℕ × Slot X W)) → d < 32 → 0 < v.parts
      → Allows (HubRule m opened terms) slots id (v, c) (d * 8 + 528) (λ n. either (eqb n 0) 1 n) (TookDesk (step slots (d * 8 + 528) 0 1 none) (v, c))
  take_desk opened terms slots id d v c lt part s b len at fits =
      let n : ℕ = get_or s.words (d * 8 + 528) 0 in
      let F : ℕ → Type 0 = λ n'. (w : View E X W) × (a : Act (Slot X W)) × Valid s.homes c a × HubRule m opened terms (stepped s (d * 8 + 528) n' id c w a) × TookDesk (step slots (d * 8 + 528) 0 1 none) (v, c) n (w, carried_after c a) in
      exchanged n 0 1 F
      (λ free. let h = b.places.home d lt free in
      let q : Pile E W = at_desk v.pile d h.1 in
      let at' = at_piles s.views id v at in
      let P : Piles E W → Type 0 = λ l. DeskRule (set s.words (d * 8 + 528) 1) (set s.homes (d + 64) none) b.desks l in
      let Q : Piles E W → Type 0 = λ l. WorkRule m opened.1 b.log b.desks l in
      let R : Piles E W → ℕ → Type 0 = λ l j. PendRule (length opened.1) j b.desks l in
      let same = sym (piles_set s.views id (with_pile v q)) in (
        with_pile v q,
        takes (d + 64) (Desk h.0),
        h.2,
        piled opened terms s (d * 8 + 528) 1 id v q (set s.homes (d + 64) none) b.desks (omega arith) at b (length-set s.homes (d + 64) none ∙ b.long) (λ j jt. set_else s.homes (d + 64) j none (λ e. omega arith))
            (subst P same (desks_take s.words s.homes b.desks (piles_of s.views) id v.parts d v.pile q h.1 b.wide lt part at' refl free h.3 b.places))
            (subst Q same (works_same m opened.1 b.log b.desks (piles_of s.views) id v.parts v.pile.counted v.pile.empty v.pile.left v.pile.fetched v.pile.owes ((d, h.1) ∷ v.pile.desk) v.pile at' b.works))
            (subst (λ l. R l (get_or (set s.words (d * 8 + 528) 1) 520 0)) same (subst (R (set (piles_of s.views) id (v.parts, q))) (sym (get_or-set_other s.words (d * 8 + 528) 520 1 0 (λ e. omega arith)))
            (pend_look (length opened.1) (get_or s.words 520 0) b.desks (piles_of s.views) id v.parts v.pile at' b.pending v.pile.took ((d, h.1) ∷ v.pile.desk) v.pile.empty (b.pending.empty id (v.parts, v.pile) at')))),
        ((λ _. (d, h.0, h.1, refl, h.4, refl)), (λ ne. absurd (ne free))),
      ))
      (λ ne. (v, keeps, tt, unchanged m opened terms s (d * 8 + 528) id v c at b, ((λ free. absurd (ne free)), (λ _. refl))))

  -- the turn of a desk is given back, where other works lie on it
  given : (opened : List X × List W) (terms : Terms) (s : State (Slot X W) (View E X W)) (id d : ℕ) (v : View E X W) (q : Pile E W) (ps qs : List (ℕ × W)) (x : _) (y : Slot X W) → y ≡ Desk x → get_elem? s.views id ≡ some v → (b : HubRule m opened terms s)
      → v.pile.desk ≡ (d, ps) ∷ [] → q.desk ≡ [] → x.items ≡ things_of qs → WorkRule m opened.1 b.log (set b.desks d qs) (set (piles_of s.views) id (v.parts, q)) → PendRule (length opened.1) (get_or s.words 520 0) (set b.desks d qs) (set (piles_of s.views) id (v.parts, q))
      → HubRule m opened terms (record { words = set s.words (d * 8 + 528) 0; homes = set s.homes (d + 64) (some (Desk x)); views = set s.views id (with_pile v q) })
  given opened terms s id d v q ps qs x y is at b was gone lies works pending =
      let at' = at_piles s.views id v at in
      let P : Piles E W → Type 0 = λ l. DeskRule (set s.words (d * 8 + 528) 0) (set s.homes (d + 64) (some (Desk x))) (set b.desks d qs) l in
      let Q : Piles E W → Type 0 = λ l. WorkRule m opened.1 b.log (set b.desks d qs) l in
      let R : Piles E W → ℕ → Type 0 = λ l j. PendRule (length opened.1) j (set b.desks d qs) l in
      let same = sym (piles_set s.views id (with_pile v q)) in
      piled opened terms s (d * 8 + 528) 0 id v q (set s.homes (d + 64) (some (Desk x))) (set b.desks d qs) (omega arith) at b (length-set s.homes (d + 64) (some (Desk x)) ∙ b.long) (λ j jt. set_else s.homes (d + 64) j (some (Desk x)) (λ e. omega arith))
      (subst P same (desks_give s.words s.homes b.desks (piles_of s.views) id v.parts d v.pile q ps qs x y is b.wide b.long at' was gone lies b.places))
      (subst Q same works)
      (subst (λ l. R l (get_or (set s.words (d * 8 + 528) 0) 520 0)) same (subst (R (set (piles_of s.views) id (v.parts, q))) (sym (get_or-set_other s.words (d * 8 + 528) 520 0 0 (λ e. omega arith))) pending))

  -- the desk that a pile names has those works
  lies_there : (opened : List X × List W) (terms : Terms) (s : State (Slot X W) (View E X W)) (id d : ℕ) (v : View E X W) (ps : List (ℕ × W)) → get_elem? s.views id ≡ some v → (b : HubRule m opened terms s) → v.pile.desk ≡ (d, ps) ∷ [] → get_elem? b.desks d ≡ some ps
  lies_there opened terms s id d v ps at b was =
      let H : List (ℕ × List (ℕ × W)) → Type 0 = λ l. Each (λ k us. (k < 32) × (get_elem? b.desks k ≡ some us)) l in
      let h : H ((d, ps) ∷ []) = subst H was (b.places.held id (v.parts, v.pile) (at_piles s.views id v at)) in h.0.1

  -- the turn of a desk is given back, and nothing was taken
  pub give_back : (opened : List X × List W) (terms : Terms) (slots id d : ℕ) (v : View E X W) (cs : List (ℕ × Slot X W)) (ps : List (ℕ × W)) (x : _) (y : Slot X W) → y ≡ Desk x → v.pile.desk ≡ (d, ps) ∷ [] → x.items ≡ things_of ps → v.pile.owes ≡ false → 0 < v.parts
      → (q : Pile E W) → q ≡ away v.pile → Allows (HubRule m opened terms) slots id (v, (d + 64, Desk x) ∷ cs) (d * 8 + 528) (λ _. 0) (λ _ w. w ≡ (with_pile v q, cs))
  give_back opened terms slots id d v cs ps x y is was lies calm part q q_is s b len at fits =
      let at' = at_piles s.views id v at in
      let there = lies_there opened terms s id d v ps at b was in
      let a : Pile E W = away v.pile in (
        with_pile v a,
        gives,
        tt,
        given opened terms s id d v a ps ps x y is at b was refl lies
            (works_move m opened.1 b.log b.desks (piles_of s.views) id v.parts d v.pile a ps ps at' there (λ i. refl) (b.works.on_desk d ps there) (b.works.in_hand id (v.parts, v.pile) at') (b.works.took id (v.parts, v.pile) at') (b.works.offers id (v.parts, v.pile) at') (b.works.rests d ps there) b.works)
            (pend_fetch (length opened.1) (get_or s.words 520 0) b.desks (piles_of s.views) id v.parts v.pile at' b.pending d 0 a ps ps there (omega arith) (omega arith) (omega arith) refl refl refl (omega arith) calm part (b.pending.few id (v.parts, v.pile) at').0),
        ap {A = Pile E W} (λ p. (with_pile v p, cs)) (sym q_is),
      )

  -- the turn of a desk is given back, and one work was taken
  pub give_one : (opened : List X × List W) (terms : Terms) (slots id d i : ℕ) (w : W) (v : View E X W) (cs : List (ℕ × Slot X W)) (ps qs : List (ℕ × W)) (x : _) (y : Slot X W) → y ≡ Desk x → v.pile.desk ≡ (d, ps) ∷ [] → ps ≡ qs ++ (i, w) ∷ [] → x.items ≡ things_of qs → v.pile.owes ≡ false
      → (v.pile.kept ≡ []) × (v.pile.taken ≡ []) × (v.pile.offered ≡ []) → 32 ≤ v.parts
      → (q : Pile E W) → q ≡ takes_up v.pile ((i, w) ∷ []) → Allows (HubRule m opened terms) slots id (v, (d + 64, Desk x) ∷ cs) (d * 8 + 528) (λ _. 0) (λ _ w. w ≡ (with_pile v q, cs))
  give_one opened terms slots id d i w v cs ps qs x y is was split lies calm clear part q q_is s b len at fits =
      let at' = at_piles s.views id v at in
      let there = lies_there opened terms s id d v ps at b was in
      let O : ℕ → W → Type 0 = λ k u. get_elem? (offered m opened.1 b.log) k ≡ some u in
      let N : ℕ → W → Type 0 = λ k u. taking m k b.log ≡ [] in
      let a : Pile E W = takes_up v.pile ((i, w) ∷ []) in
      let one : List (ℕ × W) = (i, w) ∷ [] in
      let on = (let P : List (ℕ × W) → Type 0 = λ l. Each O l in each_cut O qs one (subst P split (b.works.on_desk d ps there))) in
      let never = (let P : List (ℕ × W) → Type 0 = λ l. Each N l in each_cut N qs one (subst P split (b.works.rests d ps there))) in
      let hand_a : hand a ≡ one = hand_is a i w clear.0 refl clear.2 in
      let hand_v : hand v.pile ≡ [] = ap {A = List (ℕ × W)} (λ l. l ++ (v.pile.taken ++ v.pile.offered)) clear.0 ∙ (ap {A = List (ℕ × W)} (λ l. l ++ v.pile.offered) clear.1 ∙ clear.2) in
      let long : length ps ≡ length qs + 1 = ap {A = List (ℕ × W)} length split ∙ length-append qs one in
      let long_a : length (hand a) ≡ 1 = ap {A = List (ℕ × W)} length hand_a in
      let long_v : length (hand v.pile) ≡ 0 = ap {A = List (ℕ × W)} length hand_v in (
        with_pile v a,
        gives,
        tt,
        given opened terms s id d v a ps qs x y is at b was refl lies
            (works_move m opened.1 b.log b.desks (piles_of s.views) id v.parts d v.pile a ps qs at' there
            (λ k. let e = ap {A = List (ℕ × W)} (count k) split in let f = count_more k qs one in let g = ap {A = List (ℕ × W)} (count k) hand_a in let h = ap {A = List (ℕ × W)} (count k) hand_v in omega arith)
            on.0 (let P : List (ℕ × W) → Type 0 = λ l. Each O l in subst P (sym hand_a) on.1) never.1 (b.works.offers id (v.parts, v.pile) at') never.0 b.works)
            (pend_fetch (length opened.1) (get_or s.words 520 0) b.desks (piles_of s.views) id v.parts v.pile at' b.pending d 1 a ps qs there long (omega arith) refl refl refl refl refl calm (omega arith) (omega arith)),
        ap {A = Pile E W} (λ p. (with_pile v p, cs)) (sym q_is),
      )

  -- the turn of a desk is given back, and what was offered lies on it
  pub give_more : (opened : List X × List W) (terms : Terms) (slots id d : ℕ) (v : View E X W) (cs : List (ℕ × Slot X W)) (ps : List (ℕ × W)) (x : _) (y : Slot X W) → y ≡ Desk x → v.pile.desk ≡ (d, ps) ∷ [] → x.items ≡ things_of (ps ++ v.pile.offered) → v.pile.owes ≡ false
      → length (ps ++ v.pile.offered) ≤ 2 ^ 58 → 0 < v.parts → Allows (HubRule m opened terms) slots id (v, (d + 64, Desk x) ∷ cs) (d * 8 + 528) (λ _. 0) (λ _. LeftOn (step slots (d * 8 + 528) 0 0 none) (v, (d + 64, Desk x) ∷ cs) 0)
  give_more opened terms slots id d v cs ps x y is was lies calm short part s b len at fits =
      let at' = at_piles s.views id v at in
      let there = lies_there opened terms s id d v ps at b was in
      let p : Pile E W = v.pile in
      let a : Pile E W = leaves p in
      let O : ℕ → W → Type 0 = λ k u. get_elem? (offered m opened.1 b.log) k ≡ some u in
      let N : ℕ → W → Type 0 = λ k u. taking m k b.log ≡ [] in
      let h = each_cut O p.kept (p.taken ++ p.offered) (b.works.in_hand id (v.parts, v.pile) at') in
      let t = each_cut O p.taken p.offered h.1 in
      let shorter : hand a ≡ p.kept ++ p.taken = ap {A = List (ℕ × W)} (λ l. p.kept ++ l) (append-nil p.taken) in
      let long_p : length (hand p) ≡ length p.kept + (length p.taken + length p.offered) = (let e = length-append p.kept (p.taken ++ p.offered) in let f = length-append p.taken p.offered in omega arith) in
      let long_a : length (hand a) ≡ length p.kept + length p.taken = ap {A = List (ℕ × W)} length shorter ∙ length-append p.kept p.taken in (
        with_pile v a,
        gives,
        tt,
        given opened terms s id d v a ps (ps ++ p.offered) x y is at b was refl lies
            (works_move m opened.1 b.log b.desks (piles_of s.views) id v.parts d p a ps (ps ++ p.offered) at' there
            (λ k. let e = count_more k ps p.offered in let f = ap {A = List (ℕ × W)} (count k) shorter in let g = count_more k p.kept p.taken in let i = count_more k p.kept (p.taken ++ p.offered) in let j = count_more k p.taken p.offered in omega arith)
            (each_more O ps p.offered (b.works.on_desk d ps there) t.1) (let P : List (ℕ × W) → Type 0 = λ l. Each O l in subst P (sym shorter) (each_more O p.kept p.taken h.0 t.0))
            (b.works.took id (v.parts, v.pile) at') tt (each_more N ps p.offered (b.works.rests d ps there) (b.works.offers id (v.parts, v.pile) at')) b.works)
            (pend_leave (length opened.1) (get_or s.words 520 0) b.desks (piles_of s.views) id v.parts p at' b.pending d (length p.offered) a ps (ps ++ p.offered) there (length-append ps p.offered) short (omega arith) refl calm refl refl refl calm part),
        refl,
      )

-- what is known of a seat that has just taken the turn of the desk k
pub desk_here : {E X W : Type 0} (slots k : ℕ) (a b : Me (Slot X W) (View E X W)) (r : ℕ) → TookDesk (step slots (k * 8 + 528) 0 1 none) a r b → r ≡ 0
    → (v : _) × (ps : List (ℕ × W)) × (b ≡ (with_pile a.0 (at_desk a.0.pile k ps), (k + 64, Desk v) ∷ a.1)) × (v.items ≡ things_of ps)
desk_here {X = X} {W = W} slots k a b r h z =
    let g = h.0 z in
    let same : g.0 ≡ k = let e = g.3 in omega arith in
    let P : ℕ → Type 0 = λ i. b ≡ (with_pile a.0 (at_desk a.0.pile i g.2), (i + 64, Desk g.1) ∷ a.1) in (g.1, g.2, subst P same g.5, g.4)

module _ {A : Type 0} where
  -- what is left of things that have all been counted
  pub drop_none : (ps : List (ℕ × A)) (xs : List A) → things_of ps ≡ xs → drop (length xs) ps ≡ []
  drop_none [] [] e = refl
  drop_none [] (x ∷ xs) e = refl
  drop_none (p ∷ ps) [] e = absurd (let q : p.1 ∷ things_of ps ≡ [] = e in cc)
  drop_none (p ∷ ps) (x ∷ xs) e = drop_none ps xs (let q : p.1 ∷ things_of ps ≡ x ∷ xs = e in cc)

  -- the last thing, with its number
  pub last_of : (ps : List (ℕ × A)) (xs : List A) (x : A) → things_of ps ≡ xs ++ x ∷ [] → (i : ℕ) × (qs : List (ℕ × A)) × (ps ≡ qs ++ (i, x) ∷ []) × (things_of qs ≡ xs) × (drop (length xs) ps ≡ (i, x) ∷ [])
  last_of [] [] x e = absurd (let q : [] ≡ x ∷ [] = e in cc)
  last_of [] (y ∷ xs) x e = absurd (let q : [] ≡ y ∷ (xs ++ x ∷ []) = e in cc)
  last_of (p ∷ []) [] x e = let q : p.1 ≡ x = (let r : p.1 ∷ [] ≡ x ∷ [] = e in cc) in let mk : A → ℕ × A = λ y. (p.0, y) in let s : p ∷ [] ≡ mk x ∷ [] = ap {A = A} (λ y. mk y ∷ []) q in (p.0, [], s, refl, s)
  last_of (p ∷ r ∷ ps) [] x e = absurd (let q : p.1 ∷ (r.1 ∷ things_of ps) ≡ x ∷ [] = e in cc)
  last_of (p ∷ ps) (y ∷ xs) x e =
      let q : p.1 ∷ things_of ps ≡ y ∷ (xs ++ x ∷ []) = e in
      let here : p.1 ≡ y = cc in
      let h = last_of ps xs x (cc) in (h.0, p ∷ h.1, ap (λ l. p ∷ l) h.2, (let t = h.3 in cc), h.4)

  nil_left : (xs ys : List A) → xs ++ ys ≡ [] → xs ≡ []
  nil_left [] ys e = refl
  nil_left (x ∷ xs) ys e = absurd (let q : x ∷ (xs ++ ys) ≡ [] = e in cc)

  nil_right : (xs ys : List A) → xs ++ ys ≡ [] → ys ≡ []
  nil_right [] ys e = e
  nil_right (x ∷ xs) ys e = absurd (let q : x ∷ (xs ++ ys) ≡ [] = e in cc)

-- a hand with nothing in it
pub hand_none : {E W : Type 0} (p : Pile E W) → hand p ≡ [] → (p.kept ≡ []) × (p.taken ≡ []) × (p.offered ≡ [])
hand_none p e = let r = nil_right p.kept (p.taken ++ p.offered) e in (nil_left p.kept (p.taken ++ p.offered) e, nil_left p.taken p.offered r, nil_right p.taken p.offered r)

-- the turn of a desk is given back, where its works and what was taken, if anything was, lay there
pub give_any : {Store E X W : Type 0} (m : Meaning Store E X W) (opened : List X × List W) (terms : Terms) (slots id d : ℕ) (me : Me (Slot X W) (View E X W)) (v : View E X W) (cs : List (ℕ × Slot X W)) (ps : List (ℕ × W)) (x : _) (y : Slot X W) (o : Option W) → y ≡ Desk x → me ≡ (v, (d + 64, Desk x) ∷ cs) → v.pile.desk ≡ (d, ps) ∷ []
    → things_of ps ≡ x.items ++ option_to_list o → v.pile.owes ≡ false → 32 ≤ v.parts → (IsSome o → hand v.pile ≡ []) → Allows (HubRule m opened terms) slots id me (d * 8 + 528) (λ _. 0) (λ _. Fetched (step slots (d * 8 + 528) 0 0 none) me 0)
give_any {E = E} {X = X} {W = W} m opened terms slots id d me v cs ps x y None is me_is was lies calm part idle =
    let P : Me (Slot X W) (View E X W) → Type 0 = λ a. Allows (HubRule m opened terms) slots id a (d * 8 + 528) (λ _. 0) (λ _. Fetched (step slots (d * 8 + 528) 0 0 none) a 0) in
    let on : lying v.pile.desk ≡ ps = ap {A = List (ℕ × List (ℕ × W))} lying was in
    let all : things_of ps ≡ x.items = lies ∙ append-nil x.items in
    let q : Pile E W = takes_up v.pile (drop (length x.items) (lying v.pile.desk)) in
    let none_left : drop (length x.items) (lying v.pile.desk) ≡ [] = ap {A = List (ℕ × W)} (drop (length x.items)) on ∙ drop_none ps x.items all in
    subst P (sym me_is) (give_back m opened terms slots id d v cs ps x y is was (sym all) calm (omega arith) q (ap {A = List (ℕ × W)} (takes_up v.pile) none_left))
give_any {E = E} {X = X} {W = W} m opened terms slots id d me v cs ps x y (Some w) is me_is was lies calm part idle =
    let P : Me (Slot X W) (View E X W) → Type 0 = λ a. Allows (HubRule m opened terms) slots id a (d * 8 + 528) (λ _. 0) (λ _. Fetched (step slots (d * 8 + 528) 0 0 none) a 0) in
    let on : lying v.pile.desk ≡ ps = ap {A = List (ℕ × List (ℕ × W))} lying was in
    let h = last_of ps x.items w lies in
    let q : Pile E W = takes_up v.pile (drop (length x.items) (lying v.pile.desk)) in
    let one_left : drop (length x.items) (lying v.pile.desk) ≡ (h.0, w) ∷ [] = ap {A = List (ℕ × W)} (drop (length x.items)) on ∙ h.4 in
    subst P (sym me_is) (give_one m opened terms slots id d h.0 w v cs ps h.1 x y is was h.2 (sym h.3) calm (hand_none v.pile (idle refl)) part q (ap {A = List (ℕ × W)} (takes_up v.pile) one_left))

-- what is then known
pub told_some : {E X W : Type 0} (slots d : ℕ) (me b : Me (Slot X W) (View E X W)) (v : View E X W) (cs : List (ℕ × Slot X W)) (ps : List (ℕ × W)) (x : _) (y : Slot X W) (o : Option W) → y ≡ Desk x → me ≡ (v, (d + 64, Desk x) ∷ cs) → v.pile.desk ≡ (d, ps) ∷ []
    → things_of ps ≡ x.items ++ option_to_list o → Fetched (step slots (d * 8 + 528) 0 0 none) me 0 b → IfSome o (λ w. (i : ℕ) × (b ≡ (with_pile v (takes_up v.pile ((i, w) ∷ [])), cs)))
told_some slots d me b v cs ps x y None is me_is was lies told = tt
told_some {E = E} {X = X} {W = W} slots d me b v cs ps x y (Some w) is me_is was lies told =
    let h = last_of ps x.items w lies in
    let P : Me (Slot X W) (View E X W) → Type 0 = λ a. Fetched (step slots (d * 8 + 528) 0 0 none) a 0 b in
    let one_left : drop (length x.items) (lying v.pile.desk) ≡ (h.0, w) ∷ [] = ap {A = List (ℕ × W)} (drop (length x.items)) (ap {A = List (ℕ × List (ℕ × W))} lying was) ∙ h.4 in
    (h.0, subst P me_is told ∙ ap {A = List (ℕ × W)} (λ l. (with_pile v (takes_up v.pile l), cs)) one_left)

pub told_none : {E X W : Type 0} (slots d : ℕ) (me b : Me (Slot X W) (View E X W)) (v : View E X W) (cs : List (ℕ × Slot X W)) (ps : List (ℕ × W)) (x : _) (y : Slot X W) (o : Option W) → y ≡ Desk x → me ≡ (v, (d + 64, Desk x) ∷ cs) → v.pile.desk ≡ (d, ps) ∷ []
    → things_of ps ≡ x.items ++ option_to_list o → Fetched (step slots (d * 8 + 528) 0 0 none) me 0 b → IfNone o (b ≡ (with_pile v (away v.pile), cs))
told_none {E = E} {X = X} {W = W} slots d me b v cs ps x y None is me_is was lies told =
    let P : Me (Slot X W) (View E X W) → Type 0 = λ a. Fetched (step slots (d * 8 + 528) 0 0 none) a 0 b in
    let none_left : drop (length x.items) (lying v.pile.desk) ≡ [] = ap {A = List (ℕ × W)} (drop (length x.items)) (ap {A = List (ℕ × List (ℕ × W))} lying was) ∙ drop_none ps x.items (lies ∙ append-nil x.items) in
    subst P me_is told ∙ ap {A = List (ℕ × W)} (λ l. (with_pile v (takes_up v.pile l), cs)) none_left
told_none slots d me b v cs ps x y (Some w) is me_is was lies told = tt

-- the works in a slot
abbrev pub slot_works : {X W : Type 0} → Slot X W → List W
slot_works (Shard x) = []
slot_works (Desk v) = v.items

-- a pile that held no desk's turn is as it was
pub away_is : {E X W : Type 0} (me : Me (Slot X W) (View E X W)) → me.0.pile.desk ≡ [] → ◌≡◌ {A = Me (Slot X W) (View E X W)} (with_pile me.0 (away me.0.pile), me.1) me
away_is {E} {X} {W} me e =
    let p : Pile E W = me.0.pile in
    ap {A = List (ℕ × List (ℕ × W))} (λ l. (with_pile me.0 (pile p.kept p.taken p.offered p.took p.counted p.owes l p.empty p.left p.fetched), me.1)) (sym e)

pub some_to : {A : Type 0} (o : Option A) (P Q : A → Type 0) → ((a : A) → P a → Q a) → IfSome o P → IfSome o Q
some_to None P Q f h = tt
some_to (Some a) P Q f h = f a h

pub none_to : {A : Type 0} (o : Option A) (P Q : Type 0) → (P → Q) → IfNone o P → IfNone o Q
none_to None P Q f h = f h
none_to (Some a) P Q f h = tt

-- the turn of a desk is given back, with what was offered
pub give_on : {Store E X W : Type 0} (m : Meaning Store E X W) (opened : List X × List W) (terms : Terms) (slots id d : ℕ) (me : Me (Slot X W) (View E X W)) (v : View E X W) (cs : List (ℕ × Slot X W)) (ps : List (ℕ × W)) (x : _) (y : Slot X W) → y ≡ Desk x → me ≡ (v, (d + 64, Desk x) ∷ cs) → v.pile.desk ≡ (d, ps) ∷ []
    → x.items ≡ things_of ps ++ things_of v.pile.offered → v.pile.owes ≡ false → length x.items ≤ 2 ^ 58 → 32 ≤ v.parts → Allows (HubRule m opened terms) slots id me (d * 8 + 528) (λ _. 0) (λ _. LeftOn (step slots (d * 8 + 528) 0 0 none) me 0)
give_on {E = E} {X = X} {W = W} m opened terms slots id d me v cs ps x y is me_is was lies calm short part =
    let P : Me (Slot X W) (View E X W) → Type 0 = λ a. Allows (HubRule m opened terms) slots id a (d * 8 + 528) (λ _. 0) (λ _. LeftOn (step slots (d * 8 + 528) 0 0 none) a 0) in
    let both : x.items ≡ things_of (ps ++ v.pile.offered) = lies ∙ sym (things_both ps v.pile.offered) in
    let long : length x.items ≡ length (ps ++ v.pile.offered) = ap {A = List W} length both ∙ length_things (ps ++ v.pile.offered) in
    subst P (sym me_is) (give_more m opened terms slots id d v cs ps x y is was both calm (omega arith) (omega arith))

pub left_told : {E X W : Type 0} (slots d : ℕ) (me b : Me (Slot X W) (View E X W)) (v : View E X W) (cs : List (ℕ × Slot X W)) (x : _) (y : Slot X W) → y ≡ Desk x → me ≡ (v, (d + 64, Desk x) ∷ cs) → LeftOn (step slots (d * 8 + 528) 0 0 none) me 0 b → b ≡ (with_pile v (leaves v.pile), cs)
left_told {E} {X} {W} slots d me b v cs x y is me_is told = let P : Me (Slot X W) (View E X W) → Type 0 = λ a. LeftOn (step slots (d * 8 + 528) 0 0 none) a 0 b in subst P me_is told
