-- Turns are taken and given back under the rule.
use Rattle.std.proofs.Common.{◌≡◌, ◌≢◌, ℕ, ◌+◌, ◌*◌, ◌<◌, List, [], ◌∷◌, length, get_or, set, refl, sym, ap, subst, ◌∙◌, arith, eq-eqb, ne_eqb, eqb, ⊎_elim, Some, get_or-set_same, get_or-set_other}
use Rattle.std.proofs.Math.ListN.{length-set}
use mathlib.Core.Option.{some, none}
use mathlib.Core.Option as opt
use mathlib.Core.Logic.{dite}
use native.Mathlib.Decide.{ℕ_discrete}
use prog.Atomic.{either}
use lib.ListN.{get_elem?}
use Rattle.atomic_table.specs.Table.{State, Me, Act, keeps, takes, gives, step, rest, stepped, Allows, Valid, carried_after}
use Rattle.atomic_table.proofs.Lists.{at_set, set_here, set_else, set_again, exchanged}
use Rattle.std.proofs.lemmas.List.{set-get_or}
use Rattle.hub_rule.specs.declared.slot.Slot.{Slot}
use Rattle.hub_rule.specs.declared.slot.Slot.TheVariants.{Shard}
use Rattle.hub_rule.specs.declared.view.View.{View}
use Rattle.hub_rule.specs.declared.view.Tally.{Tally}
use Rattle.hub_rule.specs.declared.view.Pile.{Pile}
use Rattle.hub_rule.specs.declared.terms.Terms.{Terms}
use Rattle.hub_rule.specs.Counts.{one_if, count, total, things_of, Each}
use Rattle.hub_rule.specs.Meaning.{Meaning, Follows}
use Rattle.hub_rule.specs.Rule.{view, TurnRule, DrawRule, HubRule, Took, Gave, since_after}
use Rattle.hub_rule.proofs.Sums.{total_set, total_same}
use Rattle.hub_rule.proofs.Tallies.{charges_stay, stops_stay}
use Rattle.hub_rule.proofs.Piles.{places_keep, works_keep, pending_keep}

-- the books stay where a view keeps what is its own in them
pub books_stay : {E X W : Type 0} (seats : ℕ) (log : List E) (word word' : ℕ) (views : List (View E X W)) (id : ℕ) (v w : View E X W)
    → word' ≡ word → get_elem? views id ≡ some v → w.entries ≡ v.entries → w.parts ≡ v.parts → DrawRule seats log word views → DrawRule seats log word' (set views id w)
books_stay seats log word word' views id v w same at entries parts b = record {
  drawn = same ∙ b.drawn;
  numbers = λ j u bt. ⊎_elim (λ t. let P : View _ _ _ → Type 0 = λ x. Each (λ n e. get_elem? log n ≡ some e) x.entries in subst P t.1 (let Q : List _ → Type 0 = λ x. Each (λ n e. get_elem? log n ≡ some e) x in subst Q (sym entries) (b.numbers id v at))) (λ t. b.numbers j u t.1) (at_set views id j w u bt);
  once = λ n. total_same (λ x. count n x.entries) views id v w at (ap (count n) entries) ∙ b.once n;
  sums = total_same (λ x. length x.entries) views id v w at (ap length entries) ∙ b.sums;
  parts = total_same (λ x. x.parts) views id v w at parts ∙ b.parts;
  small = λ j u bt. ⊎_elim (λ t. let h = b.small id v at in let a = ap (λ x. length x.entries) t.1 in let c = ap (λ x. x.parts) t.1 in let d = ap length entries in omega arith) (λ t. b.small j u t.1) (at_set views id j w u bt);
}

module _ {Store E X W : Type 0} (m : Meaning Store E X W) where
  abbrev took : View E X W → ℕ → X → View E X W
  took v k x = view v.parts v.entries ((k, x) ∷ v.held) v.since v.tally v.pile

  turned_take : (now : Store) (words : List ℕ) (homes : List (opt.Option (Slot X W))) (views : List (View E X W)) (id k : ℕ) (v : View E X W) (x : X)
      → length words ≡ 800 → k < 64 → 0 < v.parts → get_elem? views id ≡ some v → v.since ≡ [] → get_or words (k * 8 + 8) 0 ≡ 0 → m.projects now k x
      → TurnRule m now words homes views → TurnRule m now (set words (k * 8 + 8) 1) (set homes k none) (set views id (took v k x))
  turned_take now words homes views id k v x wide lt part at since free shown t =
      let w : View E X W = took v k x in
      let sums : (j : ℕ) → total (λ u. count j u.held) (set views id w) + count j v.held ≡ total (λ u. count j u.held) views + (one_if (eqb k j) + count j v.held) = λ j. total_set (λ u. count j u.held) views id v w at in
      let here : one_if (eqb k k) ≡ 1 = ap one_if (eq-eqb k k refl) in
      let else : (j : ℕ) → j ≢ k → one_if (eqb k j) ≡ 0 = λ j ne. ap one_if (ne_eqb k j (λ h. ne (sym h))) in
      let word_here : get_or (set words (k * 8 + 8) 1) (k * 8 + 8) 0 ≡ 1 = get_or-set_same words (k * 8 + 8) 1 0 (omega arith) in
      let word_else : (j : ℕ) → j ≢ k → get_or (set words (k * 8 + 8) 1) (j * 8 + 8) 0 ≡ get_or words (j * 8 + 8) 0 = λ j ne. get_or-set_other words (k * 8 + 8) (j * 8 + 8) 1 0 (λ h. ne (omega arith)) in
      record {
        turn = λ j jt. dite (ℕ_discrete j k)
            (λ e. let P : ℕ → Type 0 = λ i. get_or (set words (k * 8 + 8) 1) (i * 8 + 8) 0 ≡ total (λ u. count i u.held) (set views id w) in
            subst P (sym e) (let a = sums k in let b = t.turn k lt in omega arith))
            (λ ne. let a = sums j in let b = t.turn j jt in let c = else j ne in let d = word_else j ne in omega arith);
        one = λ j jt. dite (ℕ_discrete j k)
            (λ e. let P : ℕ → Type 0 = λ i. total (λ u. count i u.held) (set views id w) < 2 in
            subst P (sym e) (let a = sums k in let b = t.turn k lt in omega arith))
            (λ ne. let a = sums j in let b = t.one j jt in let c = else j ne in omega arith);
        home = λ j jt z. dite (ℕ_discrete j k)
            (λ e. absurd (let P : ℕ → Type 0 = λ i. get_or (set words (k * 8 + 8) 1) (i * 8 + 8) 0 ≡ 0 in let q : get_or (set words (k * 8 + 8) 1) (k * 8 + 8) 0 ≡ 0 = subst P e z in omega arith))
            (λ ne. let h = t.home j jt (sym (word_else j ne) ∙ z) in (h.0, set_else homes k j none ne ∙ h.1, h.2));
        idle = λ j u bt z. ⊎_elim (λ s. absurd (let q = ap (λ (y : View E X W). y.parts) s.1 in omega arith)) (λ s. t.idle j u s.1 z) (at_set views id j w u bt);
        held = λ j u bt. ⊎_elim
            (λ s. let P : View E X W → Type 0 = λ y. Each (λ n a. (n < 64) × ((z : X) → Follows m y.since n a z → m.projects now n z)) y.held in
            subst P s.1 ((lt, λ y f. let Q : List E → Type 0 = λ es. Follows m es k x y in let same : y ≡ x = subst Q since f in let R : X → Type 0 = λ z. m.projects now k z in subst R (sym same) shown), t.held id v at))
            (λ s. t.held j u s.1) (at_set views id j w u bt);
      }

  -- a step that changes nothing
  pub unchanged : (opened : List X × List W) (terms : Terms) (s : State (Slot X W) (View E X W)) (i id : ℕ) (v : View E X W) (c : List (ℕ × Slot X W)) → get_elem? s.views id ≡ some v → HubRule m opened terms s
      → HubRule m opened terms (stepped s i (get_or s.words i 0) id c v keeps)
  unchanged opened terms s i id v c at b =
      let P : List ℕ → Type 0 = λ ws. HubRule m opened terms (record { words = ws; homes = s.homes; views = set s.views id v }) in
      let Q : List (View E X W) → Type 0 = λ vs. HubRule m opened terms (record { words = s.words; homes = s.homes; views = vs }) in
      subst P (sym (set-get_or s.words i 0)) (subst Q (sym (set_again s.views id v at)) b)

  pub take_turn : (opened : List X × List W) (terms : Terms) (slots id k : ℕ) (v : View E X W) (c : List (ℕ × Slot X W)) → k < 64 → 0 < v.parts → v.since ≡ []
      → Allows (HubRule m opened terms) slots id (v, c) (k * 8 + 8) (λ n. either (eqb n 0) 1 n) (Took (step slots (k * 8 + 8) 0 1 none) (v, c))
  take_turn opened terms slots id k v c lt part since s b len at fits =
      let n : ℕ = get_or s.words (k * 8 + 8) 0 in
      let F : ℕ → Type 0 = λ n'. (w : View E X W) × (a : Act (Slot X W)) × Valid s.homes c a × HubRule m opened terms (stepped s (k * 8 + 8) n' id c w a) × Took (step slots (k * 8 + 8) 0 1 none) (v, c) n (w, carried_after c a) in
      exchanged n 0 1 F
      (λ free. let h = b.turns.home k lt free in (
        took v k h.0,
        takes k (Shard (Some h.0)),
        h.1,
        record {
          store = b.store;
          log = b.log;
          wide = length-set s.words (k * 8 + 8) 1 ∙ b.wide;
          long = length-set s.homes k none ∙ b.long;
          few = b.few;
          opens = b.opens;
          starts = b.starts;
          legal = b.legal;
          turns = turned_take _ s.words s.homes s.views id k v h.0 b.wide lt part at since free h.2 b.turns;
          draws = books_stay terms.seats (things_of b.log) _ _ s.views id v (took v k h.0) (get_or-set_other s.words (k * 8 + 8) 0 1 0 (λ e. omega arith)) at refl refl b.draws;
          charges = charges_stay m.price terms (get_or s.words 1 0) _ s.views id v (took v k h.0) (get_or-set_other s.words (k * 8 + 8) 1 1 0 (λ e. omega arith)) at refl refl refl refl b.charges;
          stops = stops_stay m.faults (things_of b.log) (get_or s.words 2 0) _ s.views id v (took v k h.0) (get_or-set_other s.words (k * 8 + 8) 2 1 0 (λ e. omega arith)) at refl refl b.stops;
          desks = b.desks;
          places = places_keep s.words (set s.words (k * 8 + 8) 1) s.homes (set s.homes k none) b.desks s.views id v (took v k h.0) at refl (λ d dt. get_or-set_other s.words (k * 8 + 8) (d * 8 + 528) 1 0 (λ e. omega arith)) (λ d dt. set_else s.homes k (d + 64) none (λ e. omega arith)) b.places;
          works = works_keep m opened.1 b.log b.desks s.views id v (took v k h.0) at refl b.works;
          pending = pending_keep (length opened.1) (get_or s.words 520 0) _ b.desks s.views id v (took v k h.0) (get_or-set_other s.words (k * 8 + 8) 520 1 0 (λ e. omega arith)) at refl b.pending;
        },
        ((λ _. (k, h.0, refl, refl)), (λ ne. absurd (ne free))),
      ))
      (λ ne. (v, keeps, tt, unchanged opened terms s (k * 8 + 8) id v c at b, ((λ free. absurd (ne free)), (λ _. refl))))

  pub held_still : (now : Store) (since : List E) (hs : List (ℕ × X)) → Each (λ n a. (n < 64) × ((z : X) → Follows m since n a z → m.projects now n z)) hs
      → Each (λ n a. (n < 64) × ((z : X) → Follows m (since_after hs since) n a z → m.projects now n z)) hs
  held_still now since [] h = tt
  held_still now since (p ∷ ps) h = h

  turned_give : (now : Store) (words : List ℕ) (homes : List (opt.Option (Slot X W))) (views : List (View E X W)) (id k parts : ℕ) (entries : List (ℕ × E)) (hs : List (ℕ × X)) (since : List E) (t' : Tally E) (p' : Pile E W) (x y : X)
      → length words ≡ 800 → length homes ≡ 96 → get_elem? views id ≡ some (view parts entries ((k, x) ∷ hs) since t' p') → Follows m since k x y
      → TurnRule m now words homes views → TurnRule m now (set words (k * 8 + 8) 0) (set homes k (some (Shard (Some y)))) (set views id (view parts entries hs (since_after hs since) t' p'))
  turned_give now words homes views id k parts entries hs since t' p' x y wide long at goes t =
      let v : View E X W = view parts entries ((k, x) ∷ hs) since t' p' in
      let w : View E X W = view parts entries hs (since_after hs since) t' p' in
      let mine_held = t.held id v at in
      let lt : k < 64 = mine_held.0.0 in
      let sums : (j : ℕ) → total (λ u. count j u.held) (set views id w) + (one_if (eqb k j) + count j hs) ≡ total (λ u. count j u.held) views + count j hs = λ j. total_set (λ u. count j u.held) views id v w at in
      let here : one_if (eqb k k) ≡ 1 = ap one_if (eq-eqb k k refl) in
      let else : (j : ℕ) → j ≢ k → one_if (eqb k j) ≡ 0 = λ j ne. ap one_if (ne_eqb k j (λ h. ne (sym h))) in
      let word_here : get_or (set words (k * 8 + 8) 0) (k * 8 + 8) 0 ≡ 0 = get_or-set_same words (k * 8 + 8) 0 0 (omega arith) in
      let word_else : (j : ℕ) → j ≢ k → get_or (set words (k * 8 + 8) 0) (j * 8 + 8) 0 ≡ get_or words (j * 8 + 8) 0 = λ j ne. get_or-set_other words (k * 8 + 8) (j * 8 + 8) 0 0 (λ h. ne (omega arith)) in
      record {
        turn = λ j jt. dite (ℕ_discrete j k)
            (λ e. let P : ℕ → Type 0 = λ i. get_or (set words (k * 8 + 8) 0) (i * 8 + 8) 0 ≡ total (λ u. count i u.held) (set views id w) in
            subst P (sym e) (let a = sums k in let b = t.one k lt in omega arith))
            (λ ne. let a = sums j in let b = t.turn j jt in let c = else j ne in let d = word_else j ne in omega arith);
        one = λ j jt. let a = sums j in let b = t.one j jt in omega arith;
        home = λ j jt z. dite (ℕ_discrete j k)
            (λ e. let P : ℕ → Type 0 = λ i. (x' : X) × (get_elem? (set homes k (some (Shard (Some y)))) i ≡ some (some (Shard (Some x')))) × m.projects now i x' in
            subst P (sym e) (y, set_here homes k (some (Shard (Some y))) (omega arith), mine_held.0.1 y goes))
            (λ ne. let h = t.home j jt (sym (word_else j ne) ∙ z) in (h.0, set_else homes k j (some (Shard (Some y))) ne ∙ h.1, h.2));
        idle = λ j u bt z. ⊎_elim (λ s. absurd (let q = ap (λ (y : View E X W). y.parts) s.1 in let e = ap (λ (l : List (ℕ × X)). count k l) (t.idle id v at (q ∙ z)) in omega arith)) (λ s. t.idle j u s.1 z) (at_set views id j w u bt);
        held = λ j u bt. ⊎_elim
            (λ s. let P : View E X W → Type 0 = λ y'. Each (λ n a. (n < 64) × ((z : X) → Follows m y'.since n a z → m.projects now n z)) y'.held in
            subst P s.1 (held_still now since hs mine_held.1))
            (λ s. t.held j u s.1) (at_set views id j w u bt);
      }

  pub give_turn : (opened : List X × List W) (terms : Terms) (slots id k : ℕ) (v : View E X W) (c cs : List (ℕ × Slot X W)) (hs : List (ℕ × X)) (x y : X)
      → v.held ≡ (k, x) ∷ hs → c ≡ (k, Shard (Some y)) ∷ cs → Follows m v.since k x y
      → Allows (HubRule m opened terms) slots id (v, c) (k * 8 + 8) (λ _. 0) (λ _. Gave (step slots (k * 8 + 8) 0 0 none) (v, c) 0)
  give_turn opened terms slots id k v c cs hs x y has out goes =
      let P : List (ℕ × X) → List (ℕ × Slot X W) → Type 0 = λ h d. Allows (HubRule m opened terms) slots id (view v.parts v.entries h v.since v.tally v.pile, d) (k * 8 + 8) (λ _. 0) (λ _. Gave (step slots (k * 8 + 8) 0 0 none) (view v.parts v.entries h v.since v.tally v.pile, d) 0) in
      subst (λ h. P h c) (sym has) (subst (P ((k, x) ∷ hs)) (sym out) (λ s b len at fits. let lt : k < 64 = (b.turns.held id (view v.parts v.entries ((k, x) ∷ hs) v.since v.tally v.pile) at).0.0 in (
        view v.parts v.entries hs (since_after hs v.since) v.tally v.pile,
        gives,
        tt,
        record {
          store = b.store;
          log = b.log;
          wide = length-set s.words (k * 8 + 8) 0 ∙ b.wide;
          long = length-set s.homes k (some (Shard (Some y))) ∙ b.long;
          few = b.few;
          opens = b.opens;
          starts = b.starts;
          legal = b.legal;
          turns = turned_give _ s.words s.homes s.views id k v.parts v.entries hs v.since v.tally v.pile x y b.wide b.long at goes b.turns;
          draws = books_stay terms.seats (things_of b.log) _ _ s.views id (view v.parts v.entries ((k, x) ∷ hs) v.since v.tally v.pile) (view v.parts v.entries hs (since_after hs v.since) v.tally v.pile) (get_or-set_other s.words (k * 8 + 8) 0 0 0 (λ e. omega arith)) at refl refl b.draws;
          charges = charges_stay m.price terms (get_or s.words 1 0) _ s.views id (view v.parts v.entries ((k, x) ∷ hs) v.since v.tally v.pile) (view v.parts v.entries hs (since_after hs v.since) v.tally v.pile) (get_or-set_other s.words (k * 8 + 8) 1 0 0 (λ e. omega arith)) at refl refl refl refl b.charges;
          stops = stops_stay m.faults (things_of b.log) (get_or s.words 2 0) _ s.views id (view v.parts v.entries ((k, x) ∷ hs) v.since v.tally v.pile) (view v.parts v.entries hs (since_after hs v.since) v.tally v.pile) (get_or-set_other s.words (k * 8 + 8) 2 0 0 (λ e. omega arith)) at refl refl b.stops;
          desks = b.desks;
          places = places_keep s.words (set s.words (k * 8 + 8) 0) s.homes (set s.homes k (some (Shard (Some y)))) b.desks s.views id (view v.parts v.entries ((k, x) ∷ hs) v.since v.tally v.pile) (view v.parts v.entries hs (since_after hs v.since) v.tally v.pile) at refl (λ d dt. get_or-set_other s.words (k * 8 + 8) (d * 8 + 528) 0 0 (λ e. omega arith)) (λ d dt. set_else s.homes k (d + 64) (some (Shard (Some y))) (λ e. omega arith)) b.places;
          works = works_keep m opened.1 b.log b.desks s.views id (view v.parts v.entries ((k, x) ∷ hs) v.since v.tally v.pile) (view v.parts v.entries hs (since_after hs v.since) v.tally v.pile) at refl b.works;
          pending = pending_keep (length opened.1) (get_or s.words 520 0) _ b.desks s.views id (view v.parts v.entries ((k, x) ∷ hs) v.since v.tally v.pile) (view v.parts v.entries hs (since_after hs v.since) v.tally v.pile) (get_or-set_other s.words (k * 8 + 8) 520 0 0 (λ e. omega arith)) at refl b.pending;
        },
        refl,
      )))

-- what is known of a seat that has just taken the turn of k
pub took_here : {E X W : Type 0} (slots k : ℕ) (a b : Me (Slot X W) (View E X W)) (r : ℕ) → Took (step slots (k * 8 + 8) 0 1 none) a r b → r ≡ 0
    → (x : X) × (b ≡ (view a.0.parts a.0.entries ((k, x) ∷ a.0.held) a.0.since a.0.tally a.0.pile, (k, Shard (Some x)) ∷ a.1))
took_here {X = X} slots k a b r h z = let g = h.0 z in
    let same : g.0 ≡ k = let e = g.2 in omega arith in
    let P : ℕ → Type 0 = λ i. b ≡ (view a.0.parts a.0.entries ((i, g.1) ∷ a.0.held) a.0.since a.0.tally a.0.pile, (i, Shard (Some g.1)) ∷ a.1) in (g.1, subst P same g.3)

pub heads : {A : Type 0} (l cs : List (ℕ × A)) (p : ℕ × A) → l ≡ p ∷ cs → l ≡ p ∷ rest l
heads l cs p e = e ∙ ap (λ t. p ∷ rest t) (sym e)

abbrev first_or : {A : Type 0} → A → List A → A
first_or d [] = d
first_or d (x ∷ xs) = x

-- what `exchange` found in the slot that was just taken
pub found_here : {A : Type 0} (l cs : List (ℕ × A)) (k : ℕ) (x r : A) → l ≡ (k, x) ∷ cs → l ≡ (k, r) ∷ rest l → r ≡ x
found_here {A = A} l cs k x r e f = let g : (k, r) ∷ rest l ≡ (k, x) ∷ cs = sym f ∙ e in ap (λ (t : List (ℕ × A)). (first_or {A = ℕ × A} (k, x) t).1) g

pub rests : {A : Type 0} (l cs : List (ℕ × A)) (p : ℕ × A) → l ≡ p ∷ cs → rest l ≡ cs
rests l cs p e = ap rest e
