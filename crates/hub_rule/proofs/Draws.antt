-- An entry is drawn under the rule.
use Rattle.std.proofs.Common.{◌≡◌, ℕ, ◌+◌, ◌*◌, ◌%◌, ◌^◌, ◌<◌, ◌≤◌, Bool, true, false, List, [], ◌∷◌, ◌++◌, length, get_or, set, refl, sym, ap, subst, ◌∙◌, arith, eq-eqb, ne_eqb, eqb, ⊎_elim, Some, nat_lt, get_or-set_same, get_or-set_other, length-append, append_assoc, append-nil}
use Rattle.std.proofs.Math.ListN.{length-set}
use Rattle.std.proofs.lemmas.Bool.Decides.{nat_tests}
use mathlib.Core.Option.{some, none}
use mathlib.Core.Option as opt
use mathlib.Core.Logic.{dite}
use native.Mathlib.Decide.{ℕ_discrete}
use lib.ListN.{get_elem?}
use Rattle.atomic_table.specs.Table.{keeps, step, stepped, Allows}
use Rattle.atomic_table.proofs.Lists.{at_set, at_longer, at_last}
use Rattle.hub_rule.specs.declared.slot.Slot.{Slot}
use Rattle.hub_rule.specs.declared.view.View.{View}
use Rattle.hub_rule.specs.declared.view.Tally.{Tally}
use Rattle.hub_rule.specs.declared.terms.Terms.{Terms}
use Rattle.hub_rule.specs.Counts.{one_if, count, total, once_below, things_of, numbered, Each}
use Rattle.hub_rule.specs.Meaning.{Meaning, Lawful, store_after, offered, taking, Pending, MayFollow, Allowed, AllowedAfter, Passes, Follows, AllFollow}
use Rattle.hub_rule.specs.Rule.{view, TurnRule, DrawRule, StopRule, HubRule, Drew, MayDraw, after_draw, draws_on, kept_if, since_after, owes, piles_of}
use Rattle.hub_rule.specs.Works.{hand, Piles, DeskRule, WorkRule, PendRule}
use Rattle.hub_rule.specs.declared.view.Pile.{Pile}
use Rattle.hub_rule.proofs.Piles.{at_piles, piles_set, desks_on, desks_same}
use Rattle.hub_rule.proofs.Offers.{truth, hand_is, unended, works_draw, length_numbered}
use Rattle.hub_rule.proofs.Counting.{pend_draw}
use Rattle.hub_rule.proofs.Lookups.{get_some}
use Rattle.hub_rule.proofs.Sums.{total_set, total_same, total_at, total_two, total_le, total_times, count_more, each_to, each_more, each_in}
use Rattle.hub_rule.proofs.Turns.{held_still}
use Rattle.hub_rule.proofs.Tallies.{charges_stay, stops_grow}

module _ {Store E X W : Type 0} (m : Meaning Store E X W) where
  pub store_more : (st : Store) (log : List E) (e : E) → store_after m st (log ++ e ∷ []) ≡ m.after (store_after m st log) e
  store_more st [] e = refl
  store_more st (x ∷ xs) e = store_more (m.after st x) xs e

  pub things_more : (log : List (ℕ × E)) (p : ℕ × E) → things_of (log ++ p ∷ []) ≡ things_of log ++ p.1 ∷ []
  things_more [] p = refl
  things_more (q ∷ qs) p = ap (λ l. q.1 ∷ l) (things_more qs p)

  allowed_after : (st : Store) (works : List W) (before log : List (ℕ × E)) (p : ℕ × E) → AllowedAfter m st works before log → MayFollow m st works (before ++ log) p → AllowedAfter m st works before (log ++ p ∷ [])
  allowed_after st works before [] p h may = let P : List (ℕ × E) → Type 0 = λ l. MayFollow m st works l p in (subst P (append-nil before) may, tt)
  allowed_after st works before (q ∷ qs) p h may =
      let P : List (ℕ × E) → Type 0 = λ l. MayFollow m st works l p in (h.0, allowed_after st works (before ++ q ∷ []) qs p h.1 (subst P (sym (append_assoc before (q ∷ []) qs)) may))

  pub allowed_more : (st : Store) (works : List W) (log : List (ℕ × E)) (p : ℕ × E) → Allowed m st works log → MayFollow m st works log p → Allowed m st works (log ++ p ∷ [])
  allowed_more st works log p h may = allowed_after st works [] log p h may

  follows_last : (es : List E) (e : E) (k : ℕ) (x y : X) → Follows m (es ++ e ∷ []) k x y → (z : X) × Follows m es k x z × Passes m (m.touched e k) e k z y
  follows_last [] e k x y h = (x, refl, subst (λ t. Passes m (m.touched e k) e k x t) (sym h.2) h.1)
  follows_last (d ∷ es) e k x y h = let r = follows_last es e k h.0 y h.2 in (r.0, (h.0, h.1, r.1), r.2)

  shown_each : (now : Store) (since : List E) (held before : List (ℕ × X)) → AllFollow m since held before
      → Each (λ k x. (k < 64) × ((y : X) → Follows m since k x y → m.projects now k y)) held → Each (m.projects now) before
  shown_each now since [] [] f h = tt
  shown_each now since [] (q ∷ qs) f h = absurd f
  shown_each now since (p ∷ ps) [] f h = tt
  shown_each now since (p ∷ ps) (q ∷ qs) f h = (let P : ℕ → Type 0 = λ n. m.projects now n q.1 in subst P (sym f.0) (h.0.1 q.1 f.1), shown_each now since ps qs f.2 h.1)

  module _ (laws : Lawful m) where
    passes : (now : Store) (e : E) (k : ℕ) (z y : X) → m.allows now e → (b : Bool) → m.touched e k ≡ b → m.projects now k z → Passes m b e k z y → m.projects (m.after now e) k y
    passes now e k z y a true is s p = laws.projection now e k z y a is s p
    passes now e k z y a false is s p = subst (λ t. m.projects (m.after now e) k t) (sym p) (laws.untouched now e k z is s)

    turned_draw : (now : Store) (words : List ℕ) (homes : List (opt.Option (Slot X W))) (views : List (View E X W)) (id n : ℕ) (v : View E X W) (entries : List (ℕ × E)) (t' : Tally E) (p' : Pile E W) (e : E)
        → get_elem? views id ≡ some v → m.allows now e → ((k : ℕ) → m.touched e k ≡ true → 0 < count k v.held)
        → TurnRule m now words homes views → TurnRule m (m.after now e) (set words 0 n) homes (set views id (view v.parts entries v.held (since_after v.held (v.since ++ e ∷ [])) t' p'))
    turned_draw now words homes views id n v entries t' p' e at may within t =
        let w : View E X W = view v.parts entries v.held (since_after v.held (v.since ++ e ∷ [])) t' p' in
        let same : (k : ℕ) → total (λ u. count k u.held) (set views id w) ≡ total (λ u. count k u.held) views = λ k. total_same (λ u. count k u.held) views id v w at refl in
        let word : (k : ℕ) → get_or (set words 0 n) (k * 8 + 8) 0 ≡ get_or words (k * 8 + 8) 0 = λ k. get_or-set_other words 0 (k * 8 + 8) n 0 (λ h. omega arith) in
        record {
          turn = λ k lt. word k ∙ (t.turn k lt ∙ sym (same k));
          one = λ k lt. let a = same k in let b = t.one k lt in omega arith;
          home = λ k lt z. let h = t.home k lt (sym (word k) ∙ z) in (
            h.0,
            h.1,
            ⊎_elim (λ yes. absurd (let a = within k yes in let b = total_at (λ u. count k u.held) views id v at in let c = t.turn k lt in let d : get_or words (k * 8 + 8) 0 ≡ 0 = sym (word k) ∙ z in omega arith))
                (λ no. laws.untouched now e k h.0 no h.2) (truth (m.touched e k)),
          );
          idle = λ j u bt z. ⊎_elim (λ s. let q = ap (λ (y : View E X W). y.parts) s.1 in sym (ap (λ (y : View E X W). y.held) s.1) ∙ t.idle id v at (q ∙ z)) (λ s. t.idle j u s.1 z) (at_set views id j w u bt);
          held = λ j u bt. ⊎_elim
              (λ s. let P : View E X W → Type 0 = λ y. Each (λ k a. (k < 64) × ((z : X) → Follows m y.since k a z → m.projects (m.after now e) k z)) y.held in
              subst P s.1 (held_still m (m.after now e) (v.since ++ e ∷ []) v.held
              (each_to (λ k a. (k < 64) × ((z : X) → Follows m v.since k a z → m.projects now k z)) (λ k a. (k < 64) × ((z : X) → Follows m (v.since ++ e ∷ []) k a z → m.projects (m.after now e) k z))
              (λ k a h. (h.0, (λ y f. let l = follows_last v.since e k a y f in passes now e k l.0 y may (m.touched e k) refl (h.1 l.0 l.1) l.2))) v.held (t.held id v at))))
              (λ s. each_in (λ k a. (k < 64) × ((z : X) → Follows m u.since k a z → m.projects now k z)) (λ k a. (k < 64) × ((z : X) → Follows m u.since k a z → m.projects (m.after now e) k z)) u.held
              (λ k a some_there h. (
                h.0,
                (λ y f. ⊎_elim
                    (λ yes. absurd (let a = within k yes in let b = total_two (λ x. count k x.held) views id j v u at s.1 (λ q. s.0 (sym q)) in let c = t.one k h.0 in omega arith))
                    (λ no. laws.untouched now e k y no (h.1 y f)) (truth (m.touched e k))),
              )) (t.held j u s.1))
              (at_set views id j w u bt);
        }

once_more : (n len : ℕ) → once_below n len + one_if (eqb len n) ≡ once_below n (len + 1)
once_more n len = dite (ℕ_discrete len n)
    (λ e. let a : one_if (nat_lt n len) ≡ 0 = (let b : nat_lt n len ≡ false = grind (arith, nat_tests) in ap one_if b) in let b : one_if (eqb len n) ≡ 1 = ap one_if (eq-eqb len n e) in let c : one_if (nat_lt n (len + 1)) ≡ 1 = (let d : nat_lt n (len + 1) ≡ true = grind (arith, nat_tests) in ap one_if d) in omega arith)
    (λ ne. let a : one_if (nat_lt n len) ≡ one_if (nat_lt n (len + 1)) = (let b : nat_lt n len ≡ nat_lt n (len + 1) = grind (arith, nat_tests) in ap one_if b) in let b : one_if (eqb len n) ≡ 0 = ap one_if (ne_eqb len n ne) in omega arith)

booked_draw : {E X W : Type 0} (seats : ℕ) (log : List E) (word : ℕ) (views : List (View E X W)) (id : ℕ) (v : View E X W) (since : List E) (t : Tally E) (p : Pile E W) (e : E)
    → get_elem? views id ≡ some v → length v.entries < v.parts * 2 ^ 53 → DrawRule seats log word views
    → DrawRule seats (log ++ e ∷ []) (word + 1) (set views id (view v.parts (v.entries ++ (word, e) ∷ []) v.held since t p))
booked_draw {E = E} {X = X} {W = W} seats log word views id v since t p e at room b =
    let w : View E X W = view v.parts (v.entries ++ (word, e) ∷ []) v.held since t p in
    let long : length (log ++ e ∷ []) ≡ length log + 1 = length-append log (e ∷ []) in
    let entries : length (v.entries ++ (word, e) ∷ []) ≡ length v.entries + 1 = length-append v.entries ((word, e) ∷ []) in
    let there : (n : ℕ) (a : E) → get_elem? log n ≡ some a → get_elem? (log ++ e ∷ []) n ≡ some a = λ n a h. at_longer log (e ∷ []) n a h in
    record {
      drawn = let a = b.drawn in omega arith;
      numbers = λ j u bt. ⊎_elim
          (λ s. let P : View E X W → Type 0 = λ y. Each (λ n a. get_elem? (log ++ e ∷ []) n ≡ some a) y.entries in
          subst P s.1 (each_more (λ n a. get_elem? (log ++ e ∷ []) n ≡ some a) v.entries ((word, e) ∷ [])
          (each_to (λ n a. get_elem? log n ≡ some a) (λ n a. get_elem? (log ++ e ∷ []) n ≡ some a) there v.entries (b.numbers id v at)) (at_last log e word (sym b.drawn), tt)))
          (λ s. each_to (λ n a. get_elem? log n ≡ some a) (λ n a. get_elem? (log ++ e ∷ []) n ≡ some a) there u.entries (b.numbers j u s.1))
          (at_set views id j w u bt);
      once = λ n.
          let a = total_set (λ x. count n x.entries) views id v w at in
          let c = count_more n v.entries ((word, e) ∷ []) in
          let d = once_more n word in
          let f = b.once n in
          let g : once_below n (length log) ≡ once_below n word = ap (once_below n) (sym b.drawn) in
          let h : once_below n (length (log ++ e ∷ [])) ≡ once_below n (word + 1) = ap (once_below n) (long ∙ ap (λ k. k + 1) (sym b.drawn)) in omega arith;
      sums = let a = total_set (λ x. length x.entries) views id v w at in let c = b.sums in omega arith;
      parts = total_same (λ x. x.parts) views id v w at refl ∙ b.parts;
      small = λ j u bt. ⊎_elim (λ s. let P : View E X W → Type 0 = λ y. length y.entries ≤ y.parts * 2 ^ 53 in subst P s.1 (omega arith)) (λ s. b.small j u s.1) (at_set views id j w u bt);
    }

-- no word wraps
pub bounded : {E X W : Type 0} (seats : ℕ) (log : List E) (word : ℕ) (views : List (View E X W)) → seats ≤ 32 → DrawRule seats log word views → word ≤ 2 ^ 63
bounded seats log word views few b =
    let a = total_le (λ v. length v.entries) (λ v. v.parts * 2 ^ 53) views b.small in
    let c = total_times (λ v. v.parts) (2 ^ 53) views in
    let d = b.parts in let e = b.sums in let f = b.drawn in omega arith

-- what is drawn takes one work and offers fewer than 2^57 + 64
hand_fits : {A : Type 0} (b : Bool) (x : ℕ × A) (xs : List A) (base parts : ℕ) → length xs < 2 ^ 57 + 64 → 32 ≤ parts → length ([] ++ (kept_if b (x ∷ []) ++ numbered base xs)) ≤ parts * (2 ^ 52 + 2)
hand_fits true x xs base parts few part = let a = length_numbered base xs in omega arith
hand_fits false x xs base parts few part = let a = length_numbered base xs in omega arith

pub draw : {Store E X W : Type 0} (m : Meaning Store E X W) (laws : Lawful m) (opened : List X × List W) (terms : Terms) (slots id : ℕ) (v : View E X W) (c : List (ℕ × Slot X W)) (e : E) → MayDraw m v e
    → Allows (HubRule m opened terms) slots id (v, c) 0 (λ n. (n + 1) % 2 ^ 64) (Drew m (Some e) (step slots 0 1 0 none) (v, c))
draw {Store = Store} {E = E} {X = X} {W = W} m laws opened terms slots id v c e may s b len at fits =
    let n : ℕ = get_or s.words 0 0 in
    let i : ℕ = may.index in
    let base : ℕ = length (offered m opened.1 b.log) in
    let w : View E X W = after_draw m v n e base in
    let next : (n + 1) % 2 ^ 64 ≡ n + 1 = (let q = bounded terms.seats (things_of b.log) n s.views b.few b.draws in omega arith) in
    let now = store_after m b.store (things_of b.log) in
    let at' = at_piles s.views id v at in
    let has : hand v.pile ≡ (i, m.takes e) ∷ [] = hand_is v.pile i (m.takes e) may.work.0 may.work.1 may.work.2 in
    let open_still = unended m opened.1 b.log b.desks (piles_of s.views) id v.parts i v.pile e at' has b.works in
    let mine : Each (λ k u. get_elem? (offered m opened.1 b.log) k ≡ some u) ((i, m.takes e) ∷ []) = (let P : List (ℕ × W) → Type 0 = λ l. Each (λ k u. get_elem? (offered m opened.1 b.log) k ≡ some u) l in subst P has (b.works.in_hand id (v.parts, v.pile) at')) in
    let pends : Pending m opened.1 b.log i (m.takes e) = (get_some (offered m opened.1 b.log) i (m.takes e) mine.0, open_still.0) in
    let tells : m.tells may.before (taking m i b.log) e = (let P : List (ℕ × W) → Type 0 = λ l. Each (λ k u. taking m k b.log ≡ v.pile.took) l in
    let t : P ((i, m.takes e) ∷ []) = subst P may.work.1 (b.works.took id (v.parts, v.pile) at') in let Q : List E → Type 0 = λ l. m.tells may.before l e in subst Q (sym t.0) may.tells) in
    let allowed : m.allows now e = laws.told b.store opened.1 b.log may.before i e b.starts b.legal pends (shown_each m now v.since v.held may.before may.follows (b.turns.held id v at)) tells in
    let log' : things_of (b.log ++ (i, e) ∷ []) ≡ things_of b.log ++ e ∷ [] = things_more m b.log (i, e) in
    let other : (k : ℕ) → get_or (set s.words 0 (n + 1)) (k + 1) 0 ≡ get_or s.words (k + 1) 0 = λ k. get_or-set_other s.words 0 (k + 1) (n + 1) 0 (λ h. omega arith) in
    let P : ℕ → Type 0 = λ k. HubRule m opened terms (stepped s 0 k id c w keeps) in (
      w,
      keeps,
      tt,
      subst P (sym next) (record {
        store = b.store;
        log = b.log ++ (i, e) ∷ [];
        wide = length-set s.words 0 (n + 1) ∙ b.wide;
        long = b.long;
        few = b.few;
        opens = b.opens;
        starts = b.starts;
        legal = allowed_more m b.store opened.1 b.log (i, e) b.legal (pends, allowed);
        turns = let Q : List E → Type 0 = λ l. TurnRule m (store_after m b.store l) (set s.words 0 (n + 1)) s.homes (set s.views id w) in
            let R : Store → Type 0 = λ st. TurnRule m st (set s.words 0 (n + 1)) s.homes (set s.views id w) in
            subst Q (sym log') (subst R (sym (store_more m b.store (things_of b.log) e)) (turned_draw m laws now s.words s.homes s.views id (n + 1) v (v.entries ++ (n, e) ∷ []) (owes v.tally n e) (draws_on m v.pile base e) e at allowed may.within b.turns));
        draws = let Q : List E → ℕ → Type 0 = λ l k. DrawRule terms.seats l k (set s.views id w) in
            subst (λ l. Q l (get_or (set s.words 0 (n + 1)) 0 0)) (sym log') (subst (Q (things_of b.log ++ e ∷ [])) (sym (get_or-set_same s.words 0 (n + 1) 0 (let q = b.wide in omega arith))) (booked_draw terms.seats (things_of b.log) n s.views id v (since_after v.held (v.since ++ e ∷ [])) (owes v.tally n e) (draws_on m v.pile base e) e at may.room b.draws));
        charges = charges_stay m.price terms (get_or s.words 1 0) _ s.views id v w (other 0) at refl refl refl refl b.charges;
        stops = let Q : List E → Type 0 = λ l. StopRule m.faults l (get_or (set s.words 0 (n + 1)) 2 0) (set s.views id w) in
            subst Q (sym log') (stops_grow m.faults (things_of b.log) (e ∷ []) (get_or s.words 2 0) _ s.views id v w (other 1) at refl refl b.stops);
        desks = b.desks;
        places = let Q : Piles E W → Type 0 = λ l. DeskRule (set s.words 0 (n + 1)) s.homes b.desks l in
            subst Q (sym (piles_set s.views id w)) (desks_same (set s.words 0 (n + 1)) s.homes b.desks (piles_of s.views) id v.parts v.pile (draws_on m v.pile base e) at' refl
            (desks_on s.words (set s.words 0 (n + 1)) s.homes s.homes b.desks (piles_of s.views) (λ d lt. get_or-set_other s.words 0 (d * 8 + 528) (n + 1) 0 (λ h. omega arith)) (λ d lt. refl) b.places));
        works = let Q : Piles E W → Type 0 = λ l. WorkRule m opened.1 (b.log ++ (i, e) ∷ []) b.desks l in
            subst Q (sym (piles_set s.views id w)) (works_draw m opened.1 b.log b.desks (piles_of s.views) id v.parts i v.pile e at' has b.works may.work.0 may.work.1);
        pending = let Q : Piles E W → Type 0 = λ l. PendRule (length opened.1) (get_or s.words 520 0) b.desks l in let R : ℕ → Type 0 = λ k. PendRule (length opened.1) k b.desks (piles_of (set s.views id w)) in
            let F : List (ℕ × W) → List (ℕ × W) → Type 0 = λ k l. length (k ++ (kept_if (m.ends e) l ++ numbered base (m.offers e))) ≤ v.parts * (2 ^ 52 + 2) in
            subst R (sym (other 519)) (subst Q (sym (piles_set s.views id w)) (pend_draw (length opened.1) (get_or s.words 520 0) b.desks (piles_of s.views) id v.parts v.pile at' b.pending (kept_if (m.ends e) v.pile.taken) (numbered base (m.offers e)) (v.pile.took ++ e ∷ []) may.told
            (let q = ap {A = List (ℕ × W)} length has in omega arith)
            (subst (λ k. F k v.pile.taken) (sym may.work.0) (subst (F []) (sym may.work.1) (hand_fits (m.ends e) (i, m.takes e) (m.offers e) base v.parts may.few may.part)))));
      }),
      (λ e' is. let same : e ≡ e' = cc in (base, ap (λ x. (after_draw m v n x base, c)) same)),
    )
