-- The shards that a seat holds, and those in hand.
use Rattle.std.proofs.Common.{◌≡◌, ◌≢◌, ℕ, ◌+◌, ◌-◌, ◌<◌, ◌≤◌, true, List, [], ◌∷◌, refl, sym, ap, subst, ◌∙◌, arith, eq-eqb, ne_eqb, eqb, Option, Some, None, nat_lt}
use Rattle.std.proofs.lemmas.Bool.Decides.{nat_tests}
use Rattle.atomic_table.specs.declared.shared.Seat.{Seat}
use Rattle.atomic_table.specs.Table.{rest}
use Rattle.hub_rule.specs.declared.slot.Slot.{Slot}
use Rattle.hub_rule.specs.declared.slot.Slot.TheVariants.{Shard}
use Rattle.hub_rule.specs.declared.view.View.{View}
use Rattle.hub_rule.proofs.Turns.{heads}
use Rattle.hub_rule.specs.Counts.{one_if, count, Each}
use Rattle.hub_rule.specs.Meaning.{Meaning, Follows}
use Rattle.hub_rule.specs.Rule.{view, Carries, emptied, below, descends, given_back, since_after}
use Rattle.hub_steps.proofs.Loops.{Taken, Giving}
use mathlib.Core.Logic.{dite}
use native.Mathlib.Decide.{ℕ_discrete}

module _ {X : Type 0} where
  pub below_head : (n : ℕ) (p : ℕ × X) (ps : List (ℕ × X)) → below n (p ∷ ps) ≡ true → (p.0 < n) × (below n ps ≡ true)
  below_head n p ps h = (grind (arith, nat_tests), grind (arith, nat_tests))

  pub below_none : (n : ℕ) (ps : List (ℕ × X)) → below n ps ≡ true → count n ps ≡ 0
  below_none n [] h = refl
  below_none n (p ∷ ps) h = let b = below_head n p ps h in let r = below_none n ps b.1 in let e : one_if (eqb p.0 n) ≡ 0 = ap one_if (ne_eqb p.0 n (λ q. let l = b.0 in omega arith)) in omega arith

  pub below_on : (k n : ℕ) (ps : List (ℕ × X)) → k ≤ n → below k ps ≡ true → below n ps ≡ true
  below_on k n [] le h = refl
  below_on k n (p ∷ ps) le h = let b = below_head k p ps h in let r = below_on k n ps le b.1 in let l : nat_lt p.0 n ≡ true = (let q = b.0 in grind (arith, nat_tests)) in grind (arith, nat_tests)

  pub below_up : (n : ℕ) (ps : List (ℕ × X)) → below n ps ≡ true → below (n + 1) ps ≡ true
  below_up n [] h = refl
  below_up n (p ∷ ps) h = let b = below_head n p ps h in let r = below_up n ps b.1 in let l : nat_lt p.0 (n + 1) ≡ true = (let q = b.0 in grind (arith, nat_tests)) in grind (arith, nat_tests)

module _ {Store E X W : Type 0} (m : Meaning Store E X W) where
  carries_on : (f f' : ℕ → Option X) (k : ℕ) (hs : List (ℕ × X)) → below k hs ≡ true → ((j : ℕ) → j ≢ k → f' j ≡ f j)
      → Each (λ n a. (y : X) × (f n ≡ Some y) × Follows m [] n a y) hs → Each (λ n a. (y : X) × (f' n ≡ Some y) × Follows m [] n a y) hs
  carries_on f f' k [] b same h = tt
  carries_on f f' k (p ∷ ps) b same h = let t = below_head k p ps b in ((h.0.0, same p.0 (λ e. let l = t.0 in omega arith) ∙ h.0.1, h.0.2), carries_on f f' k ps t.1 same h.1)

  pub carries_more : (f f' : ℕ → Option X) (k : ℕ) (x : X) (hs : List (ℕ × X)) → below k hs ≡ true → f' k ≡ Some x → ((j : ℕ) → j ≢ k → f' j ≡ f j)
      → Carries m [] hs f → Carries m [] ((k, x) ∷ hs) f'
  carries_more f f' k x hs b here same h = (
    ((x, here, refl), carries_on f f' k hs b same h.0),
    (λ j z. let ne : j ≢ k = (λ e. let q : one_if (eqb k j) ≡ 1 = ap one_if (eq-eqb k j (sym e)) in omega arith) in same j ne ∙ h.1 j (omega arith)),
  )

  pub taken_on : (p q : Seat (Slot X W) (View E X W)) (f : ℕ → Option X) (n : ℕ) → Taken m p q f n → Taken m p q f (n + 1)
  taken_on p q f n t = record { table = t.table; id = t.id; view = t.view; out = t.out; below = below_up n q.me.0.held t.below; falls = t.falls; carries = t.carries }

  pub taken_more : (p q r : Seat (Slot X W) (View E X W)) (f f' : ℕ → Option X) (k : ℕ) (x : X) → Taken m p q f k
      → r.table_id ≡ q.table_id → r.id ≡ q.id → r.me.0 ≡ view q.me.0.parts q.me.0.entries ((k, x) ∷ q.me.0.held) q.me.0.since q.me.0.tally q.me.0.pile → r.me.1 ≡ (k, Shard None) ∷ q.me.1
      → f' k ≡ Some x → ((j : ℕ) → j ≢ k → f' j ≡ f j) → Taken m p r f' (k + 1)
  taken_more p q r f f' k x t table id me out here same =
      let hs : r.me.0.held ≡ (k, x) ∷ q.me.0.held = ap (λ v. v.held) me in
      let P : List (ℕ × X) → Type 0 = λ h. (below (k + 1) h ≡ true) × (descends h ≡ true) × Carries m [] h f' × (r.me.1 ≡ emptied h) in
      let lt : nat_lt k (k + 1) ≡ true = grind (arith, nat_tests) in
      let up : below (k + 1) q.me.0.held ≡ true = below_up k q.me.0.held t.below in
      let low : below k q.me.0.held ≡ true = t.below in
      let down : descends q.me.0.held ≡ true = t.falls in
      let all : P r.me.0.held = subst P (sym hs) (grind (arith, nat_tests), grind (arith, nat_tests), carries_more f f' k x q.me.0.held t.below here same t.carries, out ∙ ap (λ l. (k, Shard None) ∷ l) t.out) in
      record {
        table = table ∙ t.table;
        id = id ∙ t.id;
        view = let a = t.view in cc;
        out = all.3;
        below = all.0;
        falls = all.1;
        carries = all.2;
      }

module _ {X : Type 0} where
  -- the shard of the greatest number stands first
  pub top_first : (n : ℕ) (hs : List (ℕ × X)) → below (n + 1) hs ≡ true → descends hs ≡ true → 0 < count n hs → (x : X) × (ts : List (ℕ × X)) × (hs ≡ (n, x) ∷ ts) × (below n ts ≡ true) × (descends ts ≡ true)
  top_first n [] b d c = absurd (omega arith)
  top_first n ((k, x) ∷ ts) b d c =
      let h = below_head (n + 1) (k, x) ts b in
      let under : below k ts ≡ true = grind (arith, nat_tests) in
      let falls : descends ts ≡ true = grind (arith, nat_tests) in
      let here : k ≡ n = dite (ℕ_discrete k n) (λ e. e) (λ ne. absurd (
      let none_here : one_if (eqb k n) ≡ 0 = ap one_if (ne_eqb k n ne) in
      let less : k < n = (let l = h.0 in omega arith) in
      let none_there = below_none n ts (below_on k n ts (omega arith) under) in omega arith)) in
      let P : ℕ → Type 0 = λ j. (below j ts ≡ true) × ((k, x) ∷ ts ≡ (j, x) ∷ ts) in
      let r : P n = subst P here (under, refl) in (x, ts, r.1, r.0, falls)

  pub below_less : (n : ℕ) (hs : List (ℕ × X)) → below (n + 1) hs ≡ true → count n hs ≡ 0 → below n hs ≡ true
  below_less n [] b c = refl
  below_less n ((k, x) ∷ ts) b c =
      let h = below_head (n + 1) (k, x) ts b in
      let ne : k ≢ n = (λ e. let q : one_if (eqb k n) ≡ 1 = ap one_if (eq-eqb k n e) in omega arith) in
      let r : below n ts ≡ true = below_less n ts h.1 (omega arith) in
      let l : nat_lt k n ≡ true = (let a = h.0 in grind (arith, nat_tests)) in grind (arith, nat_tests)

module _ {Store E X W : Type 0} (m : Meaning Store E X W) where
  carries_less : (f f' : ℕ → Option X) (es : List E) (k : ℕ) (hs : List (ℕ × X)) → below k hs ≡ true → ((j : ℕ) → j ≢ k → f' j ≡ f j)
      → Each (λ n a. (y : X) × (f n ≡ Some y) × Follows m es n a y) hs → Each (λ n a. (y : X) × (f' n ≡ Some y) × Follows m es n a y) hs
  carries_less f f' es k [] b same h = tt
  carries_less f f' es k (p ∷ ps) b same h = let t = below_head k p ps b in ((h.0.0, same p.0 (λ e. let l = t.0 in omega arith) ∙ h.0.1, h.0.2), carries_less f f' es k ps t.1 same h.1)

  forgets : (f : ℕ → Option X) (es : List E) (hs : List (ℕ × X)) → Each (λ n a. (y : X) × (f n ≡ Some y) × Follows m es n a y) hs → Each (λ n a. (y : X) × (f n ≡ Some y) × Follows m (since_after hs es) n a y) hs
  forgets f es [] h = tt
  forgets f es (p ∷ ps) h = h

  -- what is in hand stays what it is to be
  pub carries_drawn : (f : ℕ → Option X) (es : List E) (hs : List (ℕ × X)) → Carries m es hs f → Carries m (since_after hs es) hs f
  carries_drawn f es hs c = (forgets f es hs c.0, c.1)

  -- what is in hand at n is the shard that stands first
  pub first_carried : (f : ℕ → Option X) (es : List E) (n : ℕ) (y : X) (hs : List (ℕ × X)) → below (n + 1) hs ≡ true → descends hs ≡ true → f n ≡ Some y → Carries m es hs f
      → (x : X) × (ts : List (ℕ × X)) × (hs ≡ (n, x) ∷ ts) × (below n ts ≡ true) × (descends ts ≡ true) × Follows m es n x y
  first_carried f es n y hs b d is c =
      let some_there : 0 < count n hs = dite (ℕ_discrete (count n hs) 0) (λ z. absurd (let a = c.1 n z in let q : None ≡ Some y = sym a ∙ is in cc)) (λ nz. omega arith) in
      let t = top_first n hs b d some_there in
      let P : List (ℕ × X) → Type 0 = λ l. Carries m es l f in
      let e = (subst P t.2 c).0.0 in
      let same : e.0 ≡ y = (let q : Some e.0 ≡ Some y = sym e.1 ∙ is in cc) in
      (t.0, t.1, t.2, t.3, t.4, (let Q : X → Type 0 = λ z. Follows m es n t.0 z in subst Q same e.2))

  pub carries_rest : (f f' : ℕ → Option X) (es : List E) (n : ℕ) (x : X) (ts : List (ℕ × X)) → below n ts ≡ true → f' n ≡ None → ((j : ℕ) → j ≢ n → f' j ≡ f j)
      → Carries m es ((n, x) ∷ ts) f → Carries m (since_after ts es) ts f'
  carries_rest f f' es n x ts b here same c = (
    forgets f' es ts (carries_less f f' es n ts b same c.0.1),
    (λ j z. dite (ℕ_discrete j n)
        (λ e. let P : ℕ → Type 0 = λ i. f' i ≡ None in subst P (sym e) here)
        (λ ne. let q : one_if (eqb n j) ≡ 0 = ap one_if (ne_eqb n j (λ e. ne (sym e))) in same j ne ∙ c.1 j (omega arith))),
  )

  -- forgetting twice
  forget_twice : (hs ts : List (ℕ × X)) (h : ℕ × X) (es : List E) → hs ≡ h ∷ ts → since_after ts (since_after hs es) ≡ since_after ts es
  forget_twice hs ts h es e = ap {A = List (ℕ × X)} (λ l. since_after ts (since_after l es)) e

  pub at_top : (p q r : Seat (Slot X W) (View E X W)) (f f' : ℕ → Option X) (n : ℕ) (y : X) → Giving m p q f (n + 1) → f n ≡ Some y
      → r.table_id ≡ q.table_id → r.id ≡ q.id → r.me.0 ≡ given_back q.me.0 → r.me.1 ≡ emptied r.me.0.held → f' n ≡ None → ((j : ℕ) → j ≢ n → f' j ≡ f j) → Giving m p r f' n
  at_top p q r f f' n y g is table id me out here same =
      let t = first_carried f q.me.0.since n y q.me.0.held g.below g.falls is g.carries in
      let P : List (ℕ × X) → Type 0 = λ l. Carries m q.me.0.since l f in
      let rests : rest q.me.0.held ≡ t.1 = ap {A = List (ℕ × X)} rest t.2 in
      let held : r.me.0.held ≡ t.1 = ap {A = View E X W} (λ v. v.held) me ∙ rests in
      let after : r.me.0.since ≡ since_after t.1 q.me.0.since = ap {A = View E X W} (λ v. v.since) me ∙ ap {A = List (ℕ × X)} (λ l. since_after l q.me.0.since) rests in
      let D : List (ℕ × X) → List E → Type 0 = λ l es. (below n l ≡ true) × (descends l ≡ true) × Carries m es l f' in
      let all : D r.me.0.held r.me.0.since = subst (λ l. D l r.me.0.since) (sym held) (subst (D t.1) (sym after) (t.3, t.4, carries_rest f f' q.me.0.since n t.0 t.1 t.3 here same (subst P t.2 g.carries))) in
      let forgot : since_after t.1 q.me.0.since ≡ since_after t.1 p.me.0.since = ap {A = List E} (λ es. since_after t.1 es) g.since ∙ forget_twice q.me.0.held t.1 (n, t.0) p.me.0.since t.2 in
      record {
        table = table ∙ g.table;
        id = id ∙ g.id;
        parts = ap {A = View E X W} (λ v. v.parts) me ∙ g.parts;
        entries = ap {A = View E X W} (λ v. v.entries) me ∙ g.entries;
        tally = ap {A = View E X W} (λ v. v.tally) me ∙ g.tally;
        pile = ap {A = View E X W} (λ v. v.pile) me ∙ g.pile;
        since = after ∙ (forgot ∙ ap {A = List (ℕ × X)} (λ l. since_after l p.me.0.since) (sym held));
        out = out;
        below = all.0;
        falls = all.1;
        carries = all.2;
      }

  pub giving_more : (p q r : Seat (Slot X W) (View E X W)) (f f' : ℕ → Option X) (n : ℕ) (y : X) → 0 < n → Giving m p q f n → f (n - 1) ≡ Some y
      → r.table_id ≡ q.table_id → r.id ≡ q.id → r.me.0 ≡ given_back q.me.0 → r.me.1 ≡ emptied r.me.0.held → f' (n - 1) ≡ None → ((j : ℕ) → j ≢ n - 1 → f' j ≡ f j) → Giving m p r f' (n - 1)
  giving_more p q r f f' n y some g is table id me out here same =
      let P : ℕ → Type 0 = λ k. Giving m p q f k in let e : n ≡ (n - 1) + 1 = omega arith in at_top p q r f f' (n - 1) y (subst P e g) is table id me out here same

  pub top_of : (p q : Seat (Slot X W) (View E X W)) (f : ℕ → Option X) (n : ℕ) (y : X) → 0 < n → Giving m p q f n → f (n - 1) ≡ Some y
      → (x : X) × (q.me.0.held ≡ (n - 1, x) ∷ rest q.me.0.held) × Follows m q.me.0.since (n - 1) x y
  top_of p q f n y some g is =
      let P : ℕ → Type 0 = λ k. below k q.me.0.held ≡ true in let e : n ≡ (n - 1) + 1 = omega arith in
      let t = first_carried f q.me.0.since (n - 1) y q.me.0.held (subst P e g.below) g.falls is g.carries in (t.0, heads q.me.0.held t.1 (n - 1, t.0) t.2, t.5)

  pub giving_on : (p q : Seat (Slot X W) (View E X W)) (f f' : ℕ → Option X) (n : ℕ) → 0 < n → Giving m p q f n → f (n - 1) ≡ None
      → f' (n - 1) ≡ None → ((j : ℕ) → j ≢ n - 1 → f' j ≡ f j) → Giving m p q f' (n - 1)
  giving_on p q f f' n some g is here same =
      let e : n ≡ (n - 1) + 1 = omega arith in
      let P : ℕ → Type 0 = λ k. below k q.me.0.held ≡ true in
      let up : below ((n - 1) + 1) q.me.0.held ≡ true = subst P e g.below in
      let none_there : count (n - 1) q.me.0.held ≡ 0 = dite (ℕ_discrete (count (n - 1) q.me.0.held) 0) (λ z. z) (λ nz. absurd (
      let t = top_first (n - 1) q.me.0.held up g.falls (omega arith) in
      let Q : List (ℕ × X) → Type 0 = λ l. Carries m q.me.0.since l f in
      let h = (subst Q t.2 g.carries).0.0 in let c : None ≡ Some h.0 = sym is ∙ h.1 in cc)) in
      let low = below_less (n - 1) q.me.0.held up none_there in
      record {
        table = g.table;
        id = g.id;
        parts = g.parts;
        entries = g.entries;
        tally = g.tally;
        pile = g.pile;
        since = g.since;
        out = g.out;
        below = low;
        falls = g.falls;
        carries = (
          carries_less f f' q.me.0.since (n - 1) q.me.0.held low same g.carries.0,
          (λ j z. dite (ℕ_discrete j (n - 1))
              (λ e. let R : ℕ → Type 0 = λ i. f' i ≡ None in subst R (sym e) here)
              (λ ne. same j ne ∙ g.carries.1 j z)),
        );
      }

module _ {X : Type 0} (bit : ℕ → ℕ) (n : ℕ) where
  pub more_numbers : (x : X) (hs hs' : List (ℕ × X)) → hs' ≡ (n, x) ∷ hs → below n hs ≡ true → ((k : ℕ) → k < n → count k hs ≡ bit k) → bit n ≡ 1 → (k : ℕ) → k < n + 1 → count k hs' ≡ bit k
  more_numbers x hs hs' e b all one k lt =
      let P : List (ℕ × X) → Type 0 = λ l. count k l ≡ bit k in
      subst P (sym e) (dite (ℕ_discrete k n)
      (λ q. let t : one_if (eqb n k) ≡ 1 = ap one_if (eq-eqb n k (sym q)) in let z : count n hs ≡ 0 = below_none n hs b in let f : count k hs ≡ count n hs = ap {A = ℕ} (λ i. count i hs) q in let d : bit k ≡ bit n = ap bit q in omega arith)
      (λ ne. let t : one_if (eqb n k) ≡ 0 = ap one_if (ne_eqb n k (λ q. ne (sym q))) in let a = all k (omega arith) in omega arith))

  pub same_numbers : (hs : List (ℕ × X)) → below n hs ≡ true → ((k : ℕ) → k < n → count k hs ≡ bit k) → bit n ≡ 0 → (k : ℕ) → k < n + 1 → count k hs ≡ bit k
  same_numbers hs b all zero_bit k lt = dite (ℕ_discrete k n)
      (λ q. let z : count n hs ≡ 0 = below_none n hs b in let f : count k hs ≡ count n hs = ap {A = ℕ} (λ i. count i hs) q in let d : bit k ≡ bit n = ap bit q in omega arith)
      (λ ne. all k (omega arith))
