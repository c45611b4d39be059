-- What a seat says of a work that it looked for.
use Rattle.std.proofs.Common.{◌≡◌, ℕ, ◌+◌, ◌-◌, ◌%◌, ◌^◌, ◌<◌, ◌⊎◌, true, false, Option, None, Some, is_some, List, [], ◌∷◌, ◌++◌, IfSome, IfNone, length, refl, sym, ap, ◌∙◌, arith, inl, inr, ⊎_elim}
use Rattle.std.specs.Int.{from_bool}
use Rattle.atomic_table.specs.Table.{Me}
use Rattle.hub_rule.specs.declared.view.View.{View}
use Rattle.hub_rule.specs.declared.view.Pile.{Pile}
use Rattle.hub_rule.specs.declared.view.Tally.{Tally}
use Rattle.hub_rule.specs.declared.slot.Slot.{Slot}
use Rattle.hub_rule.specs.Works.{hand}
use Rattle.hub_rule.specs.Rule.{saw_empty}
use Rattle.hub_rule.proofs.DeskTurns.{hand_none}
use Rattle.hub_steps.specs.Looks.{Looked}
use Rattle.group_locks.proofs.Hands.{even_taken, one_more_taken}

-- what was drawn is charged or due, where nothing more was drawn or charged
pub still_owed : {E : Type 0} (t u : Tally E) (es : List (ℕ × E)) → u.settled ++ u.fresh ≡ t.settled ++ t.fresh → u.due ≡ t.due → es ≡ (t.settled ++ t.fresh) ++ t.due → es ≡ (u.settled ++ u.fresh) ++ u.due
still_owed {E} t u es charged due owed = owed ∙ sym (ap {A = List (ℕ × E)} (λ l. l ++ u.due) charged ∙ ap {A = List (ℕ × E)} (λ d. (t.settled ++ t.fresh) ++ d) due)

module _ {E X W : Type 0} (a b : Me (Slot X W) (View E X W)) where
  -- nothing was charged, and what was due is due
  pub looked_charged : (found : Option W) (t : Tally E) → Looked a b found → a.0.tally ≡ t → t.due ≡ [] → (b.0.tally.settled ++ b.0.tally.fresh ≡ t.settled ++ t.fresh) × (b.0.tally.due ≡ [])
  looked_charged found t h same due = (h.goes.charged ∙ ap {A = Tally E} (λ u. u.settled ++ u.fresh) same, h.goes.due ∙ (ap {A = Tally E} (λ u. u.due) same ∙ due))

  -- what was found is in hand
  pub looked_taken : (found : Option W) → Looked a b found → IfSome found (λ w. (i : ℕ) × (b.0.pile.taken ≡ (i, w) ∷ []))
  looked_taken None h = tt
  looked_taken (Some w) h = (h.some.0, ap {A = Pile E W} (λ p. p.taken) h.some.1)

  -- nothing else is in hand, and no entry took it
  pub looked_new : (found : Option W) (q : Pile E W) → Looked a b found → a.0.pile ≡ q → hand q ≡ [] → IfSome found (λ _. (b.0.pile.offered ≡ []) × (b.0.pile.took ≡ []))
  looked_new None q h same idle = tt
  looked_new (Some w) q h same idle = (ap {A = Pile E W} (λ p. p.offered) h.some.1 ∙ (ap {A = Pile E W} (λ p. p.offered) same ∙ (hand_none q idle).2), ap {A = Pile E W} (λ p. p.took) h.some.1)

  -- no end was found
  pub looked_go : (found : Option W) (t : Tally E) (R : Type 0) → Looked a b found → a.0.tally ≡ t → R → IfSome found (λ _. (b.0.tally.leave ≡ true) × R × (t.low < b.0.tally.low) × (t.unset < b.0.tally.unset))
  looked_go None t R h same room = tt
  looked_go (Some w) t R h same room = (
    h.go.0,
    room,
    (let l = h.go.1 in let s = ap {A = Tally E} (λ u. u.low) same in omega arith),
    (let l = h.go.2 in let s = ap {A = Tally E} (λ u. u.unset) same in omega arith),
  )

  -- nothing is in hand
  pub looked_idle : (found : Option W) (q : Pile E W) → Looked a b found → a.0.pile ≡ q → hand q ≡ [] → IfNone found (hand b.0.pile ≡ [])
  looked_idle (Some w) q h same idle = tt
  looked_idle None q h same idle =
      let H : Pile E W → List (ℕ × W) = λ p. hand p in
      let before : hand a.0.pile ≡ [] = ap {A = Pile E W} H same ∙ idle in
      ⊎_elim (λ e. ap {A = Pile E W} H e ∙ before) (λ e. ap {A = Pile E W} H e ∙ before) h.none.0

  -- an end was found
  pub looked_cause : (found : Option W) (t : Tally E) (q : Pile E W) → Looked a b found → a.0.tally ≡ t → a.0.pile ≡ q
      → IfNone found ((q.empty < b.0.pile.empty) ⊎ ((t.over < b.0.tally.over) ⊎ (t.no_memory + t.fault < b.0.tally.no_memory + b.0.tally.fault)))
  looked_cause (Some w) t q h tallies piles = tt
  looked_cause None t q h tallies piles =
      let n = ap {A = Pile E W} (λ p. p.empty) piles in let o = ap {A = Tally E} (λ u. u.over) tallies in let s = ap {A = Tally E} (λ u. u.no_memory + u.fault) tallies in
      ⊎_elim (λ l. inl (omega arith)) (λ k. inr (⊎_elim (λ l. inl (omega arith)) (λ l. inr (omega arith)) k)) h.none.1

  -- where nothing was taken, all that finding nothing leaves as it is, is as it was
  none_same : {T : Type 0} (f : Pile E W → T) → f (saw_empty a.0.pile) ≡ f a.0.pile → (b.0.pile ≡ saw_empty a.0.pile) ⊎ (b.0.pile ≡ a.0.pile) → f b.0.pile ≡ f a.0.pile
  none_same f keeps either = ⊎_elim (λ e. ap f e ∙ keeps) (λ e. ap f e) either

  -- no desk's turn is held, and the pending word is told
  pub looked_calm : (found : Option W) → Looked a b found → (a.0.pile.owes ≡ false) × (a.0.pile.desk ≡ []) × (a.0.pile.kept ≡ []) → (b.0.pile.owes ≡ false) × (b.0.pile.desk ≡ []) × (b.0.pile.kept ≡ [])
  looked_calm (Some w) h calm = let p = h.some.1 in (ap {A = Pile E W} (λ q. q.owes) p ∙ calm.0, ap {A = Pile E W} (λ q. q.desk) p, ap {A = Pile E W} (λ q. q.kept) p ∙ calm.2)
  looked_calm None h calm = let e = h.none.0 in (none_same (λ q. q.owes) refl e ∙ calm.0, none_same (λ q. q.desk) refl e ∙ calm.1, none_same (λ q. q.kept) refl e ∙ calm.2)

  -- the pending word counts what is in hand
  pub looked_even : (found : Option W) → Looked a b found → hand a.0.pile ≡ [] → a.0.pile.counted ≡ length (hand a.0.pile) → b.0.pile.counted ≡ length (hand b.0.pile)
  looked_even (Some w) h idle even = even_taken a.0.pile b.0.pile h.some.0 w idle h.some.1 even
  looked_even None h idle even = let e = h.none.0 in none_same (λ q. q.counted) refl e ∙ (even ∙ sym (none_same (λ q. length (hand q)) refl e))

  -- how many works the seat left, less those that it took
  pub looked_balance : (found : Option W) (moved moved' n : ℕ) → Looked a b found → n ≡ from_bool (is_some found) → moved' ≡ (moved + (2 ^ 64 - n)) % 2 ^ 64
      → (moved + a.0.pile.fetched) % 2 ^ 64 ≡ a.0.pile.left % 2 ^ 64 → (moved' + b.0.pile.fetched) % 2 ^ 64 ≡ b.0.pile.left % 2 ^ 64
  looked_balance (Some w) moved moved' n h one is same =
      let p = h.some.1 in
      let f : b.0.pile.fetched ≡ a.0.pile.fetched + 1 = ap {A = Pile E W} (λ q. q.fetched) p in let l : b.0.pile.left ≡ a.0.pile.left = ap {A = Pile E W} (λ q. q.left) p in
      let m : moved' ≡ (moved + (2 ^ 64 - 1)) % 2 ^ 64 = is ∙ ap {A = ℕ} (λ k. (moved + (2 ^ 64 - k)) % 2 ^ 64) one in
      ap {A = ℕ} (λ k. (moved' + k) % 2 ^ 64) f ∙ (one_more_taken moved moved' a.0.pile.fetched a.0.pile.left same m ∙ ap {A = ℕ} (λ k. k % 2 ^ 64) (sym l))
  looked_balance None moved moved' n h one is same =
      let e = h.none.0 in
      let f : b.0.pile.fetched ≡ a.0.pile.fetched = none_same (λ q. q.fetched) refl e in let l : b.0.pile.left ≡ a.0.pile.left = none_same (λ q. q.left) refl e in
      let m : moved' ≡ (moved + 2 ^ 64) % 2 ^ 64 = is ∙ ap {A = ℕ} (λ k. (moved + (2 ^ 64 - k)) % 2 ^ 64) one in omega arith
