-- What a seat says of works that it was to leave on its desk.
use Rattle.std.proofs.Common.{◌≡◌, ℕ, ◌+◌, ◌%◌, ◌^◌, [], length, Result, Ok, Err, OnOk, IfErr, sym, ap, ◌∙◌, arith}
use Rattle.atomic_table.specs.Table.{Me}
use Rattle.hub_rule.specs.declared.view.View.{View}
use Rattle.hub_rule.specs.declared.slot.Slot.{Slot}
use Rattle.hub_rule.specs.Works.{hand}
use Rattle.hub_rule.specs.Rule.{with_pile, leaves}
use Rattle.group_locks.proofs.Hands.{even_left, more_left}

-- the seat was a and is now b: it left what its last entry offered, or these came back
pub record Left {E X W U V : Type 0} (a b : Me (Slot X W) (View E X W)) (ops : V) (found : Result U V) : Type 0 where
  pub ok : OnOk found (b ≡ (with_pile a.0 (leaves a.0.pile), a.1))
  pub err : IfErr found (λ v. (v ≡ ops) × (b ≡ a))

module _ {E X W U V : Type 0} (a b : Me (Slot X W) (View E X W)) (ops : V) where
  -- what doesn't change where works are left is as it was
  pub left_same : {T : Type 0} (found : Result U V) (f : Me (Slot X W) (View E X W) → T) → f (with_pile a.0 (leaves a.0.pile), a.1) ≡ f a → Left a b ops found → f b ≡ f a
  left_same (Ok u) f keeps h = ap f h.ok ∙ keeps
  left_same (Err v) f keeps h = ap f h.err.1

  -- nothing is left in hand of what was offered
  pub left_nothing : (found : Result U V) → Left a b ops found → OnOk found (b.0.pile.offered ≡ [])
  left_nothing (Ok u) h = ap {A = Me (Slot X W) (View E X W)} (λ x. x.0.pile.offered) h.ok
  left_nothing (Err v) h = tt

  -- the works came back, and all is as it was
  pub left_back : (found : Result U V) → Left a b ops found → IfErr found (λ v. (v ≡ ops) × (b.0.pile ≡ a.0.pile))
  left_back (Ok u) h = tt
  left_back (Err v) h = (h.err.0, ap {A = Me (Slot X W) (View E X W)} (λ x. x.0.pile) h.err.1)

  -- the pending word counts what is in hand
  pub left_even : (found : Result U V) → Left a b ops found → a.0.pile.counted ≡ length (hand a.0.pile) → b.0.pile.counted ≡ length (hand b.0.pile)
  left_even (Ok u) h even = even_left a.0.pile b.0.pile (ap {A = Me (Slot X W) (View E X W)} (λ x. x.0.pile) h.ok) even
  left_even (Err v) h even = let e = h.err.1 in ap {A = Me (Slot X W) (View E X W)} (λ x. x.0.pile.counted) e ∙ (even ∙ sym (ap {A = Me (Slot X W) (View E X W)} (λ x. length (hand x.0.pile)) e))

  -- how many works the seat left, less those that it took
  pub left_balance : (found : Result U V) (moved moved' n more : ℕ) → Left a b ops found → OnOk found (n ≡ more) → IfErr found (λ _. n ≡ 0) → more ≡ length a.0.pile.offered → moved' ≡ (moved + n) % 2 ^ 64
      → (moved + a.0.pile.fetched) % 2 ^ 64 ≡ a.0.pile.left % 2 ^ 64 → (moved' + b.0.pile.fetched) % 2 ^ 64 ≡ b.0.pile.left % 2 ^ 64
  left_balance (Ok u) moved moved' n more h went back many is same =
      let f : b.0.pile.fetched ≡ a.0.pile.fetched = ap {A = Me (Slot X W) (View E X W)} (λ x. x.0.pile.fetched) h.ok in
      let l : b.0.pile.left ≡ a.0.pile.left + length a.0.pile.offered = ap {A = Me (Slot X W) (View E X W)} (λ x. x.0.pile.left) h.ok in
      let m : moved' ≡ (moved + more) % 2 ^ 64 = is ∙ ap {A = ℕ} (λ k. (moved + k) % 2 ^ 64) went in
      let g : b.0.pile.left ≡ a.0.pile.left + more = omega arith in
      ap {A = ℕ} (λ k. (moved' + k) % 2 ^ 64) f ∙ (more_left moved moved' a.0.pile.fetched a.0.pile.left more same m ∙ ap {A = ℕ} (λ k. k % 2 ^ 64) (sym g))
  left_balance (Err v) moved moved' n more h went back many is same =
      let f : b.0.pile.fetched ≡ a.0.pile.fetched = ap {A = Me (Slot X W) (View E X W)} (λ x. x.0.pile.fetched) h.err.1 in
      let l : b.0.pile.left ≡ a.0.pile.left = ap {A = Me (Slot X W) (View E X W)} (λ x. x.0.pile.left) h.err.1 in
      let m : moved' ≡ (moved + 0) % 2 ^ 64 = is ∙ ap {A = ℕ} (λ k. (moved + k) % 2 ^ 64) back in omega arith
