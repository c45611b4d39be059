-- What a seat knows that read the stop word, and then the charged word.
use Rattle.std.proofs.Common.{◌≡◌, ◌≢◌, ℕ, ◌+◌, ◌<◌, ◌≤◌, ◌==◌, ◌++◌, length, sym, ap, ◌∙◌, arith, inl, inr, refl, zero, suc}
use mathlib.Core.Logic.{dite}
use native.Mathlib.Decide.{dec_le}
use Rattle.atomic_table.specs.Table.{Me}
use Rattle.hub_rule.specs.declared.view.View.{View}
use Rattle.hub_rule.specs.declared.view.Tally.{Tally}
use Rattle.hub_rule.specs.declared.slot.Slot.{Slot}
use Rattle.hub_rule.specs.Counts.{one_if}
use Rattle.hub_rule.specs.Rule.{with_tally, saw_low, saw_over, saw_stop, SameCharges, IsClear, FindsLeave, FindsNoEnd, FindsEnd}

-- one of two causes is found once more
found_cause : (m f r : ℕ) → r ≢ 0 → r ≤ 2 → (m + one_if (r == 1)) + (f + one_if (r == 2)) ≡ m + f + 1
found_cause m f zero some low = absurd (some refl)
found_cause m f (suc zero) some low = omega arith
found_cause m f (suc (suc zero)) some low = omega arith
found_cause m f (suc (suc (suc r))) some low = absurd (omega arith)

-- what a seat knows
abbrev pub Known : (E X W : Type 0) → Type 0
Known E X W = Me (Slot X W) (View E X W)

module _ {E X W : Type 0} (a b : Known E X W) (r : ℕ) (e : b ≡ (with_tally a.0 (saw_stop a.0.tally r), a.1)) where
  pub stop_view : b ≡ (with_tally a.0 b.0.tally, a.1)
  stop_view = e ∙ ap {A = Tally E} (λ t. (with_tally a.0 t, a.1)) (sym (ap {A = Known E X W} (λ x. x.0.tally) e))

  pub stop_charges : SameCharges a.0.tally b.0.tally
  stop_charges = (ap {A = Known E X W} (λ x. x.0.tally.settled ++ x.0.tally.fresh) e, ap {A = Known E X W} (λ x. x.0.tally.due) e)

  pub stop_fresh : length b.0.tally.fresh ≤ length a.0.tally.fresh
  stop_fresh = let f = ap {A = Known E X W} (λ x. length x.0.tally.fresh) e in omega arith

  pub stop_clear : IsClear a.0.tally → IsClear b.0.tally
  stop_clear h may = ap {A = Known E X W} (λ x. length x.0.tally.fresh) e ∙ h (sym (ap {A = Known E X W} (λ x. x.0.tally.leave) e) ∙ may)

  pub stop_ends : r ≢ 0 → r ≤ 2 → FindsEnd a.0.tally b.0.tally
  stop_ends some low = inr (ap {A = Known E X W} (λ x. x.0.tally.no_memory + x.0.tally.fault) e ∙ found_cause a.0.tally.no_memory a.0.tally.fault r some low)

  module _ (c : Known E X W) (found limit : ℕ) (none : r ≡ 0)
      (over : limit < found → c ≡ (with_tally b.0 (saw_over b.0.tally), b.1)) (low : found ≤ limit → c ≡ (with_tally b.0 (saw_low b.0.tally), b.1)) where
    above : (found ≤ limit → ⊥) → c ≡ (with_tally b.0 (saw_over b.0.tally), b.1)
    above nle = over (omega (arith, nle))

    pub read_view : c ≡ (with_tally a.0 c.0.tally, a.1)
    read_view = dite (dec_le found limit) (λ le. on (saw_low b.0.tally) (low le)) (λ nle. on (saw_over b.0.tally) (above nle))
      where
        on : (u : Tally E) → c ≡ (with_tally b.0 u, b.1) → c ≡ (with_tally a.0 c.0.tally, a.1)
        on u f = f ∙ (ap {A = Known E X W} (λ x. (with_tally x.0 u, x.1)) e ∙ ap {A = Tally E} (λ t. (with_tally a.0 t, a.1)) (sym (ap {A = Known E X W} (λ x. x.0.tally) f)))

    pub read_charges : c.0.tally.settled ++ c.0.tally.fresh ≡ b.0.tally.settled ++ b.0.tally.fresh → SameCharges a.0.tally c.0.tally
    read_charges same = (
      same ∙ ap {A = Known E X W} (λ x. x.0.tally.settled ++ x.0.tally.fresh) e,
      dite (dec_le found limit) (λ le. ap {A = Known E X W} (λ x. x.0.tally.due) (low le) ∙ ap {A = Known E X W} (λ x. x.0.tally.due) e) (λ nle. ap {A = Known E X W} (λ x. x.0.tally.due) (above nle) ∙ ap {A = Known E X W} (λ x. x.0.tally.due) e),
    )

    pub read_fresh : length c.0.tally.fresh ≤ length b.0.tally.fresh → length c.0.tally.fresh ≤ length a.0.tally.fresh
    read_fresh less = let f = ap {A = Known E X W} (λ x. length x.0.tally.fresh) e in omega arith

    pub read_clear : IsClear a.0.tally → IsClear c.0.tally
    read_clear h may = dite (dec_le found limit)
        (λ le. ap {A = Known E X W} (λ x. length x.0.tally.fresh) (low le))
        (λ nle. ap {A = Known E X W} (λ x. length x.0.tally.fresh) (above nle) ∙ stop_clear h (sym (ap {A = Known E X W} (λ x. x.0.tally.leave) (above nle)) ∙ may))

    unset : c.0.tally.unset ≡ b.0.tally.unset → c.0.tally.unset ≡ a.0.tally.unset + 1
    unset f = f ∙ (ap {A = Known E X W} (λ x. x.0.tally.unset) e ∙ ap {A = ℕ} (λ n. a.0.tally.unset + one_if (n == 0)) none)

    pub read_leave : found ≤ limit → FindsLeave a.0.tally c.0.tally
    read_leave le = let f = low le in (ap {A = Known E X W} (λ x. x.0.tally.leave) f, ap {A = Known E X W} (λ x. x.0.tally.low) f ∙ ap {A = Known E X W} (λ x. x.0.tally.low + 1) e, unset (ap {A = Known E X W} (λ x. x.0.tally.unset) f))

    stops : c.0.tally.no_memory + c.0.tally.fault ≡ b.0.tally.no_memory + b.0.tally.fault → c.0.tally.no_memory + c.0.tally.fault ≡ a.0.tally.no_memory + a.0.tally.fault
    stops f = f ∙ (ap {A = Known E X W} (λ x. x.0.tally.no_memory + x.0.tally.fault) e ∙ (ap {A = ℕ} (λ n. (a.0.tally.no_memory + one_if (n == 1)) + (a.0.tally.fault + one_if (n == 2))) none ∙ omega arith))

    pub read_stays : found ≤ limit → FindsNoEnd a.0.tally c.0.tally
    read_stays le = let f = low le in (ap {A = Known E X W} (λ x. x.0.tally.over) f ∙ ap {A = Known E X W} (λ x. x.0.tally.over) e, stops (ap {A = Known E X W} (λ x. x.0.tally.no_memory + x.0.tally.fault) f))

    pub read_ends : limit < found → FindsEnd a.0.tally c.0.tally
    read_ends lt = let f = over lt in inl (ap {A = Known E X W} (λ x. x.0.tally.over) f ∙ ap {A = Known E X W} (λ x. x.0.tally.over + 1) e)
