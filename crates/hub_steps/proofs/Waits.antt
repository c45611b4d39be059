-- What a seat knows while it waits for a work.
use Rattle.std.proofs.Common.{◌≡◌, ℕ, ◌+◌, ◌<◌, ◌≤◌, ◌⊎◌, true, List, [], ◌∷◌, ◌++◌, length, None, Some, refl, sym, ap, subst, ◌∙◌, arith, inl, inr, ⊎_elim}
use Rattle.atomic_table.specs.Table.{Me}
use Rattle.hub_rule.specs.declared.view.View.{View}
use Rattle.hub_rule.specs.declared.view.Pile.{Pile}
use Rattle.hub_rule.specs.declared.view.Tally.{Tally}
use Rattle.hub_rule.specs.declared.slot.Slot.{Slot}
use Rattle.hub_rule.specs.Rule.{with_tally, with_pile, saw_empty, takes_up, Goes, HasNewLeave, EndsBy}
use Rattle.hub_steps.specs.Looks.{Looked}

-- the seat a read the words some times, found no end, and is now b
pub record Waits {E X W : Type 0} (a b : Me (Slot X W) (View E X W)) : Type 0 where
  pub me : b ≡ (with_tally a.0 b.0.tally, a.1)
  pub goes : Goes a.0.tally b.0.tally
  pub over : b.0.tally.over ≡ a.0.tally.over
  pub stops : b.0.tally.no_memory + b.0.tally.fault ≡ a.0.tally.no_memory + a.0.tally.fault
  pub low : a.0.tally.low ≤ b.0.tally.low
  pub unset : a.0.tally.unset ≤ b.0.tally.unset

module _ {E : Type 0} where
  goes_self : (t : Tally E) → Goes t t
  goes_self t = record { charged = refl; due = refl; fresh = omega arith; clear = λ h. h }

  goes_on : (t u v : Tally E) → Goes t u → v.settled ++ v.fresh ≡ u.settled ++ u.fresh → v.due ≡ u.due → length v.fresh ≤ length u.fresh → ((u.leave ≡ true → length u.fresh ≡ 0) → v.leave ≡ true → length v.fresh ≡ 0) → Goes t v
  goes_on t u v g charged due fresh clear = record { charged = charged ∙ g.charged; due = due ∙ g.due; fresh = let f = g.fresh in omega arith; clear = λ h. clear (g.clear h) }

module _ {E X W : Type 0} where
  pub waits_first : (a : Me (Slot X W) (View E X W)) → Waits a a
  waits_first a = record { me = refl; goes = goes_self a.0.tally; over = refl; stops = refl; low = omega arith; unset = omega arith }

  tally_on : (a b c : Me (Slot X W) (View E X W)) → b ≡ (with_tally a.0 b.0.tally, a.1) → c ≡ (with_tally b.0 c.0.tally, b.1) → c ≡ (with_tally a.0 c.0.tally, a.1)
  tally_on a b c e f = f ∙ ap {A = Me (Slot X W) (View E X W)} (λ x. (with_tally x.0 c.0.tally, x.1)) e

  -- the words were read once more, and no end was found
  pub waits_on : (a b c : Me (Slot X W) (View E X W)) → Waits a b → c ≡ (with_tally b.0 c.0.tally, b.1) → c.0.tally.settled ++ c.0.tally.fresh ≡ b.0.tally.settled ++ b.0.tally.fresh → c.0.tally.due ≡ b.0.tally.due → length c.0.tally.fresh ≤ length b.0.tally.fresh
      → ((b.0.tally.leave ≡ true → length b.0.tally.fresh ≡ 0) → c.0.tally.leave ≡ true → length c.0.tally.fresh ≡ 0) → c.0.tally.over ≡ b.0.tally.over → c.0.tally.no_memory + c.0.tally.fault ≡ b.0.tally.no_memory + b.0.tally.fault
      → c.0.tally.low ≡ b.0.tally.low + 1 → c.0.tally.unset ≡ b.0.tally.unset + 1 → Waits a c × (a.0.tally.low < c.0.tally.low) × (a.0.tally.unset < c.0.tally.unset)
  waits_on a b c h me charged due fresh clear over stops low unset = (
    record {
      me = tally_on a b c h.me me;
      goes = goes_on a.0.tally b.0.tally c.0.tally h.goes charged due fresh clear;
      over = over ∙ h.over;
      stops = stops ∙ h.stops;
      low = let l = h.low in omega arith;
      unset = let l = h.unset in omega arith;
    },
    (let l = h.low in omega arith),
    (let l = h.unset in omega arith),
  )

  pub waits_same : (a b c : Me (Slot X W) (View E X W)) → Waits a b → c ≡ b → Waits a c
  waits_same a b c h e = let P : Me (Slot X W) (View E X W) → Type 0 = λ x. Waits a x in subst P (sym e) h

  -- the pile is as it was
  view_same : (a c : Me (Slot X W) (View E X W)) → c ≡ (with_tally a.0 c.0.tally, a.1) → c ≡ (with_pile (with_tally a.0 c.0.tally) c.0.pile, a.1)
  view_same a c e = e ∙ ap {A = Pile E W} (λ p. (with_pile (with_tally a.0 c.0.tally) p, a.1)) (sym (ap {A = Me (Slot X W) (View E X W)} (λ x. x.0.pile) e))

  -- an end was found in the charged word or the stop word
  ends_told : (a b c : Me (Slot X W) (View E X W)) → Waits a b → c ≡ (with_tally b.0 c.0.tally, b.1) → c.0.tally.settled ++ c.0.tally.fresh ≡ b.0.tally.settled ++ b.0.tally.fresh → c.0.tally.due ≡ b.0.tally.due → length c.0.tally.fresh ≤ length b.0.tally.fresh
      → ((b.0.tally.leave ≡ true → length b.0.tally.fresh ≡ 0) → c.0.tally.leave ≡ true → length c.0.tally.fresh ≡ 0)
      → ((c.0.tally.over ≡ b.0.tally.over + 1) ⊎ (c.0.tally.no_memory + c.0.tally.fault ≡ b.0.tally.no_memory + b.0.tally.fault + 1))
      → (c ≡ (with_pile (with_tally a.0 c.0.tally) c.0.pile, a.1)) × Goes a.0.tally c.0.tally × EndsBy a.0 c.0
  ends_told a b c h me charged due fresh clear cause =
      let e = tally_on a b c h.me me in (
        view_same a c e,
        goes_on a.0.tally b.0.tally c.0.tally h.goes charged due fresh clear,
        (
          inr (ap {A = Me (Slot X W) (View E X W)} (λ x. x.0.pile) e),
          ⊎_elim (λ o. inr (inl (let l = h.over in omega arith))) (λ s. inr (inr (let l = h.stops in omega arith))) cause,
        ),
      )

  -- nothing is pending
  ends_empty : (a b c : Me (Slot X W) (View E X W)) → Waits a b → c ≡ (with_pile b.0 (saw_empty b.0.pile), b.1) → (c ≡ (with_pile (with_tally a.0 c.0.tally) c.0.pile, a.1)) × Goes a.0.tally c.0.tally × EndsBy a.0 c.0
  ends_empty a b c h e =
      let M : Type 0 = Me (Slot X W) (View E X W) in
      let f : c ≡ (with_pile (with_tally a.0 b.0.tally) (saw_empty a.0.pile), a.1) = e ∙ ap {A = M} (λ x. (with_pile x.0 (saw_empty x.0.pile), x.1)) h.me in
      let t : c.0.tally ≡ b.0.tally = ap {A = M} (λ x. x.0.tally) e in
      let p : c.0.pile ≡ saw_empty a.0.pile = ap {A = M} (λ x. x.0.pile) f in
      let G : Tally E → Type 0 = λ u. Goes a.0.tally u in (
        f ∙ (ap {A = Tally E} (λ u. (with_pile (with_tally a.0 u) (saw_empty a.0.pile), a.1)) (sym t) ∙ ap {A = Pile E W} (λ q. (with_pile (with_tally a.0 c.0.tally) q, a.1)) (sym p)),
        subst G (sym t) h.goes,
        (inl p, inl (let n = ap {A = Pile E W} (λ q. q.empty) p in omega arith)),
      )

  -- a work was taken
  taken_told : (a b c : Me (Slot X W) (View E X W)) (i : ℕ) (w : W) → Waits a b → c ≡ (with_pile b.0 (takes_up b.0.pile ((i, w) ∷ [])), b.1)
      → (c ≡ (with_pile (with_tally a.0 c.0.tally) c.0.pile, a.1)) × Goes a.0.tally c.0.tally × (c.0.pile ≡ takes_up a.0.pile ((i, w) ∷ [])) × (c.0.tally ≡ b.0.tally)
  taken_told a b c i w h e =
      let M : Type 0 = Me (Slot X W) (View E X W) in
      let one : List (ℕ × W) = (i, w) ∷ [] in
      let f : c ≡ (with_pile (with_tally a.0 b.0.tally) (takes_up a.0.pile one), a.1) = e ∙ ap {A = M} (λ x. (with_pile x.0 (takes_up x.0.pile one), x.1)) h.me in
      let t : c.0.tally ≡ b.0.tally = ap {A = M} (λ x. x.0.tally) e in
      let p : c.0.pile ≡ takes_up a.0.pile one = ap {A = M} (λ x. x.0.pile) f in
      let G : Tally E → Type 0 = λ u. Goes a.0.tally u in (
        f ∙ (ap {A = Tally E} (λ u. (with_pile (with_tally a.0 u) (takes_up a.0.pile one), a.1)) (sym t) ∙ ap {A = Pile E W} (λ q. (with_pile (with_tally a.0 c.0.tally) q, a.1)) (sym p)),
        subst G (sym t) h.goes,
        p,
        t,
      )

  pub found_end : (a b c : Me (Slot X W) (View E X W)) → Waits a b → c ≡ (with_tally b.0 c.0.tally, b.1) → c.0.tally.settled ++ c.0.tally.fresh ≡ b.0.tally.settled ++ b.0.tally.fresh → c.0.tally.due ≡ b.0.tally.due → length c.0.tally.fresh ≤ length b.0.tally.fresh
      → ((b.0.tally.leave ≡ true → length b.0.tally.fresh ≡ 0) → c.0.tally.leave ≡ true → length c.0.tally.fresh ≡ 0)
      → ((c.0.tally.over ≡ b.0.tally.over + 1) ⊎ (c.0.tally.no_memory + c.0.tally.fault ≡ b.0.tally.no_memory + b.0.tally.fault + 1)) → Looked {E = E} {X = X} {W = W} a c None
  found_end a b c h me charged due fresh clear cause = let e = ends_told a b c h me charged due fresh clear cause in record { view = e.0; goes = e.1; some = tt; go = tt; none = e.2 }

  pub found_nothing : (a b c : Me (Slot X W) (View E X W)) → Waits a b → c ≡ (with_pile b.0 (saw_empty b.0.pile), b.1) → Looked {E = E} {X = X} {W = W} a c None
  found_nothing a b c h e = let t = ends_empty a b c h e in record { view = t.0; goes = t.1; some = tt; go = tt; none = t.2 }

  pub found_work : (a b c : Me (Slot X W) (View E X W)) (i : ℕ) (w : W) → Waits a b → HasNewLeave a.0.tally b.0.tally → c ≡ (with_pile b.0 (takes_up b.0.pile ((i, w) ∷ [])), b.1) → Looked {E = E} {X = X} {W = W} a c (Some w)
  found_work a b c i w h leave e =
      let t = taken_told a b c i w h e in
      let l : c.0.tally.low ≡ b.0.tally.low = ap {A = Tally E} (λ u. u.low) t.3 in
      let n : c.0.tally.unset ≡ b.0.tally.unset = ap {A = Tally E} (λ u. u.unset) t.3 in
      record {
        view = t.0;
        goes = t.1;
        some = (i, t.2);
        go = (ap {A = Tally E} (λ u. u.leave) t.3 ∙ leave.0, (let m = leave.1 in omega arith), (let m = leave.2 in omega arith));
        none = tt;
      }
