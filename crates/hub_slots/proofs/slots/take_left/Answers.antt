use Rattle.std.proofs.Common.{◌≡◌, ◌≢◌, ◌<◌, ◌≤◌, ◌-◌, ◌+◌, ◌++◌, ◌∙◌, ℕ, suc, List, false, refl, le_refl, sym, ap, subst, arith, length, take, get_or-set_other, slice_index_or}
use mathlib.Core.Logic.{dite}
use native.Mathlib.Decide.{ℕ_discrete}
use lib.ListN.{get_elem?}
use Rattle.std.specs.Mem.Slots.{slots_filled, slots_items, slots_counts}
use Rattle.hub_rule.specs.Counts.{all_of}
use Rattle.hub_rule.proofs.Ends.{flag_down, desk_found, front_more, front_fits, front_all}
use Rattle.hub_rule.proofs.DeskTurns.{slot_works}
use Rattle.hub_slots.proofs.slots.take_left.Goals as goal

pub works_of-requires : goal.works_of-requires
works_of-requires g c =
    let i = c.loop-desk.invariant in let n : ℕ = c.loop-desk.desk in let r = c.requires.desks in
    let low = c.loop-desk.auto.desk in let high = c.loop-desk-test.true in
    let f = desk_found (slots_items c.args.closed.slots) r.0 n c.take.result r.1 r.2 low high (sym (ap (λ l. get_elem? l n) i.items) ∙ c.take.ensures.value) in
    (f.2, f.3)

pub move_all-requires : goal.move_all-requires
move_all-requires g c =
    let W : Type 0 = g.row.W.Denot in
    let i = c.loop-desk.invariant in let n : ℕ = c.loop-desk.desk in let r = c.requires.desks in
    let low = c.loop-desk.auto.desk in let high = c.loop-desk-test.true in
    let f = desk_found (slots_items c.args.closed.slots) r.0 n c.take.result r.1 r.2 low high (sym (ap (λ l. get_elem? l n) i.items) ∙ c.take.ensures.value) in
    let same = ap slot_works (sym c.works_of.ensures ∙ f.3) ∙ f.4 in
    let a = ap {A = List W} length same in
    let b = ap {A = List W} length (i.left r.0 r.1 r.2) in
    let d = front_fits r.0 (n - 64) f.0 f.1 in
    let e = i.room in let h = r.3 in omega arith

pub loop-desk-preserved : goal.loop-desk-preserved
loop-desk-preserved g c =
    let W : Type 0 = g.row.W.Denot in
    let i = c.loop-desk.invariant in let n : ℕ = c.loop-desk.desk in let r = c.requires.desks in
    let low = c.loop-desk.auto.desk in let high = c.loop-desk-test.true in
    let t = c.take.ensures in
    let filled : slots_filled c.take.new.self.slots ≡ _ = t.others.1 in
    let old = slots_filled c.loop-desk.closed.slots in
    let wide : n < length old = (let a = slots_counts c.loop-desk.closed.slots in let b = i.len in omega arith) in
    record {
      items = t.others.0 ∙ i.items;
      len = t.others.2 ∙ i.len;
      there = λ j from to. let ne : j ≢ n = (λ e. omega arith) in ap (λ l. slice_index_or l j false) filled ∙ (get_or-set_other old n j false false ne ∙ i.there j (omega arith) to);
      gone = λ j under. ap (λ l. slice_index_or l j false) filled ∙ dite (ℕ_discrete j n)
          (λ e. flag_down old n j wide e)
          (λ ne. get_or-set_other old n j false false ne ∙ i.gone j (omega arith));
      room = c.move_all.ensures.room ∙ i.room;
      left = λ lists long lies.
          let f = desk_found (slots_items c.args.closed.slots) lists n c.take.result long lies low high (sym (ap (λ l. get_elem? l n) i.items) ∙ t.value) in
          let same = ap slot_works (sym c.works_of.ensures ∙ f.3) ∙ f.4 in
          let next : suc (n - 64) ≡ (n + 1) - 64 = omega arith in
          c.move_all.ensures.items ∙ (ap {A = List W} (λ l. l ++ c.works_of.result.items) (i.left lists long lies)
          ∙ (ap {A = List W} (λ l. all_of (λ x. x) (take (n - 64) lists) ++ l) same ∙ (sym (front_more lists (n - 64) f.0 f.1) ∙ ap {A = ℕ} (λ k. all_of (λ x. x) (take k lists)) next)));
    }

pub returns : goal.returns
returns g c = λ lists long lies.
    let i = c.loop-desk.invariant in
    let end : c.loop-desk.desk - 64 ≡ 32 = (let a = c.loop-desk-test.false in let b = c.loop-desk.auto.desk-end in omega arith) in
    i.left lists long lies ∙ (ap {A = ℕ} (λ k. all_of (λ x. x) (take k lists)) end ∙ ap (all_of (λ x. x)) (front_all lists 32 long))

-- numbers below a length that a count has reached are below the count
reached : (k len n : ℕ) → k < len → len ≡ 96 → 96 ≤ n → k < n
reached k len n lt e le = omega arith

pub loop-desk-init : goal.loop-desk-init
loop-desk-init g c =
    let r = c.requires.slots in
    record {
      items = refl;
      len = r.0;
      there = r.1.0;
      gone = r.1.1;
      room = refl;
      left = λ lists long lies. c.requires.room;
    }

pub take-requires : goal.take-requires
take-requires g c =
    let i = c.loop-desk.invariant in let n : ℕ = c.loop-desk.desk in let lt = c.loop-desk-test.true in
    (subst (λ k. n < k) (sym i.len) lt, i.there n (le_refl n) lt)

pub free-requires : goal.free-requires
free-requires g c = λ k lt. c.loop-desk.invariant.gone k (reached k _ _ lt c.loop-desk.invariant.len c.loop-desk-test.false)
