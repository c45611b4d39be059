use Rattle.std.proofs.Common.{◌≡◌, ◌∙◌, ℕ, Some, sym, ap, arith, length, eqb, eq-eqb, refl, List}
use Rattle.std.proofs.Math.ListN.{length-set}
use mathlib.Core.Logic.{dite}
use native.Mathlib.Decide.{dec_le}
use Rattle.hub_rule.specs.Counts.{one_if, count, placed}
use Rattle.hub_slots.proofs.order.place_all.Goals as goal

pub loop-number-init : goal.loop-number-init
loop-number-init g c =
    let T : Type 0 = g.row.T.Denot in
    let all = c.into_iter-number-iterator.ensures.into_iter_gives.0 in
    record {
      rest = ap {A = List (ℕ × T)} (λ l. placed c.args.places.items l) all;
      long = refl;
      within = λ n le. ap {A = List (ℕ × T)} (count n) all ∙ c.requires n le;
    }

pub index_mut-requires : goal.index_mut-requires
index_mut-requires g c =
    let T : Type 0 = g.row.T.Denot in
    let i = c.loop-number.invariant in let s = c.in-Some.ensures.steps in let o = c.loop-number.places.ok in
    let here : one_if (eqb c.in-Some.number c.in-Some.number) ≡ 1 = ap one_if (eq-eqb c.in-Some.number c.in-Some.number refl) in
    let q = ap {A = List (ℕ × T)} (count c.in-Some.number) s.0 in
    dite (dec_le (length c.args.places.items) c.in-Some.number) (λ le. absurd (let w = i.within c.in-Some.number le in omega arith)) (λ nle. let l = i.long in omega arith)

pub loop-number-preserved-in-Some : goal.loop-number-preserved-in-Some
loop-number-preserved-in-Some g c =
    let T : Type 0 = g.row.T.Denot in
    let i = c.loop-number.invariant in let s = c.in-Some.ensures.steps in
    record {
      rest = sym (ap {A = List (ℕ × T)} (λ l. placed c.loop-number.places.items l) s.0) ∙ i.rest;
      long = length-set c.loop-number.places.items c.in-Some.number (Some c.in-Some.thing) ∙ i.long;
      within = λ n le. let w = i.within n le in let q = ap {A = List (ℕ × T)} (count n) s.0 in omega arith;
    }

pub loop-number-preserved : goal.loop-number-preserved
loop-number-preserved g c =
    let T : Type 0 = g.row.T.Denot in
    let i = c.loop-number.invariant in let s = c.in-Some.ensures.steps in
    record {
      rest = sym (ap {A = List (ℕ × T)} (λ l. placed c.loop-number.places.items l) s.0) ∙ i.rest;
      long = length-set c.loop-number.places.items c.in-Some.number (Some c.in-Some.thing) ∙ i.long;
      within = λ n le. let w = i.within n le in let q = ap {A = List (ℕ × T)} (count n) s.0 in omega arith;
    }
