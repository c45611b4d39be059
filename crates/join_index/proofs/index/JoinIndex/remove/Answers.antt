use Rattle.std.proofs.Common.{◌≡◌, Bool, true, false, List, map, length, eqb, eqb-true, eq-eqb, refl, subst, sym, ap, ◌∙◌}
use Rattle.std.specs.Prelude.{Some, None}
use Rattle.join_index.specs.Groups.{but_last}
use Rattle.join_index.specs.Index.{IsPlace, tallies, tally_of}
use Rattle.join_index.specs.declared.index.Counted.{Counted}
use Rattle.join_index.proofs.Tallies.{but-last-none}
use Rattle.join_index.proofs.Putting.{stands-there, take-none, take-last, take-one, at-place, stands-here, one-shorter, before-it}
use Rattle.join_index.proofs.index.JoinIndex.remove.Goals as goal

pub returns-in-None-clause-groups : goal.returns-in-None-clause-groups
returns-in-None-clause-groups c gs h =
    let es = c.args.self.now.groups.items in
    let g = c.args.group.now in
    let a = subst (λ (xs : List Counted). IsPlace g xs c.place_of.result) c.deref.ensures.value c.place_of.ensures in
    let p : IsPlace g es None = subst (IsPlace g es) c.in-None.is a in
    record { groups = take-none gs es h.groups g p; total = h.total ∙ ap length (sym (but-last-none g gs (sym (stands-there gs es h.groups g) ∙ p))) }

pub returns-in-None-clause-there : goal.returns-in-None-clause-there
returns-in-None-clause-there c gs h =
    let es = c.args.self.now.groups.items in
    let g = c.args.group.now in
    let a = subst (λ (xs : List Counted). IsPlace g xs c.place_of.result) c.deref.ensures.value c.place_of.ensures in
    let p : IsPlace g es None = subst (IsPlace g es) c.in-None.is a in
    sym p ∙ stands-there gs es h.groups g

pub returns-in-Some-clause-groups : goal.returns-in-Some-clause-groups
returns-in-Some-clause-groups c gs h =
    let es = c.args.self.now.groups.items in
    let g = c.args.group.now in
    let i = c.in-Some.i in
    let a = subst (λ (xs : List Counted). IsPlace g xs c.place_of.result) c.deref.ensures.value c.place_of.ensures in
    let p : IsPlace g es (Some i) = subst (IsPlace g es) c.in-Some.is a in
    let e : Counted = p.1 in
    let there = sym (at-place gs es h.groups g p.0 p.1 p.2 p.3 p.5 p.6 i e p.4) in
    let by : (b : Bool) → eqb e.count 1 ≡ b → map tally_of c.take_one.new.groups.items ≡ tallies (but_last g gs) = λ b.
    elim b as (λ (b : Bool). eqb e.count 1 ≡ b → map tally_of c.take_one.new.groups.items ≡ tallies (but_last g gs)) [
      | true ↦ λ k. ap (map tally_of) (c.take_one.ensures.last e there (eqb-true e.count 1 k)) ∙ take-last gs es h.groups g p.0 p.1 p.2 p.3 p.5 p.6 i p.4 (eqb-true e.count 1 k)
      | false ↦ λ k.
          ap (map tally_of) (c.take_one.ensures.more e there (λ q. cc (k, eq-eqb e.count 1 q)))
          ∙ take-one gs es h.groups g p.0 p.1 p.2 p.3 p.5 p.6 i _ p.4 k refl (before-it e.count)
    ] in
    record { groups = by (eqb e.count 1) refl; total = one-shorter c.args.self.now.total c.saturating_sub-self.result g gs h.total c.saturating_sub-self.ensures (stands-here gs es h.groups g p.0 p.1 p.2 p.3 p.5 p.6) }

pub returns-in-Some-clause-there : goal.returns-in-Some-clause-there
returns-in-Some-clause-there c gs h =
    let es = c.args.self.now.groups.items in
    let g = c.args.group.now in
    let i = c.in-Some.i in
    let a = subst (λ (xs : List Counted). IsPlace g xs c.place_of.result) c.deref.ensures.value c.place_of.ensures in
    let p : IsPlace g es (Some i) = subst (IsPlace g es) c.in-Some.is a in
    sym (stands-here gs es h.groups g p.0 p.1 p.2 p.3 p.5 p.6)
