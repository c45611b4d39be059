use Rattle.std.proofs.Common.{◌≤◌, ◌+◌, ◌-◌, ◌^◌, min, map, refl, List, if◌then◌else◌, ◌++◌, ◌∷◌, [], subst, sym, ap, ◌∙◌}
use Rattle.std.specs.Prelude.{Some, None}
use Rattle.join_index.specs.Groups.{Channels}
use Rattle.join_index.specs.Index.{IsPlace, tally_of}
use Rattle.join_index.specs.declared.index.Counted.{Counted}
use Rattle.join_index.proofs.Putting.{put-new, put-there, its-count, at-place, not-full, one-longer}
use Rattle.join_index.proofs.index.JoinIndex.put.Goals as goal

pub returns-in-Some-clause-groups : goal.returns-in-Some-clause-groups
returns-in-Some-clause-groups c gs h =
    let es = c.args.self.now.groups.items in
    let g = c.args.group.items in
    let i = c.in-Some.i in
    let a = subst (λ (xs : List Counted). IsPlace c.deref-2.result.now xs c.place_of.result) c.deref.ensures.value c.place_of.ensures in
    let b = subst (λ (x : Channels). IsPlace x es c.place_of.result) c.deref-2.ensures.value a in
    let p : IsPlace g es (Some i) = subst (IsPlace g es) c.in-Some.is b in
    let of : (d : Counted) → _ = λ d. at-place gs es h.groups g p.0 p.1 p.2 p.3 p.5 p.6 i d p.4 in
    record {
      groups = put-there gs es h.groups g p.0 p.1 p.2 p.3 p.5 p.6 i _ p.4 (ap (λ (e : Counted). e.group) (c.index_mut.ensures.value ∙ of c.index_mut.result.now))
          (not-full c.saturating_add.result p.1.count c.args.self.now.total _
          (c.saturating_add.ensures ∙ ap (λ (e : Counted). min (e.count + 1) (2 ^ 64 - 1)) (c.index.ensures ∙ of c.index.result.now))
          (subst (λ n. p.1.count ≤ n) (sym h.total) (its-count gs es h.groups g p.0 p.1 p.2 p.3 p.5 p.6).1) c.requires.room);
      total = one-longer c.args.self.now.total gs g h.total;
    }

pub returns-in-None-clause-groups : goal.returns-in-None-clause-groups
returns-in-None-clause-groups c gs h =
    let es = c.args.self.now.groups.items in
    let g = c.args.group.items in
    let a = subst (λ (xs : List Counted). IsPlace c.deref-2.result.now xs c.place_of.result) c.deref.ensures.value c.place_of.ensures in
    let b = subst (λ (x : Channels). IsPlace x es c.place_of.result) c.deref-2.ensures.value a in
    let p : IsPlace g es None = subst (IsPlace g es) c.in-None.is b in
    record {
      groups = ap (map tally_of) (c.push-added.ensures.items ∙ ap (λ b. if b then es ++ record { group = g; count = 1 } ∷ [] else es) (sym c.is_ok.ensures.value ∙ c.if-prove.false)) ∙ put-new gs es h.groups g p _ refl refl;
      total = one-longer c.args.self.now.total gs g h.total;
    }
