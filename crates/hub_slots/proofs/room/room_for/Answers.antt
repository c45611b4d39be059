use Rattle.std.proofs.Common.{◌≡◌, ◌≤◌, ◌∙◌, [], Option, None, Result, Ok, IfOk, length, replicate, vec_capacity, subst, ap}
use Rattle.std.proofs.lemmas.List.{length-replicate}
use Rattle.hub_slots.proofs.room.room_for.Goals as goal

made : {A B : Type 0} (r : Result A B) (v : A) (P : A → Type 0) → r ≡ Ok v → IfOk r P → P v
made {A} {B} r v P e h = let Q : Result A B → Type 0 = λ x. IfOk x P in subst Q e h

pub returns-clause-drawn : goal.returns-clause-drawn
returns-clause-drawn g c =
    let l = c.kept-left.ensures c.if-wanting.false in let s = c.kept-shards.ensures l.0 in let e = c.kept-entries.ensures s.0 in let p = c.kept-places.ensures e.0 in let d = c.kept-drawn.ensures p.0 in
    let w = c.with_capacity.ensures in
    (made c.with_capacity.result c.kept-drawn.result (λ v. v.items ≡ []) d.1 w.items, made c.with_capacity.result c.kept-drawn.result (λ v. c.args.seats ≤ vec_capacity v) d.1 w.capacity)

pub returns-clause-order : goal.returns-clause-order
returns-clause-order g c =
    let E : Type 0 = g.row.E.Denot in
    let l = c.kept-left.ensures c.if-wanting.false in let s = c.kept-shards.ensures l.0 in let e = c.kept-entries.ensures s.0 in let p = c.kept-places.ensures e.0 in
    let w = c.with_capacity-2.ensures in
    let nothing : Option E = None in (
      ap length (made c.empty_places.result c.kept-places.result (λ v. v.items ≡ replicate c.args.count nothing) p.1 c.empty_places.ensures) ∙ length-replicate c.args.count nothing,
      made c.with_capacity-2.result c.kept-entries.result (λ v. v.items ≡ []) e.1 w.items,
      made c.with_capacity-2.result c.kept-entries.result (λ v. c.args.count ≤ vec_capacity v) e.1 w.capacity,
    )

pub returns-clause-shards : goal.returns-clause-shards
returns-clause-shards g c =
    let l = c.kept-left.ensures c.if-wanting.false in let s = c.kept-shards.ensures l.0 in let w = c.with_capacity-3.ensures in
    (made c.with_capacity-3.result c.kept-shards.result (λ v. v.items ≡ []) s.1 w.items, made c.with_capacity-3.result c.kept-shards.result (λ v. 64 ≤ vec_capacity v) s.1 w.capacity)

pub returns-clause-left : goal.returns-clause-left
returns-clause-left g c =
    let l = c.kept-left.ensures c.if-wanting.false in let w = c.with_capacity-4.ensures in
    (made c.with_capacity-4.result c.kept-left.result (λ v. v.items ≡ []) l.1 w.items, made c.with_capacity-4.result c.kept-left.result (λ v. c.args.standing ≤ vec_capacity v) l.1 w.capacity)
