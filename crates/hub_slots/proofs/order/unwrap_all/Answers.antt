use Rattle.std.proofs.Common.{◌≡◌, ◌≤◌, ◌<◌, ◌∙◌, ◌++◌, ◌∷◌, [], ℕ, Option, Some, refl, sym, ap, arith, append_assoc, length, length-append, List, map}
use Rattle.std.proofs.lemmas.List.{length-map, map-append}
use Rattle.hub_rule.proofs.Ends.{at_split, within}
use Rattle.hub_slots.proofs.order.unwrap_all.Goals as goal

pub unreachable-requires : goal.unreachable-requires
unreachable-requires g c =
    let T : Type 0 = g.row.T.Denot in
    let i = c.loop-place.invariant in let s = c.in-Some.ensures.steps in
    let pre : List (Option T) = map (λ (x : T). Some x) c.loop-place.out.items in
    let e = sym (ap {A = List (Option T)} (λ l. pre ++ l) s.0) ∙ i.all in
    let at = at_split pre c.next.new.self.rest.items c.in-Some.place c.args.places.items e in
    let h = c.requires.full (length pre) (within c.args.places.items (length pre) c.in-Some.place at) in
    let q : Some c.in-Some.place ≡ Some (Some h.0) = sym at ∙ h.1 in
    let r : c.in-Some.place ≡ Some h.0 = cc in c.in_default.not-Some h.0 r

-- there is room for one more
has-room : {T : Type 0} (out : List T) (rest left places : List (Option T)) (x : Option T) (len room most : ℕ) → map (λ y. Some y) out ++ rest ≡ places → rest ≡ x ∷ left → len ≡ length out → length places ≤ most → room ≡ most → len < room
has-room {T} out rest left places x len room most all is long fits same =
    let a = ap {A = List (Option T)} length all in let b = length-append (map (λ (y : T). Some y) out) rest in let d = length-map out (λ (y : T). Some y) in let e = ap {A = List (Option T)} length is in
    omega arith

-- one more is unwrapped
on-more : {T : Type 0} (out next : List T) (rest left places : List (Option T)) (x : T) (place : Option T) → next ≡ out ++ x ∷ [] → place ≡ Some x → rest ≡ place ∷ left → map (λ y. Some y) out ++ rest ≡ places → map (λ y. Some y) next ++ left ≡ places
on-more {T} out next rest left places x place pushed is split all =
    ap {A = List T} (λ l. map (λ (y : T). Some y) l ++ left) pushed
    ∙ (ap {A = List (Option T)} (λ l. l ++ left) (simp map-append)
    ∙ (append_assoc (map (λ (y : T). Some y) out) (Some x ∷ []) left
    ∙ (ap {A = Option T} (λ p. map (λ (y : T). Some y) out ++ p ∷ left) (sym is)
    ∙ (ap {A = List (Option T)} (λ l. map (λ (y : T). Some y) out ++ l) (sym split) ∙ all))))

pub loop-place-init : goal.loop-place-init
loop-place-init g c =
    let T : Type 0 = g.row.T.Denot in
    record {
      all = ap {A = List T} (λ l. map (λ (y : T). Some y) l ++ c.into_iter-place-iterator.result.rest.items) c.requires.room.0 ∙ c.into_iter-place-iterator.ensures.into_iter_gives.0;
      room = refl;
    }

pub push_reserved-requires : goal.push_reserved-requires
push_reserved-requires g c = let i = c.loop-place.invariant in has-room _ _ _ _ _ _ _ _ i.all c.in-Some.ensures.steps.0 c.loop-place.out.ok.0 c.requires.room.1 i.room

pub loop-place-preserved : goal.loop-place-preserved
loop-place-preserved g c =
    let i = c.loop-place.invariant in let p = c.push_reserved.ensures in
    record {
      all = on-more _ _ _ _ _ c.in-Some-place.x c.in-Some.place p.items c.in-Some-place.is c.in-Some.ensures.steps.0 i.all;
      room = p.capacity ∙ i.room;
    }
