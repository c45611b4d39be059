use Rattle.std.proofs.Common.{◌≡◌, ◌-◌, ◌+◌, ◌≤◌, ◌∙◌, ◌++◌, ◌∷◌, [], ℕ, List, length, sym, ap, arith, append_assoc, length-append}
use Rattle.std.specs.Vec.Iter.{into_iter_items}
use Rattle.hub_slots.proofs.slots.take_some.Goals as goal

-- where so many were moved, so many fewer are there
fewer : {T : Type 0} (some rest all : List T) (n count : ℕ) → some ++ rest ≡ all → length some ≡ n → count ≤ n → length rest ≤ length all - count
fewer some rest all n count e long le = let a = ap length e in let b = length-append some rest in omega arith

-- one more is moved
more : {T : Type 0} (some next rest left all : List T) (x : T) → next ≡ some ++ x ∷ [] → rest ≡ x ∷ left → some ++ rest ≡ all → next ++ left ≡ all
more {T} some next rest left all x pushed is e = ap {A = List T} (λ l. l ++ left) pushed ∙ (append_assoc some (x ∷ []) left ∙ (ap {A = List T} (λ l. some ++ l) (sym is) ∙ e))

longer : {T : Type 0} (some next : List T) (x : T) (n : ℕ) → next ≡ some ++ x ∷ [] → length some ≡ n → length next ≡ n + 1
longer some next x n pushed e = let a = ap length pushed in let b = length-append some (x ∷ []) in omega arith

pub loop-init : goal.loop-init
loop-init g c =
    let T : Type 0 = g.row.T.Denot in
    let none = c.in_ok-some.ensures.items in
    (ap {A = List T} (λ l. l ++ into_iter_items c.args.things.now) none, ap {A = List T} length none)

pub loop-preserved : goal.loop-preserved
loop-preserved g c =
    let i = c.loop.invariant in let p = c.in_ok-push.ensures.items in
    (more _ _ _ _ _ c.in-Some.thing p c.in-Some.ensures.items i.0, longer _ _ c.in-Some.thing c.loop.counter p i.1)

pub returns : goal.returns
returns g c = let i = c.loop.invariant in (i.0, fewer _ _ _ _ _ i.0 i.1 c.loop-test.false)
