use Rattle.std.proofs.Common.{◌≡◌, ◌++◌, ◌+◌, ◌∙◌, [], List, ℕ, length, sym, ap, subst, arith, append_assoc, append-nil, length-append}
use Rattle.std.proofs.lemmas.List.{nil_from_length}
use Rattle.std.specs.Vec.Iter.{into_iter_items}
use Rattle.hub_rule.specs.Works.{Laid}
use Rattle.hub_rule.proofs.Opens.{laid_none, laid_more}
use Rattle.hub_slots.proofs.slots.slots_of.Goals as goal

pub loop-init : goal.loop-init
loop-init g c = ([], laid_none _ _ c.in_ok-slots.ensures, c.into_iter-works.ensures.rest)

pub loop-preserved : goal.loop-preserved
loop-preserved g c =
    let W : Type 0 = g.row.W.Denot in
    let i = c.loop.invariant in
    let some = c.in_ok-take_some.field-0.items in (
      i.0 ++ some,
      laid_more c.loop.counter c.args.shards.items i.0 c.in_ok-take_some.field-0 _ _ i.1 c.in_ok-push.ensures.items,
      append_assoc i.0 some _ ∙ (ap {A = List W} (λ l. i.0 ++ l) c.in_ok-take_some.ensures.0 ∙ i.2),
    )

pub returns : goal.returns
returns g c =
    let W : Type 0 = g.row.W.Denot in
    let i = c.loop.invariant in
    let end : c.loop.counter ≡ 31 = omega arith in
    let P : ℕ → List W → Type 0 = λ n ws. Laid n c.args.shards.items ws c.push-2.new.self.items in
    let some = c.in_ok-take_some-2.field-0 in
    let rest : List W = into_iter_items c.take_some-2.new.things in
    let none : rest ≡ [] = nil_from_length rest (
    let a = length-append i.0 (into_iter_items c.loop.works) in let b = ap {A = List W} length i.2 in let o = c.args.work.ok in let l = c.len.ensures in let e = c.in_ok-take_some-2.ensures.1 in
    omega arith) in
    let last = laid_more c.loop.counter c.args.shards.items i.0 some _ _ i.1 c.in_ok-push-2.ensures.items in
    let all : i.0 ++ some.items ≡ c.args.work.items = ap {A = List W} (λ l. i.0 ++ l) (sym (append-nil some.items) ∙ (ap {A = List W} (λ l. some.items ++ l) (sym none) ∙ c.in_ok-take_some-2.ensures.0)) ∙ i.2 in
    let full : c.loop.counter + 1 ≡ 32 = omega arith in
    subst (λ n. P n c.args.work.items) full (subst (P (c.loop.counter + 1)) all last)
