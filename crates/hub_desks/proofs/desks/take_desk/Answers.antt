use Rattle.std.proofs.Common.{◌∙◌, ◌∷◌, ◌+◌, refl, ap, arith}
use Rattle.hub_rule.specs.declared.slot.Slot.TheVariants.{Desk}
use Rattle.hub_rule.specs.Rule.{with_pile, at_desk}
use Rattle.hub_rule.proofs.DeskTurns.{take_desk, desk_here}
use Rattle.hub_desks.proofs.desks.take_desk.Goals as goal

pub compare_exchange-requires : goal.compare_exchange-requires
compare_exchange-requires g c =
    let m = g.S.Scene.meaning in
    let p = c.loop.token in
    (c.loop.invariant.0 ∙ c.requires.table.0, (let w = c.requires.table.1 in let d = c.requires.desk.0 in omega arith), take_desk m _ _ _ p.id c.args.desk p.me.0 p.me.1 c.requires.desk.0 (let q = ap (λ x. x.0.parts) c.loop.invariant.2 in let r = c.requires.desk.2 in omega arith))

pub returns-then-compare_exchange-eq0-clause-taken : goal.returns-then-compare_exchange-eq0-clause-taken
returns-then-compare_exchange-eq0-clause-taken g c =
    let h = desk_here c.args.board.now.table_id.slots c.args.desk _ _ _ c.compare_exchange.ensures.2 c.if-compare_exchange-eq0.true in
    (h.0, h.1, h.2 ∙ ap (λ x. (with_pile x.0 (at_desk x.0.pile c.args.desk h.1), (c.args.desk + 64, Desk h.0) ∷ x.1)) c.loop.invariant.2, h.3)

pub loop-init : goal.loop-init
loop-init g c = (refl, refl, refl)

pub sleep_for_turn-requires-clause-table : goal.sleep_for_turn-requires-clause-table
sleep_for_turn-requires-clause-table g c κs within = (c.compare_exchange.ensures.0 ∙ (c.loop.invariant.0 ∙ c.requires.table.0), c.requires.table.1)

pub loop-preserved : goal.loop-preserved
loop-preserved g c =
    let i = c.loop.invariant in let x = c.compare_exchange.ensures in let z = c.sleep_for_turn.ensures.same in
    (z.0 ∙ (x.0 ∙ i.0), z.1 ∙ (x.1 ∙ i.1), z.2 ∙ (x.2.1 c.if-compare_exchange-eq0.false ∙ i.2))

pub returns-then-compare_exchange-eq0-clause-same : goal.returns-then-compare_exchange-eq0-clause-same
returns-then-compare_exchange-eq0-clause-same g c = let i = c.loop.invariant in let x = c.compare_exchange.ensures in (x.0 ∙ i.0, x.1 ∙ i.1)
