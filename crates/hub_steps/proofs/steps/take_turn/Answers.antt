use Rattle.std.proofs.Common.{◌∙◌, refl, ap, arith, Some}
use Rattle.hub_rule.specs.declared.slot.Slot.TheVariants.{Shard}
use Rattle.hub_rule.proofs.Turns.{take_turn, took_here, heads}
use Rattle.hub_steps.proofs.steps.take_turn.Goals as goal

pub compare_exchange-requires : goal.compare_exchange-requires
compare_exchange-requires g c = (c.loop.invariant.0 ∙ c.requires.table, (let w = c.requires.counts in omega arith), take_turn _ _ _ _ _ _ _ _ c.requires.counts.1 (let q = ap (λ m. m.0.parts) c.loop.invariant.2 in let r = c.requires.fresh.1 in omega arith) (ap (λ m. m.0.since) c.loop.invariant.2 ∙ c.requires.fresh.0))

pub exchange-requires : goal.exchange-requires
exchange-requires g c = let h = took_here c.args.board.now.table_id.slots c.args.number _ _ _ c.compare_exchange.ensures.2 c.if-compare_exchange-eq0.true in
    (c.compare_exchange.ensures.0 ∙ (c.loop.invariant.0 ∙ c.requires.table), (Shard (Some h.0), heads _ _ _ (ap (λ m. m.1) h.1)))

pub loop-init : goal.loop-init
loop-init g c = (refl, refl, refl)

pub sleep_for_turn-requires-clause-table : goal.sleep_for_turn-requires-clause-table
sleep_for_turn-requires-clause-table g c κs within = (c.compare_exchange.ensures.0 ∙ (c.loop.invariant.0 ∙ c.requires.table), c.requires.counts.0)

pub loop-preserved : goal.loop-preserved
loop-preserved g c =
    let i = c.loop.invariant in let x = c.compare_exchange.ensures in let z = c.sleep_for_turn.ensures.same in
    (z.0 ∙ (x.0 ∙ i.0), z.1 ∙ (x.1 ∙ i.1), z.2 ∙ (x.2.1 c.if-compare_exchange-eq0.false ∙ i.2))

pub returns-then-compare_exchange-eq0-clause-same : goal.returns-then-compare_exchange-eq0-clause-same
returns-then-compare_exchange-eq0-clause-same g c =
    let i = c.loop.invariant in let x = c.compare_exchange.ensures in let e = c.exchange.ensures in
    (e.0 ∙ (x.0 ∙ i.0), e.1 ∙ (x.1 ∙ i.1))
