use Rattle.std.proofs.Common.{◌∙◌, ◌==◌, ℕ, cond, ap, arith}
use Rattle.hub_rule.specs.Rule.{with_tally, saw_stopped}
use Rattle.hub_rule.proofs.Charges.{stop}
use Rattle.hub_rule.proofs.Tallies.{cause_codes}
use Rattle.hub_steps.proofs.steps.halt.Goals as goal

pub compare_exchange-found-requires : goal.compare_exchange-found-requires
compare_exchange-found-requires g c =
    let m = g.S.Scene.meaning in
    let p = c.args.token.now in
    (c.requires.table.0, (let w = c.requires.table.1 in omega arith), stop m _ _ _ p.id c.code.result p.me.0 p.me.1 (cause_codes m.faults p.me.0.entries c.args.cause c.code.result c.code.ensures c.requires.fault))

pub returns-clause-found : goal.returns-clause-found
returns-clause-found g c =
    let me = c.args.token.now.me in let r = c.compare_exchange-found.result in
    c.ring.ensures.same.2 ∙ (c.compare_exchange-found.ensures.2.1 ∙ ap {A = ℕ} (λ n. (with_tally me.0 (saw_stopped me.0.tally r (cond (r == 0) n r)), me.1)) c.code.ensures)
