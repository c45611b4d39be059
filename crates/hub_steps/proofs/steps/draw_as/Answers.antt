use Rattle.std.proofs.Common.{List, ◌+◌, ◌%◌, ◌^◌, sym, subst, arith, Option}
use Rattle.atomic_table.specs.Table.{Allows, step}
use mathlib.Core.Option.{none}
use Rattle.hub_rule.specs.Rule.{HubRule, Drew}
use Rattle.hub_rule.proofs.Draws.{draw}
use Rattle.hub_steps.proofs.steps.draw_as.Goals as goal

pub fetch_add-requires : goal.fetch_add-requires
fetch_add-requires g c =
    let m = g.S.Scene.meaning in
    let X : Type 0 = g.row.S-Shard.Denot in let W : Type 0 = g.row.S-Work.Denot in
    let key = c.args.board.now.key in
    let opened : List X × List W = (key.shards.value.items, key.works.value.items) in
    let slots = c.args.board.now.table_id.slots in
    let p = c.args.token.now in
    let Asks : Option _ → Type 0 = λ named. Allows (HubRule m opened key.terms) slots p.id p.me 0 (λ n. (n + 1) % 2 ^ 64) (Drew m named (step slots 0 1 0 none) p.me) in (
      c.requires.table.0,
      (let w = c.requires.table.1 in omega arith),
      subst Asks (sym c.requires.named) (draw m (g.met.S.Scene g.world.𝓛 g.world.𝓜 g.world.𝓡 ((λ s x. x), (λ x. x), (λ x. x), λ x. x)).lawful opened key.terms slots p.id p.me.0 p.me.1 c.args.entry.now c.requires.may),
    )

pub returns-clause-drawn : goal.returns-clause-drawn
returns-clause-drawn g c = c.fetch_add.ensures.2 c.args.entry.now c.requires.named
