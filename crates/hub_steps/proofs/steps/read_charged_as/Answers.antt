use Rattle.std.proofs.Common.{List, ℕ, ◌∙◌, ◌++◌, length, sym, ap, subst, arith, append-nil}
use mathlib.Core.Logic.{dite}
use native.Mathlib.Decide.{dec_le}
use Rattle.atomic_table.specs.Table.{Allows, step}
use mathlib.Core.Option.{none}
use Rattle.hub_rule.specs.Rule.{HubRule, ReadCharged}
use Rattle.hub_rule.proofs.Charges.{read_charged}
use Rattle.hub_steps.proofs.steps.read_charged_as.Goals as goal

pub load-requires : goal.load-requires
load-requires g c =
    let m = g.S.Scene.meaning in
    let slots = c.args.board.now.table_id.slots in
    let p = c.args.token.now in
    let key = c.args.board.now.key in
    let X : Type 0 = g.row.S-Shard.Denot in let W : Type 0 = g.row.S-Work.Denot in
    let opened : List X × List W = (key.shards.value.items, key.works.value.items) in
    let Asks : ℕ → Type 0 = λ limit. Allows (HubRule m opened key.terms) slots p.id p.me 1 (λ n. n) (ReadCharged limit (step slots 1 0 0 none) p.me) in (
      c.requires.table.0,
      (let w = c.requires.table.1 in omega arith),
      subst Asks (sym c.requires.named) (read_charged m opened key.terms slots p.id p.me.0 p.me.1),
    )

pub returns-clause-over : goal.returns-clause-over
returns-clause-over g c more = c.load.ensures.2.0 (let q = c.requires.named in omega arith)

pub returns-clause-low : goal.returns-clause-low
returns-clause-low g c less = c.load.ensures.2.1 (let q = c.requires.named in omega arith)

pub returns-clause-charged : goal.returns-clause-charged
returns-clause-charged g c =
    let t = c.args.token.now.me.0.tally in
    dite (dec_le c.load.result c.args.board.now.key.terms.limit)
    (λ le. ap (λ x. x.0.tally.settled ++ x.0.tally.fresh) (c.load.ensures.2.1 (let q = c.requires.named in omega arith)) ∙ append-nil (t.settled ++ t.fresh))
    (λ nle. ap (λ x. x.0.tally.settled ++ x.0.tally.fresh) (c.load.ensures.2.0 (let q = c.requires.named in omega arith)))

pub returns-clause-fresh : goal.returns-clause-fresh
returns-clause-fresh g c =
    let t = c.args.token.now.me.0.tally in
    dite (dec_le c.load.result c.args.board.now.key.terms.limit)
    (λ le. let p = ap (λ x. length x.0.tally.fresh) (c.load.ensures.2.1 (let q = c.requires.named in omega arith)) in omega arith)
    (λ nle. let p = ap (λ x. length x.0.tally.fresh) (c.load.ensures.2.0 (let q = c.requires.named in omega arith)) in omega arith)
