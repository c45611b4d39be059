use Rattle.std.proofs.Common.{◌≡◌, ◌∙◌, ◌∷◌, ℕ, None, sym, ap, subst, arith, List}
use Rattle.hub_rule.specs.Meaning.{Follows}
use Rattle.hub_rule.specs.Rule.{emptied}
use Rattle.hub_rule.specs.declared.slot.Slot.{Slot}
use Rattle.hub_rule.specs.declared.slot.Slot.TheVariants.{Shard}
use Rattle.atomic_table.specs.Table.{rest}
use Rattle.hub_rule.proofs.Turns.{give_turn, heads}
use Rattle.hub_steps.proofs.steps.give_turn.Goals as goal

pub exchange-requires : goal.exchange-requires
exchange-requires g c =
    let X : Type 0 = g.row.S-Shard.Denot in let W : Type 0 = g.row.S-Work.Denot in
    let top = c.requires.top in
    let gone : Slot X W = Shard None in
    let held : List (ℕ × X) = c.args.token.now.me.0.held in
    let out : c.args.token.now.me.1 ≡ (c.args.number, gone) ∷ emptied (rest held) = c.requires.out ∙ ap {A = List (ℕ × X)} emptied top.1 in
    (c.requires.table, (gone, heads c.args.token.now.me.1 (emptied (rest held)) (c.args.number, gone) out))

pub store-requires : goal.store-requires
store-requires g c =
    let m = g.S.Scene.meaning in
    let me = c.exchange.ensures.3 in
    let top = c.requires.top in
    let view : c.exchange.new.seat.me.0 ≡ c.args.token.now.me.0 = ap (λ a. a.0) me in
    let P : List _ → Type 0 = λ es. Follows m es c.args.number top.0 c.args.shard in (
      c.exchange.ensures.0 ∙ c.requires.table,
      (let w = c.requires.counts in let n = c.requires.number in omega arith),
      give_turn m _ _ _ _ c.args.number _ _ _ _ top.0 c.args.shard (ap (λ v. v.held) view ∙ top.1) (ap (λ a. a.1) me) (subst P (sym (ap (λ v. v.since) view)) top.2),
    )
