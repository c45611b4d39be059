use Rattle.std.proofs.Common.{List, take, sym, subst, All}
use Rattle.std.proofs.lemmas.List.{take_more, take_all}
use Rattle.std.proofs.lemmas.List.Elements.{All-push}
use Rattle.code_order.proofs.compared.all_suit.Goals as goal

pub suits-requires : goal.suits-requires
suits-requires g c = subst g.T.HasCode.is_ready (sym c.item-item.is) (c.requires c.loop-item.item-index c.item-item.result c.loop-item-test.true)

pub loop-item-preserved : goal.loop-item-preserved
loop-item-preserved g c =
    let xs = c.args.items.now in
    let P : g.row.T.Denot → Type 0 = g.T.HasCode.is_suited in
    subst (λ (ys : List g.row.T.Denot). All P ys) (sym (take_more xs c.loop-item.item-index c.item-item.result c.loop-item-test.true))
    (All-push P (take c.loop-item.item-index xs) _ c.loop-item.invariant (subst P c.item-item.is (c.suits.ensures c.if-not-suits.false)))

pub returns : goal.returns
returns g c h =
    let P : g.row.T.Denot → Type 0 = g.T.HasCode.is_suited in
    subst (λ (ys : List g.row.T.Denot). All P ys) (take_all c.loop-item.item-index c.args.items.now c.loop-item-test.false) c.loop-item.invariant
