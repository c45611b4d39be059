use Rattle.std.proofs.Common.{[], ◌∷◌, map, subst, ℕ, List}
use Rattle.calculus.specs.Tree.{Tree}
use Rattle.calculus.specs.Outcome.{in_order}
use Rattle.calculus.specs.Values.{value}
use Rattle.calculus.specs.Unfolding.{a_row, opened, receive_offered}
use Rattle.rho_term.specs.declared.term.TermBind.{TermBind}
use Rattle.rho_term.specs.Parts.{bind_tree}
use Rattle.rho_term.specs.Rows.{row_of_op}
use Rattle.price_table.specs.Outcomes.{Came, Stopped}
use Rattle.price_table.proofs.Outcomes.{exit, stop-form, told-form}
use Rattle.std.specs.Result.{MatchResult}
use Rattle.unfold.specs.Offers.{receive_work}
use Rattle.unfold.proofs.Offering.{channels-closed, receive-form, channel-operands, channel-count}
use Rattle.unfold.proofs.offers.receive_offer.Goals as goal

pub channel_values-requires : goal.channel_values-requires
channel_values-requires c = channels-closed [] c.args.receive.binds.now.items c.requires.1.0.1.0.1

pub returns-in_err-channels : goal.returns-in_err-channels
returns-in_err-channels c =
    let b = c.args.budget in let p = b.prices.now in let r = c.args.receive in let s = c.args.seed.now in let bs = r.binds.now.items in
    exit _ _ _ _ c.from_residual.ensures.1 (stop-form b.cap b.price (receive_work p s r.kind (map bind_tree bs) r.body.now) (in_order (map (λ (d : TermBind). value p d.channel) bs)) _ c.in_err-channels.field-0.0 (receive-form p s r.kind bs r.body.now) c.in_err-channels.ensures)

pub offer_receive-requires-clause-channels : goal.offer_receive-requires-clause-channels
offer_receive-requires-clause-channels c =
    let b = c.args.budget in let bs = c.args.receive.binds.now.items in let v = c.in_ok-channels.channels in
    channel-operands b.prices.now b.cap b.price v.price bs v.value.items (channels-closed [] bs c.requires.1.0.1.0.1) c.in_ok-channels.ensures

pub offer_receive-requires-clause-same_number : goal.offer_receive-requires-clause-same_number
offer_receive-requires-clause-same_number c =
    let b = c.args.budget in let v = c.in_ok-channels.channels in
    channel-count b.prices.now b.cap b.price v.price c.args.receive.binds.now.items v.value.items c.in_ok-channels.ensures

pub returns : goal.returns
returns c =
    let b = c.args.budget in let p = b.prices.now in let r = c.args.receive in let s = c.args.seed.now in let bs = r.binds.now.items in let v = c.in_ok-channels.channels in
    let f = λ (z : List ℕ) (vs : List Tree). receive_offered p z r.kind (map opened vs) (map bind_tree bs) r.body.now in
    told-form (λ q. q.price) (λ q. a_row (row_of_op q.value) ∷ []) b.cap b.price v.price v.value.items (receive_work p s r.kind (map bind_tree bs) r.body.now) (in_order (map (λ (d : TermBind). value p d.channel) bs)) (f s) c.offer_receive.result
    (receive-form p s r.kind bs r.body.now) c.in_ok-channels.ensures
    (subst (λ z. MatchResult c.offer_receive.result (λ q. Came b.cap v.price q.price (a_row (row_of_op q.value) ∷ []) (f z v.value.items)) (λ e. Stopped b.cap v.price (f z v.value.items) e)) c.digest-id.ensures c.offer_receive.ensures)
