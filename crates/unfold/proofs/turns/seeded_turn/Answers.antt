use Rattle.std.proofs.Common.{map, ap, ◌∙◌, ◌++◌}
use Rattle.price_table.proofs.Outcomes.{exit}
use Rattle.rho_term.specs.Parts.{part_tree, bind_tree}
use Rattle.rho_term.specs.Rows.{row_of_op}
use Rattle.unfold.specs.Inner.{inner_process}
use Rattle.unfold.specs.Offers.{send_work, receive_work}
use Rattle.unfold.specs.Progress.{Pending, pending, in_turn}
use Rattle.unfold.proofs.Leading.{offer-stops, inner-stops}
use Rattle.unfold.proofs.Turning.{send-offered, receive-offered, inside, offer-advances, inner-advances}
use Rattle.unfold.proofs.turns.seeded_turn.Goals as goal

pub returns-in_err-done-in-Send : goal.returns-in_err-done-in-Send
returns-in_err-done-in-Send c =
    let p = c.args.prices.now in let s = c.args.seed.now in let b = c.in-Send in
    let n = c.args.work.now.price in let rows = map row_of_op c.args.work.now.offers.items in let rest = in_turn c.args.work.now.left.items in
    let w : Pending = record { part = part_tree c.args.part; seed = s } in
    let o = send_work p s b.persistent b.channel b.args.items in
    exit _ _ _ _ c.from_residual.ensures.1 (offer-stops p n rows w rest c.args.cap o c.in_err-done-in-Send.field-0.0 (send-offered p n rows rest s (part_tree c.args.part) b.persistent b.channel b.args.items (ap part_tree b.is)) c.in_err-done-in-Send.ensures)

pub returns-in_err-done-in-Receive : goal.returns-in_err-done-in-Receive
returns-in_err-done-in-Receive c =
    let p = c.args.prices.now in let s = c.args.seed.now in let b = c.in-Receive in
    let n = c.args.work.now.price in let rows = map row_of_op c.args.work.now.offers.items in let rest = in_turn c.args.work.now.left.items in
    let w : Pending = record { part = part_tree c.args.part; seed = s } in
    let bs = map bind_tree b.binds.items in
    let o = receive_work p s b.kind bs b.body in
    exit _ _ _ _ c.from_residual-in_err-done-in-Receive.ensures.1 (offer-stops p n rows w rest c.args.cap o c.in_err-done-in-Receive.field-0.0 (receive-offered p n rows rest s (part_tree c.args.part) b.kind bs b.body (ap part_tree b.is)) c.in_err-done-in-Receive.ensures)

pub returns-in_err-done-in_default : goal.returns-in_err-done-in_default
returns-in_err-done-in_default c =
    let p = c.args.prices.now in let s = c.args.seed.now in let d = c.in_default in
    let n = c.args.work.now.price in let rows = map row_of_op c.args.work.now.offers.items in let rest = in_turn c.args.work.now.left.items in
    let w : Pending = record { part = part_tree c.args.part; seed = s } in
    let o = inner_process p s (part_tree c.args.part) in
    let e = c.in_err-done-in_default.field-0.0 in
    exit _ _ _ _ c.from_residual-in_err-done-in_default.ensures.1 (inner-stops p n rows w rest c.args.cap o e (inside p n rows rest s c.args.part d.not-Send d.not-Receive) c.in_err-done-in_default.ensures.value)

pub returns-in_ok-push-in-Send : goal.returns-in_ok-push-in-Send
returns-in_ok-push-in-Send c =
    let p = c.args.prices.now in let s = c.args.seed.now in let b = c.in-Send in let a = c.in_ok-done-in-Send in
    let n = c.args.work.now.price in let rows = map row_of_op c.args.work.now.offers.items in let rest = in_turn c.args.work.now.left.items in
    let w : Pending = record { part = part_tree c.args.part; seed = s } in
    let o = send_work p s b.persistent b.channel b.args.items in
    offer-advances p c.args.cap n a.done.price c.args.work.now.offers.items c.push.new.self.items a.done.value w rest o (send-offered p n rows rest s (part_tree c.args.part) b.persistent b.channel b.args.items (ap part_tree b.is)) a.ensures c.in_ok-push-in-Send.ensures.items c.requires.ready

pub returns-in_ok-push-in-Receive : goal.returns-in_ok-push-in-Receive
returns-in_ok-push-in-Receive c =
    let p = c.args.prices.now in let s = c.args.seed.now in let b = c.in-Receive in let a = c.in_ok-done-in-Receive in
    let n = c.args.work.now.price in let rows = map row_of_op c.args.work.now.offers.items in let rest = in_turn c.args.work.now.left.items in
    let w : Pending = record { part = part_tree c.args.part; seed = s } in
    let bs = map bind_tree b.binds.items in
    let o = receive_work p s b.kind bs b.body in
    offer-advances p c.args.cap n a.done.price c.args.work.now.offers.items c.push-in-Receive.new.self.items a.done.value w rest o (receive-offered p n rows rest s (part_tree c.args.part) b.kind bs b.body (ap part_tree b.is)) a.ensures c.in_ok-push-in-Receive.ensures.items c.requires.ready

pub returns-in_ok-push_parts-in_default : goal.returns-in_ok-push_parts-in_default
returns-in_ok-push_parts-in_default c =
    let p = c.args.prices.now in let s = c.args.seed.now in let d = c.in_default in let a = c.in_ok-done-in_default in
    let n = c.args.work.now.price in let rows = map row_of_op c.args.work.now.offers.items in let rest = in_turn c.args.work.now.left.items in
    let w : Pending = record { part = part_tree c.args.part; seed = s } in
    let o = inner_process p s (part_tree c.args.part) in
    let more = in_turn c.push_parts.new.left.items in
    let e = c.in_ok-push_parts-in_default.ensures.next ∙ ap (λ z. pending a.done.value z ++ rest) c.body-inner.ensures in
    inner-advances p c.args.cap n a.done.price rows w rest more o a.done.value (inside p n rows rest s c.args.part d.not-Send d.not-Receive) a.ensures.value a.ensures.closed c.in_ok-push_parts-in_default.ensures.normal e c.in_ok-push_parts-in_default.ensures.ready
