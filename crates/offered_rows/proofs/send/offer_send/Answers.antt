use Rattle.std.proofs.Common.{subst}
use Rattle.calculus.specs.Unfolding.{opened}
use Rattle.offered_rows.specs.Offers.{ComesToRow}
use Rattle.offered_rows.proofs.Offering.{send-is}
use Rattle.offered_rows.proofs.send.offer_send.Goals as goal

pub returns : goal.returns
returns c =
    let b = c.args.budget in let o = c.opened_channel-opened.result in
    let same = send-is b.prices.now c.args.id.0 c.args.persistent (opened c.args.channel) o.name o.writable o.readable c.args.args.items c.channel_fault-fault.result c.send.result c.send.ensures.price c.opened_channel-opened.ensures c.channel_fault-fault.ensures in
    subst (λ w. ComesToRow c.offer_part.result b w) same c.offer_part.ensures
