use Rattle.std.proofs.Common.{◌≡◌, ◌&&◌, sym, ap, ◌∙◌}
use Rattle.offered_rows.specs.Offers.{channel_of}
use Rattle.offered_rows.proofs.Bundles.{names-push, readable-push}
use Rattle.offered_rows.proofs.names.opened_names.Goals as goal
use Rattle.offered_rows.proofs.names.opened_names.Goals.{then-readable, else-readable}

pub loop-channel-preserved : goal.loop-channel-preserved
loop-channel-preserved c =
    let o = c.opened_channel-opened.result in
    let read : c.if-readable.readable ≡ (c.loop-channel.readable && o.readable) =
    elim c.if-readable.branch [
      | then-readable w ↦ w.readable-is ∙ ap (λ b. b && o.readable) (sym w.if-readable.true)
      | else-readable w ↦ w.readable-is ∙ (w.if-readable.false ∙ ap (λ b. b && o.readable) (sym w.if-readable.false))
    ] in
    record {
      names = names-push c.loop-channel.yielded c.loop-channel.names.items _ c.in-Some.channel (channel_of o) c.in_ok-push.ensures.items c.opened_channel-opened.ensures c.loop-channel.invariant.names;
      readable = readable-push c.loop-channel.yielded c.in-Some.channel (channel_of o) c.loop-channel.readable c.if-readable.readable read c.opened_channel-opened.ensures c.loop-channel.invariant.readable;
    }
