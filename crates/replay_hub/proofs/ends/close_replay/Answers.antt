use Rattle.std.proofs.Common.{refl, arith}
use Rattle.std.proofs.lemmas.Result.{IfOk-weaker}
use Rattle.hub_rule.specs.Counts.{all_of}
use Rattle.group_locks.specs.Seats.{hand_of, limit_of, opened_shards, opened_works}
use Rattle.replay_hub.specs.Values.{values}
use Rattle.replay_hub.proofs.Endings.{decides}
use Rattle.replay_hub.proofs.Ending.{ended, free, from-four}
use Rattle.replay_hub.proofs.ends.close_replay.Goals as goal

pub returns : goal.returns
returns g c =
    let key = c.args.hub.table.shared.key in
    let seats = c.args.seats.items in
    let j = g.J.ReplayTerms in
    let m = values j.deploy j.steps j.row_of j.channel_of j.part_of in
    let none = free (λ s. s.state) m.price (λ e. refl) seats in
    record {
      decides = IfOk-weaker c.close.result _ _ (λ r ran w u fits differs a b. decides j.deploy j.steps j.row_of j.channel_of j.part_of (opened_shards key) (opened_works key) r.entries.items r.shards.items r.left.items (all_of (λ s. hand_of s.state) seats) ran w u fits differs a b) c.close.ensures.ran;
      ended = λ some zero found. from-four c.close.result _ _ _ _ _ (λ r paid empty over stops n. ended (λ s. s.state) _ r.charged (limit_of key) r.stop seats some (omega (arith, paid, zero, none)) n found empty over stops) c.close.ensures.paid c.close.ensures.empty c.close.ensures.over c.close.ensures.stop;
    }
