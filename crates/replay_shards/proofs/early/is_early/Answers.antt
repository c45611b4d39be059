use Rattle.std.proofs.Common.{sym, ap, ◌∙◌, subst}
use Rattle.std.specs.Prelude.{Some}
use Rattle.std.proofs.lemmas.Option.{slice_get-get_or}
use Rattle.replay_slots.specs.Hands.{all_shown, parts_of}
use Rattle.replay_shards.specs.Ready.{LacksOne}
use Rattle.replay_shards.specs.Taken.{bytes_of}
use Rattle.replay_shards.proofs.Lacking.{lacks-at}
use Rattle.replay_rows.proofs.Filing.{same-id}
use Rattle.replay_shards.proofs.early.is_early.Goals as goal

pub returns-else-not-is_receiver : goal.returns-else-not-is_receiver
returns-else-not-is_receiver c e =
    let shown = all_shown (parts_of c.args.slots.now) in
    let u = c.in-Some.next.now in
    lacks-at c.args.steps.now shown c.args.receiver.now.0 c.args.index u (slice_get-get_or c.args.steps.now c.args.index u c.in-Some.ensures.lookup.3.0 ∙ ap Some (sym c.in-Some.ensures.lookup.1)) (same-id c.args.receiver.now.0 u.cont.0 (sym c.is_receiver.ensures ∙ c.if-not-is_receiver.false))
    (subst (λ ids. LacksOne shown (bytes_of ids)) c.as_slice.ensures.value (c.lacks_one.ensures e))
