use Rattle.std.proofs.Common.{sym, ◌∙◌}
use Rattle.row_search.proofs.Answering.{heard-may}
use Rattle.row_search.proofs.Heard.{not-heard-none}
use Rattle.row_search.proofs.Sound.{among-left}
use Rattle.row_search.proofs.found.meet_heard.Goals as goal

pub returns-then-not-is_heard_on : goal.returns-then-not-is_heard_on
returns-then-not-is_heard_on g c =
    not-heard-none (g.S.RowsAtHand.rows c.args.store.now) c.args.channel.now c.args.op.now c.args.receiver.now c.requires.send (sym c.is_heard_on.ensures ∙ c.if-not-is_heard_on.true)

pub meet_receiver-requires-clause-may : goal.meet_receiver-requires-clause-may
meet_receiver-requires-clause-may g c = heard-may c.args.channel.now c.args.receiver.now c.args.op.now c.requires.send (sym c.is_heard_on.ensures ∙ c.if-not-is_heard_on.false)

pub meet_receiver-requires-clause-at_hand : goal.meet_receiver-requires-clause-at_hand
meet_receiver-requires-clause-at_hand g c = among-left c.args.op.now c.args.receiver.now (g.S.RowsAtHand.rows c.args.store.now) c.requires.at_hand
