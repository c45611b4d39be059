use Rattle.std.proofs.Common.{sym, ◌∙◌, ap, ◌∷◌, [], List, ℕ}
use Rattle.sha2.specs.Sha256.{sha256}
use Rattle.calculus.specs.Root.{group_code}
use Rattle.rho_term.specs.Rows.{row_of_op}
use Rattle.checkpoint.proofs.Channels.{channel-there, channel-within, sent-key}
use Rattle.checkpoint.proofs.marks.key_of.Goals as goal

pub channel_in-requires-clause-within : goal.channel_in-requires-clause-within
channel_in-requires-clause-within c =
    let p = c.in-Produce in
    channel-within c.args.row.now p.id p.channel p.args p.persistent (sym c.op.ensures.is ∙ ap row_of_op p.is) c.op.ensures.storable c.args.code.now c.requires

pub channel_in-requires-clause-is : goal.channel_in-requires-clause-is
channel_in-requires-clause-is c =
    let p = c.in-Produce in
    channel-there c.args.row.now p.id p.channel p.args p.persistent (sym c.op.ensures.is ∙ ap row_of_op p.is) c.op.ensures.storable c.args.code.now c.requires

pub returns-in-Produce : goal.returns-in-Produce
returns-in-Produce c =
    let p = c.in-Produce in
    c.key_of_one.ensures ∙ ap (λ (z : List ℕ). sha256 (group_code (z ∷ []))) c.channel_in.ensures ∙ sym (sent-key c.args.row.now p.id p.channel p.args p.persistent (sym c.op.ensures.is ∙ ap row_of_op p.is))
