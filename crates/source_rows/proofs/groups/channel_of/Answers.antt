use Rattle.std.proofs.Common.{sym, subst}
use Rattle.std.proofs.lemmas.Result.{IfOk-weaker}
use Rattle.join_index.specs.Groups.{IsChannel}
use Rattle.row_search.proofs.Known.{bind-channel}
use Rattle.source_rows.proofs.Channels.{is-channel}
use Rattle.source_rows.proofs.groups.channel_of.Goals as goal

pub returns : goal.returns
returns c = IfOk-weaker c.copy.result _ _ (λ v e. subst IsChannel (sym e) (is-channel _ (bind-channel c.args.bind.now c.requires))) c.copy.ensures
