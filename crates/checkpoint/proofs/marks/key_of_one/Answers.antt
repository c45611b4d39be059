use Rattle.std.proofs.Common.{sym, ap, ◌∙◌}
use Rattle.sha2.specs.Sha256.{sha256}
use Rattle.checkpoint.proofs.Channels.{one-code}
use Rattle.checkpoint.proofs.marks.key_of_one.Goals as goal

pub returns : goal.returns
returns c = c.finalize.ensures _ (c.update-2.ensures _ (c.update.ensures _ c.new-hasher.ensures)) ∙ ap sha256 (sym (one-code c.args.channel.now))
