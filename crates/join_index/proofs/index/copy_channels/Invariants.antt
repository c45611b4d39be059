use Rattle.std.proofs.Common.{◌≡◌, ◌++◌, drop}
use Rattle.join_index.proofs.index.copy_channels.Given as goal

abbrev pub invariant-loop-channel : goal.invariant-loop-channel
invariant-loop-channel l = l.copies.items ++ drop l.channel-index l.channels ≡ l.channels
