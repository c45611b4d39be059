use Rattle.std.proofs.Common.{◌∙◌}
use Rattle.replay_space.proofs.Filed.{found-number}
use Rattle.replay_space.proofs.draft.Draft.number_of.Goals as goal

pub returns : goal.returns
returns c = found-number c.args.id.now c.args.self.now.numbers.entries c.copied.result (c.copied.ensures ∙ c.get.ensures.value)
