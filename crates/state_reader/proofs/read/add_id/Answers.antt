use Rattle.std.proofs.Common.{not, ◌∙◌, ap}
use Rattle.state_reader.proofs.Ids.{id-added}
use Rattle.state_reader.proofs.read.add_id.Goals as goal

pub returns-clause-new : goal.returns-clause-new
returns-clause-new c = λ xs h. c.in_ok-new.ensures.added ∙ ap not (h c.args.id.now.0)

pub returns-clause-ids : goal.returns-clause-ids
returns-clause-ids c = λ xs h. id-added c.args.ids.now c.insert.new.self c.args.id.now.0 xs h c.in_ok-new.ensures.updates.0
