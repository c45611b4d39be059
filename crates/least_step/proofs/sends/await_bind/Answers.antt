use Rattle.least_step.proofs.Filing.{place-made, places-kept, still-bare}
use Rattle.least_step.proofs.sends.await_bind.Goals as goal

pub returns-clause-place : goal.returns-clause-place
returns-clause-place c =
    place-made c.in_ok-code.code c.args.sends.now.entries c.insert.new.self.entries c.new.result c.new.ensures.items c.in_ok-insert.ensures.updates.0 c.args.bind.now.channel c.in_ok-code.ensures

pub returns-clause-kept : goal.returns-clause-kept
returns-clause-kept c = places-kept c.in_ok-code.code c.args.sends.now.entries c.insert.new.self.entries c.new.result c.new.ensures.items c.in_ok-insert.ensures.updates.0

pub returns-clause-bare : goal.returns-clause-bare
returns-clause-bare c = still-bare c.in_ok-code.code c.args.sends.now.entries c.insert.new.self.entries c.new.result c.new.ensures.items c.in_ok-insert.ensures.updates.0
