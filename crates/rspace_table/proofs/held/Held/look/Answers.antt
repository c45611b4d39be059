use Rattle.std.proofs.Common.{◌≡◌, true}
use Rattle.std.specs.Prelude.{◌⊎◌}
use Rattle.rspace_table.specs.Hands.{is_receive, MeetsAReceiver, MeetsNoReceiver}
use Rattle.rspace_table.proofs.Telling.{found-stored, told-found, told-none, told-nothing, told-some}
use Rattle.rspace_table.proofs.held.Held.look.Goals as goal

pub returns-in-Some-clause-found : goal.returns-in-Some-clause-found
returns-in-Some-clause-found c = λ all are. found-stored c.args.self.now all c.args.op.now are c.in-Some.found (told-some (MeetsNoReceiver c.args.self.now c.args.op.now ⊎ (is_receive c.args.op.now ≡ true)) (MeetsAReceiver c.args.self.now c.args.op.now) _ c.in-Some.found c.in-Some.is c.in_ok-found.ensures)

pub returns-in-None-clause-found : goal.returns-in-None-clause-found
returns-in-None-clause-found c = λ all are. told-found c.args.self.now all c.args.op.now are c.self.inside.built_ins c.self.invariant.1 c.meet.result c.meet.ensures

pub returns-in-None-clause-none : goal.returns-in-None-clause-none
returns-in-None-clause-none c = λ all are t. told-none c.args.self.now all c.args.op.now are c.self.inside.built_ins c.self.invariant.1 c.meet.result c.meet.ensures t (told-nothing (MeetsNoReceiver c.args.self.now c.args.op.now ⊎ (is_receive c.args.op.now ≡ true)) (MeetsAReceiver c.args.self.now c.args.op.now) _ c.in-None.is c.in_ok-found.ensures)
