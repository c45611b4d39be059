use Rattle.std.proofs.Common.{◌∙◌, map, string_bytes, refl, ap, Some, Ok}
use Rattle.command_words.specs.Answers.{answer_of, run_of, request_of}
use Rattle.recorded_runs.proofs.DeployPromises.{refused_deploy}
use Rattle.recorded_runs.proofs.ReplayPromises.{refused_replay}
use Rattle.run_reports.specs.World.{world}
use Rattle.rho_main.proofs.Calls.{deploy_call, replay_call, wanting_call, wanting_refused, wanting_fetches}
use Rattle.rho_main.proofs.accepting.accept.Goals as goal

pub returns-in-Err-accept_inputs-clause-ended : goal.returns-in-Err-accept_inputs-clause-ended
returns-in-Err-accept_inputs-clause-ended g c =
    let names = run_of c.in-Ok-Deploy.run' in
    let limit = c.in-Ok-Deploy.limit in
    let r = c.in-Err-accept_inputs.ensures in
    deploy_call _ _ c.in-Err-accept_inputs.status (answer_of (map string_bytes c.args.words.now)) names limit (c.in-Ok-Deploy.ensures.asked ∙ ap (λ x. Some (Ok (request_of x))) c.in-Ok-Deploy.field-0-is)
    (refused_deploy names limit _ _ (record { files = r.files; fetches = r.fetch_faults; keeps = r.keep_faults; bytes = refl; puts = refl }) c.in-Err-accept_inputs.status r.refused)

pub returns-in-Err-accept_replay-clause-ended : goal.returns-in-Err-accept_replay-clause-ended
returns-in-Err-accept_replay-clause-ended g c =
    let names = run_of c.in-Ok-Replay.run' in
    let r = c.in-Err-accept_replay.ensures in
    replay_call _ _ c.in-Err-accept_replay.status (answer_of (map string_bytes c.args.words.now)) names (c.in-Ok-Replay.ensures.asked ∙ ap (λ x. Some (Ok (request_of x))) c.in-Ok-Replay.field-0-is)
    (refused_replay names _ _ (record { files = r.files; fetches = r.fetch_faults; keeps = r.keep_faults; bytes = refl; puts = refl }) c.in-Err-accept_replay.status r.refused)

pub returns-in-Err-NoMemory-clause-ended : goal.returns-in-Err-NoMemory-clause-ended
returns-in-Err-NoMemory-clause-ended g c =
    let a = world (g.S.Shelf.files c.args.shelf.now) (g.S.Shelf.fetch_faults c.args.shelf.now) (g.S.Shelf.keep_faults c.args.shelf.now) (g.O.Sink.written c.args.out.now) (g.O.Sink.faults c.args.out.now) in
    wanting_call (answer_of (map string_bytes c.args.words.now)) a

pub returns-in-Err-NoMemory-clause-accepted : goal.returns-in-Err-NoMemory-clause-accepted
returns-in-Err-NoMemory-clause-accepted g c =
    let answer = answer_of (map string_bytes c.args.words.now) in
    let a = world (g.S.Shelf.files c.args.shelf.now) (g.S.Shelf.fetch_faults c.args.shelf.now) (g.S.Shelf.keep_faults c.args.shelf.now) (g.O.Sink.written c.args.out.now) (g.O.Sink.faults c.args.out.now) in
    record { ready = tt; refused = wanting_refused answer a; fetched = wanting_fetches answer a }
