use Rattle.std.proofs.Common.{rules, ◌≡◌, ◌≤◌, ◌^◌, true, false, length, refl, ◌∙◌, arith, inl, inr}
use Rattle.std.proofs.lemmas.List.{length-map}
use Rattle.event_log.specs.View.{header_of, step_of, steps_of}
use Rattle.replays.specs.Replays.{deploy_under}
use Rattle.replay_runs.specs.Basis.{given_by}
use Rattle.replay_runs.specs.Racing.{any_built_in_id}
use Rattle.replay_runs.proofs.Forged.{all-differ, forged-clash}
use Rattle.replay_runs.proofs.RacedLogs.{has-raced, no-memory, sound}
use Rattle.replay_runs.proofs.runs.replay_steps.Goals as goal

pub returns-then-are_forged-clause-answered : goal.returns-then-are_forged-clause-answered
returns-then-are_forged-clause-answered g c =
    let yes : any_built_in_id c.args.basis.now.base.now ≡ true = search rules in
    inr (forged-clash (deploy_under c.args.log.header.limit (given_by c.args.basis.now)) (steps_of c.args.log.steps.items) c.requires.basis.closed yes)

pub race-requires-clause-quiet : goal.race-requires-clause-quiet
race-requires-clause-quiet g c κs within =
    let no : any_built_in_id c.args.basis.now.base.now ≡ false = search rules in
    c.requires.basis.quiet (all-differ c.args.basis.now.base.now c.requires.basis.ids no)

pub returns-in_err-raced-clause-answered : goal.returns-in_err-raced-clause-answered
returns-in_err-raced-clause-answered g c =
    let log = c.args.log in
    inl (no-memory (given_by c.args.basis.now) (header_of log.header) (steps_of log.steps.items) c.from_residual.result c.from_residual.ensures.1)

pub returns-clause-answered : goal.returns-clause-answered
returns-clause-answered g c =
    let log = c.args.log in
    let given = given_by c.args.basis.now in
    let h = header_of log.header in
    let ss = steps_of log.steps.items in
    let few : length ss ≤ 2 ^ 32 = omega (arith, c.requires.writable.steps, length-map log.steps.items step_of) in
    let many : length log.steps.items ≡ c.len-count.result = search rules in
    let known = sound given h ss c.requires.right c.in_ok-raced.ensures.storable c.requires.basis.ids c.requires.basis.closed c.requires.basis.numberable few c.are_bytes.ensures in
    c.answer_of.ensures.answered given h ss refl (length-map log.steps.items step_of ∙ many) known (has-raced given h ss c.in_ok-raced.raced (c.in_ok-raced.ensures.raced known.fits c.requires.basis.ids))
