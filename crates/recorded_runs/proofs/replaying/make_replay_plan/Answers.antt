use Rattle.std.proofs.Common.{◌≡◌, ◌∙◌, ◌⊎◌, List, ℕ, true, Result, Some, IfErr, length, refl, sym, ap, subst}
use Rattle.std.specs.Prelude.{IsErrAnd}
use Rattle.sha2.specs.Sha256.{sha256}
use Rattle.calculus.specs.Rows.{Row}
use Rattle.calculus.specs.Root.{root}
use Rattle.calculus.specs.Steps.{differ}
use Rattle.replays.specs.Replays.{Refusal, header_refusal, deploy_under}
use Rattle.replay_answers.specs.Answers.{Clashes, IsAnswered}
use Rattle.replay_answers.specs.Bases.{asked, ids_of}
use Rattle.events.specs.Quiet.{AreQuiet}
use Rattle.replays.specs.Refusals.{is_of_header, refusal_of}
use Rattle.replays.specs.declared.fault.ReplayFault.{ReplayFault}
use Rattle.replay_answers.specs.declared.replayed.Replayed.{Replayed}
use Rattle.recorded_runs.proofs.Running.{numberable}
use Rattle.run_status.specs.declared.status.Status.{Status}
use Rattle.run_status.specs.declared.status.Status.TheVariants.{NoMemory}
use Rattle.run_status.proofs.Handing.{handed}
use Rattle.recorded_runs.specs.ReplayPlans.{header_in, steps_in, IsPlanned, IsReplayStop}
use Rattle.recorded_runs.proofs.Replays.{replay_stop, replay_plan}
use Rattle.recorded_runs.proofs.replaying.make_replay_plan.Goals as goal

pub replay-requires-clause-root : goal.replay-requires-clause-root
replay-requires-clause-root g c κs within = ap root c.rows-rows.ensures.is ∙ sym c.root-root.ensures

pub replay-requires-clause-ids : goal.replay-requires-clause-ids
replay-requires-clause-ids g c κs within = subst (λ (rs : List Row). differ (ids_of rs) ≡ _) (sym c.rows-rows.ensures.is) c.requires.state.kept.order.ids

pub replay-requires-clause-quiet : goal.replay-requires-clause-quiet
replay-requires-clause-quiet g c κs within = subst (λ (rs : List Row). AreQuiet rs) (sym c.rows-rows.ensures.is) c.requires.state.kept.quiet

pub replay-requires-clause-numberable : goal.replay-requires-clause-numberable
replay-requires-clause-numberable g c κs within = numberable c.args.inputs.inputs.source.items c.args.inputs.inputs.term c.requires.source c.requires.short

pub returns-in_err-replayed-clause-stop : goal.returns-in_err-replayed-clause-stop
returns-in_err-replayed-clause-stop g c =
    let r = c.args.inputs in
    let rows = r.inputs.base.checkpoint in
    let H : List Row → List ℕ → Type 0 = λ rows s. (x : Refusal) → header_refusal (asked rows r.inputs.term s r.inputs.prices) (header_in r) ≡ Some x → IsErrAnd c.replay.result (λ e. refusal_of e ≡ Some x) in
    let N : List Row → List ℕ → Type 0 = λ rows s. IfErr c.replay.result (λ e. is_of_header e ≡ true → header_refusal (asked rows r.inputs.term s r.inputs.prices) (header_in r) ≡ refusal_of e) in
    let A : List Row → List ℕ → Type 0 = λ rows s. IsAnswered (asked rows r.inputs.term s r.inputs.prices) (header_in r) (steps_in r) c.replay.result ⊎ Clashes (deploy_under (header_in r).limit (asked rows r.inputs.term s r.inputs.prices)) (steps_in r) in
    let source : c.bytes_digest-source.result.0 ≡ sha256 r.inputs.source.items = c.bytes_digest-source.ensures ∙ ap sha256 c.as_slice.ensures.value in
    let base = c.rows-rows.ensures.is in
    let header : H rows (sha256 r.inputs.source.items) = subst (λ (s : List ℕ). H rows s) source (subst (λ (rs : List Row). H rs c.bytes_digest-source.result.0) base c.replay.ensures.refused) in
    let named : N rows (sha256 r.inputs.source.items) = subst (λ (s : List ℕ). N rows s) source (subst (λ (rs : List Row). N rs c.bytes_digest-source.result.0) base c.replay.ensures.header) in
    let answered : A rows (sha256 r.inputs.source.items) = subst (λ (s : List ℕ). A rows s) source (subst (λ (rs : List Row). A rs c.bytes_digest-source.result.0) base c.replay.ensures.answered) in
    handed _ _ _ c.from_residual.ensures.1
    (λ s k. replay_stop rows r c.requires.state c.replay.result header answered c.in_err-replayed.field-0.0 c.in_err-replayed.was
    (subst (λ (v : Result Replayed ReplayFault). IfErr v (λ e. is_of_header e ≡ true → header_refusal (asked rows r.inputs.term (sha256 r.inputs.source.items) r.inputs.prices) (header_in r) ≡ refusal_of e)) c.in_err-replayed.was named)
    (refusal_of c.in_err-replayed.field-0.0) refl s k)

-- want of memory is always a stop
pub returns-in_err-plan-clause-stop : goal.returns-in_err-plan-clause-stop
returns-in_err-plan-clause-stop g c =
    let r = c.args.inputs in
    handed (λ (x : Status). x ≡ NoMemory) (IsReplayStop r.inputs.base.checkpoint r) c.from_residual-in_err-plan.result c.from_residual-in_err-plan.ensures.1 (λ s k. subst (λ (x : Status). IsReplayStop r.inputs.base.checkpoint r x) (sym k) tt)

pub returns-clause-plan : goal.returns-clause-plan
returns-clause-plan g c =
    let r = c.args.inputs in
    let rows = r.inputs.base.checkpoint in
    let H : List Row → List ℕ → Type 0 = λ rows s. (x : Refusal) → header_refusal (asked rows r.inputs.term s r.inputs.prices) (header_in r) ≡ Some x → IsErrAnd c.replay.result (λ e. refusal_of e ≡ Some x) in
    let A : List Row → List ℕ → Type 0 = λ rows s. IsAnswered (asked rows r.inputs.term s r.inputs.prices) (header_in r) (steps_in r) c.replay.result ⊎ Clashes (deploy_under (header_in r).limit (asked rows r.inputs.term s r.inputs.prices)) (steps_in r) in
    let source : c.bytes_digest-source.result.0 ≡ sha256 r.inputs.source.items = c.bytes_digest-source.ensures ∙ ap sha256 c.as_slice.ensures.value in
    let base = c.rows-rows.ensures.is in
    let header : H rows (sha256 r.inputs.source.items) = subst (λ (s : List ℕ). H rows s) source (subst (λ (rs : List Row). H rs c.bytes_digest-source.result.0) base c.replay.ensures.refused) in
    let answered : A rows (sha256 r.inputs.source.items) = subst (λ (s : List ℕ). A rows s) source (subst (λ (rs : List Row). A rs c.bytes_digest-source.result.0) base c.replay.ensures.answered) in
    let count : c.len-count.result ≡ length r.log.steps.items = c.len-count.ensures ∙ r.log.steps.ok.0 in
    let planned : IsPlanned r.inputs.base.text.items (root rows) (length r.log.steps.items) c.in_ok-replayed.replayed c.in_ok-plan.plan =
    subst (λ (n : ℕ). IsPlanned r.inputs.base.text.items (root rows) n c.in_ok-replayed.replayed c.in_ok-plan.plan) count
    (subst (λ (d : List ℕ). IsPlanned r.inputs.base.text.items d c.len-count.result c.in_ok-replayed.replayed c.in_ok-plan.plan) c.root-root.ensures
    (subst (λ (t : List ℕ). IsPlanned t c.root-root.result.0 c.len-count.result c.in_ok-replayed.replayed c.in_ok-plan.plan) c.without_rows-state.ensures c.in_ok-plan.ensures)) in
    replay_plan rows r c.requires.state c.replay.result header answered c.in_ok-replayed.replayed c.in_ok-replayed.was c.in_ok-plan.plan planned
