use denote.Exit.{no}
use denote.Param.Send.{arg_send, arg_sync, param_send, param_sync}
use Rattle.std.proofs.Common.{◌≡◌, ◌∙◌, ℕ, List, ap, sym, refl, subst}
use Rattle.std.proofs.lemmas.Result.{IfOk-weaker}
use Rattle.sha2.specs.Sha256.{sha256}
use Rattle.calculus.specs.Form.{IsBytes}
use Rattle.calculus.specs.Rows.{Row}
use Rattle.calculus.specs.Runs.{deploy_of}
use Rattle.calculus.proofs.Digests.{digest-fits}
use Rattle.play_outcome.specs.Bases.{IsQuietBase}
use Rattle.recorded_runs.proofs.Running.{numberable}
use Rattle.recorded_runs.proofs.Planning.{Plays, is_plan, made_from, quiet-base, IsHeaderOf}
use Rattle.rspace_table.proofs.Crossing.{shard-send, shard-sync, held-send, held-sync}
use Rattle.recorded_runs.proofs.deploys.make_plan.Goals as goal

pub returns : goal.returns
returns g c =
    let i = c.args.inputs in
    let limit = c.args.limit in
    let bytes = i.source.items in
    let o = c.in_ok-played.played in
    let is = c.requires.state in
    let digest = c.bytes_digest-source.result.0 in
    let Says = λ (rows : List Row) (s : List ℕ). Plays (deploy_of i.prices limit rows i.term s) o in
    let source : digest ≡ sha256 bytes = c.bytes_digest-source.ensures ∙ ap sha256 c.as_slice.ensures.value in
    let is_bytes : IsBytes digest = subst IsBytes (sym source) (digest-fits bytes).1 in
    let rows : c.of-rows.result.0.items ≡ i.base.checkpoint = c.of-rows.ensures.rows in
    let quiet : IsQuietBase c.of-rows.result.0.items c.root-root.result.0 = subst (λ (rs : List Row). IsQuietBase rs c.root-root.result.0) (sym rows) (quiet-base i.base is c.root-root.result.0 c.root-root.ensures) in
    let says : Says c.of-rows.result.0.items digest = c.in_ok-played.ensures.run (numberable bytes i.term c.requires.source c.requires.short) is_bytes quiet in
    let played : Says i.base.checkpoint (sha256 bytes) = subst (λ (s : List ℕ). Says i.base.checkpoint s) source (subst (λ (rs : List Row). Says rs digest) rows says) in
    let header : IsHeaderOf i limit _ = record { base_is = c.root-root.ensures; source_is = source; prices_is = c.digest.ensures; limit_is = refl } in
    IfOk-weaker c.plan_of.result _ _ (λ p m. is_plan i limit _ o p is c.requires.source header played c.in_ok-played.ensures.most (made_from c.of-rows.ensures.text m)) c.plan_of.ensures

pub play-requires-send-T-Shard : goal.play-requires-send-T-Shard
play-requires-send-T-Shard g c κs within = param_send _ _ (arg_send _ no _ shard-send)

pub play-requires-send-T-Held : goal.play-requires-send-T-Held
play-requires-send-T-Held g c κs within = param_send _ _ (arg_send _ no _ held-send)

pub play-requires-sync-T-Shard : goal.play-requires-sync-T-Shard
play-requires-sync-T-Shard g c κs within = param_sync _ _ (arg_sync _ no _ shard-sync)

pub play-requires-sync-T-Held : goal.play-requires-sync-T-Held
play-requires-sync-T-Held g c κs within = param_sync _ _ (arg_sync _ no _ held-sync)
