use Rattle.std.proofs.Common.{◌≡◌, ◌<◌, ◌∙◌, ℕ, true, List, length, sym, ap, subst, arith}
use Rattle.std.specs.Prelude.{is_some}
use Rattle.calculus.specs.Log.{Step}
use Rattle.calculus.specs.Outcome.{Prices}
use Rattle.calculus.specs.Storing.{shard}
use Rattle.event_log.specs.declared.log.LogStep.{LogStep}
use Rattle.event_log.specs.View.{step_of}
use Rattle.racing_replays.proofs.Converse.{split-at}
use Rattle.events.specs.Shards.{stands_in}
use Rattle.hub_scenes.specs.Spaces.{SeenRow}
use Rattle.replay_hub.specs.Values.{has_bit}
use Rattle.replay_slots.specs.Hands.{shard_at, all_shown}
use Rattle.replay_shards.specs.Ready.{IsReady}
use Rattle.replay_shards.specs.Taken.{FitsNothing}
use Rattle.replay_shards.proofs.Calling.{as-many-steps, Split}
use Rattle.replay_shards.proofs.Calling.{split-at as split-log}
use Rattle.replayed_log.specs.Making.{IsMade}
use Rattle.replayed_log.proofs.Doing.{may-be-done}
use Rattle.replayed_log.proofs.SetBits.{none-missing, some-missing}
use Rattle.replayed_log.proofs.Showing.{at-none, at-some, found-hand, one, shows-unfit, shows-unheard}
use Rattle.replayed_log.proofs.tables.LogReplayReplayTables.look.Goals as goal

pub returns-in_default : goal.returns-in_default
returns-in_default g c =
    let t = c.args.tried.now in
    let steps = c.requires.knows.steps in
    shows-unheard c.args.held.now g.N.ReplayNames.steps t (sym (c.requires.shards (shard t.channel)) ∙ c.requires.own)
    (λ b s a log place. at-none c.step_shards.result _ _ c.in_default.not-Some (c.step_shards.ensures b s a (sym steps ∙ log) place))

pub returns-then-missing-ne0 : goal.returns-then-missing-ne0
returns-then-missing-ne0 g c =
    let h = c.args.held.now in
    let ss = g.N.ReplayNames.steps in
    let steps = c.requires.knows.steps in
    let lt : c.args.tried.now.step < length ss = omega (arith, c.if-tried-len.false, c.len.ensures, ap (λ (l : List Step). length l) steps, as-many-steps c.args.self.now.log.steps.items) in
    let p = split-at ss c.args.tried.now.step lt in
    let w = at-some c.step_shards.result c.in-Some.wanted _ _ c.in-Some.is (c.step_shards.ensures p.before p.step p.after (sym steps ∙ p.is) p.place) in
    let b = some-missing c.missing.result c.in-Some.wanted c.args.shards c.missing.ensures (omega arith) (omega (arith, c.if-missing-ne0.true)) in
    (w.0, b.0, found-hand h p.step.receiver w.0 w.1, w.2, sym (w.2 b.0) ∙ b.1, b.2)

pub returns-in_default-2 : goal.returns-in_default-2
returns-in_default-2 g c =
    let h = c.args.held.now in
    let t = c.args.tried.now in
    let steps = c.requires.knows.steps in
    let within : (k : ℕ) → has_bit c.in-Some.wanted k ≡ true → is_some (shard_at h k) ≡ true =
    λ k i. sym (c.requires.shards k) ∙ none-missing c.missing.result c.in-Some.wanted c.args.shards c.missing.ensures (omega (arith, c.if-missing-ne0.false)) k i in
    shows-unfit h g.N.ReplayNames.steps t (sym (c.requires.shards (shard t.channel)) ∙ c.requires.own)
    (λ b s a log place.
    let w = at-some c.step_shards.result c.in-Some.wanted _ _ c.in-Some.is (c.step_shards.ensures b s a (sym steps ∙ log) place) in
    (w.0, (w.1, λ k i. within k (w.2 k ∙ i))))
    (λ b s a log place.
    subst (λ (l : List Step). FitsNothing l (all_shown h) b s t.step) (sym steps) (at-none c.in_ok-ready.field-0 _ _ c.in_default-2.not-Some (c.in_ok-ready.ensures b s a (sym steps ∙ log) place)))

pub make_step-requires-clause-bound : goal.make_step-requires-clause-bound
make_step-requires-clause-bound g c =
    let u = c.index-step.result.now in
    let items = c.args.self.now.log.steps.items in
    let p : Split items c.args.tried.now.step u = subst (λ (z : LogStep). Split items c.args.tried.now.step z) (sym c.index-step.ensures) (split-log items c.args.tried.now.step u (omega (arith, c.if-tried-len.false, c.len.ensures))) in
    (at-some c.in_ok-ready.field-0 c.in-Some-2.ready _ _ c.in-Some-2.is (c.in_ok-ready.ensures p.before (step_of u) p.after p.is p.place)).found.values

pub make_step-requires-clause-closed : goal.make_step-requires-clause-closed
make_step-requires-clause-closed g c =
    let u = c.index-step.result.now in
    let items = c.args.self.now.log.steps.items in
    let p : Split items c.args.tried.now.step u = subst (λ (z : LogStep). Split items c.args.tried.now.step z) (sym c.index-step.ensures) (split-log items c.args.tried.now.step u (omega (arith, c.if-tried-len.false, c.len.ensures))) in
    (at-some c.in_ok-ready.field-0 c.in-Some-2.ready _ _ c.in-Some-2.is (c.in_ok-ready.ensures p.before (step_of u) p.after p.is p.place)).found.closed

pub returns : goal.returns
returns g c =
    let u = c.index-step.result.now in
    let h = c.args.held.now in
    let t = c.args.tried.now in
    let d = g.N.ReplayNames.deploy in
    let k = c.requires.knows in
    let items = c.args.self.now.log.steps.items in
    let ready = c.in-Some-2.ready in
    let p : Split items t.step u = subst (λ (z : LogStep). Split items t.step z) (sym c.index-step.ensures) (split-log items t.step u (omega (arith, c.if-tried-len.false, c.len.ensures))) in
    let y : IsReady g.N.ReplayNames.steps (all_shown h) p.before (step_of u) t.step ready =
    subst (λ (l : List Step). IsReady l (all_shown h) p.before (step_of u) t.step ready) (sym k.steps) (at-some c.in_ok-ready.field-0 ready _ _ c.in-Some-2.is (c.in_ok-ready.ensures p.before (step_of u) p.after p.is p.place)) in
    let w = at-some c.step_shards.result c.in-Some.wanted _ _ c.in-Some.is (c.step_shards.ensures p.before (step_of u) p.after p.is p.place) in
    let same : w.0 ≡ y.receiver = one w.0 y.receiver (sym w.1 ∙ y.first) in
    let covers : (j : ℕ) → stands_in j y.receiver.row ≡ true → has_bit c.args.shards j ≡ true =
    λ j i. none-missing c.missing.result c.in-Some.wanted c.args.shards c.missing.ensures (omega (arith, c.if-missing-ne0.false)) j (w.2 j ∙ ap (λ (q : SeenRow). stands_in j q.row) same ∙ i) in
    let made : IsMade d.prices d.limit u t ready c.in_ok-doing.doing =
    subst (λ (z : Prices). IsMade z d.limit u t ready c.in_ok-doing.doing) (sym k.prices) (subst (λ (n : ℕ). IsMade c.args.self.now.prices n u t ready c.in_ok-doing.doing) (sym k.limit) c.in_ok-doing.ensures) in
    may-be-done d g.N.ReplayNames.steps h (has_bit c.args.shards) t u ready p.before p.after (k.steps ∙ p.is) p.place y covers (λ j i. sym (c.requires.shards j) ∙ i) c.in_ok-doing.doing made
