use Rattle.std.proofs.Common.{ℕ, List, sym, subst}
use Rattle.hub_rule.specs.Rule.{Carries}
use Rattle.group_locks.specs.Seats.{held_by, since_of}
use Rattle.replay_hub.specs.declared.deed.Entry.{Entry}
use Rattle.replay_hub.specs.Values.{values, AreShownIdle}
use Rattle.replay_hub.proofs.Idling.{tells-idle, carries-none}
use Rattle.replay_hub.proofs.worker.end_idle.Goals as goal

pub commit-requires-clause-allowed : goal.commit-requires-clause-allowed
commit-requires-clause-allowed g c κs within =
    let t = g.J.ReplayTerms in
    tells-idle t.deploy t.steps t.row_of t.channel_of t.part_of (since_of c.args.seat.now.state) (held_by c.args.seat.now.state) (t.in_hand c.args.held.now) c.of.result.value c.requires.carries
    (subst (λ x. AreShownIdle t.steps t.channel_of t.part_of (t.in_hand c.args.held.now) (held_by c.args.seat.now.state) x) (sym c.of.ensures) c.requires.idle)

pub commit-requires-clause-carries : goal.commit-requires-clause-carries
commit-requires-clause-carries g c κs within =
    let t = g.J.ReplayTerms in
    carries-none t.deploy t.steps t.row_of t.channel_of t.part_of (since_of c.args.seat.now.state) (held_by c.args.seat.now.state) (t.in_hand c.args.held.now) _ c.requires.carries

pub returns-clause-carries : goal.returns-clause-carries
returns-clause-carries g c =
    let t = g.J.ReplayTerms in
    let P : List (Entry _ _) → List (ℕ × _) → Type 0 = λ es hs. Carries (values t.deploy t.steps t.row_of t.channel_of t.part_of) es hs (t.in_hand c.args.held.now) in
    subst (λ es. P es (held_by c.charge.new.self.state)) (sym c.charge.ensures.since) (subst (P (since_of c.commit.new.self.state)) (sym c.charge.ensures.held) c.commit.ensures.carries)
