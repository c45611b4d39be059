use Rattle.std.proofs.Common.{ℕ, List, ap, sym, subst, ◌∙◌}
use Rattle.hub_rule.specs.Counts.{things_of}
use Rattle.hub_rule.specs.Rule.{Carries}
use Rattle.group_locks.specs.Seats.{held_by, since_of, took_by}
use Rattle.hub_rule.proofs.Offers.{things_numbered}
use Rattle.replay_hub.specs.declared.deed.Entry.{Entry}
use Rattle.replay_hub.specs.declared.deed.Task.{Task}
use Rattle.replay_hub.specs.Values.{offers_of, values}
use Rattle.replay_hub.proofs.Drawing.{draws_are_told, draws_carry}
use Rattle.replay_hub.proofs.worker.draw_entry.Goals as goal

pub commit-requires-clause-allowed : goal.commit-requires-clause-allowed
commit-requires-clause-allowed g c κs within =
    let t = g.J.ReplayTerms in
    let state = c.args.seat.now.state in
    let s = c.requires.shown in
    draws_are_told t.deploy t.steps t.row_of t.channel_of t.part_of s.0 (since_of state) (held_by state) (took_by state) c.args.entry s.1 s.2

pub commit-requires-clause-carries : goal.commit-requires-clause-carries
commit-requires-clause-carries g c κs within =
    let t = g.J.ReplayTerms in
    let state = c.args.seat.now.state in
    let s = c.requires.shown in
    draws_carry t.deploy t.steps t.row_of t.channel_of t.part_of s.0 (t.in_hand c.args.held.now) (since_of state) (held_by state) c.args.entry s.1 s.3

pub returns-clause-carries : goal.returns-clause-carries
returns-clause-carries g c =
    let t = g.J.ReplayTerms in
    let P : List (Entry _ _) → List (ℕ × _) → Type 0 = λ es hs. Carries (values t.deploy t.steps t.row_of t.channel_of t.part_of) es hs (t.in_hand c.args.held.now) in
    subst (λ es. P es (held_by c.charge.new.self.state)) (sym c.charge.ensures.since) (subst (P (since_of c.commit.new.self.state)) (sym c.charge.ensures.held) c.commit.ensures.carries)

pub returns-clause-offered : goal.returns-clause-offered
returns-clause-offered g c =
    let o = c.commit.ensures.offered in
    ap (λ p. things_of p.offered) c.charge.ensures.works ∙ (ap {A = List (ℕ × Task _ _)} things_of o.1 ∙ things_numbered o.0 (offers_of c.args.entry.did)) ∙ sym c.requires.offers
