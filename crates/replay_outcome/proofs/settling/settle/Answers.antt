use Rattle.std.proofs.Common.{ℕ, map, sym, subst}
use Rattle.calculus.specs.Runs.{work_price}
use Rattle.hub_scenes.specs.Closing.{in_log_order}
use Rattle.hub_scenes.specs.Entries.{did_by}
use Rattle.replay_hub.specs.Values.{entry_of}
use Rattle.replay_outcome.specs.declared.sum.Summed.{Summed}
use Rattle.replay_outcome.specs.Settling.{IsSum, SumsUp}
use Rattle.replay_outcome.proofs.settling.settle.Goals as goal

pub returns-in-Undone : goal.returns-in-Undone
returns-in-Undone g c deploy w row channel lim pr fa =
    let ds = did_by (map (entry_of row channel) c.args.entries.items) in
    let places = c.in_ok-places.places.items in
    let kept = c.in_ok-places.ensures.kept row channel in
    let n = c.in_ok-places.ensures.count in
    subst (λ (z : Summed). SumsUp c.args.count c.args.price c.args.fault ds z) c.in-Undone.is (subst (λ (m : ℕ). SumsUp m c.args.price c.args.fault ds c.in_ok-index.field-0) n (c.in_ok-index.ensures ds kept))

pub returns-in-Whole : goal.returns-in-Whole
returns-in-Whole g c deploy w row channel lim pr fa =
    let ds = did_by (map (entry_of row channel) c.args.entries.items) in
    let kept = c.in_ok-places.ensures.kept row channel in
    let n = c.in_ok-places.ensures.count in
    let s = subst (λ (z : Summed). SumsUp c.args.count c.args.price c.args.fault ds z) c.in-Whole.is (subst (λ (m : ℕ). SumsUp m c.args.price c.args.fault ds c.in_ok-index.field-0) n (c.in_ok-index.ensures ds kept)) in
    let order = in_log_order c.args.count ds in
    let priced = subst (λ (p : ℕ). IsSum p c.args.fault order c.in-Whole.sum) (sym pr) s.1 in
    (s.0, c.end.ensures deploy w order lim (subst (λ f. IsSum (work_price deploy.limit w) f order c.in-Whole.sum) (sym fa) priced))
