use Rattle.std.proofs.Common.{◌∙◌, ◌-◌, ◌++◌, ◌∷◌, [], ℕ, List, sym, ap}
use Rattle.hub_runs.proofs.Draws.{offer_none, offer_one}
use Rattle.hub_runs.proofs.work.offered_works.Goals as goal

pub returns-then-work-lt64 : goal.returns-then-work-lt64
returns-then-work-lt64 c = c.new-ops.ensures.items ∙ sym (offer_none c.args.work c.if-work-lt64.true)

pub returns : goal.returns
returns c = c.in_ok-push.ensures.items ∙ (ap {A = List ℕ} (λ l. l ++ (c.args.work - 64) ∷ []) c.new-ops.ensures.items ∙ sym (offer_one c.args.work c.if-work-lt64.false))
