use Rattle.std.proofs.Common.{ℕ, List, length, ap, arith}
use Rattle.hub_runs.proofs.Draws.{offer_none, offer_one}
use Rattle.hub_runs.proofs.work.more_works.Goals as goal

pub returns-then-work-lt64 : goal.returns-then-work-lt64
returns-then-work-lt64 c = let e = ap {A = List ℕ} length (offer_none c.args.work c.if-work-lt64.true) in omega arith

pub returns-else-work-lt64 : goal.returns-else-work-lt64
returns-else-work-lt64 c = let e = ap {A = List ℕ} length (offer_one c.args.work c.if-work-lt64.false) in omega arith
