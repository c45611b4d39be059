use Rattle.std.proofs.Common.{sym, subst}
use Rattle.std.specs.Result.{MatchResult}
use Rattle.calculus.specs.Outcome.{Outcome}
use Rattle.calculus.specs.Tree.{Tree}
use Rattle.price_table.specs.Outcomes.{Came, Stopped}
use Rattle.rho_eval.proofs.OwnValues.{own-value}
use Rattle.rho_eval.proofs.owned.eval_owned.Goals as goal

pub returns-then-are_own_values : goal.returns-then-are_own_values
returns-then-are_own_values c =
    let e = own-value c.args.prices.now c.args.term c.parts.result.now c.parts.ensures.parts c.parts.ensures.normal (c.are_own_values.ensures c.if-are_own_values.true) in
    subst (λ (o : Outcome Tree). MatchResult c.limited.result (λ q. Came c.args.cap c.args.price q.price q.value o) (λ d. Stopped c.args.cap c.args.price o d)) (sym e) c.limited.ensures
