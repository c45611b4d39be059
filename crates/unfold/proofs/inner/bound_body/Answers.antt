use Rattle.std.proofs.Common.{◌≡◌, sym, subst, arith, ◌∙◌}
use Rattle.calculus.specs.Outcome.{free, within_limits}
use Rattle.calculus.specs.Tree.{Tree}
use Rattle.offered_rows.proofs.Kept.{put-same}
use Rattle.price_table.specs.Results.{ComesTo}
use Rattle.rho_term.specs.Normal.{IsNormal}
use Rattle.term_bounds.specs.Bound.{bound_count}
use Rattle.unfold.proofs.Cases.{case-binds-none}
use Rattle.unfold.proofs.inner.bound_body.Goals as goal

pub returns : goal.returns
returns c =
    let k = c.args.case in let is = c.into_body-body.ensures in
    let none : bound_count k.pat ≡ 0 = omega (arith, c.pat_bound.ensures, c.if-pat_bound-gt0.false) in
    let same = put-same c.args.values.now k.body (case-binds-none k none c.requires) (subst IsNormal is c.height-height.ensures.normal) in
    subst (λ (t : Tree). ComesTo c.limited.result c.args.budget (free (within_limits t))) (is ∙ sym same) c.limited.ensures
