use Rattle.std.proofs.Common.{List, take, sym, subst}
use Rattle.std.proofs.lemmas.List.{take_more, take_all}
use Rattle.std.proofs.lemmas.List.Elements.{All-push}
use Rattle.calculus.specs.Rows.{Row}
use Rattle.rho_term.specs.Normal.{IsNormal}
use Rattle.run_inputs.specs.Bases.{AreNormalRows}
use Rattle.run_inputs.proofs.normal.see_rows.Goals as goal

pub loop-row-preserved : goal.loop-row-preserved
loop-row-preserved c =
    let xs = c.args.rows.now in
    let P : Row → Type 0 = λ r. IsNormal r.part in
    subst (λ (ys : List Row). AreNormalRows ys) (sym (take_more xs c.loop-row.row-index c.row-item.result c.loop-row-test.true))
    (All-push P (take c.loop-row.row-index xs) _ c.loop-row.invariant (subst P c.row-item.is c.see_row.ensures))

pub returns : goal.returns
returns c = subst (λ (ys : List Row). AreNormalRows ys) (take_all c.loop-row.row-index c.args.rows.now c.loop-row-test.false) c.loop-row.invariant
