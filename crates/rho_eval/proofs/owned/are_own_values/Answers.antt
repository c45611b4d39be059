use Rattle.std.proofs.Common.{sym, subst, take}
use Rattle.std.proofs.lemmas.List.{take_all}
use Rattle.std.proofs.lemmas.List.Elements.{All-more}
use Rattle.std.specs.Prelude.{List, All}
use Rattle.rho_eval.specs.Values.{IsOwnValue}
use Rattle.rho_term.specs.declared.term.Part.{Part}
use Rattle.rho_term.specs.Parts.{part_tree}
use Rattle.rho_eval.proofs.owned.are_own_values.Goals as goal

pub loop-part-preserved : goal.loop-part-preserved
loop-part-preserved c =
    let P = λ (q : Part). IsOwnValue (part_tree q) in let x = c.part-item.result in
    All-more P c.args.parts.now c.loop-part.part-index x c.loop-part-test.true c.loop-part.invariant (subst P c.part-item.is (c.is_own_value.ensures c.if-not-is_own_value.false))

pub returns : goal.returns
returns c = λ e. subst (λ (ys : List Part). All (λ q. IsOwnValue (part_tree q)) ys) (take_all c.loop-part.part-index c.args.parts.now c.loop-part-test.false) c.loop-part.invariant
