use Rattle.std.proofs.Common.{List, subst, sym}
use Rattle.std.specs.Prelude.{Option}
use Rattle.calculus.specs.Rows.{Row}
use Rattle.rspace_table.specs.Hands.{IsInPlace}
use Rattle.rspace_table.proofs.InHand.{not-false}
use Rattle.rspace_table.proofs.held.is_misplaced.Goals as goal

pub returns-in-Some : goal.returns-in-Some
returns-in-Some c = λ e. subst (λ (s : Option (List Row)). IsInPlace c.args.number s) (sym c.in-Some.is) (c.is_at.ensures (not-false c.is_at.result e))

pub returns-in-None : goal.returns-in-None
returns-in-None c = λ e. subst (λ (s : Option (List Row)). IsInPlace c.args.number s) (sym c.in-None.is) tt
