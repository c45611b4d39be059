use Rattle.std.proofs.Common.{map}
use Rattle.price_table.proofs.Outcomes.{exit}
use Rattle.rho_term.specs.Parts.{part_tree}
use Rattle.rho_term.specs.Rows.{row_of_op}
use Rattle.unfold.specs.Progress.{in_turn}
use Rattle.unfold.proofs.Silent.{silent-advances, silent-stops}
use Rattle.unfold.proofs.turns.silent_turn.Goals as goal

pub returns-in_err-done : goal.returns-in_err-done
returns-in_err-done c =
    let w = c.args.work.now in let t = part_tree c.args.part.now in
    λ s. exit _ _ _ _ c.from_residual.ensures.1 (silent-stops c.args.prices.now c.args.cap w.price (map row_of_op w.offers.items) (in_turn w.left.items) s t c.in_err-done.field-0.0 c.requires.silent (c.in_err-done.ensures.value s))

pub returns : goal.returns
returns c =
    let w = c.args.work.now in let t = part_tree c.args.part.now in
    λ s. silent-advances c.args.prices.now c.args.cap w.price c.in_ok-done.done.price (map row_of_op w.offers.items) (in_turn w.left.items) s t c.in_ok-done.done.value c.requires.silent (c.in_ok-done.ensures.value s) c.requires.ready
