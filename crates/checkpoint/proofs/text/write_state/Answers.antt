use Rattle.std.proofs.Common.{ℕ, List, map, ◌∙◌, ap}
use Rattle.std.proofs.lemmas.Result.{IfOk-weaker}
use Rattle.calculus.specs.Root.{root}
use Rattle.calculus.specs.Rows.{Row, row_code}
use Rattle.checkpoint.specs.Texts.{text_with}
use Rattle.checkpoint.proofs.Ordering.{text-in-order}
use Rattle.checkpoint.proofs.text.write_state.Goals as goal

pub returns : goal.returns
returns c =
    IfOk-weaker c.write_text.result _ _
    (λ v e. e ∙ ap (λ (d : List ℕ). text_with d (map row_code c.rows.result.now)) c.root.ensures
    ∙ ap (λ (rs : List Row). text_with (root c.args.checkpoint.now) (map row_code rs)) c.rows.ensures.is ∙ text-in-order c.args.checkpoint.now c.rows.ensures.kept)
    c.write_text.ensures
