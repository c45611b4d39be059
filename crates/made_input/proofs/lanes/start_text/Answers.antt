use Rattle.std.proofs.Common.{◌++◌, ◌∙◌, ap, string_bytes}
use Rattle.std.specs.Prelude.{codes, decimal}
use Rattle.std.proofs.lemmas.Result.{IfOk-weaker}
use Rattle.made_input.specs.MadeInput.{count_channel}
use Rattle.made_input.proofs.lanes.start_text.Goals as goal

pub returns : goal.returns
returns c =
    let number = decimal c.args.number in
    let step = string_bytes c.in_ok-step.step in
    IfOk-weaker c.format.result _ _ (λ t e.
    e
    ∙ (ap (λ l. l ++ (codes "!(" ++ (number ++ (codes ", 0) | " ++ (step ++ codes "!(1)"))))) c.in_ok-count.ensures
    ∙ ap (λ l. count_channel c.args.lane ++ (codes "!(" ++ (number ++ (codes ", 0) | " ++ (l ++ codes "!(1)"))))) c.in_ok-step.ensures)) c.format.ensures.ok
