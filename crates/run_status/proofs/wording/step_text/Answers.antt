use Rattle.std.proofs.Common.{List, ℕ, ◌++◌, ◌∙◌, ap, string_bytes}
use Rattle.std.specs.Prelude.{codes}
use Rattle.std.proofs.lemmas.Result.{IfOk-weaker}
use Rattle.run_status.specs.Message.{digest_text}
use Rattle.run_status.proofs.wording.step_text.Goals as goal

pub returns : goal.returns
returns c =
    let taken = string_bytes c.in_ok-taken.taken in
    let cont = digest_text c.args.cont.now in
    IfOk-weaker c.format.result _ _ (λ t e.
    e
    ∙ (ap (λ (l : List ℕ). codes "Reducible cont=" ++ (l ++ (codes " taken=" ++ taken))) c.in_ok-cont.ensures
    ∙ ap (λ (l : List ℕ). codes "Reducible cont=" ++ (cont ++ (codes " taken=" ++ l))) c.in_ok-taken.ensures)) c.format.ensures.ok
