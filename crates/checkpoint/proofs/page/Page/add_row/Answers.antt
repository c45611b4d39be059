use Rattle.std.proofs.Common.{◌++◌, List, ℕ, ◌∙◌, ap}
use Rattle.checkpoint.proofs.page.Page.add_row.Goals as goal

pub returns-in-Ok : goal.returns-in-Ok
returns-in-Ok c = λ f.
    let k = c.add.ensures f in
    (k.0, k.1 ∙ ap (λ (l : List ℕ). c.args.self.now.bytes.items ++ l) (c.as_slice.ensures.value ∙ c.in-Ok.ensures))
