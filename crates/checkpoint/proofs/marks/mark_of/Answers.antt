use Rattle.std.proofs.Common.{ℕ, List, length, ◌∙◌, ap}
use Rattle.calculus.specs.Root.{key}
use Rattle.checkpoint.proofs.marks.mark_of.Goals as goal

pub returns : goal.returns
returns c =
    ap (λ (k : List ℕ). (k, length c.args.code.now)) c.in_ok-key.ensures ∙ ap (λ (z : List ℕ). (key c.args.row.now, length z)) c.requires
