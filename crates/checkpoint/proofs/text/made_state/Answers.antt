use Rattle.std.proofs.Common.{ℕ, List, map, ◌∙◌, ap}
use Rattle.calculus.specs.Order.{sorted}
use Rattle.calculus.specs.Rows.{Row, row_code}
use Rattle.checkpoint.specs.Texts.{text_with}
use Rattle.checkpoint.proofs.Ordering.{text-of-sorted}
use Rattle.checkpoint.proofs.text.made_state.Goals as goal

pub returns-clause-text : goal.returns-clause-text
returns-clause-text g c =
    let cs : List (List ℕ) = sorted (map (λ v. v.items) c.in_ok-codes.codes.items) in
    c.in_ok-text.ensures ∙ ap (λ (d : List ℕ). text_with d cs) c.in_ok-root.ensures.root
    ∙ text-of-sorted c.args.rows.items cs (ap sorted (c.in_ok-codes.ensures ∙ ap (λ (rs : List Row). map row_code rs) c.as_slice.ensures.value))
