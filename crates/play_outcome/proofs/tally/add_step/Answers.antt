use Rattle.std.proofs.Common.{ℕ, ap, sym, ◌∙◌, ◌++◌, List, Some}
use Rattle.play_outcome.proofs.Tallying.{one-more}
use Rattle.play_outcome.proofs.tally.add_step.Goals as goal

pub returns : goal.returns
returns c e d fault es t =
    let old = c.args.tally.now in
    one-more fault es old t e c.args.made d (record { steps = c.push.new.self; verdict = c.verdict_with-tally.result; output = c.extend_from_slice.new.self })
    c.in_ok-push.ensures.items
    (c.in_ok-extend_from_slice.ensures.items ∙ ap (λ (x : List ℕ). old.output.items ++ x) c.as_slice.ensures.value)
    (λ q i k. c.verdict_with-tally.ensures.none q i (k ∙ ap (λ n. Some n) (sym old.steps.ok.0 ∙ sym c.len-index.ensures)))
    c.verdict_with-tally.ensures.some
