use Rattle.std.proofs.Common.{◌∙◌, sym, ap, ◌&&◌, map}
use Rattle.std.specs.Prelude.{option_map}
use Rattle.calculus.specs.Steps.{same_ids}
use Rattle.play_hub.specs.Values.{making_of}
use Rattle.play_draws.specs.Making.{like_in}
use Rattle.play_runs.proofs.Numbers.{ids-equal}
use Rattle.play_runs.proofs.counting.is_like.Goals as goal

pub returns-then-eq : goal.returns-then-eq
returns-then-eq c =
    let xs = c.args.found.now.taken.items in
    let ys = c.in-Some.made.step.taken.items in
    c.eq-then-eq.ensures ∙ ids-equal xs ys ∙ sym (ap (λ b. b && same_ids (map (λ d. d.0) xs) (map (λ d. d.0) ys)) (sym c.eq.ensures ∙ c.if-eq.true))
    ∙ sym (ap (λ o. like_in c.args.found.now (option_map making_of o)) c.in-Some.is)
