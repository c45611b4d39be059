use Rattle.std.proofs.Common.{◌≡◌, ◌++◌, ap, ◌∙◌, append-nil}
use Rattle.unfold.specs.Progress.{pending, in_turn}
use Rattle.unfold.proofs.Whole.{whole-told}
use Rattle.unfold.proofs.unfolding.unfold_owned.Goals as goal

pub returns : goal.returns
returns c =
    let t = c.args.term in let s = c.args.seed.now in
    let w : in_turn c.push_parts.new.left.items ≡ pending t s = c.in_ok-push_parts.ensures.next ∙ (ap (λ ds. pending t s ++ in_turn ds) c.new-left.ensures.items ∙ append-nil (pending t s)) in
    whole-told c.args.prices.now c.args.cap s t c.requires.closed c.in_ok-push_parts.ensures.normal (λ q. q.price) (λ q. q.value.items) c.new.result.items (in_turn c.push_parts.new.left.items) c.finish.result c.new.ensures.items w c.finish.ensures
