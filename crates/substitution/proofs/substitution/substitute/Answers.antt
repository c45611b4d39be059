use Rattle.std.proofs.Common.{◌≡◌}
use Rattle.calculus.specs.Substitution.{put}
use Rattle.term_bounds.specs.Filled.{value_parts}
use Rattle.substitution.specs.Becoming.{Becomes, change_of}
use Rattle.substitution.proofs.Becoming.{put-filled}
use Rattle.substitution.proofs.Made.{made-so}
use Rattle.substitution.proofs.substitution.substitute.Goals as goal

pub returns : goal.returns
unfolding change_of
returns c =
    let vs = c.args.values.now in let t = c.args.body.now in
    made-so (Becomes (value_parts vs) 0 t) (λ u. u ≡ put vs t) _ (put-filled vs t) c.replaced.ensures
