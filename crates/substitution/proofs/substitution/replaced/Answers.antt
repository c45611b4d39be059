use Rattle.substitution.specs.Becoming.{Becomes, change_of}
use Rattle.substitution.proofs.Made.{made-known}
use Rattle.substitution.proofs.substitution.replaced.Goals as goal

pub returns : goal.returns
returns c = made-known (Becomes (change_of c.args.replacement.now) 0 c.args.term.now) _ _ _ _ c.made.ensures c.put_term-term.ensures
