use Rattle.std.proofs.Common.{arith, reverse}
use Rattle.std.proofs.lemmas.List.{length-map, length-reverse}
use Rattle.calculus.proofs.Ranges.{in_scope}
use Rattle.code_faults.specs.Scopes.{sense_of, senses_of}
use Rattle.code_fields.proofs.fields.has_sense.Goals as goal

pub returns-then-has_variable-clause-only : goal.returns-then-has_variable-clause-only
returns-then-has_variable-clause-only c = λ t. record { index = c.loop-index.index; has = c.has_variable.ensures.only c.if-has_variable.true }

pub returns-clause-all : goal.returns-clause-all
returns-clause-all c = λ i v.
    let items = c.args.scope.now.items in
    absurd (c.loop-index.invariant i (omega (arith, in_scope (reverse (senses_of items)) i (sense_of c.args.sense) v, length-reverse (senses_of items), length-map items sense_of)) v)
