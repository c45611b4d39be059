use Rattle.std.proofs.Common.{arith, reverse}
use Rattle.std.proofs.lemmas.List.{length-map, length-reverse}
use Rattle.calculus.proofs.Ranges.{in_scope}
use Rattle.code_faults.specs.Scopes.{sense_of, senses_of}
use Rattle.code_fields.proofs.fields.begins_index.Goals as goal

pub returns-clause-all : goal.returns-clause-all
returns-clause-all c = λ i x y h v e.
    let w = c.number_bounds-low.ensures.all i x y h e in
    let items = c.args.scope.now.items in
    absurd (c.loop-index.invariant i w.0 (omega (arith, w.1, in_scope (reverse (senses_of items)) i (sense_of c.args.sense) v, length-reverse (senses_of items), length-map items sense_of)) v)

pub returns-then-has_variable-clause-only : goal.returns-then-has_variable-clause-only
returns-then-has_variable-clause-only c = λ t l. record {
  index = c.loop-index.index;
  has = c.has_variable.ensures.only c.if-has_variable.true;
  cut = c.number_bounds-low.ensures.only c.loop-index.index l (omega arith) (omega arith) (omega arith);
}
