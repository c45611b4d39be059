use Rattle.token_cursor.specs.Reading.{of_pat}
use Rattle.token_cursor.proofs.Steps.{closes_as, made_height}
use Rattle.leaf_forms.proofs.leaf.pat_type.Goals as goal

pub returns : goal.returns
returns c = record {
  reads = λ free. closes_as _ of_pat c.simple-form.result _ _ c.type_mark.ensures c.closed.ensures.reads c.simple-form.ensures.tree c.simple-form.ensures.height;
  height = made_height _ _ _ _ c.simple-form.result _ c.closed.ensures.reads c.simple-form.ensures.height;
  shorter = c.closed.ensures.shorter;
}
