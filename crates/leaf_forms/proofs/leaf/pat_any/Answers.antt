use Rattle.token_cursor.specs.Reading.{of_pat}
use Rattle.token_cursor.proofs.Steps.{closes, made_height}
use Rattle.leaf_forms.proofs.leaf.pat_any.Goals as goal

pub returns : goal.returns
returns c = record {
  reads = λ free. closes _ of_pat c.any-form.result _ _ c.closed.ensures.reads c.any-form.ensures.tree c.any-form.ensures.height;
  height = made_height _ _ _ _ c.any-form.result _ c.closed.ensures.reads c.any-form.ensures.height;
  shorter = c.closed.ensures.shorter;
}
