use Rattle.token_cursor.specs.Reading.{of_proc}
use Rattle.token_cursor.proofs.Steps.{closes, made_height}
use Rattle.leaf_forms.proofs.leaf.atom_nil.Goals as goal

pub returns : goal.returns
returns c = record {
  reads = λ free. closes _ of_proc c.nil-form.result _ _ c.closed.ensures.reads c.nil-form.ensures.tree c.nil-form.ensures.height;
  height = made_height _ _ _ _ c.nil-form.result _ c.closed.ensures.reads c.nil-form.ensures.height;
  shorter = c.closed.ensures.shorter;
}
