use Rattle.token_cursor.specs.Reading.{of_pat}
use Rattle.token_cursor.proofs.Steps.{closes, made_height}
use Rattle.leaf_forms.proofs.leaf.pat_nil.Goals as goal

pub returns : goal.returns
returns c = record {
  reads = λ free. closes _ of_pat c.nil_pat-form.result _ _ c.closed.ensures.reads c.nil_pat-form.ensures.tree c.nil_pat-form.ensures.height;
  height = made_height _ _ _ _ c.nil_pat-form.result _ c.closed.ensures.reads c.nil_pat-form.ensures.height;
  shorter = c.closed.ensures.shorter;
}
