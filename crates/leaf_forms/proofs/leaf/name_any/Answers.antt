use Rattle.token_cursor.specs.Reading.{of_name_pat}
use Rattle.token_cursor.proofs.Steps.{closes, made_height}
use Rattle.leaf_forms.proofs.leaf.name_any.Goals as goal

pub returns : goal.returns
returns c = record {
  reads = λ free. closes _ of_name_pat c.any_channel-form.result _ _ c.closed.ensures.reads c.any_channel-form.ensures.tree c.any_channel-form.ensures.height;
  height = made_height _ _ _ _ c.any_channel-form.result _ c.closed.ensures.reads c.any_channel-form.ensures.height;
  shorter = c.closed.ensures.shorter;
}
