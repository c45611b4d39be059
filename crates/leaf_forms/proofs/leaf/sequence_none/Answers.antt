use Rattle.std.proofs.Common.{ap, ◌∙◌}
use Rattle.grammar.specs.Values.{no_rest, seq_of}
use Rattle.token_cursor.specs.Reading.{of_sequence}
use Rattle.token_cursor.proofs.Steps.{closes_as, made_height}
use Rattle.leaf_forms.proofs.leaf.sequence_none.Goals as goal

pub returns : goal.returns
returns c = record {
  reads = λ free. closes_as _ of_sequence c.sequence-form.result _ _ c.closing_mark.ensures c.closed.ensures.reads (c.sequence-form.ensures.tree ∙ ap (λ xs. (seq_of xs 0 no_rest).tree) c.no_pats-pats.ensures.tree) (c.sequence-form.ensures.height ∙ c.no_pats-pats.ensures.height);
  height = made_height _ _ _ _ c.sequence-form.result _ c.closed.ensures.reads (c.sequence-form.ensures.height ∙ c.no_pats-pats.ensures.height);
  shorter = c.closed.ensures.shorter;
}
