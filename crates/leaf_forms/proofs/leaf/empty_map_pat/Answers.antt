use Rattle.std.proofs.Common.{◌+◌, ap, ◌∙◌}
use Rattle.grammar.specs.Values.{map_pattern_of, no_rest}
use Rattle.token_cursor.specs.Reading.{of_pat}
use Rattle.token_cursor.proofs.Steps.{closes, made_height}
use Rattle.leaf_forms.proofs.leaf.empty_map_pat.Goals as goal

pub returns : goal.returns
returns c = record {
  reads = λ free. closes _ of_pat c.map_pat-form.result _ _ c.closed.ensures.reads (c.map_pat-form.ensures.tree ∙ ap (λ xs. map_pattern_of xs no_rest) c.no_pairs-none.ensures.tree) (c.map_pat-form.ensures.height ∙ ap (λ n. n + 1) c.no_pairs-none.ensures.height);
  height = made_height _ _ _ _ c.map_pat-form.result _ c.closed.ensures.reads (c.map_pat-form.ensures.height ∙ ap (λ n. n + 1) c.no_pairs-none.ensures.height);
  shorter = c.closed.ensures.shorter;
}
