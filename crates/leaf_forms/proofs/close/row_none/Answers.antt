use Rattle.std.proofs.Common.{ap}
use Rattle.calculus.specs.Meaning.{row_of}
use Rattle.token_cursor.specs.Reading.{of_row}
use Rattle.token_cursor.proofs.Steps.{closes_as, made_height}
use Rattle.leaf_forms.proofs.close.row_none.Goals as goal

pub returns : goal.returns
returns c = record {
  reads = λ free. closes_as _ of_row c.no_members-form.result _ _ c.closing_mark.ensures c.closed.ensures.reads (ap row_of c.no_members-form.ensures.tree) c.no_members-form.ensures.height;
  height = made_height _ _ _ _ c.no_members-form.result _ c.closed.ensures.reads c.no_members-form.ensures.height;
  shorter = c.closed.ensures.shorter;
}
