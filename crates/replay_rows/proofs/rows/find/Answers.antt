use Rattle.std.proofs.Common.{sym, ap, ◌∙◌}
use Rattle.std.specs.Prelude.{option_map, option_copied, slice_get}
use Rattle.replay_rows.specs.Rows.{seen_row, id_of}
use Rattle.replay_rows.proofs.Settled.{found-first, nothing-first}
use Rattle.replay_rows.proofs.rows.find.Goals as goal

pub returns-in_err-get : goal.returns-in_err-get
returns-in_err-get c u =
    ap (λ r. option_map seen_row (option_copied r)) c.from_residual.ensures
    ∙ sym (nothing-first seen_row id_of c.args.id.now.0 c.args.rows.now.entries u (sym c.get.ensures.value ∙ ap option_copied c.in_err-get.was))

pub returns : goal.returns
returns c u =
    ap (option_map seen_row) (c.first.ensures.value ∙ ap (λ l. slice_get l 0) c.deref.ensures.value)
    ∙ sym (found-first seen_row id_of c.args.id.now.0 c.in_ok-get.field-0.now c.args.rows.now.entries u c.len-size.ensures.ordered (sym c.get.ensures.value ∙ ap option_copied c.in_ok-get.was))
