use Rattle.std.proofs.Common.{[], ◌∷◌, sym, subst}
use Rattle.std.specs.Prelude.{All}
use Rattle.std.proofs.lemmas.List.Elements.{All-nil, All-cons, All-append}
use Rattle.calculus.specs.Form.{IsClosed}
use Rattle.calculus.specs.Tree.{Tree}
use Rattle.tables.proofs.offers.read_values.Goals as goal

pub loop-source-preserved : goal.loop-source-preserved
loop-source-preserved c =
    let t : Tree = c.in_ok-read_term.field-0 in
    subst (All IsClosed) (sym c.in_ok-push.ensures.items)
    (All-append IsClosed c.loop-source.values.items (t ∷ []) c.loop-source.invariant (All-cons IsClosed t [] c.in_ok-read_term.ensures (All-nil IsClosed)))
