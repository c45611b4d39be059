use Rattle.std.proofs.Common.{[], ◌∷◌, sym, subst}
use Rattle.std.specs.Prelude.{All}
use Rattle.std.proofs.lemmas.List.Elements.{All-nil, All-cons, All-append}
use Rattle.calculus.specs.Tree.{Tree}
use Rattle.join_index.specs.Groups.{IsChannel}
use Rattle.source_rows.proofs.groups.channels_of.Goals as goal

pub loop-bind-preserved : goal.loop-bind-preserved
loop-bind-preserved c =
    let t : Tree = c.in_ok-channel_of.field-0 in
    subst (All IsChannel) (sym c.in_ok-push.ensures.items)
    (All-append IsChannel c.loop-bind.channels.items (t ∷ []) c.loop-bind.invariant (All-cons IsChannel t [] c.in_ok-channel_of.ensures (All-nil IsChannel)))
