use Rattle.std.proofs.Common.{sym, ◌∙◌}
use Rattle.term_order.proofs.Comparing.{text_decided, text_undecided}
use Rattle.term_order.proofs.ground.text_order.Goals as goal

pub returns-then-is_ne : goal.returns-then-is_ne
returns-then-is_ne c = text_decided c.args.x.now c.args.y.now c.cmp-by_length.result c.cmp-by_length.ensures (sym c.is_ne.ensures ∙ c.if-is_ne.true)

pub returns : goal.returns
returns c = text_undecided c.args.x.now c.args.y.now c.cmp-by_length.result c.cmp.result c.cmp-by_length.ensures (sym c.is_ne.ensures ∙ c.if-is_ne.false) c.cmp.ensures
