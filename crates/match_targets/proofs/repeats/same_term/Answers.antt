use Rattle.std.proofs.Common.{sym, ◌∙◌}
use Rattle.match_targets.proofs.Repeating.{equal_terms}
use Rattle.match_targets.proofs.repeats.same_term.Goals as goal

pub returns : goal.returns
returns c e =
    equal_terms c.args.a.now c.args.b.now c.cmp_terms.result c.requires.a c.requires.b c.height.ensures.normal c.height-2.ensures.normal c.cmp_terms.ensures (sym c.is_eq.ensures ∙ e)
