use Rattle.std.proofs.Common.{ap, sym, ◌∙◌}
use Rattle.calculus.specs.Bytes.{joined}
use Rattle.calculus.specs.Operators.{of_text}
use Rattle.calculus.specs.Outcome.{gives}
use Rattle.calculus.specs.Texts.{characters}
use Rattle.value_ops.proofs.Arguments.{slice_inside}
use Rattle.value_ops.proofs.Cutting.{places_rise, places_cut}
use Rattle.value_ops.proofs.texts.slice_text.Goals as goal

pub range-requires-clause-start_le_end : goal.range-requires-clause-start_le_end
range-requires-clause-start_le_end c = places_rise c.args.text.now c.args.from c.args.to c.in-Some.start c.in-Some-place_of.end c.requires c.in-Some.ensures c.in-Some-place_of.ensures

pub returns : goal.returns
returns c =
    slice_inside (λ cs. of_text (joined cs)) (characters c.args.text.now) c.args.from c.args.to c.requires c.in-Some-place_of.ensures.within
    ∙ ap (λ x. gives (of_text x)) (sym (places_cut c.args.text.now c.args.from c.args.to c.in-Some.start c.in-Some-place_of.end c.requires c.in-Some.ensures c.in-Some-place_of.ensures) ∙ (sym c.range.ensures.value ∙ sym c.in_ok-from_str.ensures.ok))
