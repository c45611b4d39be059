use Rattle.std.proofs.Common.{◌≡◌, length, sym, ◌∙◌, arith, [], ◌∷◌}
use Rattle.std.proofs.lemmas.List.{length-append}
use Rattle.std.specs.Str.Iter.{char_indices_rest}
use Rattle.value_ops.proofs.Cutting.{found_at, end_at, all_read, text_read, place_read}
use Rattle.value_ops.proofs.texts.place_of.Goals as goal

pub returns-then-passed-index : goal.returns-then-passed-index
returns-then-passed-index c =
    let inv = c.loop-at.invariant in
    let step = c.in-Some.ensures.steps in
    found_at c.args.text.now (char_indices_rest c.loop-at.at-iterator) (char_indices_rest c.next.new.self) c.loop-at.yielded c.in-Some.field-0-1 c.loop-at.passed c.args.index c.in-Some.at inv.2 step.1 inv.0 c.if-passed-index.true (step.0 ∙ inv.3)

pub loop-at-preserved : goal.loop-at-preserved
loop-at-preserved c =
    let inv = c.loop-at.invariant in
    let step = c.in-Some.ensures.steps in (
      omega (arith, inv.0, length-append c.loop-at.yielded ((c.in-Some.at, c.in-Some.field-0-1) ∷ [])),
      omega (arith, inv.1),
      text_read c.args.text.now (char_indices_rest c.loop-at.at-iterator) (char_indices_rest c.next.new.self) c.loop-at.yielded c.in-Some.at c.in-Some.field-0-1 inv.2 step.1,
      place_read c.loop-at.yielded c.in-Some.at c.in-Some.field-0-1 _ _ inv.3 step.2,
    )

pub returns-then-passed-index-2 : goal.returns-then-passed-index-2
returns-then-passed-index-2 c =
    let inv = c.loop-at.invariant in
    end_at c.args.text.now (char_indices_rest c.loop-at.at-iterator) c.loop-at.yielded c.loop-at.passed c.args.index inv.2 c.in-None.ensures.steps.0 inv.0 c.if-passed-index-2.true

pub returns-else-passed-index-2 : goal.returns-else-passed-index-2
returns-else-passed-index-2 c =
    let inv = c.loop-at.invariant in
    omega (arith, inv.0, inv.1, all_read c.args.text.now (char_indices_rest c.loop-at.at-iterator) c.loop-at.yielded inv.2 c.in-None.ensures.steps.0)
