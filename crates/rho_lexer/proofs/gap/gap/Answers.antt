use Rattle.std.proofs.Common.{◌+◌, sym, ◌∙◌, ap}
use Rattle.std.specs.Prelude.{Some, None, codes}
use Rattle.tokens.specs.Fronts.{place_of}
use Rattle.tokens.specs.Reading.{gap}
use Rattle.rho_lexer.proofs.Gaps.{blanks, one_gap, line_step, block_step, no_gap_step}
use Rattle.rho_lexer.proofs.Steps.{rest_is}
use Rattle.rho_lexer.proofs.gap.gap.Goals as goal

pub returns-then-is_blank : goal.returns-then-is_blank
returns-then-is_blank c = blanks c.args.at c.args.text.now c.blank_run.result c.blank_run.ensures c.requires (sym c.is_blank.ensures ∙ c.if-is_blank.true)

pub returns-then-starts_with : goal.returns-then-starts_with
returns-then-starts_with c =
    one_gap c.args.at c.args.text.now c.line_len.result
    (line_step c.args.at c.args.text.now c.requires (sym c.is_blank.ensures ∙ c.if-is_blank.false) (sym c.starts_with.ensures.value ∙ c.if-starts_with.true)
    ∙ ap gap (sym c.line_len.ensures))

pub returns-then-not-starts_with : goal.returns-then-not-starts_with
returns-then-not-starts_with c =
    no_gap_step c.args.at c.args.text.now c.requires (sym c.is_blank.ensures ∙ c.if-is_blank.false) (sym c.starts_with.ensures.value ∙ c.if-starts_with.false)
    (sym c.starts_with-2.ensures.value ∙ search c.if-not-starts_with.true)

pub returns-in-Some : goal.returns-in-Some
returns-in-Some c =
    one_gap c.args.at c.args.text.now (c.in-Some.len + 4) (block_step c.args.at c.args.text.now (Some c.in-Some.len) c.requires (sym c.is_blank.ensures ∙ c.if-is_blank.false) (sym c.starts_with.ensures.value ∙ c.if-starts_with.false)
    (sym c.starts_with-2.ensures.value ∙ search c.if-not-starts_with.false) (ap (place_of (codes "*/")) (sym (rest_is 2 c.args.text.now)) ∙ sym c.in-Some.ensures.value))

pub returns-in-None : goal.returns-in-None
returns-in-None c =
    block_step c.args.at c.args.text.now None c.requires (sym c.is_blank.ensures ∙ c.if-is_blank.false) (sym c.starts_with.ensures.value ∙ c.if-starts_with.false)
    (sym c.starts_with-2.ensures.value ∙ search c.if-not-starts_with.false) (ap (place_of (codes "*/")) (sym (rest_is 2 c.args.text.now)) ∙ sym c.in-None.ensures.value)
