use Rattle.std.proofs.Common.{◌∙◌}
use Rattle.code_faults.proofs.TextEnds.{whole-ends, cut-only, cut-all, ends-all, is-none}
use Rattle.code_fields.proofs.text.begins_utf8.Goals as goal

pub returns-in-Ok-clause-only : goal.returns-in-Ok-clause-only
returns-in-Ok-clause-only c = λ t. whole-ends c.args.bytes.now c.args.len c.in-Ok.ensures.cases.1 c.requires

pub returns-then-is_none-clause-only : goal.returns-then-is_none-clause-only
returns-then-is_none-clause-only c = λ t. cut-only c.args.bytes.now c.valid_up_to-valid.result _ c.args.len c.error_len.result c.is_none.result c.is_cut.result c.requires c.in-Err.ensures.cases.1
    c.valid_up_to-valid.ensures (c.error_len.ensures ∙ c.in-Err.ensures.fault) c.is_none.ensures c.if-is_none.true c.is_cut.ensures t

pub returns-then-is_none-clause-all : goal.returns-then-is_none-clause-all
returns-then-is_none-clause-all c = λ x u e. cut-all c.args.bytes.now x c.valid_up_to-valid.result _ c.args.len c.is_cut.result c.in-Err.ensures.cases.1 c.valid_up_to-valid.ensures c.is_cut.ensures u e

pub returns-else-is_none-clause-all : goal.returns-else-is_none-clause-all
returns-else-is_none-clause-all c = λ x u e. is-none c.error_len.result c.is_none.result c.is_none.ensures
    (c.error_len.ensures ∙ c.in-Err.ensures.fault ∙ (ends-all c.args.bytes.now x _ c.args.len c.in-Err.ensures.cases.1 u e).0)
