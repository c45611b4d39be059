use Rattle.std.proofs.Common.{ap, ◌∙◌, sym}
use Rattle.toml.specs.Parse.{parse_document}
use Rattle.phlo_meter.specs.PriceTable.{table_or_refusal}
use Rattle.phlo_meter.proofs.Tables.{table_of-text, table_of-no_text}
use Rattle.phlo_meter.proofs.read.table_from.Goals as goal

pub returns-in_default : goal.returns-in_default
returns-in_default c = ap table_or_refusal (table_of-no_text _ c.in_default.ensures.cases.0)

pub returns-in-Ok-table_from_str : goal.returns-in-Ok-table_from_str
returns-in-Ok-table_from_str c = ap table_or_refusal
    (table_of-text _ c.in-Ok.ensures.cases.1 ∙ ap parse_document (sym c.in-Ok.ensures.cases.0) ∙ c.in-Ok-table_from_str.ensures.ok)
