use Rattle.std.proofs.Common.{ap, ◌∙◌, Some, option_map}
use Rattle.toml.proofs.Views.{view-lookup}
use Rattle.toml.specs.View.{view}
use Rattle.toml.specs.Data.{as_integer}
use Rattle.phlo_meter.proofs.table.integer_at.Goals as goal

pub returns-in-Some : goal.returns-in-Some
returns-in-Some c =
    ap (λ z. Some z) c.as_integer.ensures
    ∙ ap (option_map as_integer) (ap (option_map view) c.in-Some.ensures.value ∙ view-lookup c.args.key.now c.args.table.now.entries)

pub returns-in-None : goal.returns-in-None
returns-in-None c = ap (option_map as_integer) (ap (option_map view) c.in-None.ensures.value ∙ view-lookup c.args.key.now c.args.table.now.entries)
