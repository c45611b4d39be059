use Rattle.std.proofs.Common.{ap, ◌∙◌, sym, rules, ◌≡◌, option_map, string_bytes, Some}
use Rattle.phlo_meter.specs.PriceTable.{all_known}
use Rattle.phlo_meter.proofs.Unknown.{found_is_least}
use Rattle.phlo_meter.proofs.table.known_keys.Goals as goal

pub returns-in-None : goal.returns-in-None
returns-in-None c =
    ap all_known (sym (ap (option_map string_bytes) c.in-None.ensures.found ∙ found_is_least c.args.table.now.entries c.in-None.ensures.ascending))

pub returns-in-Ok : goal.returns-in-Ok
returns-in-Ok c =
    let same : string_bytes c.in-Some.key.now ≡ string_bytes c.in-Ok.key = search rules in
    ap all_known (sym (ap (option_map string_bytes) c.in-Some.ensures.found ∙ found_is_least c.args.table.now.entries c.in-Some.ensures.ascending) ∙ ap (λ k. Some k) same)
