-- Shards as values of contracts.
use Rattle.std.specs.Prelude.{ℕ, List, refl, Option}
use Rattle.std.specs.Coded.{Coded, code_by, coded×, coded_list, coded_option, coded_ℕ}
use Rattle.calculus.specs.Rows.{Row}
use Rattle.space_row.specs.Values.{row_value_code}
use Rattle.hub_scenes.specs.Spaces.{SeenRow, Part}

-- what is kept of a row is stored as the row, where it comes from, and a count
abbrev pub seen_code : Coded SeenRow
seen_code =
    code_by (Row × (Option ℕ × ℕ)) (coded× row_value_code (coded× (coded_option coded_ℕ) coded_ℕ)) (λ q. (q.row, (q.from, q.done))) (λ p. record { row = p.0; from = p.1.0; done = p.1.1 }) (λ _. refl)

-- a shard is stored as its number and its rows
abbrev pub part_code : Coded Part
part_code =
    code_by (ℕ × (List SeenRow × List SeenRow)) (coded× coded_ℕ (coded× (coded_list seen_code) (coded_list seen_code))) (λ x. (x.number, (x.rows, x.built))) (λ p. record { number = p.0; rows = p.1.0; built = p.1.1 }) (λ _. refl)
