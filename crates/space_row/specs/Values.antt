-- Rows as values of contracts.
use Rattle.std.specs.Prelude.{ℕ, List, refl}
use Rattle.std.specs.Coded.{Coded, code_by, coded×, coded_list, coded_ℕ}
use Rattle.calculus.specs.Tree.{Tree, tree_code}
use Rattle.calculus.specs.Rows.{Row}

-- a row is stored as its id and its part
abbrev pub row_value_code : Coded Row
row_value_code = code_by (List ℕ × Tree) (coded× (coded_list coded_ℕ) tree_code) (λ r. (r.id, r.part)) (λ p. record { id = p.0; part = p.1 }) (λ _. refl)
