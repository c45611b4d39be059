-- What contracts see of the names and roles of bound variables.
use Rattle.std.specs.Prelude.{ℕ, List, map as each, reverse}
use Rattle.std.specs.List.{zip}
use Rattle.scope.specs.Binding.{Scope}
use Rattle.scope_names.specs.declared.variables.Role.{Role}
use Rattle.scope_names.specs.Senses.{sense}

-- the variables, the last one bound first, as the names stand; the roles stand the other way around
abbrev pub scope_of : List (List ℕ) → List Role → Scope
scope_of ns rs = zip ns (reverse (each sense rs))
