-- What contracts see of the variables in scope.
use Rattle.std.specs.Prelude.{◌≡◌, ℕ, zero, suc, refl}
use Rattle.std.specs.Coded.{Coded, code_by, coded_ℕ, coded_list, coded×}
use Rattle.calculus.specs.Variables.{Sense, a_process, a_name}
use Rattle.scope.specs.Binding.{Scope}
use Rattle.scope_names.specs.declared.variables.Role.{Role}
use Rattle.scope_names.specs.declared.variables.Role.TheVariants as roles

-- what a variable stands for
abbrev pub sense : Role → Sense
sense roles.Process = a_process
sense roles.Name = a_name

-- the number of a sense
abbrev pub sense_number : Sense → ℕ
sense_number a_process = 0
sense_number a_name = 1

-- the sense of a number
abbrev pub sense_from : ℕ → Sense
sense_from zero = a_process
sense_from (suc n) = a_name

pub sense_from-number : (s : Sense) → sense_from (sense_number s) ≡ s
sense_from-number a_process = refl
sense_from-number a_name = refl

-- scopes as values of contracts
abbrev pub scope_code : Coded Scope
scope_code = coded_list (coded× (coded_list coded_ℕ) (code_by ℕ coded_ℕ sense_number sense_from sense_from-number))
