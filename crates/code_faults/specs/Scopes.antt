-- Scopes as a reader keeps them.
use Rattle.std.specs.Prelude.{List, map as each, reverse}
use Rattle.calculus.specs.Variables.{Sense, a_process, a_name}
use Rattle.calculus.specs.Form.{Scope}
use Rattle.code_faults.specs.declared.sort.Sense.{Sense as Read}
use Rattle.code_faults.specs.declared.sort.Sense.TheVariants as read

-- what a variable stands for
abbrev pub sense_of : Read → Sense
sense_of read.Process = a_process
sense_of read.Name = a_name

-- what these stand for
abbrev pub senses_of : List Read → List Sense
senses_of xs = each sense_of xs

-- the scope of these variables, the last of which is bound last
abbrev pub scope_of : List Read → Scope
scope_of xs = reverse (senses_of xs)
