-- What stands in the code of a form of processes before them.
use Rattle.std.specs.Prelude.{ℕ, List, [], ◌∷◌, string_bytes}
use Rattle.calculus.specs.Code.{byte_of, text}
use Rattle.calculus.specs.Kinds.{rights_number, unary_op_number, binary_op_number}
use Rattle.calculus.specs.Tree.{Label, bundle, unary, send, method}
use Rattle.code_faults.specs.Texts.{HasForm}
use Rattle.code_faults.specs.declared.sort.TextKind.TheVariants as kind
use Rattle.code_parts.specs.declared.heads.Single.{Single}
use Rattle.code_parts.specs.declared.heads.Single.TheVariants as single
use Rattle.code_parts.specs.declared.heads.Listed.{Listed}
use Rattle.code_parts.specs.declared.heads.Listed.TheVariants as listed
use Rattle.code_parts.specs.declared.heads.Head.{Head}
use Rattle.code_parts.specs.declared.heads.Head.TheVariants as head

-- the code up to the process of a form of one
abbrev pub single_code : Single → List ℕ
single_code (single.Bundle r) = 0x34 ∷ rights_number r ∷ []
single_code (single.Unary o) = 0x40 ∷ unary_op_number o ∷ []

-- such a form
abbrev pub single_label : Single → Label
single_label (single.Bundle r) = bundle r
single_label (single.Unary o) = unary o

-- the code up to the first process of a form of one and a list of them
abbrev pub listed_code : Listed → List ℕ
listed_code (listed.Send p) = 0x30 ∷ byte_of p ∷ []
listed_code (listed.Method n) = 0x42 ∷ text (string_bytes n)

-- such a form
abbrev pub listed_label : Listed → Label
listed_label (listed.Send p) = send p
listed_label (listed.Method n) = method (string_bytes n)

-- the name of a method is a word
abbrev pub IsNamed : Listed → Type 0
IsNamed (listed.Send p) = Unit {0}
IsNamed (listed.Method n) = HasForm kind.Word (string_bytes n)

-- the code up to the first process
abbrev pub head_code : Head → List ℕ
head_code (head.Single h) = single_code h
head_code (head.Listed h) = listed_code h
head_code (head.Binary o) = 0x41 ∷ binary_op_number o ∷ []

-- its name, if it has one, is a word
abbrev pub HasName : Head → Type 0
HasName (head.Single h) = Unit {0}
HasName (head.Listed h) = IsNamed h
HasName (head.Binary o) = Unit {0}
