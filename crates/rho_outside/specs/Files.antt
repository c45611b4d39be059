-- The files that a map of the program tells.
use Rattle.std.specs.Prelude.{ℕ, option_map, String, Vec}
use Rattle.std.specs.declared.alloc.Global.{Global}
use Rattle.std.specs.BTreeMap.{BTreeMap, get_by_text}
use Rattle.rho_outside.specs.FileMap.{FileMap}

-- the bytes that a map holds under the bytes of a name
abbrev pub files_of : BTreeMap (String Global) (Vec ℕ Global) → FileMap
files_of m = λ q. option_map (λ v. v.items) (get_by_text m q)
