-- Which fixed names there are.
use Rattle.std.specs.Prelude.{ℕ, List, Option, Some, None}
use Rattle.calculus.specs.Bare.{uri_origin}
use Rattle.calculus.specs.declared.plain.Origin.{Origin}
use Rattle.calculus.specs.declared.plain.Origin.TheVariants as origins
use Rattle.calculus.specs.Rows.{system_name}
use Rattle.calculus.specs.Tree.{Tree}
use Rattle.calculus.specs.Unfolding.{write_only}

-- the fixed name number k as a value, in a bundle that lets write alone
abbrev pub fixed_value : ℕ → Tree
fixed_value k = write_only (system_name k)

-- the fixed name that a `new` makes of this origin, if it makes no fresh one
abbrev pub origin_value : Origin → Option Tree
origin_value origins.Plain = None
origin_value origins.Stdout = Some (fixed_value 0)
origin_value origins.StdoutAck = Some (fixed_value 1)

-- the fixed name behind a URI, if there is one
abbrev pub uri_value : List ℕ → Option Tree
uri_value u = origin_value (uri_origin u)
