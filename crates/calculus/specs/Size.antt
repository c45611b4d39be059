-- The height of a process.
use Rattle.std.specs.Prelude.{ℕ, ◌+◌, max}
use Rattle.calculus.specs.Tree.{Label, par, row, bool, int, str, uri, bytes, fresh, var, name_var, pair, bind, case, pattern, rest, any, some_process, some_name, simple, Tree, node, Trees, none, also}

-- what a form adds to the greatest height of its constituents: leaves, parallel composition, binds, cases, pairs and rows add nothing
abbrev pub rise : Label → ℕ
rise par = 0
rise row = 0
rise (bool x) = 0
rise (int x) = 0
rise (str x) = 0
rise (uri x) = 0
rise (bytes x) = 0
rise (fresh x) = 0
rise (var x) = 0
rise (name_var x) = 0
rise pair = 0
rise bind = 0
rise case = 0
rise pattern = 0
rise (rest x) = 0
rise any = 0
rise some_process = 0
rise some_name = 0
rise (simple x) = 0
rise _ = 1

abbrev mutual
  -- the height of a process, a pattern or what stands in them
  pub height : Tree → ℕ
  height (node l ts) = rise l + heights ts

  -- the greatest of these heights, and 0 where there is none
  pub heights : Trees → ℕ
  heights none = 0
  heights (also t ts) = max (height t) (heights ts)
