-- Lengths of codes, counted form by form.
use Rattle.std.specs.Prelude.{ℕ, ◌+◌, ◌-◌, ◌^◌, min, length}
use Rattle.calculus.specs.Tree.{Label, par, row, bool, int, str, uri, bytes, fresh, var, name_var, list, tuple, set, dict, pair, send, receive, bind, new, match, case, bundle, unary, binary, method, pattern, rest, any, some_process, some_name, simple, same, both, either, not_this, list_pattern, set_pattern, map_pattern, Tree, node, Trees, none, also}

-- a number, or the greatest u64 where the number is greater
abbrev pub in_u64 : ℕ → ℕ
in_u64 n = min n (2 ^ 64 - 1)

-- how many bytes stand before the codes of a form's constituents
abbrev pub head_size : Label → ℕ
head_size par = 4
head_size row = 4
head_size (bool x) = 2
head_size (int x) = 9
head_size (str x) = 5 + length x
head_size (uri x) = 5 + length x
head_size (bytes x) = 5 + length x
head_size (fresh x) = 1 + length x
head_size (var x) = 5
head_size (name_var x) = 5
head_size list = 5
head_size tuple = 5
head_size set = 5
head_size dict = 5
head_size pair = 0
head_size (send x) = 2
head_size (receive x) = 2
head_size bind = 0
head_size (new x) = 5 + length x
head_size match = 1
head_size case = 0
head_size (bundle x) = 2
head_size (unary x) = 2
head_size (binary x) = 2
head_size (method x) = 5 + length x
head_size pattern = 4
head_size (rest x) = 1
head_size any = 1
head_size some_process = 1
head_size some_name = 1
head_size (simple x) = 2
head_size same = 1
head_size both = 1
head_size either = 1
head_size not_this = 1
head_size list_pattern = 1
head_size set_pattern = 1
head_size map_pattern = 1

abbrev mutual
  -- how many bytes a code has
  pub size : Tree → ℕ
  size (node l ts) = head_size l + sizes ts

  -- how many bytes these codes have together
  pub sizes : Trees → ℕ
  sizes none = 0
  sizes (also t ts) = size t + sizes ts
